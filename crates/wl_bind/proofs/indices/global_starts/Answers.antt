use Rattle.std.proofs.Common.{◌≡◌, ◌∙◌, List, [], ◌∷◌, ℕ, length, ap, sym, if◌then◌else◌}
use Rattle.std.proofs.lemmas.List.{length-map}
use Rattle.wl_symbols.specs.ImportSlots.{ImportSlot}
use Rattle.wl_symbols.specs.Left.{HostImport, first_slot, first_imports}
use Rattle.wl_symbols.specs.declared.linker_symbol.WasmLinkerSymbol.{WasmLinkerSymbol}
use Rattle.wl_symbols.specs.declared.linker_symbol.WasmLinkerSymbol.TheVariants as made
use Rattle.wl_bind.specs.ExportedAddresses.{exported_addresses}
use Rattle.wl_bind.specs.ExportedData.{dynamic_data, forced_data}
use Rattle.wl_bind.specs.GlobalBinding.{host_globals}
use Rattle.wl_bind.specs.GlobalSpace.{GlobalOf, AddressOf, DataOf, host_global_part, made_global_part, address_part, got_mem_part, got_func_part, dynamic_part, forced_part, global_parts}
use Rattle.wl_bind.specs.Made.{is_made}
use Rattle.wl_bind.specs.Parts.{lengths_of}
use Rattle.wl_bind.specs.Scan.{Scanned, got_mem, got_func, got_mem_entry, got_func_entry}
use Rattle.wl_bind.specs.Shared.{Shared}
use Rattle.wl_bind.specs.declared.binding.GlobalTarget.TheVariants as global
use Rattle.wl_bind.specs.declared.exported.DataSymbol.{DataSymbol}
use Rattle.wl_bind.proofs.IndexLaws.{length_if, lengths_mapped, starts_ok, starts_err}
use Rattle.wl_bind.proofs.indices.global_starts.Goals as goal
use Rattle.std.proofs.lemmas.List.FromFn.{length-map-range_with_len}

-- how long the parts are, as they were counted
lengths : (c : goal.After-new) → List ℕ
lengths c =
    length c.globals.result.now
    ∷ c.count_made.result
    ∷ c.count_made-2.result
    ∷ c.count_made-3.result
    ∷ c.count_made-4.result
    ∷ c.count_made-5.result
    ∷ c.count_made-6.result
    ∷ length c.as_slice.result.now
    ∷ c.len.result
    ∷ c.len-2.result
    ∷ length c.as_slice-2.result.now
    ∷ length c.as_slice-3.result.now ∷ []

-- so long they are
lengths_are : (c : goal.After-new) → lengths c ≡ lengths_of (global_parts c.args.input.now)
unfolding lengths
lengths_are c =
    let input = c.args.input.now in
    let e0 : length c.globals.result.now ≡ length (host_global_part input) =
    ap (λ (hs : List HostImport). length hs) (c.globals.ensures ∙ ap (λ (s : Shared). s.globals) c.requires.shared)
    ∙ lengths_mapped first_slot (λ (t : ImportSlot). GlobalOf (global.Host t.object t.number)) (first_imports (host_globals input)) in
    let counted : (m : WasmLinkerSymbol) (n : ℕ) → n ≡ (if is_made input m then 1 else 0) → n ≡ length (made_global_part input m) =
    λ m n is. is ∙ sym (length_if (is_made input m) (GlobalOf (global.Made m))) in
    let e1 = counted made.MemoryBase c.count_made.result c.count_made.ensures in
    let e2 = counted made.TableBase c.count_made-2.result c.count_made-2.ensures in
    let e3 = counted made.StackPointer c.count_made-3.result c.count_made-3.ensures in
    let e4 = counted made.TlsBase c.count_made-4.result c.count_made-4.ensures in
    let e5 = counted made.TlsSize c.count_made-5.result c.count_made-5.ensures in
    let e6 = counted made.TlsAlign c.count_made-6.result c.count_made-6.ensures in
    let e7 : length c.as_slice.result.now ≡ length (address_part input) =
    ap (λ (ms : List WasmLinkerSymbol). length ms) (c.as_slice.ensures.keys ∙ c.requires.exported.addresses)
    ∙ sym (length-map (exported_addresses input.link.args) AddressOf) in
    let e8 : c.len.result ≡ length (got_mem_part input) =
    (c.len.ensures ∙ ap (λ (s : Scanned). length s.got_mem) (c.scan.view_is ∙ c.requires.scan))
    ∙ length-map (got_mem input) (got_mem_entry input)
    ∙ sym (length-map-range_with_len (λ k. GlobalOf (global.GotMem k)) 0 (length (got_mem input))) in
    let e9 : c.len-2.result ≡ length (got_func_part input) =
    (c.len-2.ensures ∙ ap (λ (s : Scanned). length s.got_func) (c.scan.view_is ∙ c.requires.scan))
    ∙ length-map (got_func input) (got_func_entry input)
    ∙ sym (length-map-range_with_len (λ k. GlobalOf (global.GotFunc k)) 0 (length (got_func input))) in
    let e10 : length c.as_slice-2.result.now ≡ length (dynamic_part input) =
    ap (λ (ds : List DataSymbol). length ds) (c.as_slice-2.ensures ∙ c.requires.exported.dynamic)
    ∙ sym (length-map (dynamic_data input) DataOf) in
    let e11 : length c.as_slice-3.result.now ≡ length (forced_part input) =
    ap (λ (ds : List DataSymbol). length ds) (c.as_slice-3.ensures.keys ∙ c.requires.exported.forced)
    ∙ sym (length-map (forced_data input) DataOf) in
    λ i. e0 i ∷ e1 i ∷ e2 i ∷ e3 i ∷ e4 i ∷ e5 i ∷ e6 i ∷ e7 i ∷ e8 i ∷ e9 i ∷ e10 i ∷ e11 i ∷ []

pub returns-clause-ok : goal.returns-clause-ok
unfolding lengths
returns-clause-ok c =
    starts_ok c.new.result (global_parts c.args.input.now) (lengths c) (lengths_are c)
    c.new.ensures.starts c.new.ensures.end c.new.ensures.room

pub returns-clause-err : goal.returns-clause-err
unfolding lengths
returns-clause-err c =
    starts_err c.new.result (global_parts c.args.input.now) (lengths c) (lengths_are c) c.new.ensures.err

-- No entry stands twice in the function space, in the global space, or in the types of the output.
use Rattle.std.proofs.Common.{◌≡◌, ◌∙◌, ℕ, suc, ◌+◌, ◌-◌, ◌≤◌, ◌&&◌, Bool, true, false, not, List, [], ◌∷◌, ◌++◌, length, refl, sym, ap, subst, arith, inl, inr, Some, slice_get, filter, filter_map, map, if◌then◌else◌}
use Rattle.std.proofs.lemmas.Bool.{not-true}
use Rattle.std.specs.List.{range_with_len}
use Rattle.std.specs.Option.{option_map_or, is_none}
use Rattle.std.proofs.lemmas.List.{map-append}
use Rattle.wl_module.specs.Imports.{Imported}
use Rattle.wl_linking.specs.Object.{Object}
use Rattle.wl_custom.specs.Symbols.{Symbol as LinkedSymbol}
use Rattle.wl_custom.specs.declared.symbols.WasmSymbolKind.{WasmSymbolKind}
use Rattle.wl_custom.specs.declared.symbols.WasmSymbolKind.TheVariants.{Func, Global as GlobalKind}
use Rattle.wl_symbols.specs.ImportSlots.{ImportSlot, numbered_slots, slot_imports, object_slots}
use Rattle.wl_symbols.specs.Left.{same_field, same_import, is_stub, stub_slots}
use Rattle.wl_symbols.specs.SlotTargets.{slot_target}
use Rattle.wl_symbols.specs.declared.units.WasmGcUnit.TheVariants.{DefinedFunction, DefinedGlobal}
use Rattle.wl_symbols.specs.Entries.{symbol_in}
use Rattle.wl_symbols.specs.declared.linker_symbol.WasmLinkerSymbol.{WasmLinkerSymbol}
use Rattle.wl_symbols.specs.declared.linker_symbol.WasmLinkerSymbol.TheVariants as made
use Rattle.wl_module.specs.SameType.{types_equiv}
use Rattle.wl_module.specs.Types.{FunctionType, same_type}
use Rattle.wl_types.specs.Types.{output_list}
use Rattle.wl_symbols.specs.Input.{Input, keeps}
use Rattle.wl_symbols.specs.KeptSlots.{slots_from, is_kept_slot, kept_slots, left_slots}
use Rattle.wl_bind.specs.FunctionBinding.{left_functions, link_stubs, host_functions}
use Rattle.wl_bind.specs.GlobalBinding.{left_globals, by_got, host_globals}
use Rattle.wl_bind.specs.Scan.{got_mem, got_func}
use Rattle.wl_bind.specs.Made.{is_made, has_init_memory}
use Rattle.wl_bind.specs.ExportedAddresses.{data_named, exported_addresses}
use Rattle.wl_bind.specs.ExportedData.{same_data, is_dynamic_data, dynamic_from, dynamic_in, dynamic_data, is_dynamic, forced_by, forced_data}
use Rattle.wl_bind.specs.FunctionSpace.{FunctionEntry, FunctionOf, InitMemory, kept_functions, object_functions, function_parts, function_space}
use Rattle.wl_bind.specs.GlobalSpace.{GlobalEntry, GlobalOf, AddressOf, DataOf, address_part, got_mem_part, got_func_part, dynamic_part, forced_part, kept_globals, object_globals, global_parts, global_space}
use Rattle.wl_bind.specs.OutputTypes.{live_types, made_types, output_types}
use Rattle.wl_bind.specs.Parts.{joined, by_object, StandOnce}
use Rattle.wl_bind.specs.Sameness.{same_made}
use Rattle.wl_bind.specs.declared.binding.FunctionTarget.TheVariants as function
use Rattle.wl_bind.specs.declared.binding.GlobalTarget.TheVariants as global
use Rattle.wl_bind.specs.declared.exported.DataSymbol.{DataSymbol}
use Rattle.wl_lists.proofs.Firsts.{in_firsts, distinct-firsts, distinct-self}
use Rattle.wl_lists.proofs.In.{IsIn, in_split, in_map}
use Rattle.wl_lists.proofs.Once.{Distinct, once_from, distinct-append, distinct-filter, distinct-map_filter, distinct-map, distinct_if, distinct-range}
use Rattle.wl_lists.proofs.Rows.{given_by}
use Rattle.wl_bind.proofs.OnceParts.{passes, distinct-by_object, IsPart, AreParts, distinct-joined, part_of, part_if, part_by_object, joined_end}
use Rattle.wl_bind.proofs.SameLaws.{made_self, pairs_self}

-- ---- slots by their places

abbrev place_of : ImportSlot → ℕ × ℕ
place_of t = (t.object, t.number)

numbered_least : (kind : WasmSymbolKind) (i n : ℕ) (symbols : List LinkedSymbol) (imports : List Imported) (z : ℕ × ℕ)
    → IsIn {X = ℕ × ℕ} (map place_of (numbered_slots i kind symbols n imports)) z → (z.0 ≡ i) × (n ≤ z.1)
numbered_least kind i n symbols [] z h = absurd h
numbered_least kind i n symbols (x ∷ imports) z h = elim h [
  | inl e ↦ (ap (λ (p : ℕ × ℕ). p.0) (sym e), let m : n ≡ z.1 = ap (λ (p : ℕ × ℕ). p.1) e in omega (arith, m))
  | inr r ↦ (let m = numbered_least kind i (n + 1) symbols imports z r in (m.0, let l : n + 1 ≤ z.1 = m.1 in omega (arith, l)))
]

distinct-numbered : (kind : WasmSymbolKind) (i n : ℕ) (symbols : List LinkedSymbol) (imports : List Imported)
    → Distinct {X = ℕ × ℕ} (map place_of (numbered_slots i kind symbols n imports))
distinct-numbered kind i n symbols [] = tt
distinct-numbered kind i n symbols (x ∷ imports) = (
  λ h. let m = numbered_least kind i (n + 1) symbols imports (i, n) h in
      let l : n + 1 ≤ n = m.1 in absurd (omega (arith, l)),
  distinct-numbered kind i (n + 1) symbols imports,
)

places_by_object : (kind : WasmSymbolKind) (i : ℕ) (objects : List Object)
    → map place_of (slots_from kind i objects) ≡ by_object (λ j o. map place_of (object_slots j kind o)) i objects
places_by_object kind i [] = refl
places_by_object kind i (o ∷ objects) =
    map-append place_of (object_slots i kind o) (slots_from kind (i + 1) objects)
    ∙ ap (λ (ps : List (ℕ × ℕ)). map place_of (object_slots i kind o) ++ ps) (places_by_object kind (i + 1) objects)

distinct-slots : (kind : WasmSymbolKind) (objects : List Object) → Distinct {X = ℕ × ℕ} (map place_of (slots_from kind 0 objects))
distinct-slots kind objects =
    subst (λ (ps : List (ℕ × ℕ)). Distinct {X = ℕ × ℕ} ps) (sym (places_by_object kind 0 objects))
    (distinct-by_object {X = ℕ × ℕ} (λ p. p.0) (λ j o. map place_of (object_slots j kind o))
    (λ i o z h. (numbered_least kind i 0 o.symbols (slot_imports kind o.imports) z h).0)
    (λ i o. distinct-numbered kind i 0 o.symbols (slot_imports kind o.imports)) 0 objects)

distinct-left : (input : Input) (kind : WasmSymbolKind) → Distinct {X = ℕ × ℕ} (map place_of (left_slots input kind))
distinct-left input kind =
    distinct-map_filter place_of (λ (t : ImportSlot). is_none (slot_target input.link t)) (kept_slots input kind)
    (distinct-map_filter place_of (is_kept_slot input) (slots_from kind 0 input.link.objects)
    (distinct-slots kind input.link.objects))

map-place : {Y : Type 0} (f : ℕ × ℕ → Y) (slots : List ImportSlot)
    → map (λ (t : ImportSlot). f (place_of t)) slots ≡ map f (map place_of slots)
map-place f [] = refl
map-place {Y} f (t ∷ slots) = ap (λ (ys : List Y). f (place_of t) ∷ ys) (map-place f slots)

-- a part of entries that are made from the places of slots
slots_part : {Y : Type 0} (sort : Y → ℕ) (n : ℕ) (f : ℕ × ℕ → Y) → ((a b : ℕ × ℕ) → f a ≡ f b → a ≡ b)
    → ((a : ℕ × ℕ) → sort (f a) ≡ n) → (slots : List ImportSlot) → Distinct {X = ℕ × ℕ} (map place_of slots)
    → IsPart sort n (map (λ (t : ImportSlot). f (place_of t)) slots)
slots_part {Y} sort n f same all slots d =
    subst (λ (ys : List Y). IsPart sort n ys) (sym (map-place f slots)) (part_of sort n f same all (map place_of slots) d)

-- ---- the function space, part by part

abbrev function_sort : FunctionEntry → ℕ
function_sort (FunctionOf (function.Host object slot)) = 0
function_sort (FunctionOf (function.Made made.CallCtors)) = 1
function_sort (FunctionOf (function.Made _)) = 2
function_sort InitMemory = 3
function_sort (FunctionOf (function.Stub object slot)) = 4
function_sort (FunctionOf (function.Defined object number)) = 5

abbrev function_object : FunctionEntry → ℕ
function_object (FunctionOf (function.Defined object number)) = object
function_object _ = 0

same_host : (a b : ℕ × ℕ) → FunctionOf (function.Host a.0 a.1) ≡ FunctionOf (function.Host b.0 b.1) → a ≡ b
same_host (i, k) (j, l) e = cc

same_stub : (a b : ℕ × ℕ) → FunctionOf (function.Stub a.0 a.1) ≡ FunctionOf (function.Stub b.0 b.1) → a ≡ b
same_stub (i, k) (j, l) e = cc

function_parts_are : (input : Input) → AreParts function_sort 0 (function_parts input ++ object_functions input ∷ [])
function_parts_are input =
    let stub : ImportSlot → Bool = is_stub input.link.objects (left_functions input) in
    let own = part_by_object function_sort 5 function_object (λ i k. FunctionOf (function.Defined i k)) (kept_functions input)
    (λ i a b e. cc) (λ i k. refl) (λ i k. refl)
    (λ i o. distinct-filter (λ k. keeps input i (DefinedFunction k)) (range_with_len 0 (length o.functions)) (distinct-range 0 (length o.functions)))
    input.link.objects in
    let stubs = slots_part function_sort 4 (λ p. FunctionOf (function.Stub p.0 p.1)) same_stub (λ a. refl) (link_stubs input)
    (distinct-firsts place_of same_field (stub_slots input.link.objects (left_functions input))
    (distinct-map_filter place_of stub (left_functions input) (distinct-left input Func))) in
    let memory = part_if function_sort 3 (has_init_memory input) InitMemory refl in
    let tls = part_if function_sort 2 (is_made input made.InitTls) (FunctionOf (function.Made made.InitTls)) refl in
    let ctors = part_if function_sort 1 (is_made input made.CallCtors) (FunctionOf (function.Made made.CallCtors)) refl in
    let hosts = slots_part function_sort 0 (λ p. FunctionOf (function.Host p.0 p.1)) same_host (λ a. refl) _
    (distinct-firsts place_of same_import (host_functions input)
    (distinct-map_filter place_of (λ (t : ImportSlot). not (stub t)) (left_functions input) (distinct-left input Func))) in
    (hosts, (ctors, (tls, (memory, (stubs, (own, tt))))))

-- no entry stands twice in the function space
pub functions_once : (input : Input) → StandOnce (function_space input)
functions_once input =
    subst (λ (xs : List FunctionEntry). StandOnce xs) (joined_end (function_parts input) (object_functions input))
    (once_from (joined (function_parts input ++ object_functions input ∷ []))
    (distinct-joined function_sort 0 (function_parts input ++ object_functions input ∷ []) (function_parts_are input)))

-- ---- exported data

record IsDynamicAt (input : Input) (object number : ℕ) (symbols : List LinkedSymbol) (d : DataSymbol) : Type 0 where
  pub object_is : d.object ≡ object
  pub from : number ≤ d.symbol
  pub symbol : LinkedSymbol
  pub at : slice_get symbols (d.symbol - number) ≡ Some symbol
  pub exported : is_dynamic_data input d.object d.symbol symbol ≡ true

dynamic_here : (input : Input) (object number : ℕ) (s : LinkedSymbol) (d : DataSymbol) (b : Bool)
    → is_dynamic_data input object number s ≡ b
    → IsIn (if b then record { object = object; symbol = number } ∷ [] else []) d
    → (record { object = object; symbol = number } ≡ d) × (is_dynamic_data input object number s ≡ true)
dynamic_here input object number s d true is h = elim h [ inl e ↦ (e, is) | inr r ↦ absurd r ]
dynamic_here input object number s d false is h = absurd h

dynamic_at : (input : Input) (object number : ℕ) (symbols : List LinkedSymbol) (d : DataSymbol)
    → IsIn (dynamic_from input object number symbols) d → IsDynamicAt input object number symbols d
dynamic_at input object number [] d h = absurd h
dynamic_at input object number (s ∷ symbols) d h =
    elim (in_split (if is_dynamic_data input object number s then record { object = object; symbol = number } ∷ [] else [])
    (dynamic_from input object (number + 1) symbols) d h) [
      | inl l ↦ (let here = dynamic_here input object number s d (is_dynamic_data input object number s) refl l in
          let same : object ≡ d.object = ap (λ (x : DataSymbol). x.object) here.0 in
          let number_is : number ≡ d.symbol = ap (λ (x : DataSymbol). x.symbol) here.0 in
          let none : 0 ≡ d.symbol - number = omega (arith, number_is) in
          record {
            object_is = sym same;
            from = omega (arith, number_is);
            symbol = s;
            at = ap (slice_get (s ∷ symbols)) (sym none);
            exported = subst (λ (x : DataSymbol). is_dynamic_data input x.object x.symbol s ≡ true) here.0 here.1;
          })
      | inr r ↦ (let later = dynamic_at input object (number + 1) symbols d r in
          let least : number + 1 ≤ d.symbol = later.from in
          let next : suc (d.symbol - (number + 1)) ≡ d.symbol - number = omega (arith, least) in
          record {
            object_is = later.object_is;
            from = omega (arith, least);
            symbol = later.symbol;
            at = ap (slice_get (s ∷ symbols)) (sym next) ∙ later.at;
            exported = later.exported;
          })
    ]

distinct-dynamic_from : (input : Input) (object number : ℕ) (symbols : List LinkedSymbol)
    → Distinct (dynamic_from input object number symbols)
distinct-dynamic_from input object number [] = tt
distinct-dynamic_from input object number (s ∷ symbols) =
    distinct-append (if is_dynamic_data input object number s then record { object = object; symbol = number } ∷ [] else [])
    (dynamic_from input object (number + 1) symbols)
    (distinct_if (is_dynamic_data input object number s) (record { object = object; symbol = number } ∷ []) (λ h. h, tt))
    (distinct-dynamic_from input object (number + 1) symbols)
    (λ d l r. let here = dynamic_here input object number s d (is_dynamic_data input object number s) refl l in
    let number_is : number ≡ d.symbol = ap (λ (x : DataSymbol). x.symbol) here.0 in
    let least : number + 1 ≤ d.symbol = (dynamic_at input object (number + 1) symbols d r).from in
    absurd (omega (arith, number_is, least)))

distinct-dynamic : (input : Input) → Distinct (dynamic_data input)
distinct-dynamic input =
    distinct_if input.link.args.export_dynamic (by_object (dynamic_in input) 0 input.link.objects)
    (distinct-by_object (λ (d : DataSymbol). d.object) (dynamic_in input)
    (λ i o d h. (dynamic_at input i 0 o.symbols d h).object_is)
    (λ i o. distinct-dynamic_from input i 0 o.symbols) 0 input.link.objects)

dynamic_if : (input : Input) (d : DataSymbol) (b : Bool)
    → IsIn (if b then by_object (dynamic_in input) 0 input.link.objects else []) d
    → (b && option_map_or (is_dynamic_data input d.object d.symbol) (symbol_in input.link.objects d.object d.symbol) false) ≡ true
dynamic_if input d false h = absurd h
dynamic_if input d true h =
    let g = given_by (dynamic_in input) 0 input.link.objects d h in
    let at = dynamic_at input (0 + g.place) 0 (g.object).symbols d g.there in
    let object_is : g.place ≡ d.object = let e = at.object_is in omega (arith, e) in
    let number : d.symbol - 0 ≡ d.symbol = omega arith in
    let here : slice_get input.link.objects d.object ≡ Some g.object = subst (λ (n : ℕ). slice_get input.link.objects n ≡ Some g.object) object_is g.at in
    let there : symbol_in input.link.objects d.object d.symbol ≡ Some at.symbol =
    rw here (subst (λ (n : ℕ). slice_get (g.object).symbols n ≡ Some at.symbol) number at.at) in
    rw there at.exported

forced_told : (input : Input) (d : DataSymbol) → IsIn (forced_data input) d → is_dynamic input d ≡ false
forced_told input d h =
    not-true (is_dynamic input d)
    (passes (λ (x : DataSymbol). not (is_dynamic input x)) (filter_map (forced_by input) input.link.args.export_symbols) d
    (in_firsts same_data (filter (λ (x : DataSymbol). not (is_dynamic input x)) (filter_map (forced_by input) input.link.args.export_symbols)) d h))

-- ---- the global space, part by part

abbrev made_sort : WasmLinkerSymbol → ℕ
made_sort made.MemoryBase = 1
made_sort made.TableBase = 2
made_sort made.StackPointer = 3
made_sort made.TlsBase = 4
made_sort made.TlsSize = 5
made_sort _ = 6

abbrev global_sort : Input → GlobalEntry → ℕ
global_sort input (GlobalOf (global.Host object slot)) = 0
global_sort input (GlobalOf (global.Made m)) = made_sort m
global_sort input (AddressOf m) = 7
global_sort input (GlobalOf (global.GotMem place)) = 8
global_sort input (GlobalOf (global.GotFunc place)) = 9
global_sort input (DataOf d) = if is_dynamic input d then 10 else 11
global_sort input (GlobalOf (global.Defined object number)) = 12

abbrev global_object : GlobalEntry → ℕ
global_object (GlobalOf (global.Defined object number)) = object
global_object _ = 0

same_global_host : (a b : ℕ × ℕ) → GlobalOf (global.Host a.0 a.1) ≡ GlobalOf (global.Host b.0 b.1) → a ≡ b
same_global_host (i, k) (j, l) e = cc

data_part : (input : Input) (n : ℕ) (ds : List DataSymbol) → Distinct ds
    → ((d : DataSymbol) → IsIn ds d → global_sort input (DataOf d) ≡ n) → IsPart (global_sort input) n (map DataOf ds)
data_part input n ds d sorts = record {
  distinct = distinct-map (λ (x : DataSymbol). DataOf x) (λ a b e. cc) ds d;
  sorts = λ z h. let c = in_map (λ (x : DataSymbol). DataOf x) ds z h in
      subst (λ (y : GlobalEntry). global_sort input y ≡ n) c.to (sorts c.from c.there);
}

made_part : (input : Input) (n : ℕ) (m : WasmLinkerSymbol) → made_sort m ≡ n
    → IsPart (global_sort input) n (if is_made input m then GlobalOf (global.Made m) ∷ [] else [])
made_part input n m e = part_if (global_sort input) n (is_made input m) (GlobalOf (global.Made m)) e

global_parts_are : (input : Input) → AreParts (global_sort input) 0 (global_parts input ++ object_globals input ∷ [])
global_parts_are input =
    let sort : GlobalEntry → ℕ = global_sort input in
    let own = part_by_object sort 12 global_object (λ i k. GlobalOf (global.Defined i k)) (kept_globals input)
    (λ i a b e. cc) (λ i k. refl) (λ i k. refl)
    (λ i o. distinct-filter (λ k. keeps input i (DefinedGlobal k)) (range_with_len 0 (length o.globals)) (distinct-range 0 (length o.globals)))
    input.link.objects in
    let forced = data_part input 11 (forced_data input)
    (distinct-self same_data (λ d. pairs_self d.object d.symbol)
    (filter (λ (x : DataSymbol). not (is_dynamic input x)) (filter_map (forced_by input) input.link.args.export_symbols)))
    (λ d h. rw (forced_told input d h) refl) in
    let dynamic = data_part input 10 (dynamic_data input) (distinct-dynamic input) (λ d h. rw (dynamic_if input d input.link.args.export_dynamic h) refl) in
    let func = part_of sort 9 (λ k. GlobalOf (global.GotFunc k)) (λ a b e. cc) (λ k. refl)
    (range_with_len 0 (length (got_func input))) (distinct-range 0 (length (got_func input))) in
    let mem = part_of sort 8 (λ k. GlobalOf (global.GotMem k)) (λ a b e. cc) (λ k. refl)
    (range_with_len 0 (length (got_mem input))) (distinct-range 0 (length (got_mem input))) in
    let addresses = part_of sort 7 (λ m. AddressOf m) (λ a b e. cc) (λ m. refl) (exported_addresses input.link.args)
    (distinct-self same_made made_self (filter_map data_named input.link.args.export_symbols)) in
    let behind_made : AreParts sort 7 (address_part input ∷ got_mem_part input ∷ got_func_part input ∷ dynamic_part input ∷ forced_part input
    ∷ object_globals input ∷ []) = (addresses, (mem, (func, (dynamic, (forced, (own, tt)))))) in
    let hosts = slots_part sort 0 (λ p. GlobalOf (global.Host p.0 p.1)) same_global_host (λ a. refl) _
    (distinct-firsts place_of same_import (host_globals input)
    (distinct-map_filter place_of (λ (t : ImportSlot). is_none (by_got input t)) (left_globals input) (distinct-left input GlobalKind))) in
    let memory_base = made_part input 1 made.MemoryBase refl in
    let table_base = made_part input 2 made.TableBase refl in
    let stack_pointer = made_part input 3 made.StackPointer refl in
    let tls_base = made_part input 4 made.TlsBase refl in
    let tls_size = made_part input 5 made.TlsSize refl in
    let tls_align = made_part input 6 made.TlsAlign refl in
    (hosts, (memory_base, (table_base, (stack_pointer, (tls_base, (tls_size, (tls_align, behind_made)))))))

-- no entry stands twice in the global space
pub globals_once : (input : Input) → StandOnce (global_space input)
globals_once input =
    subst (λ (xs : List GlobalEntry). StandOnce xs) (joined_end (global_parts input) (object_globals input))
    (once_from (joined (global_parts input ++ object_globals input ∷ []))
    (distinct-joined (global_sort input) 0 (global_parts input ++ object_globals input ∷ []) (global_parts_are input)))

-- ---- types

-- no type stands at two places of the types of an output
abbrev pub TypesStandOnce : Type 0
TypesStandOnce = (types : List FunctionType) (i k : ℕ) (a b : FunctionType)
    → slice_get (output_list types) i ≡ Some a → slice_get (output_list types) k ≡ Some b
    → same_type a b ≡ true → i ≡ k

-- no type stands twice among the types of the output
pub output_types_once : TypesStandOnce → (input : Input) → StandOnce (output_types input)
output_types_once once input i k ty at_i at_k =
    once (by_object (live_types input) 0 input.link.objects ++ made_types input) i k ty ty at_i at_k
    (types_equiv.refl ty)

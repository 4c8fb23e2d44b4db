-- What global slots are resolved to has its entry.
use Rattle.std.proofs.Common.{◌≡◌, ◌∙◌, ◌<◌, ℕ, Bool, true, false, codes, List, [], ◌∷◌, length, position, refl, sym, ap, subst, arith, inl, inr, Option, Some, None, unwrap_or, slice_get, Contains, if◌then◌else◌}
use Rattle.std.specs.Bool.{⊤}
use Rattle.std.proofs.lemmas.List.FromFn.{length-map-range_with_len}
use Rattle.std.specs.Option.{option_map, is_none}
use Rattle.wl_custom.specs.declared.symbols.WasmSymbolKind.{WasmSymbolKind}
use Rattle.wl_custom.specs.declared.symbols.WasmSymbolKind.TheVariants.{Global}
use Rattle.wl_symbols.specs.LinkerNames.{kind_of, matches_kind}
use Rattle.wl_symbols.specs.declared.linker_symbol.WasmLinkerSymbol.{WasmLinkerSymbol}
use Rattle.wl_symbols.specs.declared.linker_symbol.WasmLinkerSymbol.TheVariants.{MemoryBase, TableBase, StackPointer, TlsBase, TlsSize, TlsAlign}
use Rattle.wl_symbols.specs.Live.{IsLiveOf}
use Rattle.wl_symbols.specs.declared.units.WasmGcUnit.TheVariants.{DefinedGlobal, GlobalImport}
use Rattle.wl_symbols.specs.ImportSlots.{ImportSlot, import_slots}
use Rattle.wl_symbols.specs.SlotTargets.{slot_target}
use Rattle.wl_symbols.specs.declared.targets.SlotTarget.{SlotTarget}
use Rattle.wl_symbols.specs.declared.targets.SlotTarget.TheVariants as slot
use Rattle.wl_bind.specs.GlobalBinding.{left_globals, host_globals, is_from, is_called, by_got, by_host, binds_global, named_global}
use Rattle.wl_bind.specs.GlobalSpace.{GlobalEntry, GlobalOf, made_global_part, address_part, got_mem_part, got_func_part, dynamic_part, forced_part, object_globals, global_parts, global_space}
use Rattle.wl_symbols.specs.declared.entry.Definition.{Definition}
use Rattle.wl_bind.specs.Scan.{got_mem, got_func}
use Rattle.wl_symbols.specs.Input.{Input}
use Rattle.wl_symbols.specs.KeptSlots.{is_kept_slot, kept_slots, slots_from}
use Rattle.wl_bind.specs.MadeIndices.{StandsAt}
use Rattle.wl_bind.specs.steps.Numbering.{IsNumbering}
use Rattle.wl_bind.specs.steps.Numbered.{resolution_of}
use Rattle.wl_bind.specs.Resolutions.{as_global, global_resolution}
use Rattle.wl_bind.specs.Shared.{place_at, Shared}
use Rattle.wl_bind.specs.Undefined.{is_host_slot, is_host_global}
use Rattle.wl_bind.specs.declared.binding.FunctionTarget.{FunctionTarget}
use Rattle.wl_bind.specs.Parts.{HasEntry}
use Rattle.wl_bind.specs.declared.binding.GlobalTarget.{GlobalTarget}
use Rattle.wl_bind.specs.declared.binding.GlobalTarget.TheVariants as global
use Rattle.wl_bind.specs.declared.numbering.Numbering.{Numbering}
use Rattle.wl_bind.specs.declared.resolution.ImportResolution.{ImportResolution}
use Rattle.wl_bind.specs.declared.resolution.ImportResolution.TheVariants.{ResolvedGlobal, LinkerDefined}
use Rattle.wl_lists.proofs.Found.{cases_option}
use Rattle.wl_lists.proofs.In.{Contains-filter, at_is_in}
use Rattle.wl_bind.proofs.ClosedLaws.{is_global, global_units}
use Rattle.wl_bind.specs.steps.Laws.{LinkLaws}
use Rattle.wl_bind.proofs.GlobalLaws.{binds as binds_by}
use Rattle.wl_bind.proofs.ListLaws.{place_lt}
use Rattle.wl_bind.proofs.SlotIndexLaws.{Leads, binding_of, has_entry, host_leads, named_is_live, named_is_of_kind, own_leads}
use Rattle.wl_bind.proofs.MadeLaws.{bound_is_made_global}
use Rattle.wl_bind.proofs.NumberingLaws.{global_at}
use Rattle.wl_bind.proofs.RowLaws.{slot_is_one}

-- ---- what a slot is resolved to leads to its entry

made_leads : LinkLaws → (n : Numbering) (t : ImportSlot) (m : WasmLinkerSymbol)
    → Contains (kept_slots n.input.now Global) t
    → binds_global n.input.now t ≡ global.Made m → matches_kind Global m ≡ true
    → Leads n Global t (LinkerDefined m) (global_space n.input.now) (GlobalOf (global.Made m))
made_leads laws n t m kept bound of_kind =
    record {
      has = tt;
      stands = λ index made.
          subst (λ (kind : WasmSymbolKind). StandsAt n.input.now m kind index) (is_global (kind_of m) of_kind)
          (made (bound_is_made_global (binding_of laws) n.input.now t m kept bound));
    }

abbrev other_parts : Input → List (List GlobalEntry)
other_parts input =
    made_global_part input MemoryBase ∷ made_global_part input TableBase ∷ made_global_part input StackPointer
    ∷ made_global_part input TlsBase ∷ made_global_part input TlsSize ∷ made_global_part input TlsAlign
    ∷ address_part input ∷ got_mem_part input ∷ got_func_part input ∷ dynamic_part input ∷ forced_part input ∷ []

-- ---- global slots

pub named_binds : (input : Input) (t : ImportSlot) (named : SlotTarget) → slot_target input.link t ≡ Some named
    → binds_global input t ≡ named_global named
named_binds input t named is = binds_by input t (Some named) is

abbrev GlobalLeads : Numbering → ImportSlot → GlobalTarget → Type 0
GlobalLeads n t target =
    Leads n Global t (as_global n.input.now target) (global_space n.input.now) (GlobalOf target)

named_leads : LinkLaws → (n : Numbering) → IsNumbering n.input.now n
    → IsLiveOf n.input.now.link n.input.now.live → (object k : ℕ) (t : ImportSlot)
    → slice_get (import_slots n.input.now.link.objects object Global) k ≡ Some t → is_kept_slot n.input.now t ≡ true
    → Contains (kept_slots n.input.now Global) t → (named : SlotTarget) → slot_target n.input.now.link t ≡ Some named
    → GlobalLeads n t (named_global named)
named_leads laws n is live object k t here kept listed (slot.Defined i j) bound =
    own_leads n Global t i (DefinedGlobal j) n.global_firsts.items (global_space n.input.now) (GlobalOf (global.Defined i j))
    (λ m. ResolvedGlobal i m) is.globals_fit
    (named_is_live (binding_of laws).slots n.input.now live Global GlobalImport DefinedGlobal global_units object k (λ so. so) t i j here kept bound)
    (λ m at. global_at n.input.now n is live i j m at) (λ m room. room) (λ m index e. e)
named_leads laws n is live object k t here kept listed (slot.Made m) bound =
    made_leads laws n t m listed (named_binds n.input.now t (slot.Made m) bound)
    (named_is_of_kind laws n.input.now Global object k t m here bound)

-- ---- entries of the GOT lists

abbrev IsGot : ℕ → ℕ → GlobalTarget → Type 0
IsGot mems funcs (global.GotMem p) = p < mems
IsGot mems funcs (global.GotFunc p) = p < funcs
IsGot mems funcs _ = ⊥

got_by : (a b : Bool) (m f : Option ℕ) (mems funcs : ℕ) (g : GlobalTarget)
    → ((p : ℕ) → m ≡ Some p → p < mems) → ((p : ℕ) → f ≡ Some p → p < funcs)
    → (if a then option_map global.GotMem m else if b then option_map global.GotFunc f else None) ≡ Some g
    → IsGot mems funcs g
got_by true b (Some p) f mems funcs g in_mem in_func is =
    let e : global.GotMem p ≡ g = cc in subst (λ (x : GlobalTarget). IsGot mems funcs x) e (in_mem p refl)
got_by true b None f mems funcs g in_mem in_func is = absurd cc
got_by false true m (Some p) mems funcs g in_mem in_func is =
    let e : global.GotFunc p ≡ g = cc in subst (λ (x : GlobalTarget). IsGot mems funcs x) e (in_func p refl)
got_by false true m None mems funcs g in_mem in_func is = absurd cc
got_by false false m f mems funcs g in_mem in_func is = absurd cc

got_is : (input : Input) (t : ImportSlot) (g : GlobalTarget) → by_got input t ≡ Some g
    → IsGot (length (got_mem input)) (length (got_func input)) g
got_is input t g is =
    let mem : Definition → Bool = is_called input t.item.name in
    let func : (Definition × FunctionTarget) → Bool = λ (p : Definition × FunctionTarget). is_called input t.item.name p.0 in
    got_by (is_from (codes "GOT.mem") t) (is_from (codes "GOT.func") t) (position mem (got_mem input)) (position func (got_func input))
    (length (got_mem input)) (length (got_func input)) g
    (λ p at. place_lt mem (got_mem input) p at) (λ p at. place_lt func (got_func input) p at) is

-- each entry of the GOT lists has its global
pub has_mem : (n : Numbering) → IsNumbering n.input.now n → (p : ℕ) → p < length (got_mem n.input.now) → HasEntry n.indices.now.globals 8 p
has_mem n is p lt =
    let input : Input = n.input.now in
    let long : length (got_mem_part input) ≡ length (got_mem input) =
    length-map-range_with_len (λ k. GlobalOf (global.GotMem k)) 0 (length (got_mem input)) in
    has_entry (global_parts input) n.indices.now.globals 8 p (got_mem_part input) is.indices.globals refl (omega (arith, lt, long))

pub has_func : (n : Numbering) → IsNumbering n.input.now n → (p : ℕ) → p < length (got_func n.input.now) → HasEntry n.indices.now.globals 9 p
has_func n is p lt =
    let input : Input = n.input.now in
    let long : length (got_func_part input) ≡ length (got_func input) =
    length-map-range_with_len (λ k. GlobalOf (global.GotFunc k)) 0 (length (got_func input)) in
    has_entry (global_parts input) n.indices.now.globals 9 p (got_func_part input) is.indices.globals refl (omega (arith, lt, long))

got_leads : (n : Numbering) → IsNumbering n.input.now n → (t : ImportSlot) (g : GlobalTarget)
    → IsGot (length (got_mem n.input.now)) (length (got_func n.input.now)) g → GlobalLeads n t g
got_leads n is t (global.GotMem p) lt = record { has = has_mem n is p lt; stands = λ index e. e }
got_leads n is t (global.GotFunc p) lt = record { has = has_func n is p lt; stands = λ index e. e }
got_leads n is t _ lt = absurd lt

-- what names leave is bound to no definition
abbrev pub IsNoDefinition : GlobalTarget → Type 0
IsNoDefinition (global.Defined i j) = ⊥
IsNoDefinition _ = ⊤

no_got_definition : (mems funcs : ℕ) (g : GlobalTarget) → IsGot mems funcs g → IsNoDefinition g
no_got_definition mems funcs (global.Defined i j) none = absurd none
no_got_definition mems funcs _ got = tt

pub no_definition : (input : Input) (t : ImportSlot) → slot_target input.link t ≡ None → IsNoDefinition (binds_global input t)
no_definition input t none =
    let binds : binds_global input t ≡ unwrap_or (by_got input t) (by_host input t) = binds_by input t None none in
    elim (cases_option (by_got input t)) [
      | inr g ↦ subst (λ (x : GlobalTarget). IsNoDefinition x)
          (sym (binds ∙ ap (λ (o : Option GlobalTarget). unwrap_or o (by_host input t)) g.1))
          (no_got_definition (length (got_mem input)) (length (got_func input)) g.0 (got_is input t g.0 g.1))
      | inl no_got ↦ subst (λ (x : GlobalTarget). IsNoDefinition x)
          (sym (binds ∙ ap (λ (o : Option GlobalTarget). unwrap_or o (by_host input t)) no_got)) tt
    ]

left_leads : LinkLaws → (n : Numbering) → IsNumbering n.input.now n
    → (object k : ℕ) (t : ImportSlot)
    → slice_get (import_slots n.input.now.link.objects object Global) k ≡ Some t → is_kept_slot n.input.now t ≡ true
    → Contains (kept_slots n.input.now Global) t → slot_target n.input.now.link t ≡ None
    → GlobalLeads n t (binds_global n.input.now t)
left_leads laws n is object k t here kept listed none =
    let input : Input = n.input.now in
    let no_name : is_none (slot_target input.link t) ≡ true = rw none refl in
    let left : Contains (left_globals input) t = Contains-filter (λ (s : ImportSlot). is_none (slot_target input.link s)) (kept_slots input Global) t listed no_name in
    let binds : binds_global input t ≡ unwrap_or (by_got input t) (by_host input t) = binds_by input t None none in
    elim (cases_option (by_got input t)) [
      | inr g ↦
          (let target : binds_global input t ≡ g.0 = binds ∙ ap (λ (o : Option GlobalTarget). unwrap_or o (by_host input t)) g.1 in
          subst (λ (x : GlobalTarget). GlobalLeads n t x) (sym target) (got_leads n is t g.0 (got_is input t g.0 g.1)))
      | inl no_got ↦
          (let target : binds_global input t ≡ by_host input t = binds ∙ ap (λ (o : Option GlobalTarget). unwrap_or o (by_host input t)) no_got in
          let passed : is_none (by_got input t) ≡ true = rw no_got refl in
          let among : Contains (host_globals input) t = Contains-filter (λ (s : ImportSlot). is_none (by_got input s)) (left_globals input) t left passed in
          let bound_to_host : is_host_global (binds_global input t) ≡ true = ap is_host_global target in
          let host : is_host_slot input Global t ≡ true = rw (kept, bound_to_host) refl in
          subst (λ (x : GlobalTarget). GlobalLeads n t x) (sym target)
          (host_leads laws n Global object k t (host_globals input) (λ h. GlobalOf (global.Host h.object h.slot)) (other_parts input)
          (object_globals input) is.globals_fit (ap (λ (s : Shared). place_at s Global t.object t.number) is.shared) here among host))
    ]

pub global_leads : LinkLaws → (n : Numbering) → IsNumbering n.input.now n
    → IsLiveOf n.input.now.link n.input.now.live → (object k : ℕ) (t : ImportSlot)
    → slice_get (import_slots n.input.now.link.objects object Global) k ≡ Some t → is_kept_slot n.input.now t ≡ true
    → Leads n Global t (resolution_of n.input.now Global t) (global_space n.input.now) (GlobalOf (binds_global n.input.now t))
global_leads laws n is live object k t here kept =
    let input : Input = n.input.now in
    let listed : Contains (kept_slots input Global) t =
    Contains-filter (is_kept_slot input) (slots_from Global 0 input.link.objects) t
    (slot_is_one Global input.link.objects object t (at_is_in (import_slots input.link.objects object Global) k t here)) kept in
    let resolved : global_resolution input t ≡ as_global input (binds_global input t) = rw kept refl in
    subst (λ (r : ImportResolution). Leads n Global t r (global_space input) (GlobalOf (binds_global input t))) (sym resolved)
    (elim (cases_option (slot_target input.link t)) [
      | inl none ↦ left_leads laws n is object k t here kept listed none
      | inr named ↦ subst (λ (x : GlobalTarget). GlobalLeads n t x) (sym (named_binds input t named.0 named.1))
          (named_leads laws n is live object k t here kept listed named.0 named.1)
    ])

-- What a kept slot is bound to of the linker's exists.
use Rattle.std.proofs.Common.{◌≡◌, ◌∙◌, ℕ, Bool, true, false, List, refl, sym, ap, subst, inl, inr, Option, Some, None, MatchOption, Contains, codes, if◌then◌else◌}
use Rattle.std.specs.List.{position}
use Rattle.std.specs.Option.{option_map, unwrap_or}
use Rattle.std.proofs.lemmas.Bool.{cases_Bool, or_left, or_right, and_from}
use Rattle.wl_linking.specs.Object.{Object}
use Rattle.wl_custom.specs.Symbols.{Symbol as LinkedSymbol}
use Rattle.wl_custom.specs.declared.symbols.WasmSymbolKind.{WasmSymbolKind}
use Rattle.wl_custom.specs.declared.symbols.WasmSymbolKind.TheVariants.{Func, Global}
use Rattle.wl_symbols.specs.Entries.{symbol_in, is_private}
use Rattle.wl_symbols.specs.Link.{Link}
use Rattle.wl_symbols.specs.LinkerNames.{exists_under, matches_kind}
use Rattle.wl_symbols.specs.Names.{named, def, StandsFor, IsUnknown}
use Rattle.wl_symbols.specs.declared.entry.Definition.{Definition}
use Rattle.wl_symbols.specs.declared.entry.Definition.TheVariants as definition
use Rattle.wl_symbols.specs.declared.linker_symbol.WasmLinkerSymbol.{WasmLinkerSymbol}
use Rattle.wl_symbols.specs.declared.linker_symbol.WasmLinkerSymbol.TheVariants as made
use Rattle.wl_symbols.specs.ImportSlots.{ImportSlot}
use Rattle.wl_symbols.specs.Left.{same_import, first_like, first_imports}
use Rattle.wl_symbols.specs.SlotCases.{IsBoundTo}
use Rattle.wl_symbols.specs.SlotTargets.{slot_target}
use Rattle.wl_symbols.specs.declared.targets.SlotTarget.{SlotTarget}
use Rattle.wl_symbols.specs.declared.targets.SlotTarget.TheVariants as slot
use Rattle.wl_symbols.specs.Input.{Input}
use Rattle.wl_symbols.specs.KeptSlots.{slots_from, is_kept_slot, kept_slots}
use Rattle.wl_bind.specs.FunctionBinding.{named_function, binds_function}
use Rattle.wl_bind.specs.GlobalBinding.{named_global, is_called, is_from, host_globals, binds_global}
use Rattle.wl_bind.specs.Made.{is_made_function, is_made_global, is_bound, is_made}
use Rattle.wl_bind.specs.Scan.{got_mem, got_func}
use Rattle.wl_bind.specs.declared.binding.FunctionTarget.{FunctionTarget}
use Rattle.wl_bind.specs.declared.binding.FunctionTarget.TheVariants as function
use Rattle.wl_bind.specs.declared.binding.GlobalTarget.TheVariants as global
use Rattle.wl_lists.proofs.Found.{any_of, cases_option}
use Rattle.wl_lists.proofs.In.{in_filter, list_in}
use Rattle.wl_bind.proofs.ClosedLaws.{SlotLaws}
use Rattle.wl_bind.proofs.GlobalLaws.{binds}
use Rattle.wl_bind.proofs.OneRuleLaws.{bound_as}
use Rattle.wl_bind.proofs.HostLaws.{placed, slot_in}
use Rattle.wl_bind.proofs.SameLaws.{made_self}

-- ---- facts about slots and names

-- of slots; and what a name stands for, and a symbol that other objects know by its name
pub record BindingLaws : Type 0 where
  pub slots : SlotLaws
  pub names : (link : Link) (name : List ℕ)
      → MatchOption (named link name) (IsUnknown link name) (StandsFor link name)
  pub symbols : (link : Link) (object symbol : ℕ) (s : LinkedSymbol)
      → symbol_in link.objects object symbol ≡ Some s → is_private s ≡ false
      → StandsFor link s.name (def link object symbol)

-- ---- the kind of a kept slot

kept_kind : (input : Input) (kind : WasmSymbolKind) (t : ImportSlot)
    → Contains (kept_slots input kind) t → t.kind ≡ kind
kept_kind input kind t listed =
    let objects : List Object = input.link.objects in
    let s = slot_in objects kind t (in_filter (is_kept_slot input) (slots_from kind 0 objects) t (list_in (kept_slots input kind) t listed)) in
    (placed objects t.object kind t.number t s.at).kind_is

-- ---- what names bind a slot to

-- it is of the slot's kind, and its name exists
record IsThere (link : Link) (kind : WasmSymbolKind) (m : WasmLinkerSymbol) : Type 0 where
  of_kind : matches_kind kind m ≡ true
  exists_ : exists_under link.args m ≡ true

stands_made : (link : Link) (name : List ℕ) (d : Definition) (m : WasmLinkerSymbol)
    → StandsFor link name d
    → d ≡ definition.Made m → exists_under link.args m ≡ true
stands_made link name d m stands is =
    let stands_for : StandsFor link name (definition.Made m) =
    subst (λ (e : Definition). StandsFor link name e) is stands in
    stands_for.2.exists_

def_made : BindingLaws → (link : Link) (object symbol : ℕ) (m : WasmLinkerSymbol)
    → def link object symbol ≡ definition.Made m → exists_under link.args m ≡ true
def_made laws link object symbol m is = by_symbol (symbol_in link.objects object symbol) refl
  where
    itself_not : definition.Symbol object symbol ≡ definition.Made m → ⊥
    itself_not e = cc

    by_symbol : (found : Option LinkedSymbol) → symbol_in link.objects object symbol ≡ found
        → exists_under link.args m ≡ true
    by_symbol None at =
        let itself : def link object symbol ≡ definition.Symbol object symbol = rw at refl in
        absurd (itself_not (sym itself ∙ is))
    by_symbol (Some s) at = elim (cases_Bool (is_private s)) [
      | inl p ↦
          (let itself : def link object symbol ≡ definition.Symbol object symbol =
          rw (at, p) refl in
          absurd (itself_not (sym itself ∙ is)))
      | inr shared ↦
          stands_made link s.name (def link object symbol) m
          (laws.symbols link object symbol s at shared) is
    ]

named_made : BindingLaws → (link : Link) (name : List ℕ) (m : WasmLinkerSymbol)
    → named link name ≡ Some (definition.Made m) → exists_under link.args m ≡ true
named_made laws link name m is =
    let stands : StandsFor link name (definition.Made m) = rw is at (laws.names link name) in
    stands.2.exists_

slot_made : BindingLaws → (link : Link) (t : ImportSlot) (m : WasmLinkerSymbol)
    → slot_target link t ≡ Some (slot.Made m) → IsThere link t.kind m
slot_made laws link t m is =
    let bound : IsBoundTo link t (slot.Made m) = rw is at (laws.slots.targets link t) in
    elim bound.1 [
      | inl symbol ↦ record {
        of_kind = symbol.of_kind;
        exists_ = def_made laws link t.object symbol.undefined m symbol.stands;
      }
      | inr field ↦ record {
        of_kind = field.1.of_kind;
        exists_ = named_made laws link t.item.name m field.1.stands;
      }
    ]

-- ---- functions

named_by_function : (target : SlotTarget) (m : WasmLinkerSymbol)
    → named_function target ≡ function.Made m → target ≡ slot.Made m
named_by_function (slot.Defined object number) m e = absurd cc
named_by_function (slot.Made n) m e = let same : n ≡ m = cc in ap (λ k. slot.Made k) same

function_there : BindingLaws → (input : Input) (t : ImportSlot) (m : WasmLinkerSymbol)
    → Contains (kept_slots input Func) t
    → binds_function input t ≡ function.Made m → IsThere input.link t.kind m
function_there laws input t m kept is = elim (bound_as input t kept) [
  | inl n ↦ slot_made laws input.link t m
      (n.bound ∙ ap (λ s. Some s) (named_by_function n.named m (sym n.target_is ∙ is)))
  | inr left ↦ elim left [
    | inl stub ↦ absurd (let e : function.Stub stub.first.object stub.first.number ≡ function.Made m = sym stub.target_is ∙ is in cc)
    | inr host ↦ absurd (let e : function.Host host.first.object host.first.number ≡ function.Made m = sym host.target_is ∙ is in cc)
  ]
]

-- ---- globals

named_by_global : (target : SlotTarget) (m : WasmLinkerSymbol)
    → named_global target ≡ global.Made m → target ≡ slot.Made m
named_by_global (slot.Defined object number) m e = absurd cc
named_by_global (slot.Made n) m e = let same : n ≡ m = cc in ap (λ k. slot.Made k) same

left_not : (a b : Bool) (x y : Option ℕ) (object number : ℕ) (m : WasmLinkerSymbol)
    → unwrap_or
    (if a then option_map global.GotMem x
    else if b then option_map global.GotFunc y else None)
    (global.Host object number) ≡ global.Made m → ⊥
left_not true b None y object number m e = cc
left_not false true x None object number m e = cc
left_not _ _ x y object number m e = cc

global_there : BindingLaws → (input : Input) (t : ImportSlot) (m : WasmLinkerSymbol)
    → binds_global input t ≡ global.Made m → IsThere input.link t.kind m
global_there laws input t m is = elim (cases_option (slot_target input.link t)) [
  | inl none ↦
      (let first = first_like same_import (first_imports (host_globals input)) t in
      let mem = position (is_called input t.item.name) (got_mem input) in
      let func = position (λ (p : Definition × FunctionTarget). is_called input t.item.name p.0)
      (got_func input) in
      absurd (left_not (is_from (codes "GOT.mem") t) (is_from (codes "GOT.func") t) mem func
      first.object first.number m (sym (binds input t None none) ∙ is)))
  | inr named ↦ slot_made laws input.link t m
      (named.1 ∙ ap (λ s. Some s) (named_by_global named.0 m
      (sym (binds input t (Some named.0) named.1) ∙ is)))
]

-- ---- it is bound

function_bound : (input : Input) (t : ImportSlot) (m : WasmLinkerSymbol)
    → Contains (kept_slots input Func) t
    → binds_function input t ≡ function.Made m → is_bound input m ≡ true
function_bound input t m kept is =
    or_left _ _ (any_of (λ (s : ImportSlot). is_made_function m (binds_function input s))
    (kept_slots input Func) t kept
    (ap (is_made_function m) is ∙ made_self m))

global_bound : (input : Input) (t : ImportSlot) (m : WasmLinkerSymbol)
    → Contains (kept_slots input Global) t
    → binds_global input t ≡ global.Made m → is_bound input m ≡ true
global_bound input t m kept is =
    or_right _ _ (any_of (λ (s : ImportSlot). is_made_global m (binds_global input s))
    (kept_slots input Global) t kept
    (ap (is_made_global m) is ∙ made_self m))

-- ---- it exists

function_made : (input : Input) (m : WasmLinkerSymbol) → matches_kind Func m ≡ true
    → exists_under input.link.args m ≡ true → is_bound input m ≡ true → is_made input m ≡ true
function_made input made.CallCtors k x b = or_left _ _ (or_right _ _ b)
function_made input made.InitTls k x b = and_from _ _ x (or_right _ _ b)
function_made input _ k x b = absurd cc

global_made : (input : Input) (m : WasmLinkerSymbol) → matches_kind Global m ≡ true
    → exists_under input.link.args m ≡ true → is_bound input m ≡ true → is_made input m ≡ true
global_made input made.MemoryBase k x b = or_left _ _ (or_right _ _ b)
global_made input made.TableBase k x b = or_left _ _ (or_right _ _ b)
global_made input made.StackPointer k x b = refl
global_made input made.TlsBase k x b = or_right _ _ b
global_made input made.TlsSize k x b = and_from _ _ x (or_left _ _ (or_left _ _ (or_right _ _ b)))
global_made input made.TlsAlign k x b = and_from _ _ x (or_left _ _ (or_right _ _ b))
global_made input _ k x b = absurd cc

-- what a kept function slot is bound to of the linker's exists
pub bound_is_made_function : BindingLaws → (input : Input) (t : ImportSlot) (m : WasmLinkerSymbol)
    → Contains (kept_slots input Func) t → binds_function input t ≡ function.Made m
    → is_made input m ≡ true
bound_is_made_function laws input t m kept is =
    let there = function_there laws input t m kept is in
    let kind : matches_kind Func m ≡ true =
    subst (λ (k : WasmSymbolKind). matches_kind k m ≡ true) (kept_kind input Func t kept)
    there.of_kind in
    function_made input m kind there.exists_ (function_bound input t m kept is)

-- what a kept global slot is bound to of the linker's exists
pub bound_is_made_global : BindingLaws → (input : Input) (t : ImportSlot) (m : WasmLinkerSymbol)
    → Contains (kept_slots input Global) t → binds_global input t ≡ global.Made m
    → is_made input m ≡ true
bound_is_made_global laws input t m kept is =
    let there = global_there laws input t m is in
    let kind : matches_kind Global m ≡ true =
    subst (λ (k : WasmSymbolKind). matches_kind k m ≡ true) (kept_kind input Global t kept)
    there.of_kind in
    global_made input m kind there.exists_ (global_bound input t m kept is)

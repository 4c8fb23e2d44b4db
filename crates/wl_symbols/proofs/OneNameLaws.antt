-- The symbols on a slot of an object have one name, and so stand for one thing.
use Rattle.std.proofs.Common.{◌≡◌, ◌∙◌, ◌⊎◌, ℕ, zero, suc, ◌+◌, ◌<◌, ◌==◌, Bool, true, false, ◌&&◌, List, [], ◌∷◌, length, refl, sym, ap, subst, arith, inl, inr, Some, slice_get, Contains, slice_index_or, filter}
use Rattle.std.proofs.lemmas.Bool.{cases_Bool, eqb-true}
use Rattle.std.proofs.lemmas.List.Sums.{length-filter}
use Rattle.wl_module.specs.Imports.{Imported}
use Rattle.wl_module.specs.declared.imports.ExternalKind.TheVariants as external
use Rattle.wl_linking.specs.Object.{Object}
use Rattle.wl_linking.specs.Spaces.{is_of_kind, count_imports, spaces_of}
use Rattle.wl_linking.specs.Slots.{has_claim, AgreeOnNames}
use Rattle.wl_custom.specs.Symbols.{Symbol as LinkedSymbol, is_undefined}
use Rattle.wl_custom.specs.declared.symbols.WasmSymbolKind.{WasmSymbolKind}
use Rattle.wl_custom.specs.declared.symbols.WasmSymbolKind.TheVariants.{Func, Data, Global, Section, Event, Table}
use Rattle.wl_symbols.specs.Link.{Link}
use Rattle.wl_symbols.specs.Entries.{symbol_in, is_private}
use Rattle.wl_symbols.specs.LinkerNames.{is_imported_as}
use Rattle.wl_symbols.specs.Names.{named, def, StandsFor}
use Rattle.wl_symbols.specs.declared.entry.Definition.{Definition}
use Rattle.wl_symbols.specs.declared.entry.Definition.TheVariants.{Symbol, Made as MadeName}
use Rattle.wl_symbols.specs.declared.linker_symbol.WasmLinkerSymbol.{WasmLinkerSymbol}
use Rattle.wl_symbols.specs.ImportSlots.{ImportSlot, numbers_where, is_on, symbols_on, numbered_slots, slot_imports, object_slots}
use Rattle.wl_symbols.specs.SlotTargets.{own_number, is_definition_of}
use Rattle.wl_symbols.specs.SlotCases.{HasDefinition, HasMadeSymbol}

-- ---- lists

-- what is listed is the first, or is listed after it
listed : {X : Type 0} (y : X) (xs : List X) (x : X) (k : ℕ) → k < length (y ∷ xs) → slice_index_or (y ∷ xs) k x ≡ x → (y ≡ x) ⊎ Contains xs x
listed y xs x zero lt is = inl is
listed y xs x (suc k) lt is = inr (k, omega (arith, lt), is)

-- one of the numbers is that of something that passes
record Passes {X : Type 0} (test : X → Bool) (n : ℕ) (xs : List X) (number : ℕ) : Type 0 where
  place : ℕ
  number_is : number ≡ n + place
  x : X
  here : slice_get xs place ≡ Some x
  pass : test x ≡ true

passes_behind : {X : Type 0} (test : X → Bool) (n : ℕ) (y : X) (xs : List X) (number : ℕ) → Passes test (n + 1) xs number → Passes test n (y ∷ xs) number
passes_behind test n y xs number p = record {
  place = suc p.place;
  number_is = omega (arith, p.number_is);
  x = p.x;
  here = p.here;
  pass = p.pass;
}

passes : {X : Type 0} (test : X → Bool) (n : ℕ) (xs : List X) (number : ℕ) → Contains (numbers_where test n xs) number → Passes test n xs number
passes test n [] number h = absurd (omega (arith, h.1))
passes test n (y ∷ xs) number h = elim (cases_Bool (test y)) [
  | inl so ↦ (let there : Contains (n ∷ numbers_where test (n + 1) xs) number = rw so at h in
      elim (listed n (numbers_where test (n + 1) xs) number there.0 there.1 there.2) [
        | inl same ↦ record { place = 0; number_is = omega (arith, same); x = y; here = refl; pass = so }
        | inr rest ↦ passes_behind test n y xs number (passes test (n + 1) xs number rest)
      ])
  | inr not_so ↦ (let there : Contains (numbers_where test (n + 1) xs) number = rw not_so at h in
      passes_behind test n y xs number (passes test (n + 1) xs number there))
]

-- ---- a slot of an object

-- a slot is that of one of the imports
record StandsAt (object : ℕ) (kind : WasmSymbolKind) (ss : List LinkedSymbol) (n : ℕ) (is : List Imported) (t : ImportSlot) : Type 0 where
  place : ℕ
  within : place < length is
  number_is : t.number ≡ n + place
  object_is : t.object ≡ object
  kind_is : t.kind ≡ kind
  symbols_are : t.symbols ≡ symbols_on kind t.number ss

stands_at : (object : ℕ) (kind : WasmSymbolKind) (ss : List LinkedSymbol) (n : ℕ) (is : List Imported) (t : ImportSlot)
    → Contains (numbered_slots object kind ss n is) t → StandsAt object kind ss n is t
stands_at object kind ss n [] t (k, lt, same) = absurd (omega (arith, lt))
stands_at object kind ss n (i ∷ is) t (k, lt, same) = elim (listed _ (numbered_slots object kind ss (n + 1) is) t k lt same) [
  | inl e ↦ subst (λ (x : ImportSlot). StandsAt object kind ss n (i ∷ is) x) e
      (record { place = 0; within = omega arith; number_is = omega arith; object_is = refl; kind_is = refl; symbols_are = refl })
  | inr rest ↦ (let r = stands_at object kind ss (n + 1) is t rest in record {
    place = suc r.place;
    within = omega (arith, r.within);
    number_is = omega (arith, r.number_is);
    object_is = r.object_is;
    kind_is = r.kind_is;
    symbols_are = r.symbols_are;
  })
]

-- ---- the symbols on it

-- an undefined symbol of that kind and number
pub record StandsOn (kind : WasmSymbolKind) (number : ℕ) (o : Object) (symbol : ℕ) : Type 0 where
  pub s : LinkedSymbol
  pub here : slice_get o.symbols symbol ≡ Some s
  pub undefined : is_undefined s ≡ true
  pub of_kind : is_imported_as kind s.kind ≡ true
  pub index_is : s.index ≡ number

on_parts : (a b c : Bool) → (a && b && c) ≡ true → (a ≡ true) × (b ≡ true) × (c ≡ true)
on_parts true true true h = (refl, refl, refl)
on_parts true true false h = absurd cc
on_parts true false c h = absurd cc
on_parts false b c h = absurd cc

stands_on : (kind : WasmSymbolKind) (number : ℕ) (o : Object) (symbol : ℕ) → Contains (symbols_on kind number o.symbols) symbol → StandsOn kind number o symbol
stands_on kind number o symbol h =
    let p = passes (is_on kind number) 0 o.symbols symbol h in
    let parts = on_parts (is_undefined p.x) (is_imported_as kind (p.x).kind) ((p.x).index == number) p.pass in
    let same : symbol ≡ p.place = omega (arith, p.number_is) in
    record {
      s = p.x;
      here = ap (λ (k : ℕ). slice_get o.symbols k) same ∙ p.here;
      undefined = parts.0;
      of_kind = parts.1;
      index_is = eqb-true (p.x).index number parts.2;
    }

-- ---- one name

-- functions and globals have names to compare
function_claim : (kind : WasmSymbolKind) (s : LinkedSymbol) → is_imported_as Func kind ≡ true → has_claim Func kind s ≡ true
function_claim Func s h = refl
function_claim Data s h = absurd cc
function_claim Global s h = absurd cc
function_claim Section s h = absurd cc
function_claim Event s h = absurd cc
function_claim Table s h = absurd cc

global_claim : (kind : WasmSymbolKind) (s : LinkedSymbol) → is_imported_as Global kind ≡ true → has_claim Global kind s ≡ true
global_claim Func s h = absurd cc
global_claim Data s h = absurd cc
global_claim Global s h = refl
global_claim Section s h = absurd cc
global_claim Event s h = absurd cc
global_claim Table s h = absurd cc

nothing_passes : {X : Type 0} (xs : List X) → length (filter (λ (x : X). false) xs) ≡ 0
nothing_passes [] = refl
nothing_passes (x ∷ xs) = nothing_passes xs

-- two symbols on a slot of an object have the same name
same_name : (object : ℕ) (kind : WasmSymbolKind) (o : Object) (t : ImportSlot) (a b : ℕ) → AgreeOnNames (spaces_of o) o.symbols
    → StandsAt object kind o.symbols 0 (slot_imports kind o.imports) t → (p : StandsOn kind t.number o a) (q : StandsOn kind t.number o b)
    → p.s.name ≡ q.s.name
same_name object Func o t a b agree at p q =
    let count : length (slot_imports Func o.imports) ≡ count_imports external.Func o.imports =
    length-filter (λ (i : Imported). is_of_kind external.Func i.entity) o.imports in
    agree.functions a b p.s q.s p.here q.here (record {
      one = rw (p.undefined, function_claim p.s.kind p.s p.of_kind) refl;
      other = rw (q.undefined, function_claim q.s.kind q.s q.of_kind) refl;
      slot = p.index_is ∙ sym q.index_is;
      exists = omega (arith, p.index_is, at.number_is, at.within, count);
    })
same_name object Global o t a b agree at p q =
    let count : length (slot_imports Global o.imports) ≡ count_imports external.Global o.imports =
    length-filter (λ (i : Imported). is_of_kind external.Global i.entity) o.imports in
    agree.globals a b p.s q.s p.here q.here (record {
      one = rw (p.undefined, global_claim p.s.kind p.s p.of_kind) refl;
      other = rw (q.undefined, global_claim q.s.kind q.s q.of_kind) refl;
      slot = p.index_is ∙ sym q.index_is;
      exists = omega (arith, p.index_is, at.number_is, at.within, count);
    })
same_name object Data o t a b agree at p q = absurd (omega (arith, at.within, nothing_passes o.imports))
same_name object Section o t a b agree at p q = absurd (omega (arith, at.within, nothing_passes o.imports))
same_name object Event o t a b agree at p q = absurd (omega (arith, at.within, nothing_passes o.imports))
same_name object Table o t a b agree at p q = absurd (omega (arith, at.within, nothing_passes o.imports))

-- ---- one thing that they stand for

-- what is known of names
pub record NameLaws (link : Link) : Type 0 where
  pub only : (name : List ℕ) (d : Definition) → StandsFor link name d → named link name ≡ Some d
  pub shared : (object symbol : ℕ) (s : LinkedSymbol) → symbol_in link.objects object symbol ≡ Some s → is_private s ≡ false
      → StandsFor link s.name (def link object symbol)

-- symbols of one name that other objects know stand for one thing
same_definition : (link : Link) (laws : NameLaws link) (object a b : ℕ) (s r : LinkedSymbol)
    → symbol_in link.objects object a ≡ Some s → symbol_in link.objects object b ≡ Some r
    → is_private s ≡ false → is_private r ≡ false → s.name ≡ r.name → def link object a ≡ def link object b
same_definition link laws object a b s r at_a at_b shared_a shared_b same =
    let x : named link s.name ≡ Some (def link object a) = laws.only s.name (def link object a) (laws.shared object a s at_a shared_a) in
    let y : named link r.name ≡ Some (def link object b) = laws.only r.name (def link object b) (laws.shared object b r at_b shared_b) in
    let z : Some (def link object a) ≡ Some (def link object b) = sym x ∙ (ap (λ (name : List ℕ). named link name) same ∙ y) in
    cc

symbol_parts : {a b c d : ℕ} → Symbol a b ≡ Symbol c d → (a ≡ c) × (b ≡ d)
symbol_parts e = (cc, cc)

some_same : {X : Type 0} {x y : X} → Some x ≡ Some y → x ≡ y
some_same e = cc

-- an object, and a symbol of it, at the same places are the same
same_object : (link : Link) (i j : ℕ) (o q : Object) → slice_get link.objects i ≡ Some o → slice_get link.objects j ≡ Some q → i ≡ j → o ≡ q
same_object link i j o q at_i at_j same = some_same (sym at_i ∙ (ap (λ (k : ℕ). slice_get link.objects k) same ∙ at_j))

same_symbol : (o q : Object) (a b : ℕ) (s r : LinkedSymbol) → o ≡ q → a ≡ b → slice_get o.symbols a ≡ Some s → slice_get q.symbols b ≡ Some r → s ≡ r
same_symbol o q a b s r same at at_a at_b =
    some_same (sym at_a ∙ (ap (λ (x : Object). slice_get x.symbols a) same ∙ (ap (λ (k : ℕ). slice_get q.symbols k) at ∙ at_b)))

-- a slot of an object of the link, and a symbol on it
record IsOn (link : Link) (t : ImportSlot) (kind : WasmSymbolKind) (o : Object) (symbol : ℕ) : Type 0 where
  here : slice_get link.objects t.object ≡ Some o
  on_slot : StandsOn kind t.number o symbol

-- a symbol that others don't know stands for itself
own_definition : (link : Link) (t : ImportSlot) (kind : WasmSymbolKind) (o : Object) (symbol : ℕ) (on_ : IsOn link t kind o symbol)
    → is_private on_.on_slot.s ≡ true → def link t.object symbol ≡ Symbol t.object symbol
own_definition link t kind o symbol on_ private = rw (on_.here, on_.on_slot.here, private) refl

-- an undefined symbol is no definition
undefined_defines : (kind : WasmSymbolKind) (s : LinkedSymbol) → is_undefined s ≡ true → is_definition_of kind s ≡ false
undefined_defines kind s u = rw u refl

-- so a symbol that stands for a definition is known to others
defined_shared : (link : Link) (t : ImportSlot) (kind : WasmSymbolKind) (o : Object) (i j : ℕ) (h : HasDefinition link t i j)
    (on_ : IsOn link t kind o h.undefined) → is_private on_.on_slot.s ≡ false
defined_shared link t kind o i j h on_ = elim (cases_Bool (is_private on_.on_slot.s)) [
  | inr shared ↦ shared
  | inl private ↦ absurd (
      let own : Symbol t.object h.undefined ≡ Symbol i h.symbol = sym (own_definition link t kind o h.undefined on_ private) ∙ h.stands in
      let places = symbol_parts own in
      let os : o ≡ h.o = same_object link t.object i o h.o on_.here h.object_is places.0 in
      let ss : on_.on_slot.s ≡ h.s = same_symbol o h.o h.undefined h.symbol on_.on_slot.s h.s os places.1 on_.on_slot.here h.symbol_is in
      let no_definition : is_definition_of t.kind h.s ≡ false = undefined_defines t.kind h.s (rw ss at on_.on_slot.undefined) in
      let both : true ≡ false = sym h.defines ∙ no_definition in cc)
]

-- and one that stands for what the linker makes
made_shared : (link : Link) (t : ImportSlot) (kind : WasmSymbolKind) (o : Object) (m : WasmLinkerSymbol) (h : HasMadeSymbol link t m)
    (on_ : IsOn link t kind o h.undefined) → is_private on_.on_slot.s ≡ false
made_shared link t kind o m h on_ = elim (cases_Bool (is_private on_.on_slot.s)) [
  | inr shared ↦ shared
  | inl private ↦ absurd (
      let own : Symbol t.object h.undefined ≡ MadeName m = sym (own_definition link t kind o h.undefined on_ private) ∙ h.stands in cc)
]

-- two symbols on a slot that others know stand for one thing
same_on : (link : Link) (laws : NameLaws link) (t : ImportSlot) (kind : WasmSymbolKind) (o : Object) (a b : ℕ) (p : IsOn link t kind o a) (q : IsOn link t kind o b)
    → p.on_slot.s.name ≡ q.on_slot.s.name → is_private p.on_slot.s ≡ false → is_private q.on_slot.s ≡ false
    → def link t.object a ≡ def link t.object b
same_on link laws t kind o a b p q same shared_a shared_b =
    same_definition link laws t.object a b p.on_slot.s q.on_slot.s (rw p.here p.on_slot.here) (rw q.here q.on_slot.here) shared_a shared_b same

-- ---- the law

-- a slot of a kind of an object of the link whose imports have one name
pub record IsSlotIn (link : Link) (object : ℕ) (kind : WasmSymbolKind) (o : Object) (t : ImportSlot) : Type 0 where
  pub laws : NameLaws link
  pub here : slice_get link.objects object ≡ Some o
  pub agree : AgreeOnNames (spaces_of o) o.symbols
  pub slot : Contains (object_slots object kind o) t

at_slot : (link : Link) (object : ℕ) (kind : WasmSymbolKind) (o : Object) (t : ImportSlot) → IsSlotIn link object kind o t
    → StandsAt object kind o.symbols 0 (slot_imports kind o.imports) t
at_slot link object kind o t h = stands_at object kind o.symbols 0 (slot_imports kind o.imports) t h.slot

on_it : (link : Link) (object : ℕ) (kind : WasmSymbolKind) (o : Object) (t : ImportSlot) (symbol : ℕ) → IsSlotIn link object kind o t → Contains t.symbols symbol
    → IsOn link t kind o symbol
on_it link object kind o t symbol h on_slot =
    let at = at_slot link object kind o t h in
    record { here = rw at.object_is h.here; on_slot = stands_on kind t.number o symbol (rw at.symbols_are at on_slot) }

pub one_definition : (link : Link) (object : ℕ) (kind : WasmSymbolKind) (o : Object) (t : ImportSlot) (a j b k : ℕ) → IsSlotIn link object kind o t
    → HasDefinition link t a j → HasDefinition link t b k → (a ≡ b) × (j ≡ k)
one_definition link object kind o t a j b k slot g h =
    let p = on_it link object kind o t g.undefined slot g.on_slot in
    let q = on_it link object kind o t h.undefined slot h.on_slot in
    let name = same_name object kind o t g.undefined h.undefined slot.agree (at_slot link object kind o t slot) p.on_slot q.on_slot in
    let same = same_on link slot.laws t kind o g.undefined h.undefined p q name (defined_shared link t kind o a j g p) (defined_shared link t kind o b k h q) in
    let both : Symbol a g.symbol ≡ Symbol b h.symbol = sym g.stands ∙ (same ∙ h.stands) in
    let places = symbol_parts both in
    let os : g.o ≡ h.o = same_object link a b g.o h.o g.object_is h.object_is places.0 in
    let ss : g.s ≡ h.s = same_symbol g.o h.o g.symbol h.symbol g.s h.s os places.1 g.symbol_is h.symbol_is in
    let numbers : Some j ≡ Some k = sym g.number_is ∙ (ap (λ (x : Object). own_number t.kind x g.s.index) os ∙ (ap (λ (x : LinkedSymbol). own_number t.kind h.o x.index) ss ∙ h.number_is)) in
    (places.0, some_same numbers)

pub one_made : (link : Link) (object : ℕ) (kind : WasmSymbolKind) (o : Object) (t : ImportSlot) (m n : WasmLinkerSymbol) → IsSlotIn link object kind o t
    → HasMadeSymbol link t m → HasMadeSymbol link t n → m ≡ n
one_made link object kind o t m n slot g h =
    let p = on_it link object kind o t g.undefined slot g.on_slot in
    let q = on_it link object kind o t h.undefined slot h.on_slot in
    let name = same_name object kind o t g.undefined h.undefined slot.agree (at_slot link object kind o t slot) p.on_slot q.on_slot in
    let same = same_on link slot.laws t kind o g.undefined h.undefined p q name (made_shared link t kind o m g p) (made_shared link t kind o n h q) in
    let both : MadeName m ≡ MadeName n = sym g.stands ∙ (same ∙ h.stands) in cc

pub never_both : (link : Link) (object : ℕ) (kind : WasmSymbolKind) (o : Object) (t : ImportSlot) (a j : ℕ) (m : WasmLinkerSymbol) → IsSlotIn link object kind o t
    → HasDefinition link t a j → HasMadeSymbol link t m → ⊥
never_both link object kind o t a j m slot g h =
    let p = on_it link object kind o t g.undefined slot g.on_slot in
    let q = on_it link object kind o t h.undefined slot h.on_slot in
    let name = same_name object kind o t g.undefined h.undefined slot.agree (at_slot link object kind o t slot) p.on_slot q.on_slot in
    let same = same_on link slot.laws t kind o g.undefined h.undefined p q name (defined_shared link t kind o a j g p) (made_shared link t kind o m h q) in
    let both : Symbol a g.symbol ≡ MadeName m = sym g.stands ∙ (same ∙ h.stands) in cc

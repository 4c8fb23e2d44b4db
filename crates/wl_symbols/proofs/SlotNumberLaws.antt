-- How slots are numbered, and how many there are.
use Rattle.std.proofs.Common.{◌≡◌, ◌∙◌, ℕ, zero, suc, ◌+◌, ◌-◌, true, false, not, nat_lt, nat_le, List, [], ◌∷◌, length, refl, sym, ap, arith, inl, inr, Some, slice_get}
use Rattle.std.proofs.lemmas.Bool.{cases_Bool, leb-true, ltb-true, and_parts, not-true}
use Rattle.wl_module.specs.Imports.{Imported}
use Rattle.wl_module.specs.declared.imports.ExternalKind.TheVariants as external
use Rattle.wl_linking.specs.Object.{Object}
use Rattle.wl_linking.specs.Spaces.{NamesExist, symbol_exists, number_exists, spaces_of, count_imports}
use Rattle.wl_custom.specs.Symbols.{Symbol, is_undefined}
use Rattle.wl_linking.specs.declared.spaces.Counts.{Counts}
use Rattle.wl_custom.specs.declared.symbols.WasmSymbolKind.{WasmSymbolKind}
use Rattle.wl_custom.specs.declared.symbols.WasmSymbolKind.TheVariants.{Func, Data, Global, Section, Event, Table}
use Rattle.wl_symbols.specs.LinkerNames.{is_imported_as}
use Rattle.wl_symbols.specs.Units.{defined_number}
use Rattle.wl_symbols.specs.SlotTargets.{own_number, is_definition_of}
use Rattle.wl_symbols.specs.ImportSlots.{ImportSlot, numbered_slots}
use Rattle.wl_lists.proofs.Places.{test_at}

-- one for each import
pub slots_length : (object : ℕ) (kind : WasmSymbolKind) (ss : List Symbol) (n : ℕ) (is : List Imported)
    → length (numbered_slots object kind ss n is) ≡ length is
slots_length object kind ss n [] = refl
slots_length object kind ss n (i ∷ is) = ap suc (slots_length object kind ss (n + 1) is)

-- the first has the first number, and so on
pub slot_number : (object : ℕ) (kind : WasmSymbolKind) (ss : List Symbol) (n : ℕ) (is : List Imported) (k : ℕ) (t : ImportSlot)
    → slice_get (numbered_slots object kind ss n is) k ≡ Some t → t.number ≡ n + k
slot_number object kind ss n [] k t here = absurd cc
slot_number object kind ss n (i ∷ is) zero t here = let same : n ≡ t.number = cc in omega (arith, same)
slot_number object kind ss n (i ∷ is) (suc k) t here = let rest = slot_number object kind ss (n + 1) is k t here in omega (arith, rest)

-- ---- definitions

-- an index of a definition has a number
under : (imports count index : ℕ) → number_exists false imports count index ≡ true → (n : ℕ) × (defined_number imports count index ≡ Some n)
under imports count index h =
    let parts = and_parts (nat_le imports index) (nat_lt (index - imports) count) h in
    let behind = leb-true imports index parts.0 in
    let within = ltb-true (index - imports) count parts.1 in
    elim (cases_Bool (nat_lt index imports)) [
      | inl before ↦ absurd (let lt = ltb-true index imports before in omega (arith, lt, behind))
      | inr not_before ↦ elim (cases_Bool (nat_le count (index - imports))) [
        | inl past ↦ absurd (let le = leb-true count (index - imports) past in omega (arith, le, within))
        | inr not_past ↦ (index - imports, rw (not_before, not_past) refl)
      ]
    ]

function_exists : (spaces : Counts) (k : WasmSymbolKind) (s : Symbol) → s.kind ≡ k → is_imported_as Func k ≡ true → is_undefined s ≡ false
    → symbol_exists spaces s ≡ number_exists false spaces.imported_functions spaces.functions s.index
function_exists spaces Func s is h u = rw (is, u) refl
function_exists spaces Data s is h u = absurd cc
function_exists spaces Global s is h u = absurd cc
function_exists spaces Section s is h u = absurd cc
function_exists spaces Event s is h u = absurd cc
function_exists spaces Table s is h u = absurd cc

global_exists : (spaces : Counts) (k : WasmSymbolKind) (s : Symbol) → s.kind ≡ k → is_imported_as Global k ≡ true → is_undefined s ≡ false
    → symbol_exists spaces s ≡ number_exists false spaces.imported_globals spaces.globals s.index
global_exists spaces Func s is h u = absurd cc
global_exists spaces Data s is h u = absurd cc
global_exists spaces Global s is h u = rw (is, u) refl
global_exists spaces Section s is h u = absurd cc
global_exists spaces Event s is h u = absurd cc
global_exists spaces Table s is h u = absurd cc

-- each definition of a whole object has its number
pub definition_number : (kind : WasmSymbolKind) (o : Object) (k : ℕ) (s : Symbol) → NamesExist o → slice_get o.symbols k ≡ Some s → is_definition_of kind s ≡ true
    → (n : ℕ) × (own_number kind o s.index ≡ Some n)
definition_number Func o k s names here h =
    let parts = and_parts (not (is_undefined s)) (is_imported_as Func s.kind) h in
    let there = test_at (symbol_exists (spaces_of o)) o.symbols k s names.symbols here in
    under (count_imports external.Func o.imports) (length o.functions) s.index
    (sym (function_exists (spaces_of o) s.kind s refl parts.1 (not-true (is_undefined s) parts.0)) ∙ there)
definition_number Global o k s names here h =
    let parts = and_parts (not (is_undefined s)) (is_imported_as Global s.kind) h in
    let there = test_at (symbol_exists (spaces_of o)) o.symbols k s names.symbols here in
    under (count_imports external.Global o.imports) (length o.globals) s.index
    (sym (global_exists (spaces_of o) s.kind s refl parts.1 (not-true (is_undefined s) parts.0)) ∙ there)
definition_number Data o k s names here h = absurd (let none = and_parts (not (is_undefined s)) false h in let no_kind = none.1 in cc)
definition_number Section o k s names here h = absurd (let none = and_parts (not (is_undefined s)) false h in let no_kind = none.1 in cc)
definition_number Event o k s names here h = absurd (let none = and_parts (not (is_undefined s)) false h in let no_kind = none.1 in cc)
definition_number Table o k s names here h = absurd (let none = and_parts (not (is_undefined s)) false h in let no_kind = none.1 in cc)

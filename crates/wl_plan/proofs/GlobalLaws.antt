-- What the globals of the output start with.
use Rattle.std.proofs.Common.{◌≤◌, ◌++◌, get_or, nat_lt, ◌≡◌, ◌⊎◌, ◌∙◌, ℕ, zero, suc, ◌+◌, ◌<◌, ◌&&◌, Bool, true, false, List, [], ◌∷◌, length, map, refl, sym, ap, subst, inl, inr, arith, Option, Some, None, Result, Ok, Err, Contains, slice_get, if◌then◌else◌}
use Rattle.std.specs.List.{filter_map, cons_option, list_any, range_with_len}
use Rattle.std.specs.Result.{IfErr, OnErr}
use Rattle.std.specs.Option.{option_map, unwrap_or}
use Rattle.std.proofs.lemmas.Bool.{cases_Bool, ltb-true, ltb-false, and_parts}
use Rattle.std.proofs.lemmas.List.{length-map}
use Rattle.std.proofs.lemmas.List.FromFn.{length-map-range_with_len, get_or-map-range_with_len}
use Rattle.std.proofs.lemmas.Option.{slice_get-map, slice_get-get_or, same_Some, slice_get_past}
use Rattle.indexmap.specs.IndexSet.{insert_key, insert_all}
use Rattle.wl_module.specs.Globals.{DefinedGlobal}
use Rattle.wl_linking.specs.Object.{Object}
use Rattle.wl_linking.specs.Steps.{Clear}
use Rattle.wl_linking.specs.declared.error.LinkError.{LinkError}
use Rattle.wl_linking.specs.declared.error.LinkError.TheVariants.{TooLarge}
use Rattle.wl_linking.specs.declared.error.Quantity.TheVariants.{Address}
use Rattle.wl_custom.specs.RelocationTypes.{is_global_index}
use Rattle.wl_symbols.specs.Entries.{symbol_in}
use Rattle.wl_symbols.specs.declared.entry.Definition.{Definition}
use Rattle.wl_index.specs.declared.data_address.WasmDataAddress.{WasmDataAddress}
use Rattle.wl_index.specs.declared.data_address.WasmDataAddress.TheVariants.{Missing}
use Rattle.wl_index.specs.declared.index_map.WasmObjectIndexMap.{WasmObjectIndexMap}
use Rattle.wl_symbols.specs.Input.{Input}
use Rattle.wl_bind.specs.Parts.{AreRows}
use Rattle.wl_bind.specs.Sameness.{same_definition}
use Rattle.wl_bind.specs.Scan.{names_data, definition_of, got_mem_of, got_mem, got_func, scan_of, Named, got_mem_entry, got_func_entry, Scanned}
use Rattle.wl_symbols.specs.Relocations.{relocations}
use Rattle.wl_bind.specs.declared.binding.FunctionTarget.{FunctionTarget}
use Rattle.wl_symbols.specs.declared.relocated.Relocated.{Relocated}
use Rattle.wl_places.specs.Addresses.{address_of_definition, symbol_address, IsHigh, HasHighSymbol, IsAddressTooHigh}
use Rattle.wl_places.specs.AddressSteps.{IsHighAt}
use Rattle.wl_plan.specs.Globals.{global_in}
use Rattle.wl_places.specs.IndexedMaps.{IsWholeMap, AreWholeMaps}
use Rattle.wl_places.specs.declared.placing.Placing.{Placing}
use Rattle.wl_lists.proofs.Rows.{row_of}

-- ---- GOT lists

map_map : {X Y Z : Type 0} (f : X → Y) (g : Y → Z) (h : X → Z) → ((x : X) → g (f x) ≡ h x)
    → (o : Option X) → option_map g (option_map f o) ≡ option_map h o
map_map f g h same None = refl
map_map f g h same (Some x) = ap Some (same x)

map_same : {X : Type 0} (o : Option X) → option_map (λ (x : X). x) o ≡ o
map_same None = refl
map_same (Some x) = refl

-- the definition of a place in the GOT list of data
pub mem_at : (input : Input) (scan : Scanned) (place : ℕ) → scan ≡ scan_of input
    → option_map (λ (e : Named Definition). e.key) (slice_get scan.got_mem place)
    ≡ slice_get (got_mem input) place
mem_at input scan place is =
    let at : slice_get (map (got_mem_entry input) (got_mem input)) place
    ≡ option_map (got_mem_entry input) (slice_get (got_mem input) place) =
    slice_get-map (got_mem_entry input) (got_mem input) place in
    ap (λ (s : Scanned). option_map (λ (e : Named Definition). e.key) (slice_get s.got_mem place))
    is
    ∙ (ap (option_map (λ (e : Named Definition). e.key)) at
    ∙ (map_map (got_mem_entry input) (λ (e : Named Definition). e.key) (λ (d : Definition). d)
    (λ d. refl) (slice_get (got_mem input) place)
    ∙ map_same (slice_get (got_mem input) place)))

-- the definition and the function of a place in the GOT list of functions
pub func_at : (input : Input) (scan : Scanned) (place : ℕ) → scan ≡ scan_of input
    → option_map (λ (e : Named (Definition × FunctionTarget)). e.key) (slice_get scan.got_func place)
    ≡ slice_get (got_func input) place
func_at input scan place is =
    let at : slice_get (map (got_func_entry input) (got_func input)) place
    ≡ option_map (got_func_entry input) (slice_get (got_func input) place) =
    slice_get-map (got_func_entry input) (got_func input) place in
    ap (λ (s : Scanned). option_map (λ (e : Named (Definition × FunctionTarget)). e.key)
    (slice_get s.got_func place)) is
    ∙ (ap (option_map (λ (e : Named (Definition × FunctionTarget)). e.key)) at
    ∙ (map_map (got_func_entry input) (λ (e : Named (Definition × FunctionTarget)). e.key)
    (λ (p : Definition × FunctionTarget). p) (λ p. refl) (slice_get (got_func input) place)
    ∙ map_same (slice_get (got_func input) place)))

-- ---- what stands in lists of first occurrences

module _ {X : Type 0} where
  none_in : (x : X) → Contains [] x → ⊥
  none_in x (k, lt, e) = absurd (omega (arith, lt))

  behind : (y : X) (xs : List X) (x : X) → Contains xs x → Contains (y ∷ xs) x
  behind y xs x (k, lt, e) = (suc k, omega (arith, lt), e)

  at_front : (y : X) (xs : List X) (x : X) → y ≡ x → Contains (y ∷ xs) x
  at_front y xs x e = (zero, omega arith, e)

  front_or_behind : (y : X) (xs : List X) (x : X) → Contains (y ∷ xs) x → (y ≡ x) ⊎ Contains xs x
  front_or_behind y xs x (zero, lt, e) = inl e
  front_or_behind y xs x (suc k, lt, e) = inr (k, omega (arith, lt), e)

  pushed_cases : (keys : List X) (y x : X) → Contains (keys ++ y ∷ []) x → Contains keys x ⊎ (y ≡ x)
  pushed_cases [] y x among = elim (front_or_behind y [] x among) [
    | inl here ↦ inr here
    | inr there ↦ absurd (none_in x there)
  ]
  pushed_cases (k ∷ keys) y x among = elim (front_or_behind k (keys ++ y ∷ []) x among) [
    | inl here ↦ inl (at_front k keys x here)
    | inr there ↦ elim (pushed_cases keys y x there) [
      | inl before ↦ inl (behind k keys x before)
      | inr last ↦ inr last
    ]
  ]

  key_of : (same : X → X → Bool) (keys : List X) (y x : X)
      → Contains (insert_key same keys y) x → Contains keys x ⊎ (y ≡ x)
  key_of same keys y x among = elim (cases_Bool (list_any (same y) keys)) [
    | inl so ↦ (let kept : Contains keys x = rw so at among in inl kept)
    | inr fails ↦
        (let pushed : Contains (keys ++ y ∷ []) x = rw fails at among in
        pushed_cases keys y x pushed)
  ]

  inserted_of : (same : X → X → Bool) (keys xs : List X) (x : X)
      → Contains (insert_all same keys xs) x → Contains keys x ⊎ Contains xs x
  inserted_of same keys [] x among = inl among
  inserted_of same keys (y ∷ xs) x among =
      elim (inserted_of same (insert_key same keys y) xs x among) [
        | inr rest ↦ inr (behind y xs x rest)
        | inl key ↦ elim (key_of same keys y x key) [
          | inl before ↦ inl before
          | inr here ↦ inr (at_front y xs x here)
        ]
      ]

  listed_of : (same : X → X → Bool) (xs : List X) (x : X)
      → Contains (insert_all same [] xs) x → Contains xs x
  listed_of same xs x among = elim (inserted_of same [] xs x among) [
    | inl none ↦ absurd (none_in x none)
    | inr rest ↦ rest
  ]

given_by : {X Y : Type 0} (f : X → Option Y) (x : X) (xs : List X) (o : Option Y) (y : Y)
    → f x ≡ o → Contains (cons_option o (filter_map f xs)) y
    → (Contains (filter_map f xs) y → (z : X) × (f z ≡ Some y)) → (z : X) × (f z ≡ Some y)
given_by f x xs None y is among rest = rest among
given_by f x xs (Some w) y is among rest = elim (front_or_behind w (filter_map f xs) y among) [
  | inl here ↦ (x, is ∙ ap Some here)
  | inr there ↦ rest there
]

-- what a sifted list has some element gives
from_some : {X Y : Type 0} (f : X → Option Y) (xs : List X) (y : Y) → Contains (filter_map f xs) y
    → (x : X) × (f x ≡ Some y)
from_some f [] y among = absurd (none_in y among)
from_some f (x ∷ xs) y among =
    given_by f x xs (f x) y refl among (λ rest. from_some f xs y rest)

-- ---- addresses of the GOT list of data

some_if : {X : Type 0} (test : Bool) (x y : X) → (if test then Some x else None) ≡ Some y
    → (test ≡ true) × (x ≡ y)
some_if true x y e = (refl, same_Some x y e)
some_if false x y e = absurd cc

-- the definition of an entry is what some data symbol stands for
high_symbol : (input : Input) (g : Placing) (d : Definition) (r : Relocated)
    → got_mem_of input r ≡ Some d → IsHigh (address_of_definition input g d)
    → HasHighSymbol input g
high_symbol input g d r gives high =
    let given = some_if (is_global_index r.relocation.ty && names_data input r)
    (definition_of input r) d gives in
    let data_ : names_data input r ≡ true =
    (and_parts (is_global_index r.relocation.ty) (names_data input r) given.0).1 in
    let address : symbol_address input g r.object r.relocation.index
    ≡ address_of_definition input g d =
    rw data_ (ap (address_of_definition input g) given.1) in
    record {
      object = r.object;
      number = r.relocation.index;
      high = subst IsHigh (sym address) high;
    }

-- no entry of the GOT list of data is past the last address
pub mem_low : (input : Input) (g : Placing) (d : Definition) → Clear (IsAddressTooHigh input g)
    → Contains (got_mem input) d → IsHigh (address_of_definition input g d) → ⊥
mem_low input g d low among high =
    let from = from_some (got_mem_of input) (relocations input) d
    (listed_of same_definition (filter_map (got_mem_of input) (relocations input)) d among) in
    low.none (TooLarge Address) (refl, inl (high_symbol input g d from.0 from.1 high))

-- ---- how many entries there are

pub mem_count : (input : Input) (scan : Scanned) → scan ≡ scan_of input
    → length scan.got_mem ≡ length (got_mem input)
mem_count input scan is =
    ap (λ (s : Scanned). length s.got_mem) is ∙ length-map (got_mem input) (got_mem_entry input)

pub func_count : (input : Input) (scan : Scanned) → scan ≡ scan_of input
    → length scan.got_func ≡ length (got_func input)
func_count input scan is =
    ap (λ (s : Scanned). length s.got_func) is ∙ length-map (got_func input) (got_func_entry input)

-- ---- the rows of objects

no_row : (input : Input) (g : Placing) (n : ℕ) (objects : List Object)
    (maps : List WasmObjectIndexMap) (i : ℕ)
    → AreRows (IsWholeMap input g) n objects maps → slice_get maps i ≡ None
    → slice_get objects i ≡ None
no_row input g n [] [] i h at = refl
no_row input g n [] (x ∷ maps) i h at = absurd h
no_row input g n (o ∷ objects) [] i h at = absurd h
no_row input g n (o ∷ objects) (x ∷ maps) zero h at = absurd cc
no_row input g n (o ∷ objects) (x ∷ maps) (suc i) h at =
    no_row input g (n + 1) objects maps i h.1 at

-- what stands at a place of a list of so many, or nowhere
past_or_at : {X : Type 0} (f : ℕ → X) (d : X) (n k : ℕ) → (n ≤ k → f k ≡ d)
    → unwrap_or (slice_get (map f (range_with_len 0 n)) k) d ≡ f k
past_or_at f d n k past = elim (cases_Bool (nat_lt k n)) [
  | inl lt ↦
      (let within : k < n = ltb-true k n lt in
      let at : get_or (map f (range_with_len 0 n)) k d ≡ f k =
      get_or-map-range_with_len f 0 n k k d within (omega arith) in
      let long : length (map f (range_with_len 0 n)) ≡ n = length-map-range_with_len f 0 n in
      let there : slice_get (map f (range_with_len 0 n)) k
      ≡ Some (get_or (map f (range_with_len 0 n)) k d) =
      slice_get-get_or (map f (range_with_len 0 n)) k d (omega (arith, within, long)) in
      rw there at)
  | inr ge ↦
      (let behind_all : n ≤ k = ltb-false k n ge in
      let long : length (map f (range_with_len 0 n)) ≡ n = length-map-range_with_len f 0 n in
      let nowhere : slice_get (map f (range_with_len 0 n)) k ≡ None =
      slice_get_past (map f (range_with_len 0 n)) k (omega (arith, behind_all, long)) in
      rw nowhere (sym (past behind_all)))
]

no_symbol : (input : Input) (g : Placing) (object number : ℕ) (o : Object)
    → slice_get input.link.objects object ≡ Some o → length o.symbols ≤ number
    → symbol_address input g object number ≡ Missing
no_symbol input g object number o here le =
    let nowhere : symbol_in input.link.objects object number ≡ None =
    rw here (slice_get_past o.symbols number le) in
    rw nowhere refl

-- the address that the row of an object has
pub address_in : (input : Input) (g : Placing) (maps : List WasmObjectIndexMap) (object number : ℕ)
    (m : WasmObjectIndexMap) → AreWholeMaps input g maps → slice_get maps object ≡ Some m
    → unwrap_or (slice_get m.data_addresses number) Missing ≡ symbol_address input g object number
address_in input g maps object number m h at =
    let row = row_of (IsWholeMap input g) 0 input.link.objects maps object m h at in
    let none : 0 + object ≡ object = omega arith in
    let is_map : IsWholeMap input g object row.0 m =
    subst (λ (k : ℕ). IsWholeMap input g k row.0 m) none row.2 in
    ap (λ (l : List WasmDataAddress). unwrap_or (slice_get l number) Missing) is_map.addresses
    ∙ past_or_at (symbol_address input g object) Missing (length row.0.symbols) number
    (no_symbol input g object number row.0 row.1)

-- an object that isn't there has none
pub address_nowhere : (input : Input) (g : Placing) (maps : List WasmObjectIndexMap)
    (object number : ℕ) → AreWholeMaps input g maps → slice_get maps object ≡ None
    → Missing ≡ symbol_address input g object number
address_nowhere input g maps object number h at =
    rw (no_row input g 0 input.link.objects maps object h at) refl

-- so the address of none is refused
pub mem_never : (input : Input) (g : Placing) (d : Definition)
    (result : Result WasmDataAddress LinkError) → Clear (IsAddressTooHigh input g)
    → Contains (got_mem input) d → IfErr result (IsHighAt (address_of_definition input g d))
    → OnErr result ⊥
mem_never input g d (Ok address) low among h = tt
mem_never input g d (Err e) low among h = mem_low input g d low among h.1

-- ---- elements of loops

-- the global of an object that a loop is at
pub global_at : (objects : List Object) (object : ℕ) (o : Object) (items : List DefinedGlobal)
    (i : ℕ) (made : DefinedGlobal) → slice_get objects object ≡ Some o → items ≡ o.globals
    → i < length items → made ≡ get_or items i made → global_in objects object i ≡ Some made
global_at objects object o items i made here same lt is =
    let at : slice_get o.globals i ≡ Some made =
    subst (λ (gs : List DefinedGlobal). slice_get gs i ≡ Some made) same
    (slice_get-get_or items i made lt ∙ ap Some (sym is)) in
    rw here at

-- What slots are bound to, case by case.
use Rattle.std.proofs.Common.{◌≡◌, ◌∙◌, ◌⊎◌, ℕ, zero, suc, ◌<◌, true, List, [], ◌∷◌, length, refl, ap, arith, inl, inr, Option, Some, None, slice_get, Contains, slice_index_or}
use Rattle.std.specs.Option.{MatchOption}
use Rattle.std.proofs.lemmas.Bool.{cases_Bool}
use Rattle.wl_linking.specs.Object.{Object}
use Rattle.wl_custom.specs.Symbols.{Symbol as LinkedSymbol}
use Rattle.wl_custom.specs.declared.symbols.WasmSymbolKind.{WasmSymbolKind}
use Rattle.wl_symbols.specs.Link.{Link}
use Rattle.wl_symbols.specs.LinkerNames.{matches_kind}
use Rattle.wl_symbols.specs.Names.{named, def}
use Rattle.wl_symbols.specs.declared.entry.Definition.{Definition}
use Rattle.wl_symbols.specs.declared.entry.Definition.TheVariants.{Symbol, Made as MadeName}
use Rattle.wl_symbols.specs.declared.linker_symbol.WasmLinkerSymbol.{WasmLinkerSymbol}
use Rattle.wl_symbols.specs.ImportSlots.{ImportSlot}
use Rattle.wl_symbols.specs.SlotTargets.{first_some, own_number, is_definition_of, object_target, made_target, by_definition, by_symbol_name, by_field_name, slot_target}
use Rattle.wl_symbols.specs.SlotCases.{HasDefinition, HasMadeSymbol, HasMadeField, HasNoDefinition, HasNoMadeSymbol, IsBoundTo, IsLeft}
use Rattle.wl_symbols.specs.declared.targets.SlotTarget.{SlotTarget}
use Rattle.wl_symbols.specs.declared.targets.SlotTarget.TheVariants.{Defined, Made}
use Rattle.wl_lists.proofs.Found.{cases_option}

-- ---- the first that gives something

-- what was found is given by one of them
first_found : {X Y : Type 0} (f : X → Option Y) (xs : List X) (y : Y) → first_some f xs ≡ Some y → (x : X) × Contains xs x × (f x ≡ Some y)
first_found f [] y h = absurd cc
first_found f (x ∷ xs) y h = elim (cases_option (f x)) [
  | inl none ↦ (let r = first_found f xs y (rw none at h) in (r.0, (suc r.1.0, omega (arith, r.1.1), r.1.2), r.2))
  | inr some ↦ (let told : Some some.0 ≡ Some y = rw some.1 at h in (x, (zero, omega arith, refl), some.1 ∙ told))
]

-- nothing was found, so that none gives anything
none_at : {X Y : Type 0} (f : X → Option Y) (xs : List X) (x : X) (k : ℕ) → first_some f xs ≡ None → k < length xs → slice_index_or xs k x ≡ x → f x ≡ None
none_at f [] x k h lt is = absurd (omega (arith, lt))
none_at f (y ∷ xs) x zero h lt is = elim (cases_option (f y)) [
  | inl none ↦ rw (← is) none
  | inr some ↦ absurd (let told : Some some.0 ≡ None = rw some.1 at h in cc)
]
none_at f (y ∷ xs) x (suc k) h lt is = elim (cases_option (f y)) [
  | inl none ↦ none_at f xs x k (rw none at h) (omega (arith, lt)) is
  | inr some ↦ absurd (let told : Some some.0 ≡ None = rw some.1 at h in cc)
]

none_given : {X Y : Type 0} (f : X → Option Y) (xs : List X) (x : X) → first_some f xs ≡ None → Contains xs x → f x ≡ None
none_given f xs x h listed = none_at f xs x listed.0 h listed.1 listed.2

-- ---- definitions

-- what an object's definition gives, in parts
record Gives (link : Link) (kind : WasmSymbolKind) (d : Definition) (target : SlotTarget) : Type 0 where
  object : ℕ
  symbol : ℕ
  number : ℕ
  definition : d ≡ Symbol object symbol
  told : target ≡ Defined object number
  o : Object
  object_is : slice_get link.objects object ≡ Some o
  s : LinkedSymbol
  symbol_is : slice_get o.symbols symbol ≡ Some s
  defines : is_definition_of kind s ≡ true
  number_is : own_number kind o s.index ≡ Some number

gives : (link : Link) (kind : WasmSymbolKind) (d : Definition) (target : SlotTarget) → object_target link kind d ≡ Some target → Gives link kind d target
gives link kind (MadeName m) target h = absurd cc
gives link kind (Symbol object symbol) target h = elim (cases_option (slice_get link.objects object)) [
  | inl none ↦ absurd (let told : None ≡ Some target = rw none at h in cc)
  | inr o ↦ elim (cases_option (slice_get (o.0).symbols symbol)) [
    | inl none ↦ absurd (let told : None ≡ Some target = rw (o.1, none) at h in cc)
    | inr s ↦ elim (cases_Bool (is_definition_of kind s.0)) [
      | inr not_so ↦ absurd (let told : None ≡ Some target = rw (o.1, s.1, not_so) at h in cc)
      | inl so ↦ elim (cases_option (own_number kind o.0 (s.0).index)) [
        | inl none ↦ absurd (let told : None ≡ Some target = rw (o.1, s.1, so, none) at h in cc)
        | inr n ↦ (let told : Some (Defined object n.0) ≡ Some target = rw (o.1, s.1, so, n.1) at h in
            record {
              object = object;
              symbol = symbol;
              number = n.0;
              definition = refl;
              told = cc;
              o = o.0;
              object_is = o.1;
              s = s.0;
              symbol_is = s.1;
              defines = so;
              number_is = n.1;
            })
      ]
    ]
  ]
]

-- what the linker makes is given as it is
made_given : (kind : WasmSymbolKind) (d : Definition) (target : SlotTarget) → made_target kind d ≡ Some target
    → (m : WasmLinkerSymbol) × (d ≡ MadeName m) × (target ≡ Made m) × (matches_kind kind m ≡ true)
made_given kind (Symbol object symbol) target h = absurd cc
made_given kind (MadeName m) target h = elim (cases_Bool (matches_kind kind m)) [
  | inl so ↦ (let told : Some (Made m) ≡ Some target = rw so at h in (m, refl, cc, so))
  | inr not_so ↦ absurd (let told : None ≡ Some target = rw not_so at h in cc)
]

-- ---- the rules

-- the first rule gives an object's definition
defined_by : (link : Link) (t : ImportSlot) (target : SlotTarget) → by_definition link t ≡ Some target → IsBoundTo link t target
defined_by link t target h =
    let found = first_found (λ k. object_target link t.kind (def link t.object k)) t.symbols target h in
    let g = gives link t.kind (def link t.object found.0) target found.2 in
    let has : HasDefinition link t g.object g.number = record {
      undefined = found.0;
      on_slot = found.1;
      symbol = g.symbol;
      stands = g.definition;
      o = g.o;
      object_is = g.object_is;
      s = g.s;
      symbol_is = g.symbol_is;
      defines = g.defines;
      number_is = g.number_is;
    } in rw g.told has

-- it gives nothing, so that there is not_so such definition
none_defined : (link : Link) (t : ImportSlot) → by_definition link t ≡ None → HasNoDefinition link t
none_defined link t h object number has =
    let none = none_given (λ k. object_target link t.kind (def link t.object k)) t.symbols has.undefined h has.on_slot in
    let some : object_target link t.kind (def link t.object has.undefined) ≡ Some (Defined object number) =
    rw (has.stands, has.object_is, has.symbol_is, has.defines, has.number_is) refl in
    cc

-- the second rule gives what the linker makes by a symbol
made_by : (link : Link) (t : ImportSlot) (target : SlotTarget) → by_symbol_name link t ≡ Some target
    → (m : WasmLinkerSymbol) × (target ≡ Made m) × HasMadeSymbol link t m
made_by link t target h =
    let found = first_found (λ k. made_target t.kind (def link t.object k)) t.symbols target h in
    let g = made_given t.kind (def link t.object found.0) target found.2 in
    (g.0, g.2, record { undefined = found.0; on_slot = found.1; stands = g.1; of_kind = g.3 })

-- it gives nothing, so that there is not_so such symbol
none_made : (link : Link) (t : ImportSlot) → by_symbol_name link t ≡ None → HasNoMadeSymbol link t
none_made link t h m has =
    let none = none_given (λ k. made_target t.kind (def link t.object k)) t.symbols has.undefined h has.on_slot in
    let some : made_target t.kind (def link t.object has.undefined) ≡ Some (Made m) = rw (has.stands, has.of_kind) refl in
    cc

-- the third rule gives what the linker makes by the field name
field_by : (link : Link) (t : ImportSlot) (target : SlotTarget) → by_field_name link t ≡ Some target
    → (m : WasmLinkerSymbol) × (target ≡ Made m) × HasMadeField link t m
field_by link t target h = elim (cases_option (named link t.item.name)) [
  | inl none ↦ absurd (let told : None ≡ Some target = rw none at h in cc)
  | inr d ↦ (let g = made_given t.kind d.0 target (rw d.1 at h) in
      (g.0, g.2, record { stands = d.1 ∙ ap (λ (x : Definition). Some x) g.1; of_kind = g.3 }))
]

-- it gives nothing, so that the field name stands for not_so such thing
none_by_field : (link : Link) (t : ImportSlot) → by_field_name link t ≡ None → (m : WasmLinkerSymbol) → HasMadeField link t m → ⊥
none_by_field link t h m has =
    let some : by_field_name link t ≡ Some (Made m) = rw (has.stands, has.of_kind) refl in
    cc

-- ---- together

target_made : (link : Link) (t : ImportSlot) (target : SlotTarget) → HasNoDefinition link t
    → (m : WasmLinkerSymbol) × (target ≡ Made m) × (HasMadeSymbol link t m ⊎ (HasNoMadeSymbol link t × HasMadeField link t m))
    → IsBoundTo link t target
target_made link t target none made =
    let bound : IsBoundTo link t (Made made.0) = (none, made.2) in
    rw made.1 bound

-- what the slot is bound to, or that it is left
pub target_cases : (link : Link) (t : ImportSlot) → MatchOption (slot_target link t) (IsLeft link t) (IsBoundTo link t)
target_cases link t = elim (cases_option (by_definition link t)) [
  | inr d ↦ rw d.1 (defined_by link t d.0 d.1)
  | inl not_so ↦ elim (cases_option (by_symbol_name link t)) [
    | inr m ↦ (let g = made_by link t m.0 m.1 in
        rw (not_so, m.1) (target_made link t m.0 (none_defined link t not_so) (g.0, g.1, inl g.2)))
    | inl not_made ↦ elim (cases_option (by_field_name link t)) [
      | inr f ↦ (let g = field_by link t f.0 f.1 in
          rw (not_so, not_made, f.1) (target_made link t f.0 (none_defined link t not_so) (g.0, g.1, inr (none_made link t not_made, g.2))))
      | inl nothing ↦ rw (not_so, not_made, nothing) (record {
        not_defined = none_defined link t not_so;
        not_made = none_made link t not_made;
        not_by_field = none_by_field link t nothing;
      })
    ]
  ]
]

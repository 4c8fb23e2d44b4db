-- The slots of functions by their indices, set one by one.
use Rattle.std.proofs.Common.{◌≡◌, ◌∙◌, ℕ, zero, suc, ◌+◌, ◌<◌, ◌≤◌, ◌==◌, ◌||◌, Bool, true, false, List, [], ◌∷◌, ◌++◌, length, refl, sym, ap, subst, arith, inl, inr, Option, Some, None, slice_get, map, take, get_or, set, replicate, position, unwrap_or, if◌then◌else◌}
use Rattle.std.proofs.Math.Bool.{or-true, or-false}
use Rattle.std.specs.List.{AllZip, list_any, position_from}
use Rattle.std.specs.Option.{option_map, option_or}
use Rattle.std.proofs.lemmas.Bool.{cases_Bool, eq-eqb, eqb-true, and_parts}
use Rattle.std.proofs.lemmas.Iterator.Adapters.{position_from-zero}
use Rattle.std.proofs.lemmas.List.{take_all, length-map}
use Rattle.std.proofs.lemmas.List.Quantifiers.{position-Some}
use Rattle.std.proofs.lemmas.Option.{slice_get-get_or, slice_get_within}
use Rattle.wl_symbols.specs.ImportSlots.{ImportSlot}
use Rattle.wl_symbols.specs.Left.{first_imports}
use Rattle.wl_symbols.specs.declared.linker_symbol.WasmLinkerSymbol.TheVariants.{CallCtors, InitTls}
use Rattle.wl_index.specs.declared.index.TheConstants.{WASM_DEAD_INDEX, MAX_ENTRIES}
use Rattle.wl_bind.specs.FunctionBinding.{link_stubs, host_functions}
use Rattle.wl_bind.specs.FunctionSpace.{FunctionEntry, FunctionOf, InitMemory, host_function_part, made_function_part, init_memory_part, stub_part, kept_functions, functions_of, object_functions, function_parts, function_space}
use Rattle.wl_symbols.specs.Input.{Input}
use Rattle.wl_bind.specs.Made.{is_made, has_init_memory}
use Rattle.wl_bind.specs.Sameness.{same_target}
use Rattle.wl_bind.specs.Scan.{table_functions}
use Rattle.wl_bind.specs.declared.binding.FunctionTarget.{FunctionTarget}
use Rattle.wl_bind.specs.declared.binding.FunctionTarget.TheVariants.{Defined, Made, Host, Stub}
use Rattle.wl_bind.specs.MadeIndices.{AreMadeIndices}
use Rattle.wl_bind.specs.Parts.{StandOnce, joined, AreStarts, HasEntry, lengths_of, starts_from, total}
use Rattle.wl_bind.specs.declared.indices.LinkerDefinedIndices.{LinkerDefinedIndices}
use Rattle.wl_bind.specs.declared.parts.PartStarts.{PartStarts}
use Rattle.wl_plan.specs.Table.{space_slots, slot_of_entry, IsElement}
use Rattle.wl_plan.specs.steps.Table.{is_stub_of, place_slot, slot_among, stub_slot}
use Rattle.wl_lists.proofs.Beside.{zip_length}
use Rattle.wl_lists.proofs.In.{IsIn, in_at, in_split, in_map, in_if}
use Rattle.wl_lists.proofs.Places.{there_is, mapped_at}
use Rattle.wl_plan.proofs.FunctionLaws.{in_object, take_next}
use Rattle.wl_plan.proofs.TableLaws.{TableIs, table_is_few}

-- ---- what is made of each, one by one

same_maps : {E : Type 0} (f g : E → ℕ) (space : List E) → ((j : ℕ) (x : E) → slice_get space j ≡ Some x → f x ≡ g x)
    → map f space ≡ map g space
same_maps f g [] same = refl
same_maps f g (x ∷ space) same =
    let here : f x ≡ g x = same 0 x refl in
    rw (here, same_maps f g space (λ j y at. same (suc j) y at)) refl

pub set_mapped : {E : Type 0} (f g : E → ℕ) (space : List E) (i : ℕ) (e : E) (v : ℕ) → slice_get space i ≡ Some e
    → v ≡ g e → ((j : ℕ) (x : E) → (j ≡ i → ⊥) → slice_get space j ≡ Some x → f x ≡ g x)
    → set (map f space) i v ≡ map g space
set_mapped f g [] i e v at is others = absurd cc
set_mapped f g (x ∷ space) zero e v at is others =
    let same : e ≡ x = cc in
    let here : v ≡ g x = is ∙ ap g same in
    rw (here, same_maps f g space (λ j y there. others (suc j) y (λ z. omega (arith, z)) there)) refl
set_mapped f g (x ∷ space) (suc i) e v at is others =
    let here : f x ≡ g x = others 0 x (λ z. omega (arith, z)) refl in
    rw (here, set_mapped f g space i e v at is (λ j y ne there. others (suc j) y (λ z. ne (omega (arith, z))) there)) refl

pub all_dead : {E : Type 0} (space : List E) (n d : ℕ) → n ≡ length space → replicate n d ≡ map (λ (e : E). d) space
all_dead [] zero d same = refl
all_dead [] (suc n) d same = absurd (omega (arith, same))
all_dead (x ∷ space) zero d same = absurd (omega (arith, same))
all_dead (x ∷ space) (suc n) d same = ap (λ (ds : List ℕ). d ∷ ds) (all_dead space n d (omega (arith, same)))

-- ---- stubs

any_push : {X : Type 0} (test : X → Bool) (xs : List X) (x : X)
    → list_any test (xs ++ x ∷ []) ≡ (list_any test xs || test x)
any_push test [] x = elim (cases_Bool (test x)) [ inl t ↦ rw t refl | inr f ↦ rw f refl ]
any_push test (y ∷ xs) x = elim (cases_Bool (test y)) [ inl t ↦ rw t refl | inr f ↦ rw f (any_push test xs x) ]

stub_of_itself : (t : ImportSlot) → is_stub_of (FunctionOf (Stub t.object t.number)) t ≡ true
stub_of_itself t = rw (eq-eqb t.object t.object refl, eq-eqb t.number t.number refl) refl

is_the_stub : (e : FunctionEntry) (t : ImportSlot) → is_stub_of e t ≡ true → e ≡ FunctionOf (Stub t.object t.number)
is_the_stub (FunctionOf (Stub object slot)) t is =
    let first = object == t.object in
    let second = slot == t.number in
    let a : object ≡ t.object = eqb-true object t.object (and_parts first second is).0 in
    let b : slot ≡ t.number = eqb-true slot t.number (and_parts first second is).1 in
    ap (λ (o : ℕ). FunctionOf (Stub o slot)) a ∙ ap (λ (s : ℕ). FunctionOf (Stub t.object s)) b
is_the_stub (FunctionOf (Defined object function)) t is = absurd cc
is_the_stub (FunctionOf (Made m)) t is = absurd cc
is_the_stub (FunctionOf (Host object slot)) t is = absurd cc
is_the_stub InitMemory t is = absurd cc

-- one more stub has its slot
pub stub_set : (input : Input) (k index : ℕ) (t : ImportSlot) (old new : List ℕ) → StandOnce (function_space input)
    → slice_get (link_stubs input) k ≡ Some t
    → slice_get (function_space input) index ≡ Some (FunctionOf (Stub t.object t.number))
    → new ≡ set old index 0 → old ≡ map (stub_slot (take k (link_stubs input))) (function_space input)
    → new ≡ map (stub_slot (take (k + 1) (link_stubs input))) (function_space input)
stub_set input k index t old new once at stands is so_far =
    let next : k + 1 ≡ suc k = omega arith in
    let stubs : List ImportSlot = take k (link_stubs input) in
    let e : FunctionEntry = FunctionOf (Stub t.object t.number) in
    let more : take (suc k) (link_stubs input) ≡ stubs ++ t ∷ [] = take_next (link_stubs input) k t at in
    let value : (x : FunctionEntry) → stub_slot (stubs ++ t ∷ []) x
    ≡ (if list_any (is_stub_of x) stubs || is_stub_of x t then 0 else WASM_DEAD_INDEX) = λ x.
    ap (λ (b : Bool). if b then 0 else WASM_DEAD_INDEX) (any_push (is_stub_of x) stubs t) in
    let here : 0 ≡ stub_slot (stubs ++ t ∷ []) e =
    sym (value e ∙ ap (λ (b : Bool). if b then 0 else WASM_DEAD_INDEX)
    (ap (λ (b : Bool). list_any (is_stub_of e) stubs || b) (stub_of_itself t) ∙ or-true (list_any (is_stub_of e) stubs))) in
    let others : (j : ℕ) (x : FunctionEntry) → (j ≡ index → ⊥) → slice_get (function_space input) j ≡ Some x
    → stub_slot stubs x ≡ stub_slot (stubs ++ t ∷ []) x = λ j x ne there.
    elim (cases_Bool (is_stub_of x t)) [
      | inl y ↦ absurd (ne (once j index e (there ∙ ap (λ (z : FunctionEntry). Some z) (is_the_stub x t y)) stands))
      | inr n ↦ sym (value x ∙ ap (λ (b : Bool). if b then 0 else WASM_DEAD_INDEX)
          (ap (λ (b : Bool). list_any (is_stub_of x) stubs || b) n ∙ or-false (list_any (is_stub_of x) stubs)))
    ] in
    is ∙ (ap (λ (ns : List ℕ). set ns index 0) so_far
    ∙ (set_mapped (stub_slot stubs) (stub_slot (stubs ++ t ∷ [])) (function_space input) index e 0 stands here others
    ∙ ap (λ (ts : List ImportSlot). map (stub_slot ts) (function_space input)) (sym (rw next more))))

-- ---- a stub of the space is one of the stubs

stub_in : (input : Input) (o s : ℕ) → IsIn (function_space input) (FunctionOf (Stub o s))
    → IsIn (stub_part input) (FunctionOf (Stub o s))
stub_in input o s h =
    let z : FunctionEntry = FunctionOf (Stub o s) in
    let behind : List FunctionEntry = made_function_part input CallCtors ++ (made_function_part input InitTls
    ++ (init_memory_part input ++ (stub_part input ++ []))) in
    elim (in_split (joined (function_parts input)) (object_functions input) z h) [
      | inr own ↦ absurd (
          let g = in_object (functions_of input) 0 input.link.objects z own in
          let c = in_map (λ (k : ℕ). FunctionOf (Defined g.number k)) (kept_functions input g.number g.object) z g.there in
          let e = c.to in cc)
      | inl parts ↦ elim (in_split (host_function_part input) behind z parts) [
        | inl host ↦ absurd (
            let c = in_map (λ (t : ImportSlot). FunctionOf (Host t.object t.number)) (first_imports (host_functions input)) z host in
            let e = c.to in cc)
        | inr after ↦ elim (in_split (made_function_part input CallCtors)
            (made_function_part input InitTls ++ (init_memory_part input ++ (stub_part input ++ []))) z after) [
              | inl ctors ↦ absurd (let c = in_if (is_made input CallCtors) (FunctionOf (Made CallCtors)) z ctors in let e = c.1 in cc)
              | inr others ↦ elim (in_split (made_function_part input InitTls)
                  (init_memory_part input ++ (stub_part input ++ [])) z others) [
                    | inl tls ↦ absurd (let c = in_if (is_made input InitTls) (FunctionOf (Made InitTls)) z tls in let e = c.1 in cc)
                    | inr rest ↦ elim (in_split (init_memory_part input) (stub_part input ++ []) z rest) [
                      | inl init ↦ absurd (let c = in_if (has_init_memory input) InitMemory z init in let e = c.1 in cc)
                      | inr stubs ↦ elim (in_split (stub_part input) [] z stubs) [
                        | inl stub ↦ stub
                        | inr none ↦ absurd none
                      ]
                    ]
                  ]
            ]
      ]
    ]

any_stub : (stubs : List ImportSlot) (e : FunctionEntry)
    → IsIn (map (λ (t : ImportSlot). FunctionOf (Stub t.object t.number)) stubs) e
    → list_any (is_stub_of e) stubs ≡ true
any_stub [] e h = absurd h
any_stub (t ∷ stubs) e h = elim h [
  | inl is ↦ (let P : FunctionEntry → Type 0 = λ x. is_stub_of x t ≡ true in
      let here : is_stub_of e t ≡ true = subst P is (stub_of_itself t) in rw here refl)
  | inr r ↦ elim (cases_Bool (is_stub_of e t)) [ inl y ↦ rw y refl | inr n ↦ rw n (any_stub stubs e r) ]
]

any_never : {X : Type 0} (test : X → Bool) (xs : List X) → ((x : X) → test x ≡ false) → list_any test xs ≡ false
any_never test [] never = refl
any_never test (x ∷ xs) never = rw (never x, any_never test xs never) refl

-- ---- functions of the table

by_entry : (input : Input) (x : FunctionEntry) → IsIn (function_space input) x
    → stub_slot (link_stubs input) x ≡ slot_among [] x
by_entry input (FunctionOf (Stub o s)) h =
    ap (λ (b : Bool). if b then 0 else WASM_DEAD_INDEX)
    (any_stub (link_stubs input) (FunctionOf (Stub o s)) (stub_in input o s h))
by_entry input (FunctionOf (Defined o f)) h =
    ap (λ (b : Bool). if b then 0 else WASM_DEAD_INDEX)
    (any_never (is_stub_of (FunctionOf (Defined o f))) (link_stubs input) (λ t. refl))
by_entry input (FunctionOf (Made m)) h =
    ap (λ (b : Bool). if b then 0 else WASM_DEAD_INDEX)
    (any_never (is_stub_of (FunctionOf (Made m))) (link_stubs input) (λ t. refl))
by_entry input (FunctionOf (Host o s)) h =
    ap (λ (b : Bool). if b then 0 else WASM_DEAD_INDEX)
    (any_never (is_stub_of (FunctionOf (Host o s))) (link_stubs input) (λ t. refl))
by_entry input InitMemory h =
    ap (λ (b : Bool). if b then 0 else WASM_DEAD_INDEX)
    (any_never (is_stub_of InitMemory) (link_stubs input) (λ t. refl))

-- when all stubs have theirs
pub stubs_set : (input : Input) (k : ℕ) (slots : List ℕ) → length (link_stubs input) ≤ k
    → slots ≡ map (stub_slot (take k (link_stubs input))) (function_space input)
    → slots ≡ map (slot_among []) (function_space input)
stubs_set input k slots le so_far =
    let stubs : List ImportSlot = link_stubs input in
    so_far ∙ (ap (λ (ts : List ImportSlot). map (stub_slot ts) (function_space input)) (take_all k stubs le)
    ∙ same_maps (stub_slot stubs) (slot_among []) (function_space input) (λ j x at. by_entry input x
    (in_at (function_space input) j x at)))

-- ---- one more function of the table

push_from : {X : Type 0} (test : X → Bool) (n : ℕ) (xs : List X) (x : X)
    → position_from test n (xs ++ x ∷ []) ≡ option_or (position_from test n xs) (if test x then Some (n + length xs) else None)
push_from test n [] x = let e : n + 0 ≡ n = omega arith in rw e refl
push_from test n (y ∷ xs) x = elim (cases_Bool (test y)) [
  | inl so ↦ rw so refl
  | inr not_so ↦ (let e : n + suc (length xs) ≡ (n + 1) + length xs = omega arith in rw (not_so, e) (push_from test (n + 1) xs x))
]

push_placed : {X : Type 0} (test : X → Bool) (xs : List X) (x : X)
    → position test (xs ++ x ∷ []) ≡ option_or (position test xs) (if test x then Some (length xs) else None)
push_placed test xs x =
    let e : 0 + length xs ≡ length xs = omega arith in
    position_from-zero test (xs ++ x ∷ []) ∙ push_from test 0 xs x
    ∙ ap (λ (n : ℕ). option_or (position_from test 0 xs) (if test x then Some n else None)) e
    ∙ ap (λ (o : Option ℕ). option_or o (if test x then Some (length xs) else None)) (sym (position_from-zero test xs))

or_none : (o : Option ℕ) → option_or o None ≡ o
or_none None = refl
or_none (Some x) = refl

in_take : {X : Type 0} (k : ℕ) (xs : List X) (p : ℕ) (x : X) → slice_get (take k xs) p ≡ Some x
    → (slice_get xs p ≡ Some x) × (p < k)
in_take zero [] p x at = absurd cc
in_take zero (y ∷ xs) p x at = absurd cc
in_take (suc k) [] p x at = absurd cc
in_take (suc k) (y ∷ xs) zero x at = (at, omega arith)
in_take (suc k) (y ∷ xs) (suc p) x at = (let r = in_take k xs p x at in (r.0, omega (arith, r.1)))

length_taken : {X : Type 0} (k : ℕ) (xs : List X) (x : X) → slice_get xs k ≡ Some x → length (take k xs) ≡ k
length_taken k [] x at = absurd cc
length_taken zero (y ∷ xs) x at = refl
length_taken (suc k) (y ∷ xs) x at = ap suc (length_taken k xs x at)

-- no earlier function of the table is the same
none_before : (input : Input) (k : ℕ) (target : FunctionTarget) → TableIs input
    → ((a b : FunctionTarget) → same_target a b ≡ true → a ≡ b) → slice_get (table_functions input) k ≡ Some target
    → position (same_target target) (take k (table_functions input)) ≡ None
none_before input k target is one at = by_case (position (same_target target) (take k (table_functions input))) refl
  where
    by_case : (o : Option ℕ) → position (same_target target) (take k (table_functions input)) ≡ o → o ≡ None
    by_case None e = refl
    by_case (Some p) e = absurd (
        let front : List FunctionTarget = take k (table_functions input) in
        let found = position-Some (same_target target) front p target e in
        let same : target ≡ get_or front p target = one target (get_or front p target) found.1 in
        let there : slice_get front p ≡ Some target =
        slice_get-get_or front p target found.0 ∙ ap (λ (t : FunctionTarget). Some t) (sym same) in
        let inside = in_take k (table_functions input) p target there in
        let equal = is.once p k target target inside.0 at (is.itself target) in
        let lt = inside.1 in
        omega (arith, equal, lt))

-- its slot is the one after its place
own_place : (input : Input) (k : ℕ) (target : FunctionTarget) → TableIs input
    → ((a b : FunctionTarget) → same_target a b ≡ true → a ≡ b) → slice_get (table_functions input) k ≡ Some target
    → place_slot (take k (table_functions input) ++ target ∷ []) target ≡ k + 1
own_place input k target is one at =
    let front : List FunctionTarget = take k (table_functions input) in
    let placed : position (same_target target) (front ++ target ∷ []) ≡ Some (length front) =
    push_placed (same_target target) front target
    ∙ (ap (λ (o : Option ℕ). option_or o (if same_target target target then Some (length front) else None))
    (none_before input k target is one at)
    ∙ ap (λ (b : Bool). if b then Some (length front) else None) (is.itself target)) in
    ap (λ (o : Option ℕ). unwrap_or (option_map (λ (place : ℕ). place + 1) o) WASM_DEAD_INDEX) placed
    ∙ ap (λ (n : ℕ). n + 1) (length_taken k (table_functions input) target at)

other_place : (table : List FunctionTarget) (a target : FunctionTarget) → same_target a target ≡ false
    → place_slot table a ≡ place_slot (table ++ target ∷ []) a
other_place table a target differ =
    sym (ap (λ (o : Option ℕ). unwrap_or (option_map (λ (place : ℕ). place + 1) o) WASM_DEAD_INDEX)
    (push_placed (same_target a) table target
    ∙ (ap (λ (b : Bool). option_or (position (same_target a) table) (if b then Some (length table) else None)) differ
    ∙ or_none (position (same_target a) table))))

here_slot : (input : Input) (k : ℕ) (target : FunctionTarget) → TableIs input
    → ((a b : FunctionTarget) → same_target a b ≡ true → a ≡ b) → slice_get (table_functions input) k ≡ Some target
    → slot_among (take k (table_functions input) ++ target ∷ []) (FunctionOf target) ≡ k + 1
here_slot input k (Stub o s) is one at = absurd (is.stubs k o s at)
here_slot input k (Defined o f) is one at = own_place input k (Defined o f) is one at
here_slot input k (Made m) is one at = own_place input k (Made m) is one at
here_slot input k (Host o s) is one at = own_place input k (Host o s) is one at

differ : (a target : FunctionTarget) → ((a b : FunctionTarget) → same_target a b ≡ true → a ≡ b)
    → (FunctionOf a ≡ FunctionOf target → ⊥) → same_target a target ≡ false
differ a target one ne = elim (cases_Bool (same_target a target)) [
  | inl y ↦ absurd (ne (ap FunctionOf (one a target y)))
  | inr n ↦ n
]

other_slot : (table : List FunctionTarget) (target : FunctionTarget) (x : FunctionEntry)
    → ((a b : FunctionTarget) → same_target a b ≡ true → a ≡ b) → (x ≡ FunctionOf target → ⊥)
    → slot_among table x ≡ slot_among (table ++ target ∷ []) x
other_slot table target InitMemory one ne = refl
other_slot table target (FunctionOf (Stub o s)) one ne = refl
other_slot table target (FunctionOf (Defined o f)) one ne = other_place table (Defined o f) target (differ (Defined o f) target one ne)
other_slot table target (FunctionOf (Made m)) one ne = other_place table (Made m) target (differ (Made m) target one ne)
other_slot table target (FunctionOf (Host o s)) one ne = other_place table (Host o s) target (differ (Host o s) target one ne)

-- one more function of the table has its slot
pub element_set : (input : Input) (k index : ℕ) (target : FunctionTarget) (old new : List ℕ)
    → StandOnce (function_space input) → TableIs input → ((a b : FunctionTarget) → same_target a b ≡ true → a ≡ b)
    → slice_get (table_functions input) k ≡ Some target
    → slice_get (function_space input) index ≡ Some (FunctionOf target) → new ≡ set old index (k + 1)
    → old ≡ map (slot_among (take k (table_functions input))) (function_space input)
    → new ≡ map (slot_among (take (k + 1) (table_functions input))) (function_space input)
element_set input k index target old new once is one at stands told so_far =
    let next : k + 1 ≡ suc k = omega arith in
    let front : List FunctionTarget = take k (table_functions input) in
    let more : take (k + 1) (table_functions input) ≡ front ++ target ∷ [] =
    rw next (take_next (table_functions input) k target at) in
    told ∙ (ap (λ (ns : List ℕ). set ns index (k + 1)) so_far
    ∙ (set_mapped (slot_among front) (slot_among (front ++ target ∷ [])) (function_space input) index (FunctionOf target)
    (k + 1) stands (sym (here_slot input k target is one at))
    (λ j x ne there. other_slot front target x one (λ e. ne (once j index (FunctionOf target)
    (there ∙ ap (λ (z : FunctionEntry). Some z) e) stands)))
    ∙ ap (λ (ts : List FunctionTarget). map (slot_among ts) (function_space input)) (sym more)))

last_slot : (input : Input) (x : FunctionEntry) → slot_among (table_functions input) x ≡ slot_of_entry input x
last_slot input InitMemory = refl
last_slot input (FunctionOf (Stub o s)) = refl
last_slot input (FunctionOf (Defined o f)) = refl
last_slot input (FunctionOf (Made m)) = refl
last_slot input (FunctionOf (Host o s)) = refl

-- when all have theirs
pub elements_set : (input : Input) (k : ℕ) (slots : List ℕ) → length (table_functions input) ≤ k
    → slots ≡ map (slot_among (take k (table_functions input))) (function_space input) → slots ≡ space_slots input
elements_set input k slots le so_far =
    so_far ∙ (ap (λ (ts : List FunctionTarget). map (slot_among ts) (function_space input)) (take_all k (table_functions input) le)
    ∙ same_maps (slot_among (table_functions input)) (slot_of_entry input) (function_space input) (λ j x at. last_slot input x))

-- ---- places of stubs and of elements

next_start : (n : ℕ) (ls : List ℕ) (k len : ℕ) → slice_get ls k ≡ Some len
    → unwrap_or (slice_get (starts_from n ls) (suc k)) (n + total ls)
    ≡ unwrap_or (slice_get (starts_from n ls) k) (n + total ls) + len
next_start n [] k len at = absurd cc
next_start n (l ∷ []) zero len at = let e : l ≡ len = cc in omega (arith, e)
next_start n (l ∷ m ∷ ls) zero len at = let e : l ≡ len = cc in omega (arith, e)
next_start n (l ∷ ls) (suc k) len at =
    let e : (n + l) + total ls ≡ n + (l + total ls) = omega arith in
    subst (λ (end : ℕ). unwrap_or (slice_get (starts_from (n + l) ls) (suc k)) end
    ≡ unwrap_or (slice_get (starts_from (n + l) ls) k) end + len) e (next_start (n + l) ls k len at)

pub has_entry : {X : Type 0} (parts : List (List X)) (s : PartStarts) (k next place len : ℕ) → AreStarts parts s
    → suc k ≡ next → slice_get (lengths_of parts) k ≡ Some len → place < len
    → unwrap_or (slice_get s.starts k) s.end + place < unwrap_or (slice_get s.starts next) s.end
has_entry parts s k next place len are is at lt =
    let ls : List ℕ = lengths_of parts in
    let end : 0 + total ls ≡ total ls = omega arith in
    let step : unwrap_or (slice_get (starts_from 0 ls) (suc k)) (total ls)
    ≡ unwrap_or (slice_get (starts_from 0 ls) k) (total ls) + len =
    subst (λ (n : ℕ). unwrap_or (slice_get (starts_from 0 ls) (suc k)) n
    ≡ unwrap_or (slice_get (starts_from 0 ls) k) n + len) end (next_start 0 ls k len at) in
    let behind : unwrap_or (slice_get (starts_from 0 ls) next) (total ls)
    ≡ unwrap_or (slice_get (starts_from 0 ls) k) (total ls) + len =
    subst (λ (m : ℕ). unwrap_or (slice_get (starts_from 0 ls) m) (total ls)
    ≡ unwrap_or (slice_get (starts_from 0 ls) k) (total ls) + len) is step in
    let last : unwrap_or (slice_get (starts_from 0 ls) next) s.end
    ≡ unwrap_or (slice_get (starts_from 0 ls) k) s.end + len =
    subst (λ (n : ℕ). unwrap_or (slice_get (starts_from 0 ls) next) n
    ≡ unwrap_or (slice_get (starts_from 0 ls) k) n + len) (sym are.end) behind in
    let here : unwrap_or (slice_get s.starts next) s.end ≡ unwrap_or (slice_get s.starts k) s.end + len =
    subst (λ (ns : List ℕ). unwrap_or (slice_get ns next) s.end ≡ unwrap_or (slice_get ns k) s.end + len)
    (sym are.starts) last in
    omega (arith, here, lt)

pub stub_has_entry : (input : Input) (i : LinkerDefinedIndices) (k : ℕ) → AreMadeIndices input i
    → k < length (link_stubs input) → HasEntry i.functions 4 k
stub_has_entry input i k are lt =
    let len = length-map (link_stubs input)
    (λ (t : ImportSlot). FunctionOf (Stub t.object t.number)) in
    let inside : k < length (stub_part input) = omega (arith, lt, len) in
    has_entry (function_parts input) i.functions 4 5 k (length (stub_part input)) are.functions refl refl inside

-- where the stub of a place stands
pub record StubStands (input : Input) (k index : ℕ) : Type 0 where
  pub slot : ImportSlot
  pub at : slice_get (link_stubs input) k ≡ Some slot
  pub stands : slice_get (function_space input) index ≡ Some (FunctionOf (Stub slot.object slot.number))

pub stub_stands_at : (input : Input) (k index : ℕ) → k < length (link_stubs input)
    → slice_get (function_space input) index ≡ slice_get (stub_part input) k → StubStands input k index
stub_stands_at input k index lt told =
    let there = there_is (link_stubs input) k lt in
    record {
      slot = there.0;
      at = there.1;
      stands = told ∙ mapped_at (λ (t : ImportSlot). FunctionOf (Stub t.object t.number)) (link_stubs input) k there.0 there.1;
    }

pub index_within : {E : Type 0} (f : E → ℕ) (space : List E) (index : ℕ) (e : E) (slots : List ℕ)
    → slots ≡ map f space → slice_get space index ≡ Some e → index < length slots
index_within f space index e slots are at =
    let lt = slice_get_within space index e at in
    let len = ap (λ (ns : List ℕ). length ns) are ∙ length-map space f in
    omega (arith, lt, len)

-- the function of the table of a place, and its index
pub record ElementIs (input : Input) (k index : ℕ) : Type 0 where
  pub target : FunctionTarget
  pub at : slice_get (table_functions input) k ≡ Some target
  pub stands : slice_get (function_space input) index ≡ Some (FunctionOf target)

element_in : (input : Input) (targets : List FunctionTarget) (elements : List ℕ) (k d : ℕ)
    → AllZip (IsElement input) targets elements → k < length elements
    → (target : FunctionTarget) × (slice_get targets k ≡ Some target)
    × (slice_get (function_space input) (get_or elements k d) ≡ Some (FunctionOf target))
element_in input [] [] k d zip lt = absurd (omega (arith, lt))
element_in input [] (e ∷ elements) k d zip lt = absurd zip
element_in input (t ∷ targets) [] k d zip lt = absurd zip
element_in input (t ∷ targets) (e ∷ elements) zero d zip lt = (t, refl, zip.0)
element_in input (t ∷ targets) (e ∷ elements) (suc k) d zip lt = element_in input targets elements k d zip.1 (omega (arith, lt))

pub element_is : (input : Input) (elements : List ℕ) (k d : ℕ) → AllZip (IsElement input) (table_functions input) elements
    → k < length elements → ElementIs input k (get_or elements k d)
element_is input elements k d zip lt =
    let e = element_in input (table_functions input) elements k d zip lt in
    record { target = e.0; at = e.1; stands = e.2 }

pub elements_length : (input : Input) (elements : List ℕ) → AllZip (IsElement input) (table_functions input) elements
    → length (table_functions input) ≡ length elements
elements_length input elements zip = zip_length (IsElement input) (table_functions input) elements zip

-- the slot of an element is a number of 32 bits
pub element_fits : (input : Input) (elements : List ℕ) (k : ℕ) → TableIs input
    → AllZip (IsElement input) (table_functions input) elements → length (function_space input) ≤ MAX_ENTRIES
    → k < length elements → k + 1 ≤ MAX_ENTRIES
element_fits input elements k is zip room lt =
    let a = table_is_few input is in
    let b = elements_length input elements zip in
    omega (arith, a, b, room, lt)

-- Entries of the function space, their types, and the functions of the output that they are.
use Rattle.std.specs.Prelude.{MatchOption}
use Rattle.std.proofs.Common.{◌≡◌, ◌∙◌, ℕ, zero, suc, ◌+◌, ◌<◌, ◌≤◌, Bool, true, false, List, [], ◌∷◌, ◌++◌, length, refl, sym, ap, subst, arith, inl, inr, Option, Some, None, slice_get, filter, filter_map, map, take, get_or, is_some, if◌then◌else◌, Contains, Result, Ok, Err, OnOk}
use Rattle.std.specs.List.{AllZip, range_with_len}
use Rattle.std.specs.Option.{option_map, option_map_or, option_and_then, option_to_list, is_none}
use Rattle.std.proofs.lemmas.Bool.{cases_Bool, cases_eq}
use Rattle.std.proofs.lemmas.List.{append-nil, append_assoc, take_all, length-map}
use Rattle.std.proofs.lemmas.Option.{same_Some, get_or_from_slice_get, slice_get-get_or, slice_get_within}
use Rattle.wl_module.specs.Imports.{Imported}
use Rattle.wl_module.specs.Types.{FunctionType}
use Rattle.wl_linking.specs.Object.{Object}
use Rattle.wl_custom.specs.Symbols.{Symbol}
use Rattle.wl_custom.specs.declared.symbols.WasmSymbolKind.{WasmSymbolKind}
use Rattle.wl_symbols.specs.LinkerNames.{kind_of}
use Rattle.wl_custom.specs.declared.symbols.WasmSymbolKind.TheVariants.{Func}
use Rattle.wl_symbols.specs.declared.units.WasmGcUnit.TheVariants.{DefinedFunction}
use Rattle.wl_symbols.specs.declared.linker_symbol.WasmLinkerSymbol.{WasmLinkerSymbol}
use Rattle.wl_symbols.specs.declared.linker_symbol.WasmLinkerSymbol.TheVariants.{CallCtors, InitTls}
use Rattle.wl_symbols.specs.ImportSlots.{ImportSlot, numbered_slots, slot_imports, object_slots, import_slots}
use Rattle.wl_symbols.specs.Left.{HostImport, same_field, is_stub, stub_slots, first_imports, first_slot}
use Rattle.wl_symbols.specs.SlotTargets.{slot_target}
use Rattle.wl_bind.specs.EntryTypes.{type_of_slot, type_of_entry, HasOutputType, HasTypeIndex}
use Rattle.wl_bind.specs.FunctionBinding.{left_functions, link_stubs, host_functions}
use Rattle.wl_bind.specs.FunctionSpace.{FunctionEntry, FunctionOf, InitMemory, host_function_part, made_function_part, init_memory_part, stub_part, kept_functions, functions_of, object_functions, function_parts, function_space}
use Rattle.wl_bind.specs.FunctionTypes.{slot_type, stub_types, type_of_made}
use Rattle.wl_symbols.specs.Input.{Input, keeps}
use Rattle.wl_symbols.specs.KeptSlots.{slots_from, is_kept_slot, kept_slots, left_slots}
use Rattle.wl_bind.specs.Made.{is_made, has_init_memory}
use Rattle.wl_bind.specs.IndexMaps.{IsIndexMap, AreIndexMaps}
use Rattle.wl_bind.specs.MadeIndices.{IsMadeIndex, StandsAt}
use Rattle.wl_index.specs.declared.index_map.WasmObjectIndexMap.{WasmObjectIndexMap}
use Rattle.wl_bind.specs.OutputTypes.{output_types, AreTypeIndices}
use Rattle.wl_bind.specs.References.{IsSettled}
use Rattle.wl_bind.specs.Parts.{joined, by_object}
use Rattle.wl_bind.specs.declared.binding.FunctionTarget.TheVariants.{Defined, Made, Host, Stub}
use Rattle.wl_plan.specs.steps.Functions.{AddsFunctions, IsAllOf, linker_functions, own_function_part, plain_type}
use Rattle.wl_plan.specs.Functions.{own_functions, origin_of, IsOutputFunction}
use Rattle.wl_plan.specs.Origins.{OfObject, OfStub, PlannedFunction}
use Rattle.wl_lists.proofs.Beside.{zip_joined}
use Rattle.wl_lists.proofs.Firsts.{in_firsts}
use Rattle.wl_lists.proofs.In.{filter_in, IsIn, in_at, in_list, in_split, in_front, in_back, in_filter, in_map, map_in, in_if, all_mapped}
use Rattle.wl_lists.proofs.Places.{there_is, mapped_at}
use Rattle.wl_lists.proofs.Rows.{object_in, by_object_more, row_found, row_within}
use Rattle.wl_plan.proofs.ListLaws.{drop_front}

-- ---- what stands at a place

-- one more of what is at the front
pub take_next : {X : Type 0} (xs : List X) (k : ℕ) (x : X) → slice_get xs k ≡ Some x
    → take (suc k) xs ≡ take k xs ++ x ∷ []
take_next [] k x e = absurd cc
take_next {X} (y ∷ xs) zero x e = let same : y ≡ x = cc in ap (λ (z : X). z ∷ []) same
take_next {X} (y ∷ xs) (suc k) x e = ap (λ (zs : List X). y ∷ zs) (take_next xs k x e)

pub filter_at : {X Y : Type 0} (f : X → Option Y) (xs : List X) (k : ℕ) (x : X)
    → ((x : X) → IsIn xs x → (y : Y) × (f x ≡ Some y)) → slice_get xs k ≡ Some x
    → slice_get (filter_map f xs) k ≡ f x
filter_at f [] k x all e = absurd cc
filter_at f (y ∷ xs) zero x all e =
    let here = all y (inl refl) in
    let same : y ≡ x = cc in
    rw here.1 (sym here.1 ∙ ap f same)
filter_at f (y ∷ xs) (suc k) x all e =
    let here = all y (inl refl) in
    rw here.1 (filter_at f xs k x (λ z h. all z (inr h)) e)

-- ---- object by object

pub record Given {X : Type 0} (f : ℕ → Object → List X) (z : X) : Type 0 where
  pub number : ℕ
  pub object : Object
  pub there : IsIn (f number object) z

pub in_object : {X : Type 0} (f : ℕ → Object → List X) (n : ℕ) (objects : List Object) (z : X)
    → IsIn (by_object f n objects) z → Given f z
in_object f n [] z h = absurd h
in_object f n (o ∷ objects) z h = elim (in_split (f n o) (by_object f (n + 1) objects) z h) [
  | inl l ↦ record { number = n; object = o; there = l }
  | inr r ↦ in_object f (n + 1) objects z r
]

-- ---- the space and its parts

abbrev behind_hosts : Input → List FunctionEntry
behind_hosts input =
    made_function_part input CallCtors ++ (made_function_part input InitTls
    ++ (init_memory_part input ++ (stub_part input ++ [])))

pub host_stands : (input : Input) (z : FunctionEntry) → IsIn (host_function_part input) z
    → IsIn (function_space input) z
host_stands input z h =
    in_front (joined (function_parts input)) (object_functions input) z
    (in_front (host_function_part input) (behind_hosts input) z h)

behind_stands : (input : Input) (z : FunctionEntry) → IsIn (behind_hosts input) z
    → IsIn (function_space input) z
behind_stands input z h =
    in_front (joined (function_parts input)) (object_functions input) z
    (in_back (host_function_part input) (behind_hosts input) z h)

pub ctors_stand : (input : Input) (z : FunctionEntry) → IsIn (made_function_part input CallCtors) z
    → IsIn (function_space input) z
ctors_stand input z h =
    behind_stands input z (in_front (made_function_part input CallCtors)
    (made_function_part input InitTls ++ (init_memory_part input ++ (stub_part input ++ []))) z h)

pub tls_stands : (input : Input) (z : FunctionEntry) → IsIn (made_function_part input InitTls) z
    → IsIn (function_space input) z
tls_stands input z h =
    behind_stands input z (in_back (made_function_part input CallCtors)
    (made_function_part input InitTls ++ (init_memory_part input ++ (stub_part input ++ []))) z
    (in_front (made_function_part input InitTls) (init_memory_part input ++ (stub_part input ++ [])) z h))

pub stub_stands : (input : Input) (z : FunctionEntry) → IsIn (stub_part input) z
    → IsIn (function_space input) z
stub_stands input z h =
    behind_stands input z (in_back (made_function_part input CallCtors)
    (made_function_part input InitTls ++ (init_memory_part input ++ (stub_part input ++ []))) z
    (in_back (made_function_part input InitTls) (init_memory_part input ++ (stub_part input ++ [])) z
    (in_back (init_memory_part input) (stub_part input ++ []) z (in_front (stub_part input) [] z h))))

pub own_stands : (input : Input) (object : ℕ) (o : Object) (z : FunctionEntry)
    → slice_get input.link.objects object ≡ Some o → IsIn (functions_of input object o) z
    → IsIn (function_space input) z
own_stands input object o z at h =
    in_back (joined (function_parts input)) (object_functions input) z
    (object_in (functions_of input) 0 object object input.link.objects o z (omega arith) at h)

-- a function that is kept stands in the space
range_in : (a n k : ℕ) → a ≤ k → k < a + n → IsIn (range_with_len a n) k
range_in a zero k le lt = absurd (omega (arith, le, lt))
range_in a (suc n) k le lt = elim (cases_eq a k) [
  | inl e ↦ inl e
  | inr ne ↦ inr (range_in (a + 1) n k (grind (arith, le, ne)) (omega (arith, lt)))
]

pub kept_stands : (input : Input) (object : ℕ) (o : Object) (function : ℕ)
    → slice_get input.link.objects object ≡ Some o → function < length o.functions
    → keeps input object (DefinedFunction function) ≡ true
    → IsIn (function_space input) (FunctionOf (Defined object function))
kept_stands input object o function at lt keep =
    own_stands input object o (FunctionOf (Defined object function)) at
    (map_in (λ (k : ℕ). FunctionOf (Defined object k)) (kept_functions input object o) function
    (filter_in (λ (k : ℕ). keeps input object (DefinedFunction k)) (range_with_len 0 (length o.functions)) function keep
    (range_in 0 (length o.functions) function (omega arith) (omega (arith, lt)))))

-- ---- what the linker makes

host_no_made : (input : Input) (m : WasmLinkerSymbol) → IsIn (host_function_part input) (FunctionOf (Made m)) → ⊥
host_no_made input m h =
    let c = in_map (λ (t : ImportSlot). FunctionOf (Host t.object t.number)) (first_imports (host_functions input)) (FunctionOf (Made m)) h in
    let e = c.to in absurd cc

stub_no_made : (input : Input) (m : WasmLinkerSymbol) → IsIn (stub_part input) (FunctionOf (Made m)) → ⊥
stub_no_made input m h =
    let c = in_map (λ (t : ImportSlot). FunctionOf (Stub t.object t.number)) (link_stubs input) (FunctionOf (Made m)) h in
    let e = c.to in absurd cc

own_no_made : (input : Input) (m : WasmLinkerSymbol) → IsIn (object_functions input) (FunctionOf (Made m)) → ⊥
own_no_made input m h =
    let g = in_object (functions_of input) 0 input.link.objects (FunctionOf (Made m)) h in
    let c = in_map (λ (k : ℕ). FunctionOf (Defined g.number k)) (kept_functions input g.number g.object) (FunctionOf (Made m)) g.there in
    let e = c.to in absurd cc

pub if_in : {X : Type 0} (b : Bool) (x : X) → b ≡ true → IsIn (if b then x ∷ [] else []) x
if_in true x is = inl refl
if_in false x is = absurd cc

in_made : (input : Input) (n m : WasmLinkerSymbol) → IsIn (made_function_part input n) (FunctionOf (Made m))
    → is_made input m ≡ true
in_made input n m h =
    let c = in_if (is_made input n) (FunctionOf (Made n)) (FunctionOf (Made m)) h in
    let e = c.1 in
    let same : n ≡ m = cc in
    let P : WasmLinkerSymbol → Type 0 = λ x. is_made input x ≡ true in
    subst P same c.0

-- what the linker makes stands in the space only where it is made
pub made_is : (input : Input) (m : WasmLinkerSymbol) → IsIn (function_space input) (FunctionOf (Made m))
    → is_made input m ≡ true
made_is input m h =
    let z : FunctionEntry = FunctionOf (Made m) in
    elim (in_split (joined (function_parts input)) (object_functions input) z h) [
      | inr own ↦ absurd (own_no_made input m own)
      | inl parts ↦ elim (in_split (host_function_part input) (behind_hosts input) z parts) [
        | inl host ↦ absurd (host_no_made input m host)
        | inr behind ↦ elim (in_split (made_function_part input CallCtors)
            (made_function_part input InitTls ++ (init_memory_part input ++ (stub_part input ++ []))) z behind) [
              | inl ctors ↦ in_made input CallCtors m ctors
              | inr others ↦ elim (in_split (made_function_part input InitTls)
                  (init_memory_part input ++ (stub_part input ++ [])) z others) [
                    | inl tls ↦ in_made input InitTls m tls
                    | inr rest ↦ elim (in_split (init_memory_part input) (stub_part input ++ []) z rest) [
                      | inl init ↦ absurd (let c = in_if (has_init_memory input) InitMemory z init in let e = c.1 in cc)
                      | inr stubs ↦ elim (in_split (stub_part input) [] z stubs) [
                        | inl stub ↦ absurd (stub_no_made input m stub)
                        | inr none ↦ absurd none
                      ]
                    ]
                  ]
            ]
      ]
    ]

-- the part of a function that the linker makes, by its index
pub no_made : (input : Input) (m : WasmLinkerSymbol) → is_made input m ≡ false → made_function_part input m ≡ []
no_made input m none = ap (λ (b : Bool). if b then FunctionOf (Made m) ∷ [] else []) none

pub no_index : (input : Input) (m : WasmLinkerSymbol) (index : Option ℕ) → IsMadeIndex input m index
    → is_some index ≡ false → made_function_part input m ≡ []
no_index input m None is none = no_made input m is
no_index input m (Some i) is none = absurd cc

pub one_made : (input : Input) (m : WasmLinkerSymbol) (index : ℕ)
    → slice_get (function_space input) index ≡ Some (FunctionOf (Made m))
    → made_function_part input m ≡ FunctionOf (Made m) ∷ []
one_made input m index at =
    ap (λ (b : Bool). if b then FunctionOf (Made m) ∷ [] else [])
    (made_is input m (in_at (function_space input) index (FunctionOf (Made m)) at))

-- that of what copies data for all threads
pub no_init : (input : Input) (index : Option ℕ) → MatchOption index (has_init_memory input ≡ false)
    (λ (i : ℕ). slice_get (function_space input) i ≡ Some InitMemory) → is_some index ≡ false
    → init_memory_part input ≡ []
no_init input None is none = ap (λ (b : Bool). if b then InitMemory ∷ [] else []) is
no_init input (Some i) is none = absurd cc

-- ---- types

pub contains_in : (types more : List FunctionType) (ty : FunctionType) → types ≡ more → Contains more ty
    → Contains types ty
contains_in types more ty same has = subst (λ (ts : List FunctionType). Contains ts ty) (sym same) has

pub ok_then : {T E : Type 0} (r : Result T E) (A B : Type 0) → (A → B) → OnOk r A → OnOk r B
ok_then (Ok x) A B f h = f h
ok_then (Err e) A B f h = tt

-- a type that an entry has is one of the output's
pub has_type : (input : Input) (entry : FunctionEntry) (ty : FunctionType) → HasOutputType input entry
    → type_of_entry input entry ≡ Some ty → Contains (output_types input) ty
has_type input entry ty has is =
    let same : has.ty ≡ ty = same_Some has.ty ty (sym has.has ∙ is) in
    subst (λ (t : FunctionType). Contains (output_types input) t) same has.one

-- a function that the linker makes, where there is an index of it
pub record IsMadeHere (input : Input) (part : List FunctionEntry) (entry : FunctionEntry)
    (ty : FunctionType) : Type 0 where
  pub part_is : part ≡ entry ∷ []
  pub typed : type_of_entry input entry ≡ Some ty
  pub one : Contains (output_types input) ty

pub made_here : (input : Input) (m : WasmLinkerSymbol) (index : Option ℕ) (ty : FunctionType)
    → ((entry : FunctionEntry) → Contains (function_space input) entry → HasOutputType input entry)
    → kind_of m ≡ Func → type_of_made m ≡ Some ty → IsMadeIndex input m index
    → is_some index ≡ true → IsMadeHere input (made_function_part input m) (FunctionOf (Made m)) ty
made_here input m None ty types kind typed is some = absurd cc
made_here input m (Some i) ty types kind typed is some =
    let z : FunctionEntry = FunctionOf (Made m) in
    let at : slice_get (function_space input) i ≡ Some z =
    subst (λ (k : WasmSymbolKind). StandsAt input m k i) kind is in
    record {
      part_is = one_made input m i at;
      typed = typed;
      one = has_type input z ty (types z (in_list (function_space input) z (in_at (function_space input) i z at))) typed;
    }

no_stub_init : (input : Input) → IsIn (stub_part input) InitMemory → ⊥
no_stub_init input h =
    let c = in_map (λ (t : ImportSlot). FunctionOf (Stub t.object t.number)) (link_stubs input) InitMemory h in
    let e = c.to in absurd cc

no_own_init : (input : Input) → IsIn (object_functions input) InitMemory → ⊥
no_own_init input h =
    let g = in_object (functions_of input) 0 input.link.objects InitMemory h in
    let c = in_map (λ (k : ℕ). FunctionOf (Defined g.number k)) (kept_functions input g.number g.object) InitMemory g.there in
    let e = c.to in absurd cc

-- what copies data for all threads stands in the space only where there is some
pub init_is : (input : Input) → IsIn (function_space input) InitMemory → has_init_memory input ≡ true
init_is input h =
    let z : FunctionEntry = InitMemory in
    elim (in_split (joined (function_parts input)) (object_functions input) z h) [
      | inr own ↦ absurd (no_own_init input own)
      | inl parts ↦ elim (in_split (host_function_part input) (behind_hosts input) z parts) [
        | inl host ↦ absurd (let c = in_map (λ (t : ImportSlot). FunctionOf (Host t.object t.number)) (first_imports (host_functions input)) z host in let e = c.to in cc)
        | inr behind ↦ elim (in_split (made_function_part input CallCtors)
            (made_function_part input InitTls ++ (init_memory_part input ++ (stub_part input ++ []))) z behind) [
              | inl ctors ↦ absurd (let c = in_if (is_made input CallCtors) (FunctionOf (Made CallCtors)) z ctors in let e = c.1 in cc)
              | inr others ↦ elim (in_split (made_function_part input InitTls)
                  (init_memory_part input ++ (stub_part input ++ [])) z others) [
                    | inl tls ↦ absurd (let c = in_if (is_made input InitTls) (FunctionOf (Made InitTls)) z tls in let e = c.1 in cc)
                    | inr rest ↦ elim (in_split (init_memory_part input) (stub_part input ++ []) z rest) [
                      | inl init ↦ (in_if (has_init_memory input) InitMemory z init).0
                      | inr stubs ↦ elim (in_split (stub_part input) [] z stubs) [
                        | inl stub ↦ absurd (no_stub_init input stub)
                        | inr none ↦ absurd none
                      ]
                    ]
                  ]
            ]
      ]
    ]

pub init_here : (input : Input) (index : Option ℕ) (ty : FunctionType)
    → ((entry : FunctionEntry) → Contains (function_space input) entry → HasOutputType input entry)
    → ty ≡ plain_type → MatchOption index (has_init_memory input ≡ false)
    (λ (i : ℕ). slice_get (function_space input) i ≡ Some InitMemory) → is_some index ≡ true
    → IsMadeHere input (init_memory_part input) InitMemory ty
init_here input None ty types plain is some = absurd cc
init_here input (Some i) ty types plain is some =
    let typed : type_of_entry input InitMemory ≡ Some ty = ap (λ (t : FunctionType). Some t) (sym plain) in
    let in_space = in_at (function_space input) i InitMemory is in
    record {
      part_is = ap (λ (b : Bool). if b then InitMemory ∷ [] else []) (init_is input in_space);
      typed = typed;
      one = has_type input InitMemory ty (types InitMemory (in_list (function_space input) InitMemory in_space)) typed;
    }

-- ---- functions that are added

pub adds_none : (input : Input) (old : List PlannedFunction) → AddsFunctions input [] old old
adds_none input old = record { more = []; are = tt; grown = sym (append-nil old) }

-- by a function that is all of its entries
pub adds_if_some : (input : Input) (entries : List FunctionEntry) (f : Option PlannedFunction)
    (old new : List PlannedFunction) → IsAllOf input entries f → new ≡ old ++ option_to_list f
    → AddsFunctions input entries old new
adds_if_some input entries f old new all grown =
    record { more = option_to_list f; are = all.are; grown = grown }

pub none_is : (input : Input) (entries : List FunctionEntry) → entries ≡ [] → IsAllOf input entries None
none_is input entries none =
    subst (λ (es : List FunctionEntry). IsAllOf input es None) (sym none) (record { are = tt })

pub one_is : (input : Input) (types : List FunctionType) (entries : List FunctionEntry)
    (entry : FunctionEntry) (ty : FunctionType) (f : PlannedFunction) → types ≡ output_types input
    → entries ≡ entry ∷ [] → type_of_entry input entry ≡ Some ty
    → origin_of input entry ≡ Some f.origin → slice_get types f.type_index ≡ Some ty
    → IsAllOf input entries (Some f)
one_is input types entries entry ty f same is typed from at =
    subst (λ (es : List FunctionEntry). IsAllOf input es (Some f)) (sym is)
    (record {
      are = (
        record {
          origin = from;
          typed = (ty, typed, ap (λ (ts : List FunctionType). slice_get ts f.type_index) (sym same) ∙ at);
        },
        tt,
      );
    })

pub adds_more : (input : Input) (first second : List FunctionEntry) (old middle new : List PlannedFunction)
    → AddsFunctions input first old middle → AddsFunctions input second middle new
    → AddsFunctions input (first ++ second) old new
adds_more input first second old middle new a b = record {
  more = a.more ++ b.more;
  are = zip_joined (IsOutputFunction input (output_types input)) first second a.more b.more a.are b.are;
  grown = b.grown ∙ (ap (λ (fs : List PlannedFunction). fs ++ b.more) a.grown ∙ append_assoc old a.more b.more);
}

pub adds_same : (input : Input) (first second : List FunctionEntry) (old new : List PlannedFunction)
    → first ≡ second → AddsFunctions input first old new → AddsFunctions input second old new
adds_same input first second old new same adds =
    subst (λ (es : List FunctionEntry). AddsFunctions input es old new) same adds

-- ---- the kept functions of an object

-- those with numbers below that one
abbrev pub functions_below : Input → ℕ → ℕ → List FunctionEntry
functions_below input object n =
    map (λ (k : ℕ). FunctionOf (Defined object k))
    (filter (λ (k : ℕ). keeps input object (DefinedFunction k)) (range_with_len 0 n))

kept_more : {Y : Type 0} (p : ℕ → Bool) (g : ℕ → Y) (a n m : ℕ) → a + n ≡ m
    → map g (filter p (range_with_len a (suc n)))
    ≡ map g (filter p (range_with_len a n)) ++ (if p m then g m ∷ [] else [])
kept_more p g a zero m e =
    let same : a ≡ m = omega (arith, e) in
    elim (cases_Bool (p m)) [ inl t ↦ rw (same, t) refl | inr f ↦ rw (same, f) refl ]
kept_more {Y} p g a (suc n) m e =
    let rest = kept_more p g (a + 1) n m (omega (arith, e)) in
    elim (cases_Bool (p a)) [
      | inl t ↦ rw t (ap (λ (ys : List Y). g a ∷ ys) rest)
      | inr f ↦ rw f rest
    ]

pub below_more : (input : Input) (object n : ℕ)
    → functions_below input object n ++ own_function_part input object n ≡ functions_below input object (n + 1)
below_more input object n =
    let next : n + 1 ≡ suc n = omega arith in
    rw next (sym (kept_more (λ (k : ℕ). keeps input object (DefinedFunction k)) (λ (k : ℕ). FunctionOf (Defined object k))
    0 n n (omega arith)))

-- those below the last are all
pub below_is : (input : Input) (object : ℕ) (o : Object) (n : ℕ) → n ≡ length o.functions
    → functions_below input object n ≡ functions_of input object o
below_is input object o n end = ap (λ (k : ℕ). functions_below input object k) end

-- the part of a function that isn't kept, and of one that is
pub no_own : (input : Input) (object n : ℕ) → keeps input object (DefinedFunction n) ≡ false
    → own_function_part input object n ≡ []
no_own input object n none = ap (λ (b : Bool). if b then FunctionOf (Defined object n) ∷ [] else []) none

pub one_own : (input : Input) (object n : ℕ) → keeps input object (DefinedFunction n) ≡ true
    → own_function_part input object n ≡ FunctionOf (Defined object n) ∷ []
one_own input object n is = ap (λ (b : Bool). if b then FunctionOf (Defined object n) ∷ [] else []) is

-- ---- what isn't imported

-- what the linker makes, the stubs, and what objects define
pub own_is : (input : Input)
    → (linker_functions input ++ stub_part input) ++ object_functions input ≡ own_functions input
own_is input =
    let hosts : List FunctionEntry = host_function_part input in
    let ctors : List FunctionEntry = made_function_part input CallCtors in
    let tls : List FunctionEntry = made_function_part input InitTls in
    let init : List FunctionEntry = init_memory_part input in
    let stubs : List FunctionEntry = stub_part input in
    let own : List FunctionEntry = object_functions input in
    let whole = drop_front hosts (behind_hosts input) own in
    let row : behind_hosts input ≡ ((ctors ++ tls) ++ init) ++ stubs =
    ap (λ (es : List FunctionEntry). ctors ++ (tls ++ (init ++ es))) (append-nil stubs)
    ∙ sym (append_assoc (ctors ++ tls) init stubs ∙ append_assoc ctors tls (init ++ stubs)) in
    sym (whole ∙ ap (λ (es : List FunctionEntry). es ++ own) row)

-- ---- where a slot stands

pub record IsLocated (kind : WasmSymbolKind) (objects : List Object) (n : ℕ) (t : ImportSlot) : Type 0 where
  pub place : ℕ
  pub object : Object
  pub at : slice_get objects place ≡ Some object
  pub number : t.object ≡ n + place
  pub here : slice_get (object_slots t.object kind object) t.number ≡ Some t

record IsNumbered (object : ℕ) (kind : WasmSymbolKind) (symbols : List Symbol) (n : ℕ) (imports : List Imported) (t : ImportSlot) : Type 0 where
  pub place : ℕ
  pub object_is : t.object ≡ object
  pub number_is : t.number ≡ n + place
  pub here : slice_get (numbered_slots object kind symbols n imports) place ≡ Some t

numbered : (object : ℕ) (kind : WasmSymbolKind) (symbols : List Symbol) (n : ℕ) (imports : List Imported) (t : ImportSlot)
    → IsIn (numbered_slots object kind symbols n imports) t → IsNumbered object kind symbols n imports t
numbered object kind symbols n [] t h = absurd h
numbered object kind symbols n (i ∷ imports) t h = elim h [
  | inl e ↦ record {
    place = 0;
    object_is = ap (λ (s : ImportSlot). s.object) (sym e);
    number_is = (let same : n ≡ t.number = ap (λ (s : ImportSlot). s.number) e in omega (arith, same));
    here = ap (λ (s : ImportSlot). Some s) e;
  }
  | inr r ↦ (let rest = numbered object kind symbols (n + 1) imports t r in record {
    place = suc rest.place;
    object_is = rest.object_is;
    number_is = (let same = rest.number_is in omega (arith, same));
    here = rest.here;
  })
]

pub located : (kind : WasmSymbolKind) (n : ℕ) (objects : List Object) (t : ImportSlot) → IsIn (slots_from kind n objects) t
    → IsLocated kind objects n t
located kind n [] t h = absurd h
located kind n (o ∷ objects) t h = elim (in_split (object_slots n kind o) (slots_from kind (n + 1) objects) t h) [
  | inl l ↦ (let is = numbered n kind o.symbols 0 (slot_imports kind o.imports) t l in
      let number : is.place ≡ t.number = let e = is.number_is in omega (arith, e) in
      let first : t.object ≡ n = is.object_is in
      let there : slice_get (object_slots n kind o) t.number ≡ Some t =
      subst (λ (k : ℕ). slice_get (object_slots n kind o) k ≡ Some t) number is.here in record {
        place = 0;
        object = o;
        at = refl;
        number = omega (arith, first);
        here = subst (λ (k : ℕ). slice_get (object_slots k kind o) t.number ≡ Some t) (sym first) there;
      })
  | inr r ↦ (let is = located kind (n + 1) objects t r in record {
    place = suc is.place;
    object = is.object;
    at = is.at;
    number = (let e = is.number in omega (arith, e));
    here = is.here;
  })
]

-- the object of a slot of a link
pub slot_object : (kind : WasmSymbolKind) (objects : List Object) (t : ImportSlot) (is : IsLocated kind objects 0 t)
    → slice_get objects t.object ≡ Some is.object
slot_object kind objects t is =
    let number : is.place ≡ t.object = let e = is.number in omega (arith, e) in
    subst (λ (k : ℕ). slice_get objects k ≡ Some is.object) number is.at

pub slot_here : (kind : WasmSymbolKind) (objects : List Object) (t : ImportSlot) → IsLocated kind objects 0 t
    → slice_get (import_slots objects t.object kind) t.number ≡ Some t
slot_here kind objects t is =
    ap (λ (o : Option Object). slice_get (option_map_or (object_slots t.object kind) o []) t.number)
    (slot_object kind objects t is) ∙ is.here

pub left_located : (input : Input) (kind : WasmSymbolKind) (t : ImportSlot) → IsIn (left_slots input kind) t
    → IsLocated kind input.link.objects 0 t
left_located input kind t h =
    located kind 0 input.link.objects t
    (in_filter (is_kept_slot input) (slots_from kind 0 input.link.objects) t
    (in_filter (λ (s : ImportSlot). is_none (slot_target input.link s)) (kept_slots input kind) t h))

pub stub_located : (input : Input) (t : ImportSlot) → IsIn (link_stubs input) t → IsLocated Func input.link.objects 0 t
stub_located input t h =
    left_located input Func t
    (in_filter (is_stub input.link.objects (left_functions input)) (left_functions input) t
    (in_firsts same_field (stub_slots input.link.objects (left_functions input)) t h))

-- ---- stubs

-- the type of a stub is that of its slot
slot_typed : (input : Input) (t : ImportSlot) → IsLocated Func input.link.objects 0 t
    → type_of_slot input t.object t.number ≡ slot_type input.link.objects t
slot_typed input t is =
    ap (option_and_then (slot_type input.link.objects)) (slot_here Func input.link.objects t is)

abbrev pub TypesStubs : Input → Type 0
TypesStubs input = (t : ImportSlot) → IsIn (link_stubs input) t
    → (ty : FunctionType) × (slot_type input.link.objects t ≡ Some ty)

pub stubs_typed : (input : Input)
    → ((entry : FunctionEntry) → Contains (function_space input) entry → HasOutputType input entry)
    → TypesStubs input
stubs_typed input typed t h =
    let z : FunctionEntry = FunctionOf (Stub t.object t.number) in
    let has = typed z (in_list (function_space input) z (stub_stands input z
    (map_in (λ (s : ImportSlot). FunctionOf (Stub s.object s.number)) (link_stubs input) t h))) in
    (has.ty, sym (slot_typed input t (stub_located input t h)) ∙ has.has)

-- the stub of a place, with its type and its name
pub record StubIs (input : Input) (place : ℕ) (ty : FunctionType) (name : List ℕ) : Type 0 where
  pub slot : ImportSlot
  pub here : slice_get (stub_part input) place ≡ Some (FunctionOf (Stub slot.object slot.number))
  pub typed : type_of_entry input (FunctionOf (Stub slot.object slot.number)) ≡ Some ty
  pub one : Contains (output_types input) ty
  pub origin : origin_of input (FunctionOf (Stub slot.object slot.number)) ≡ Some (OfStub name)

-- what the laws of entries say
abbrev pub HaveTypes : Input → Type 0
HaveTypes input = (entry : FunctionEntry) → Contains (function_space input) entry → HasOutputType input entry

pub stubs_length : (input : Input) → HaveTypes input → length (stub_types input) ≡ length (link_stubs input)
stubs_length input typed =
    all_mapped (slot_type input.link.objects) (link_stubs input) (stubs_typed input typed)

pub stub_place : (input : Input) (k : ℕ) → HaveTypes input → k < length (map first_slot (link_stubs input))
    → k < length (stub_types input)
stub_place input k typed lt =
    let a = stubs_length input typed in
    let b = length-map (link_stubs input) first_slot in
    omega (arith, a, b, lt)

pub stub_is : (input : Input) (k : ℕ) (h : HostImport) (ty : FunctionType) → HaveTypes input
    → k < length (map first_slot (link_stubs input)) → h ≡ get_or (map first_slot (link_stubs input)) k h
    → ty ≡ get_or (stub_types input) k ty → StubIs input k ty h.name
stub_is input k h ty typed lt host-at type-at =
    let stubs : List ImportSlot = link_stubs input in
    let len = length-map stubs first_slot in
    let there = there_is stubs k (omega (arith, len, lt)) in
    let t : ImportSlot = there.0 in
    let inside = in_at stubs k t there.1 in
    let host : h ≡ first_slot t =
    host-at ∙ get_or_from_slice_get (map first_slot stubs) k (first_slot t) h (mapped_at first_slot stubs k t there.1) in
    let has = stubs_typed input typed t inside in
    let here : slice_get (stub_types input) k ≡ Some has.0 =
    filter_at (slot_type input.link.objects) stubs k t (stubs_typed input typed) there.1 ∙ has.1 in
    let same : ty ≡ has.0 = type-at ∙ get_or_from_slice_get (stub_types input) k has.0 ty here in
    let z : FunctionEntry = FunctionOf (Stub t.object t.number) in
    let is = stub_located input t inside in
    let is-typed : type_of_entry input z ≡ Some ty =
    slot_typed input t is ∙ (has.1 ∙ ap (λ (u : FunctionType). Some u) (sym same)) in
    record {
      slot = t;
      here = mapped_at (λ (s : ImportSlot). FunctionOf (Stub s.object s.number)) stubs k t there.1;
      typed = is-typed;
      one = has_type input z ty (typed z (in_list (function_space input) z (stub_stands input z
          (map_in (λ (s : ImportSlot). FunctionOf (Stub s.object s.number)) stubs t inside)))) is-typed;
      origin = ap (λ (s : Option ImportSlot). option_map (λ (u : ImportSlot). OfStub u.item.name) s)
          (slot_here Func input.link.objects t is)
          ∙ ap (λ (g : HostImport). Some (OfStub g.name)) (sym host);
    }

-- one more stub
pub stub_more : (input : Input) (k : ℕ) (ty : FunctionType) (types : List FunctionType) (name seen : List ℕ)
    (number : ℕ) (first old new : List PlannedFunction) → types ≡ output_types input → seen ≡ name
    → StubIs input k ty name → slice_get types number ≡ Some ty
    → new ≡ old ++ record { type_index = number; origin = OfStub seen } ∷ []
    → AddsFunctions input (take k (stub_part input)) first old
    → AddsFunctions input (take (k + 1) (stub_part input)) first new
stub_more input k ty types name seen number first old new types-are same is at grown so_far =
    let z : FunctionEntry = FunctionOf (Stub is.slot.object is.slot.number) in
    let f : PlannedFunction = record { type_index = number; origin = OfStub seen } in
    let next : k + 1 ≡ suc k = omega arith in
    rw next (adds_same input (take k (stub_part input) ++ z ∷ []) (take (suc k) (stub_part input)) first new
    (sym (take_next (stub_part input) k z is.here))
    (adds_more input (take k (stub_part input)) (z ∷ []) first old new so_far
    (adds_if_some input (z ∷ []) (Some f) old new
    (one_is input types (z ∷ []) z ty f types-are refl is.typed
    (is.origin ∙ ap (λ (n : List ℕ). Some (OfStub n)) (sym same)) at) grown)))

pub stubs_done : (input : Input) (k : ℕ) (first new : List PlannedFunction)
    → length (map first_slot (link_stubs input)) ≤ k
    → AddsFunctions input (take k (stub_part input)) first new → AddsFunctions input (stub_part input) first new
stubs_done input k first new le so_far =
    let a = length-map (link_stubs input) first_slot in
    let b = length-map (link_stubs input)
    (λ (t : ImportSlot). FunctionOf (Stub t.object t.number)) in
    let all : length (stub_part input) ≤ k = omega (arith, a, b, le) in
    adds_same input (take k (stub_part input)) (stub_part input) first new (take_all k (stub_part input) all) so_far

-- without types of stubs there are no stubs
pub no_stubs : (input : Input) (old : List PlannedFunction) → HaveTypes input → length (stub_types input) ≡ 0
    → AddsFunctions input (stub_part input) old old
no_stubs input old typed none =
    let a = length-map (link_stubs input) first_slot in
    let b = stubs_length input typed in
    stubs_done input 0 old old (omega (arith, a, b, none)) (adds_none input old)

-- ---- a function that an object defines

-- a kept function has a type, and the map of its object leads to it
abbrev pub LeadsToType : Input → ℕ → Object → List ℕ → ℕ → Type 0
LeadsToType input object o indices function =
    (number : ℕ) × (slice_get o.functions function ≡ Some number) × HasTypeIndex input (FunctionOf (Defined object function)) indices number

abbrev pub HaveTypeIndices : Input → Type 0
HaveTypeIndices input = (object : ℕ) (o : Object) (indices : List ℕ) (function : ℕ) → IsSettled input → slice_get input.link.objects object ≡ Some o
    → AreTypeIndices input object o indices → Contains (kept_functions input object o) function → LeadsToType input object o indices function

pub own_leads : (input : Input) (object : ℕ) (o : Object) (indices : List ℕ) (function : ℕ) → HaveTypeIndices input → IsSettled input
    → slice_get input.link.objects object ≡ Some o → AreTypeIndices input object o indices → function < length o.functions
    → keeps input object (DefinedFunction function) ≡ true → LeadsToType input object o indices function
own_leads input object o indices function have settled at are lt keep =
    have object o indices function settled at are (in_list (kept_functions input object o) function
    (filter_in (λ (k : ℕ). keeps input object (DefinedFunction k)) (range_with_len 0 (length o.functions)) function keep
    (range_in 0 (length o.functions) function (omega arith) (omega (arith, lt)))))

-- the number of its type is one of those of the map
pub own_within : (input : Input) (object : ℕ) (o : Object) (indices numbers : List ℕ) (function d : ℕ) → numbers ≡ o.functions
    → LeadsToType input object o indices function → get_or numbers function d < length indices
own_within input object o indices numbers function d same led =
    let number : get_or numbers function d ≡ led.0 = ap (λ (ns : List ℕ). get_or ns function d) same ∙ get_or_from_slice_get o.functions function led.0 d led.1 in
    let within = slice_get_within indices led.0 led.2.index led.2.at in
    omega (arith, number, within)

-- and there stands the place of its type
pub own_found : (input : Input) (object : ℕ) (o : Object) (indices numbers : List ℕ) (function d e index : ℕ) → numbers ≡ o.functions
    → index ≡ get_or indices (get_or numbers function d) e → LeadsToType input object o indices function
    → keeps input object (DefinedFunction function) ≡ true
    → IsAllOf input (own_function_part input object function) (Some (record { type_index = index; origin = OfObject object function }))
own_found input object o indices numbers function d e index same is led keep =
    let number : get_or numbers function d ≡ led.0 = ap (λ (ns : List ℕ). get_or ns function d) same ∙ get_or_from_slice_get o.functions function led.0 d led.1 in
    let there : index ≡ led.2.index = is ∙ (ap (λ (n : ℕ). get_or indices n e) number ∙ get_or_from_slice_get indices led.0 led.2.index e led.2.at) in
    let typed : slice_get (output_types input) index ≡ Some led.2.ty = ap (slice_get (output_types input)) there ∙ led.2.typed in
    one_is input (output_types input) (own_function_part input object function) (FunctionOf (Defined object function)) led.2.ty
    (record { type_index = index; origin = OfObject object function }) refl (one_own input object function keep) led.2.has refl typed

-- the indices of the types of an object, by its map
pub types_in_row : (input : Input) (maps : List WasmObjectIndexMap) (k : ℕ) (o : Object) (m : WasmObjectIndexMap) (indices : List ℕ) → AreIndexMaps input maps
    → slice_get input.link.objects k ≡ Some o → m ≡ get_or maps k m → indices ≡ m.type_indices → AreTypeIndices input k o indices
types_in_row input maps k o m indices are at is same =
    let within = row_within (IsIndexMap input) input.link.objects maps k o are at in
    let here : slice_get maps k ≡ Some m = slice_get-get_or maps k m within ∙ ap (λ (n : WasmObjectIndexMap). Some n) (sym is) in
    let row : IsIndexMap input k o m = row_found (IsIndexMap input) input.link.objects maps k o m are at here in
    subst (λ (ns : List ℕ). AreTypeIndices input k o ns) (sym same) row.types

-- what one more object adds
pub objects_more : (input : Input) (k : ℕ) (o : Object) (front : List FunctionEntry)
    (first old new : List PlannedFunction) → slice_get input.link.objects k ≡ Some o
    → AddsFunctions input (functions_of input k o) old new
    → AddsFunctions input (front ++ by_object (functions_of input) 0 (take k input.link.objects)) first old
    → AddsFunctions input (front ++ by_object (functions_of input) 0 (take (k + 1) input.link.objects)) first new
objects_more input k o front first old new at adds so_far =
    let done : List FunctionEntry = by_object (functions_of input) 0 (take k input.link.objects) in
    let all : (front ++ done) ++ functions_of input k o
    ≡ front ++ by_object (functions_of input) 0 (take (k + 1) input.link.objects) =
    append_assoc front done (functions_of input k o)
    ∙ ap (λ (es : List FunctionEntry). front ++ es)
    (sym (by_object_more (functions_of input) 0 input.link.objects k k o (omega arith) at)) in
    adds_same input ((front ++ done) ++ functions_of input k o)
    (front ++ by_object (functions_of input) 0 (take (k + 1) input.link.objects)) first new all
    (adds_more input (front ++ done) (functions_of input k o) first old new so_far adds)

-- what was added to nothing is all of the list
pub adds_all : (input : Input) (entries : List FunctionEntry) (new : List PlannedFunction)
    → AddsFunctions input entries [] new
    → AllZip (IsOutputFunction input (output_types input)) entries new
adds_all input entries new adds =
    subst (λ (fs : List PlannedFunction). AllZip (IsOutputFunction input (output_types input)) entries fs)
    (sym adds.grown) adds.are

pub objects_all : (input : Input) (k : ℕ) (old new : List PlannedFunction)
    → length input.link.objects ≤ k
    → AddsFunctions input (by_object (functions_of input) 0 (take k input.link.objects)) old new
    → AddsFunctions input (object_functions input) old new
objects_all input k old new le so_far =
    subst (λ (os : List Object). AddsFunctions input (by_object (functions_of input) 0 os) old new)
    (take_all k input.link.objects le) so_far

pub all_are : (input : Input) (old new : List PlannedFunction) → old ≡ []
    → AddsFunctions input ((linker_functions input ++ stub_part input) ++ object_functions input) old new
    → AllZip (IsOutputFunction input (output_types input)) (own_functions input) new
all_are input old new none adds =
    let all = (linker_functions input ++ stub_part input) ++ object_functions input in
    adds_all input (own_functions input) new
    (adds_same input all (own_functions input) [] new (own_is input)
    (subst (λ (fs : List PlannedFunction). AddsFunctions input all fs new) none adds))

-- Which exports are wrapped, and what they and the wrappers lead to.
use Rattle.std.specs.Int.{from_bool}
use Rattle.std.proofs.Common.{◌≡◌, ◌∙◌, ◌≤◌, ◌<◌, ℕ, zero, suc, ◌+◌, ◌&&◌, ◌||◌, Bool, true, false, not, nat_le, List, [], ◌∷◌, ◌++◌, length, map, filter, take, get_or, refl, sym, ap, subst, arith, inl, inr, Some, slice_get, if◌then◌else◌, append_assoc, append-nil, length-append}
use Rattle.std.specs.List.{AllZip, list_any}
use Rattle.std.specs.Str.{bytes_eq}
use Rattle.std.proofs.lemmas.Bool.{cases_Bool, and_parts}
use Rattle.std.proofs.lemmas.List.{take_more, take_all}
use Rattle.std.proofs.lemmas.List.Elements.{filter-append}
use Rattle.std.proofs.lemmas.Option.{same_Some, slice_get_within}
use Rattle.wl_module.specs.Exports.{Exported}
use Rattle.wl_module.specs.declared.imports.ExternalKind.TheVariants as external
use Rattle.wl_linking.specs.Object.{Object}
use Rattle.wl_symbols.specs.LinkerNames.{name_of}
use Rattle.wl_symbols.specs.declared.linker_symbol.WasmLinkerSymbol.TheVariants.{CallCtors, InitTls}
use Rattle.wl_symbols.specs.ImportSlots.{ImportSlot}
use Rattle.wl_symbols.specs.Left.{first_imports}
use Rattle.wl_bind.specs.FunctionBinding.{link_stubs, host_functions}
use Rattle.wl_bind.specs.FunctionSpace.{FunctionEntry, FunctionOf, InitMemory, host_function_part, made_function_part, init_memory_part, stub_part, kept_functions, functions_of, object_functions, function_space}
use Rattle.wl_symbols.specs.Input.{Input}
use Rattle.wl_bind.specs.Made.{is_made, has_init_functions, has_init_memory}
use Rattle.wl_bind.specs.Parts.{by_object}
use Rattle.wl_bind.specs.declared.binding.FunctionTarget.TheVariants.{Defined, Made, Host, Stub}
use Rattle.wl_exports.specs.Exports.{ExportEntry, Entity, OfFunction, OfGlobal, OfTable, OfMemory, exports}
use Rattle.wl_exports.specs.Sources.{IsOf, IsPlainExport}
use Rattle.wl_exports.specs.steps.Wrappers.{with_export, with_wrapper}
use Rattle.wl_exports.specs.Wrapped.{WrapperEntry, is_wrapped, IsExportIf, IsExportAt, IsWrapper, AreOutputExports, AreWrappers}
use Rattle.wl_exports.specs.Wrappers.{is_ctors_name, calls_ctors, wraps, can_wrap, is_own, is_own_function, wrapped}
use Rattle.wl_lists.proofs.Beside.{zip_left, zip_length, zip_joined}
use Rattle.wl_lists.proofs.In.{IsIn, in_at, in_split}
use Rattle.wl_lists.proofs.Places.{append_split, came_at}

-- ---- functions that aren't imported

abbrev AreOwn : List FunctionEntry → Type 0
AreOwn fs = (f : FunctionEntry) → IsIn fs f → is_own f ≡ true

own_joined : (fs gs : List FunctionEntry) → AreOwn fs → AreOwn gs → AreOwn (fs ++ gs)
own_joined fs gs a b f h = elim (in_split fs gs f h) [ inl l ↦ a f l | inr r ↦ b f r ]

own_mapped : {X : Type 0} (f : X → FunctionEntry) (xs : List X) → ((x : X) → is_own (f x) ≡ true) → AreOwn (map f xs)
own_mapped f [] own g h = absurd h
own_mapped f (x ∷ xs) own g h = elim h [
  | inl e ↦ subst (λ (k : FunctionEntry). is_own k ≡ true) e (own x)
  | inr r ↦ own_mapped f xs own g r
]

own_if : (b : Bool) (x : FunctionEntry) → is_own x ≡ true → AreOwn (if b then x ∷ [] else [])
own_if true x own f h = elim h [
  | inl e ↦ subst (λ (k : FunctionEntry). is_own k ≡ true) e own
  | inr none ↦ absurd none
]
own_if false x own f h = absurd h

own_objects : (input : Input) (n : ℕ) (objects : List Object) → AreOwn (by_object (functions_of input) n objects)
own_objects input n [] f h = absurd h
own_objects input n (o ∷ objects) f h =
    own_joined (functions_of input n o) (by_object (functions_of input) (n + 1) objects)
    (own_mapped (λ k. FunctionOf (Defined n k)) (kept_functions input n o) (λ k. refl))
    (own_objects input (n + 1) objects) f h

-- what comes after the host imports
abbrev behind_hosts : Input → List FunctionEntry
behind_hosts input =
    made_function_part input CallCtors ++ (made_function_part input InitTls
    ++ (init_memory_part input ++ (stub_part input ++ [])))

own_behind : (input : Input) → AreOwn (behind_hosts input ++ object_functions input)
own_behind input =
    own_joined (behind_hosts input) (object_functions input)
    (own_joined (made_function_part input CallCtors)
    (made_function_part input InitTls ++ (init_memory_part input ++ (stub_part input ++ [])))
    (own_if (is_made input CallCtors) (FunctionOf (Made CallCtors)) refl)
    (own_joined (made_function_part input InitTls) (init_memory_part input ++ (stub_part input ++ []))
    (own_if (is_made input InitTls) (FunctionOf (Made InitTls)) refl)
    (own_joined (init_memory_part input) (stub_part input ++ [])
    (own_if (has_init_memory input) InitMemory refl)
    (own_joined (stub_part input) []
    (own_mapped (λ (t : ImportSlot). FunctionOf (Stub t.object t.number)) (link_stubs input) (λ t. refl))
    (λ f h. absurd h)))))
    (own_objects input 0 input.link.objects)

space_is : (input : Input)
    → function_space input ≡ host_function_part input ++ (behind_hosts input ++ object_functions input)
space_is input = append_assoc (host_function_part input) (behind_hosts input) (object_functions input)

not_host : (input : Input) (i : ℕ) (f : FunctionEntry) → slice_get (host_function_part input) i ≡ Some f
    → is_own f ≡ false
not_host input i f at =
    let h = came_at (λ (t : ImportSlot). FunctionOf (Host t.object t.number)) (first_imports (host_functions input)) i f at in
    subst (λ (k : FunctionEntry). is_own k ≡ false) h.2 refl

le_true : (a b : ℕ) → a ≤ b → nat_le a b ≡ true
le_true a b h = grind arith

le_false : (a b : ℕ) → b < a → nat_le a b ≡ false
le_false a b h = grind arith

-- the function is imported where its index is below theirs
pub own_by_index : (input : Input) (i hosts : ℕ) (f : FunctionEntry) → hosts ≡ length (host_function_part input)
    → slice_get (function_space input) i ≡ Some f → nat_le hosts i ≡ is_own f
own_by_index input i hosts f count at =
    let rest : List FunctionEntry = behind_hosts input ++ object_functions input in
    let here : slice_get (host_function_part input ++ rest) i ≡ Some f =
    subst (λ (fs : List FunctionEntry). slice_get fs i ≡ Some f) (space_is input) at in
    elim (append_split (host_function_part input) rest i f here) [
      | inl front ↦
          let within = slice_get_within (host_function_part input) i f front in
          le_false hosts i (omega (arith, count, within)) ∙ sym (not_host input i f front)
      | inr behind ↦
          let place = behind.1 in
          le_true hosts i (omega (arith, count, place)) ∙ sym (own_behind input f (in_at rest behind.0 f behind.2))
    ]

pub own_function : (input : Input) (entity : Entity) (x : Exported) (hosts : ℕ) → IsOf input entity x
    → x.kind ≡ external.Func → hosts ≡ length (host_function_part input)
    → nat_le hosts x.index ≡ is_own_function entity
own_function input (OfFunction f) x hosts is kind count = own_by_index input x.index hosts f count is.1
own_function input (OfGlobal g) x hosts is kind count = let h = is.0 in absurd cc
own_function input OfTable x hosts is kind count = let h = is.0 in absurd cc
own_function input OfMemory x hosts is kind count = let h = is.0 in absurd cc

-- ---- names

pub ctors_zip : (input : Input) (es : List ExportEntry) (xs : List Exported) → AllZip (IsPlainExport input) es xs
    → list_any (λ (x : Exported). is_ctors_name x.name) xs ≡ list_any (λ (e : ExportEntry). is_ctors_name e.name) es
ctors_zip input [] [] zip = refl
ctors_zip input [] (x ∷ xs) zip = absurd zip
ctors_zip input (e ∷ es) [] zip = absurd zip
ctors_zip input (e ∷ es) (x ∷ xs) zip =
    ap (λ (n : List ℕ). is_ctors_name n || list_any (λ (x : Exported). is_ctors_name x.name) xs) zip.0.name
    ∙ ap (λ (b : Bool). is_ctors_name e.name || b) (ctors_zip input es xs zip.1)

pub wraps_is : (input : Input) (xs : List Exported) (named_so : Bool) → has_init_functions input ≡ true
    → list_any calls_ctors input.link.objects ≡ false → AllZip (IsPlainExport input) (exports input) xs
    → named_so ≡ list_any (λ (x : Exported). is_ctors_name x.name) xs → not named_so ≡ wraps input
wraps_is input xs named_so some own zip is =
    let names = ctors_zip input (exports input) xs zip in
    rw (some, own) (ap not (is ∙ names))

-- ---- those that are wrapped

filter_none : {X : Type 0} (xs : List X) → filter (λ (x : X). false) xs ≡ []
filter_none [] = refl
filter_none (x ∷ xs) = filter_none xs

filter_and : {X : Type 0} (b : Bool) (p : X → Bool) (xs : List X)
    → (if b then filter p xs else []) ≡ filter (λ (x : X). b && p x) xs
filter_and true p xs = refl
filter_and false p xs = sym (filter_none xs)

pub wrapped_is : (input : Input) → wrapped input ≡ filter (is_wrapped input) (exports input)
wrapped_is input = filter_and (wraps input) can_wrap (exports input)

filter_one : {X : Type 0} (p : X → Bool) (x : X) → filter p (x ∷ []) ≡ (if p x then x ∷ [] else [])
filter_one p x = elim (cases_Bool (p x)) [ inl t ↦ rw t refl | inr f ↦ rw f refl ]

pub filter_more : {X : Type 0} (p : X → Bool) (xs : List X) (i : ℕ) (x : X) → slice_get xs i ≡ Some x
    → filter p (take (i + 1) xs) ≡ filter p (take i xs) ++ (if p x then x ∷ [] else [])
filter_more {X} p xs i x at =
    let lt = slice_get_within xs i x at in
    ap (λ (zs : List X). filter p zs) (take_next xs i x at)
    ∙ (filter-append p (take i xs) (x ∷ []) ∙ ap (λ (zs : List X). filter p (take i xs) ++ zs) (filter_one p x))
  where
    take_next : (ys : List X) (k : ℕ) (y : X) → slice_get ys k ≡ Some y → take (k + 1) ys ≡ take k ys ++ y ∷ []
    take_next ys k y here =
        let l = slice_get_within ys k y here in
        take_more ys k y l ∙ ap (λ (z : X). take k ys ++ z ∷ []) (got ys k y here)
      where
        got : (zs : List X) (j : ℕ) (z : X) → slice_get zs j ≡ Some z → get_or zs j z ≡ z
        got [] j z e = absurd cc
        got (w ∷ zs) zero z e = same_Some w z e
        got (w ∷ zs) (suc j) z e = got zs j z e

-- one, or none
abbrev pub one_if : Bool → ℕ
one_if true = 1
one_if false = 0

pub byte_if : (b : Bool) → from_bool b ≡ one_if b
byte_if true = refl
byte_if false = refl

length_if : {X : Type 0} (b : Bool) (x : X) → length (if b then x ∷ [] else []) ≡ one_if b
length_if true x = refl
length_if false x = refl

pub count_more : (input : Input) (xs : List Exported) (i : ℕ) (x : Exported) (old : ℕ) (one : Bool)
    → AllZip (IsPlainExport input) (exports input) xs → slice_get xs i ≡ Some x
    → ((e : ExportEntry) → IsPlainExport input e x → one ≡ can_wrap e)
    → old ≡ length (filter can_wrap (take i (exports input)))
    → old + one_if one ≡ length (filter can_wrap (take (i + 1) (exports input)))
count_more input xs i x old one zip at test so_far =
    let e = zip_left (IsPlainExport input) (exports input) xs i x zip at in
    let grown = ap (λ (es : List ExportEntry). length es) (filter_more can_wrap (exports input) i e.0 e.1) in
    let sum = length-append (filter can_wrap (take i (exports input))) (if can_wrap e.0 then e.0 ∷ [] else []) in
    let last = length_if (can_wrap e.0) e.0 in
    let same : one_if one ≡ one_if (can_wrap e.0) = ap one_if (test e.0 e.2) in
    omega (arith, grown, sum, last, same, so_far)

pub count_all : (input : Input) (xs : List Exported) (i count : ℕ) → AllZip (IsPlainExport input) (exports input) xs
    → length xs ≤ i → wraps input ≡ true → count ≡ length (filter can_wrap (take i (exports input)))
    → count ≡ length (wrapped input)
count_all input xs i count zip past wrap so_far =
    let len = zip_length (IsPlainExport input) (exports input) xs zip in
    let whole : take i (exports input) ≡ exports input = take_all i (exports input) (omega (arith, len, past)) in
    let all : length (wrapped input) ≡ length (filter can_wrap (exports input)) = rw wrap refl in
    so_far ∙ (ap (λ (es : List ExportEntry). length (filter can_wrap es)) whole ∙ sym all)

pub at_most_one : (b : Bool) (n : ℕ) → n ≡ one_if b → n ≤ 1
at_most_one true n e = omega (arith, e)
at_most_one false n e = omega (arith, e)

filter_short : {X : Type 0} (p : X → Bool) (i : ℕ) (xs : List X) → length (filter p (take i xs)) ≤ length (filter p xs)
filter_short p zero xs = omega arith
filter_short p (suc i) [] = omega arith
filter_short p (suc i) (x ∷ xs) =
    let rest = filter_short p i xs in
    elim (cases_Bool (p x)) [ inl t ↦ rw t (omega (arith, rest)) | inr f ↦ rw f rest ]

-- ---- what is wrapped so far

pub record IsWrappedSoFar (input : Input) (k : ℕ) (xs : List Exported) (ws : List WrapperEntry) : Type 0 where
  pub len : length xs ≡ k
  pub each : (place : ℕ) (e : ExportEntry) (x : Exported) → slice_get (exports input) place ≡ Some e
      → slice_get xs place ≡ Some x → IsExportAt input place e x
  pub wrappers : AllZip (IsWrapper input) (filter (is_wrapped input) (take k (exports input))) ws

pub wrapped_room : (input : Input) (k functions most : ℕ) (xs : List Exported) (ws : List WrapperEntry)
    → IsWrappedSoFar input k xs ws → functions + length (wrapped input) ≤ most → functions + length ws ≤ most
wrapped_room input k functions most xs ws so_far room =
    let len = zip_length (IsWrapper input) (filter (is_wrapped input) (take k (exports input))) ws so_far.wrappers in
    let short = filter_short (is_wrapped input) k (exports input) in
    let all = ap (λ (es : List ExportEntry). length es) (wrapped_is input) in
    omega (arith, len, short, all, room)

each_more : (input : Input) (k : ℕ) (xs : List Exported) (e : ExportEntry) (y : Exported) → length xs ≡ k
    → slice_get (exports input) k ≡ Some e → IsExportAt input k e y
    → ((place : ℕ) (e : ExportEntry) (x : Exported) → slice_get (exports input) place ≡ Some e
    → slice_get xs place ≡ Some x → IsExportAt input place e x)
    → (place : ℕ) (e : ExportEntry) (x : Exported) → slice_get (exports input) place ≡ Some e
    → slice_get (xs ++ y ∷ []) place ≡ Some x → IsExportAt input place e x
each_more input k xs e y len at is so_far place d x there here = elim (append_split xs (y ∷ []) place x here) [
  | inl front ↦ so_far place d x there front
  | inr behind ↦ last behind.0 behind.1 behind.2
]
  where
    last : (j : ℕ) → place ≡ length xs + j → slice_get (y ∷ []) j ≡ Some x → IsExportAt input place d x
    last zero at_place one =
        let k_is : k ≡ place = omega (arith, len, at_place) in
        let x_is : y ≡ x = same_Some y x one in
        let there_k : slice_get (exports input) k ≡ Some d =
        subst (λ (n : ℕ). slice_get (exports input) n ≡ Some d) (sym k_is) there in
        let e_is : e ≡ d = same_Some e d (sym at ∙ there_k) in
        subst (λ (n : ℕ). IsExportAt input n d x) k_is
        (subst (λ (z : Exported). IsExportAt input k d z) x_is
        (subst (λ (f : ExportEntry). IsExportAt input k f y) e_is is))
    last (suc j) at_place one = absurd cc

wrapper_of : (input : Input) (e : ExportEntry) (x : Exported) (entity : Entity) → e.entity ≡ entity
    → IsPlainExport input e x → can_wrap e ≡ true → IsOf input entity x
    → IsWrapper input e (record { name = x.name; original = x.index })
wrapper_of input e x (OfFunction f) is plain can leads =
    record { name = plain.name; function = f; leads = is; original = leads.1 }
wrapper_of input e x (OfGlobal g) is plain can leads = let fails : false ≡ true = rw is at can in absurd cc
wrapper_of input e x OfTable is plain can leads = let fails : false ≡ true = rw is at can in absurd cc
wrapper_of input e x OfMemory is plain can leads = let fails : false ≡ true = rw is at can in absurd cc

own_is_function : (input : Input) (entity : Entity) (x : Exported) → IsOf input entity x
    → is_own_function entity ≡ true → x.kind ≡ external.Func
own_is_function input (OfFunction f) x is own = is.0
own_is_function input (OfGlobal g) x is own = absurd cc
own_is_function input OfTable x is own = absurd cc
own_is_function input OfMemory x is own = absurd cc

-- one more export
pub wrapped_more : (input : Input) (k functions : ℕ) (e : ExportEntry) (x : Exported) (one : Bool)
    (old new : List Exported) (ws vs : List WrapperEntry) → slice_get (exports input) k ≡ Some e
    → IsPlainExport input e x → one ≡ is_wrapped input e → functions ≡ length (function_space input)
    → new ≡ with_export one (functions + length ws) x old → vs ≡ with_wrapper one x ws
    → IsWrappedSoFar input k old ws → IsWrappedSoFar input (k + 1) new vs
wrapped_more input k functions e x false old new ws vs at plain test count grown more so_far =
    let same : IsExportAt input k e x =
    subst (λ (b : Bool). IsExportIf b input (length (filter (is_wrapped input) (take k (exports input)))) e x) test plain in
    let len : length (old ++ x ∷ []) ≡ k + 1 = let so = so_far.len in let l = length-append old (x ∷ []) in omega (arith, so, l) in
    let left : filter (is_wrapped input) (take (k + 1) (exports input)) ≡ filter (is_wrapped input) (take k (exports input)) =
    filter_more (is_wrapped input) (exports input) k e at
    ∙ (ap (λ (b : Bool). filter (is_wrapped input) (take k (exports input)) ++ (if b then e ∷ [] else [])) (sym test)
    ∙ append-nil (filter (is_wrapped input) (take k (exports input)))) in
    record {
      len = ap (λ (zs : List Exported). length zs) grown ∙ len;
      each = subst (λ (zs : List Exported). (place : ℕ) (e : ExportEntry) (x : Exported)
          → slice_get (exports input) place ≡ Some e → slice_get zs place ≡ Some x → IsExportAt input place e x)
          (sym grown) (each_more input k old e x so_far.len at same so_far.each);
      wrappers = subst (λ (es : List ExportEntry). AllZip (IsWrapper input) es vs) (sym left)
          (subst (λ (us : List WrapperEntry). AllZip (IsWrapper input) (filter (is_wrapped input) (take k (exports input))) us)
          (sym more) so_far.wrappers);
    }
wrapped_more input k functions e x true old new ws vs at plain test count grows adds so_far =
    let y : Exported = record { name = x.name; kind = x.kind; index = functions + length ws } in
    let w : WrapperEntry = record { name = x.name; original = x.index } in
    let grown : new ≡ old ++ y ∷ [] = grows in
    let can : can_wrap e ≡ true = (and_parts (wraps input) (can_wrap e) (sym test)).1 in
    let own : is_own_function e.entity ≡ true =
    (and_parts (is_own_function e.entity) (not (bytes_eq (name_of InitTls) e.name)) can).0 in
    let kind : x.kind ≡ external.Func = own_is_function input e.entity x plain.leads own in
    let zip_len = zip_length (IsWrapper input) (filter (is_wrapped input) (take k (exports input))) ws so_far.wrappers in
    let index : functions + length ws
    ≡ length (function_space input) + length (filter (is_wrapped input) (take k (exports input))) =
    omega (arith, count, zip_len) in
    let same : IsExportAt input k e y =
    subst (λ (b : Bool). IsExportIf b input (length (filter (is_wrapped input) (take k (exports input)))) e y) test
    (plain.name, kind, index) in
    let len : length (old ++ y ∷ []) ≡ k + 1 = let so = so_far.len in let l = length-append old (y ∷ []) in omega (arith, so, l) in
    let more : filter (is_wrapped input) (take k (exports input)) ++ e ∷ []
    ≡ filter (is_wrapped input) (take (k + 1) (exports input)) =
    ap (λ (b : Bool). filter (is_wrapped input) (take k (exports input)) ++ (if b then e ∷ [] else [])) test
    ∙ sym (filter_more (is_wrapped input) (exports input) k e at) in
    record {
      len = ap (λ (zs : List Exported). length zs) grown ∙ len;
      each = subst (λ (zs : List Exported). (place : ℕ) (e : ExportEntry) (x : Exported)
          → slice_get (exports input) place ≡ Some e → slice_get zs place ≡ Some x → IsExportAt input place e x)
          (sym grown) (each_more input k old e y so_far.len at same so_far.each);
      wrappers = subst (λ (es : List ExportEntry). AllZip (IsWrapper input) es vs) more
          (subst (λ (us : List WrapperEntry). AllZip (IsWrapper input) (filter (is_wrapped input) (take k (exports input)) ++ e ∷ []) us)
          (sym adds)
          (zip_joined (IsWrapper input) (filter (is_wrapped input) (take k (exports input))) (e ∷ []) ws (w ∷ [])
          so_far.wrappers (wrapper_of input e x e.entity refl plain can plain.leads, tt)));
    }

pub all_wrapped : (input : Input) (k : ℕ) (plain xs : List Exported) (ws : List WrapperEntry)
    → AllZip (IsPlainExport input) (exports input) plain → length plain ≤ k → k ≤ length plain
    → IsWrappedSoFar input k xs ws → AreOutputExports input xs × AreWrappers input ws
all_wrapped input k plain xs ws zip past within so_far =
    let len = zip_length (IsPlainExport input) (exports input) plain zip in
    let so = so_far.len in
    let whole : take k (exports input) ≡ exports input = take_all k (exports input) (omega (arith, len, past)) in (
      record { len = omega (arith, len, past, within, so); each = so_far.each },
      subst (λ (es : List ExportEntry). AllZip (IsWrapper input) es ws) (sym (wrapped_is input))
          (subst (λ (es : List ExportEntry). AllZip (IsWrapper input) (filter (is_wrapped input) es) ws) whole so_far.wrappers),
    )

-- What `wl_bind` says of kept segments, and what `wl_data` says of the same segments as they are laid
-- out: which are a thread's, and which the first thread copies.
use Rattle.std.proofs.Common.{◌≡◌, ◌∙◌, ℕ, zero, suc, ◌+◌, ◌==◌, Bool, true, false, ◌&&◌, ◌||◌, not, List, [], ◌∷◌, ◌++◌, length, refl, sym, ap, subst, arith, inl, inr, Option, Some, slice_get, if◌then◌else◌}
use Rattle.std.proofs.lemmas.List.Elements.{Contains-append_cases}
use Rattle.std.specs.List.{Contains, list_any, range_with_len}
use Rattle.std.specs.Option.{option_map_or}
use Rattle.wl_module.specs.Segments.{Segment}
use Rattle.wl_linking.specs.Object.{Object}
use Rattle.wl_data.specs.DataPlaces.{any_is_common, any_is_thread_local, has_init, has_tls, is_thread_local}
use Rattle.wl_data.specs.Layouts.{is_common}
use Rattle.wl_data.specs.Segments.{KeptData}
use Rattle.wl_symbols.specs.declared.units.WasmGcUnit.TheVariants.{DataSegment}
use Rattle.wl_symbols.specs.Input.{Input, keeps}
use Rattle.wl_bind.specs.Made.{has_init_memory, is_active, is_filled, is_kept_common_data, is_kept_thread_data, keeps_common_data, keeps_thread_data}
use Rattle.wl_bind.specs.Parts.{any_object}
use Rattle.wl_bind.specs.ThreadData.{is_thread_segment}
use Rattle.wl_places.specs.KeptData.{kept_data, kept_from, kept_segments, segments_from}
use Rattle.wl_places.specs.Placing.{data_input}

-- some segment of those passes, the first of which is there only if it is kept
any_if : (test : KeptData → Bool) (b : Bool) (d : KeptData) (rest : List KeptData) → list_any test ((if b then d ∷ [] else []) ++ rest) ≡ ((b && test d) || list_any test rest)
any_if test true d rest = refl
any_if test false d rest = refl

-- ---- data that all threads have in common

-- kept, in common, active and with bytes, whatever is asked first
same_test : (kept own active empty rest : Bool) → ((kept && not own) && (active && not empty)) || rest ≡ (kept && ((active && not own) && not empty)) || rest
same_test true true true true rest = refl
same_test true true true false rest = refl
same_test true true false empty rest = refl
same_test true false true true rest = refl
same_test true false true false rest = refl
same_test true false false empty rest = refl
same_test false own active empty rest = refl

any_common : (input : Input) (object : ℕ) (o : Object) (k : ℕ) (segments : List Segment) → ((j : ℕ) → slice_get segments j ≡ slice_get o.segments (k + j))
    → list_any is_common (kept_from input object o k segments) ≡ list_any (is_kept_common_data input object o) (range_with_len k (length segments))
any_common input object o k [] there = refl
any_common input object o k (s ∷ segments) there =
    let kept = keeps input object (DataSegment k) in
    let rest = kept_from input object o (k + 1) segments in
    let same : k + 0 ≡ k = omega arith in
    let here : slice_get o.segments k ≡ Some s = ap (λ (n : ℕ). slice_get o.segments n) (sym same) ∙ sym (there 0) in
    let more = any_common input object o (k + 1) segments (λ j. let next : k + suc j ≡ (k + 1) + j = omega arith in there (suc j) ∙ ap (λ (n : ℕ). slice_get o.segments n) next) in
    let others = list_any (is_kept_common_data input object o) (range_with_len (k + 1) (length segments)) in
    let test : is_kept_common_data input object o k ≡ ((kept && not (is_thread_segment o k)) && is_filled s) =
    ap (λ (x : Option Segment). (kept && not (is_thread_segment o k)) && option_map_or is_filled x false) here in
    any_if is_common kept (kept_data o k s) rest
    ∙ (ap (λ (b : Bool). (kept && is_common (kept_data o k s)) || b) more
    ∙ (sym (same_test kept (is_thread_segment o k) (is_active s.kind) (length s.payload == 0) others)
    ∙ ap (λ (b : Bool). b || others) (sym test)))

common_objects : (input : Input) (n : ℕ) (objects : List Object) → list_any any_is_common (segments_from input n objects) ≡ any_object (keeps_common_data input) n objects
common_objects input n [] = refl
common_objects input n (o ∷ objects) =
    let rest = list_any any_is_common (segments_from input (n + 1) objects) in
    ap (λ (b : Bool). b || rest) (any_common input n o 0 o.segments (λ j. let same : j ≡ 0 + j = omega arith in ap (λ (i : ℕ). slice_get o.segments i) same))
    ∙ ap (λ (b : Bool). keeps_common_data input n o || b) (common_objects input (n + 1) objects)

pub flag_where_filled : (input : Input) → has_init (data_input input) ≡ has_init_memory input
flag_where_filled input = ap (λ (b : Bool). input.link.args.shared_memory && b) (common_objects input 0 input.link.objects)

-- ---- data of which each thread has its own

any_own : (input : Input) (object : ℕ) (o : Object) (k : ℕ) (segments : List Segment)
    → list_any is_thread_local (kept_from input object o k segments) ≡ list_any (is_kept_thread_data input object o) (range_with_len k (length segments))
any_own input object o k [] = refl
any_own input object o k (s ∷ segments) =
    let rest = kept_from input object o (k + 1) segments in
    any_if is_thread_local (keeps input object (DataSegment k)) (kept_data o k s) rest
    ∙ ap (λ (b : Bool). is_kept_thread_data input object o k || b) (any_own input object o (k + 1) segments)

own_objects : (input : Input) (n : ℕ) (objects : List Object) → list_any any_is_thread_local (segments_from input n objects) ≡ any_object (keeps_thread_data input) n objects
own_objects input n [] = refl
own_objects input n (o ∷ objects) =
    let rest = list_any any_is_thread_local (segments_from input (n + 1) objects) in
    ap (λ (b : Bool). b || rest) (any_own input n o 0 o.segments)
    ∙ ap (λ (b : Bool). keeps_thread_data input n o || b) (own_objects input (n + 1) objects)

pub some_own : (input : Input) → has_tls (data_input input) ≡ any_object (keeps_thread_data input) 0 input.link.objects
some_own input = own_objects input 0 input.link.objects

-- a segment that is laid out is kept, so it is a thread's where it is one of the kept ones that are
one_own : (input : Input) (object : ℕ) (o : Object) (k : ℕ) (s : Segment) (d : KeptData) (b : Bool) → keeps input object (DataSegment k) ≡ b → Contains (if b then kept_data o k s ∷ [] else []) d
    → is_thread_local d ≡ is_kept_thread_data input object o d.original
one_own input object o k s d true kept (zero, within, same) =
    let there : is_thread_segment o k ≡ (keeps input object (DataSegment k) && is_thread_segment o k) = rw kept refl in
    subst (λ (e : KeptData). is_thread_local e ≡ is_kept_thread_data input object o e.original) same there
one_own input object o k s d true kept (suc j, within, same) = absurd (omega (arith, within))
one_own input object o k s d false kept (j, within, same) = absurd (omega (arith, within))

own_from : (input : Input) (object : ℕ) (o : Object) (k : ℕ) (segments : List Segment) (d : KeptData) → Contains (kept_from input object o k segments) d
    → is_thread_local d ≡ is_kept_thread_data input object o d.original
own_from input object o k [] d (j, within, same) = absurd (omega (arith, within))
own_from input object o k (s ∷ segments) d there =
    elim (Contains-append_cases (if keeps input object (DataSegment k) then kept_data o k s ∷ [] else []) (kept_from input object o (k + 1) segments) d there) [
      | inl here ↦ one_own input object o k s d (keeps input object (DataSegment k)) refl here
      | inr behind ↦ own_from input object o (k + 1) segments d behind
    ]

pub which_own : (input : Input) (object : ℕ) (o : Object) (d : KeptData) → Contains (kept_segments input object o) d → is_thread_local d ≡ is_kept_thread_data input object o d.original
which_own input object o d there = own_from input object o 0 o.segments d there

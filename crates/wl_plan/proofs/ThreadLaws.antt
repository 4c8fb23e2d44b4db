-- Pointers and globals of threads one after the other.
use Rattle.std.proofs.Common.{◌≡◌, ◌∙◌, ◌<◌, ℕ, suc, ◌+◌, List, [], ◌∷◌, ◌++◌, length, drop, drop-cons, add-one, get_or, refl, sym, ap, arith, append_assoc, append-nil, length-append, Option, Some, None, slice_get}
use Rattle.std.specs.List.{AllZip, filter_map, cons_option}
use Rattle.std.specs.Option.{option_map, option_to_list}
use Rattle.std.proofs.Common.{inl, inr, map}
use Rattle.std.proofs.lemmas.List.{length-map}
use Rattle.wl_symbols.specs.declared.entry.Definition.{Definition}
use Rattle.wl_data.specs.DataPlaces.{in_one_row}
use Rattle.wl_data.specs.Segments.{SegmentLayout}
use Rattle.wl_synth.specs.declared.parts.TlsGotFixup.{TlsGotFixup}
use Rattle.wl_symbols.specs.Input.{Input}
use Rattle.wl_bind.specs.Scan.{got_mem}
use Rattle.wl_places.specs.Addresses.{address_of_definition, numbers_from}
use Rattle.wl_plan.specs.Threads.{IsGotFixup, got_places_from, place_in_block}
use Rattle.wl_ops.specs.declared.op.Op.{Op}
use Rattle.wl_synth.specs.Encoding.{EncodeFault}
use Rattle.wl_synth.specs.declared.error.SynthError.{SynthError}
use Rattle.wl_synth.specs.declared.error.SynthError.TheVariants as synth
use Rattle.wl_plan.specs.steps.Threads.{AddsGot, IsUnspelled, body_error}
use Rattle.wl_places.specs.declared.placing.Placing.{Placing}
use Rattle.wl_lists.proofs.Beside.{zip_joined}

-- as many segments as the space of their numbers has
pub row_length : (n : ℕ) (rows : List (List SegmentLayout)) → length (in_one_row rows) ≡ length (numbers_from n rows)
row_length n [] = refl
row_length n (r ∷ rows) =
    let rest = row_length (n + 1) rows in
    let f : SegmentLayout → ℕ × ℕ = λ l. (n, l.segment_index) in
    omega (arith, length-append r (in_one_row rows), length-append (map f r) (numbers_from (n + 1) rows), length-map r f, rest)

-- ---- pointers

-- one item more of what a function gives or doesn't
pub given_more : {X Y : Type 0} (f : X → Option Y) (xs : List X) (k : ℕ) (x : X) (before after all : List Y)
    → k < length xs → x ≡ get_or xs k x → after ≡ before ++ option_to_list (f x)
    → before ++ filter_map f (drop k xs) ≡ all → after ++ filter_map f (drop (k + 1) xs) ≡ all
given_more {Y = Y} f xs k x before after all within is more so_far =
    let rest : List Y = filter_map f (drop (k + 1) xs) in
    let begins : drop k xs ≡ x ∷ drop (k + 1) xs =
    rw (add-one) (drop-cons xs k x within ∙ ap (λ y. y ∷ drop (suc k) xs) (sym is)) in
    ap (λ (ys : List Y). ys ++ rest) more
    ∙ (append_assoc before (option_to_list (f x)) rest
    ∙ (ap (λ (ys : List Y). before ++ ys) (joined (f x) rest)
    ∙ (ap (λ (ls : List _). before ++ filter_map f ls) (sym begins) ∙ so_far)))
  where
    joined : (o : Option Y) (ys : List Y) → option_to_list o ++ ys ≡ cons_option o ys
    joined None ys = refl
    joined (Some y) ys = refl

-- ---- globals

-- one entry more
pub got_more : (input : Input) (g : Placing) (k : ℕ) (old new : List TlsGotFixup) (ds done : List Definition)
    → AllZip (IsGotFixup input) (got_places_from input g 0 done) old → length done ≡ k
    → done ++ drop k ds ≡ ds → ds ≡ got_mem input → AddsGot input g k old new
    → (d : Definition) × (slice_get ds k ≡ Some d) × AllZip (IsGotFixup input) (got_places_from input g 0 (done ++ d ∷ [])) new
got_more input g k old new ds done so_far len whole are adds =
    let d = adds.definition in
    let here : slice_get ds k ≡ Some d = ap (λ (xs : List Definition). slice_get xs k) are ∙ adds.here in
    let parts = places_append input g 0 done (d ∷ []) in
    let number : 0 + length done ≡ k = omega (arith, len) in
    let one : List (ℕ × ℕ) = option_to_list (option_map (λ (place : ℕ). (k, place)) (place_in_block (address_of_definition input g d))) in
    let last : got_places_from input g (0 + length done) (d ∷ []) ≡ one =
    ap (λ (n : ℕ). got_places_from input g n (d ∷ [])) number ∙ append-nil one in
    let all : got_places_from input g 0 (done ++ d ∷ []) ≡ got_places_from input g 0 done ++ one =
    parts ∙ ap (λ (ps : List (ℕ × ℕ)). got_places_from input g 0 done ++ ps) last in
    (d, here, rw (all, adds.grown) (zip_joined (IsGotFixup input) (got_places_from input g 0 done) one old adds.more so_far adds.are))
  where
    places_append : (input : Input) (g : Placing) (n : ℕ) (xs ys : List Definition)
        → got_places_from input g n (xs ++ ys) ≡ got_places_from input g n xs ++ got_places_from input g (n + length xs) ys
    places_append input g n [] ys = let same : n ≡ n + 0 = omega arith in ap (λ (m : ℕ). got_places_from input g m ys) same
    places_append input g n (x ∷ xs) ys =
        let head : List (ℕ × ℕ) = option_to_list (option_map (λ (place : ℕ). (n, place)) (place_in_block (address_of_definition input g x))) in
        let same : (n + 1) + length xs ≡ n + suc (length xs) = omega arith in
        ap (λ (ps : List (ℕ × ℕ)). head ++ ps)
        (places_append input g (n + 1) xs ys
        ∙ ap (λ (m : ℕ). got_places_from input g (n + 1) xs ++ got_places_from input g m ys) same)
        ∙ sym (append_assoc head (got_places_from input g (n + 1) xs) (got_places_from input g (n + suc (length xs)) ys))

-- ---- bodies

-- what isn't encoded is reported so
pub unspelled_by : (are_ops : List Op → Type 0) (ops : List Op) (e : SynthError) → are_ops ops → EncodeFault ops e
    → IsUnspelled are_ops (body_error e)
unspelled_by are_ops ops synth.OutOfMemory are fault = inl refl
unspelled_by are_ops ops (synth.Range number) are fault = inr (ops, number, are, fault, refl)

-- Passes over all objects.
use Rattle.std.proofs.Common.{◌≡◌, ℕ, ◌+◌, ◌<◌, List, [], ◌∷◌, ◌++◌, length, refl, sym, ap, ◌∙◌, subst, arith, take, drop, get_or, append-nil, take-append-drop, set, length-take, min, zero, suc}
use Rattle.std.specs.List.{AllByRecursion}
use Rattle.std.proofs.lemmas.List.{take_more}
use Rattle.std.proofs.lemmas.Grind.{flat_map-append}
use Rattle.wl_data.specs.declared.pass.Frontier.{Frontier}
use Rattle.wl_data.specs.declared.pass.Pass.{Pass}
use Rattle.wl_data.specs.Segments.{KeptData, SegmentLayout}
use Rattle.wl_data.specs.Layouts.{CanBePlaced, AreLaidOut, PassesRoom}
use Rattle.wl_data.specs.DataPlaces.{AllCanBePlaced, AreObjectsLaid, in_one_row, by_object, GrowByObject}
use Rattle.wl_data.proofs.LayoutLaws.{objects_laid, passes_on, passes_behind}

-- ---- one row

pub row_append : {X : Type 0} (xs ys : List (List X)) → in_one_row (xs ++ ys) ≡ in_one_row xs ++ in_one_row ys
row_append {X} xs ys = flat_map-append (λ (o : List X). o) xs ys

pub row_more : {X : Type 0} (objects : List (List X)) (i : ℕ) (o : List X) → i < length objects → o ≡ get_or objects i o → in_one_row (take (i + 1) objects) ≡ in_one_row (take i objects) ++ o
row_more {X} objects i o lt is =
    let more : take (i + 1) objects ≡ take i objects ++ o ∷ [] = take_more objects i o lt ∙ ap (λ (x : List X). take i objects ++ x ∷ []) (sym is) in
    ap in_one_row more ∙ row_append (take i objects) (o ∷ []) ∙ ap (λ (x : List X). in_one_row (take i objects) ++ x) (append-nil o)

pub row_whole : {X : Type 0} (objects : List (List X)) (i : ℕ) (o : List X) → i < length objects → o ≡ get_or objects i o → (in_one_row (take i objects) ++ o) ++ in_one_row (drop (i + 1) objects) ≡ in_one_row objects
row_whole {X} objects i o lt is =
    ap (λ (x : List X). x ++ in_one_row (drop (i + 1) objects)) (sym (row_more objects i o lt is))
    ∙ sym (row_append (take (i + 1) objects) (drop (i + 1) objects)) ∙ ap in_one_row (take-append-drop (i + 1) objects)

-- ---- all can be placed

sound_append : (xs ys : List KeptData) → AllByRecursion CanBePlaced xs → AllByRecursion CanBePlaced ys → AllByRecursion CanBePlaced (xs ++ ys)
sound_append [] ys p q = q
sound_append (x ∷ xs) ys p q = (p.0, sound_append xs ys p.1 q)

pub sound_row : (objects : List (List KeptData)) → AllByRecursion AllCanBePlaced objects → AllByRecursion CanBePlaced (in_one_row objects)
sound_row [] all = tt
sound_row (o ∷ objects) all = sound_append o (in_one_row objects) all.0 (sound_row objects all.1)

sound_drop : (objects : List (List KeptData)) (i : ℕ) → AllByRecursion AllCanBePlaced objects → AllByRecursion AllCanBePlaced (drop i objects)
sound_drop objects zero all = all
sound_drop [] (suc i) all = tt
sound_drop (o ∷ objects) (suc i) all = sound_drop objects i all.1

-- ---- the loop

objects_push : (pass : Pass) (objects : List (List KeptData)) (o : List KeptData) (a b c : Frontier) (ls : List (List SegmentLayout)) (l : List SegmentLayout)
    → AreObjectsLaid pass objects a b ls → AreLaidOut pass o b c l → AreObjectsLaid pass (objects ++ o ∷ []) a c (ls ++ l ∷ [])
objects_push pass [] o a b c [] l e laid = (c, subst (λ (f : Frontier). AreLaidOut pass o f c l) e laid, refl)
objects_push pass [] o a b c (x ∷ ls) l e laid = absurd e
objects_push pass (x ∷ objects) o a b c [] l e laid = absurd e
objects_push pass (x ∷ objects) o a b c (y ∷ ls) l e laid = (e.0, e.1, objects_push pass objects o e.0 b c ls l e.2 laid)

pub objects_more : (pass : Pass) (objects : List (List KeptData)) (i : ℕ) (o : List KeptData) (a b c : Frontier) (ls : List (List SegmentLayout)) (l : List SegmentLayout)
    → i < length objects → o ≡ get_or objects i o → AreObjectsLaid pass (take i objects) a b ls → AreLaidOut pass o b c l → AreObjectsLaid pass (take (i + 1) objects) a c (ls ++ l ∷ [])
objects_more pass objects i o a b c ls l lt is p laid =
    let more : take (i + 1) objects ≡ take i objects ++ o ∷ [] = take_more objects i o lt ∙ ap (λ (x : List KeptData). take i objects ++ x ∷ []) (sym is) in
    rw more (objects_push pass (take i objects) o a b c ls l p laid)

pub passes_objects : (pass : Pass) (objects : List (List KeptData)) (i : ℕ) (o : List KeptData) (a b : Frontier) (ls : List (List SegmentLayout)) → i < length objects → o ≡ get_or objects i o
    → AllByRecursion AllCanBePlaced objects → AreObjectsLaid pass (take i objects) a b ls → PassesRoom pass o b → PassesRoom pass (in_one_row objects) a
passes_objects pass objects i o a b ls lt is all p q =
    let front = in_one_row (take i objects) in
    let here = passes_behind pass front o a b (in_one_row ls) (objects_laid pass (take i objects) a b ls p) q in
    let on = passes_on pass (front ++ o) (in_one_row (drop (i + 1) objects)) a (sound_row (drop (i + 1) objects) (sound_drop objects (i + 1) all)) here in
    subst (λ (xs : List KeptData). PassesRoom pass xs a) (row_whole objects i o lt is) on

-- ---- after the layouts that each object has

pub objects_count : (pass : Pass) (objects : List (List KeptData)) (a b : Frontier) (ls : List (List SegmentLayout)) → AreObjectsLaid pass objects a b ls → length ls ≡ length objects
objects_count pass [] a b [] e = refl
objects_count pass [] a b (l ∷ ls) e = absurd e
objects_count pass (o ∷ objects) a b [] e = absurd e
objects_count pass (o ∷ objects) a b (l ∷ ls) e = ap suc (objects_count pass objects e.0 b ls e.2)

pub grows_by_nothing : {X : Type 0} (old : List (List X)) → old ≡ by_object old []
grows_by_nothing [] = refl
grows_by_nothing (x ∷ old) = refl

grown_at : {X : Type 0} (old more : List (List X)) (x y : List X) → length more < length old → x ≡ get_or (by_object old more) (length more) x → set (by_object old more) (length more) (x ++ y) ≡ by_object old (more ++ y ∷ [])
grown_at [] more x y lt is = absurd (omega arith)
grown_at {X} (o ∷ old) [] x y lt is = ap (λ (z : List X). (z ++ y) ∷ old) is ∙ ap (λ (l : List (List X)). (o ++ y) ∷ l) (grows_by_nothing old)
grown_at {X} (o ∷ old) (m ∷ more) x y lt is = ap (λ (l : List (List X)). (o ++ m) ∷ l) (grown_at old more x y (omega arith) is)

pub grows_more : (pass : Pass) (objects : List (List KeptData)) (i : ℕ) (o : List KeptData) (a b c : Frontier) (old now new : List (List SegmentLayout)) (x y : List SegmentLayout)
    → i < length objects → o ≡ get_or objects i o → length old ≡ length objects → GrowByObject (AreObjectsLaid pass (take i objects) a b) old now → AreLaidOut pass o b c y
    → x ≡ get_or now i x → new ≡ set now i (x ++ y) → GrowByObject (AreObjectsLaid pass (take (i + 1) objects) a c) old new
grows_more pass objects i o a b c old now new x y lt is each p laid at is_new =
    let count : length p.0 ≡ i = objects_count pass (take i objects) a b p.0 p.1 ∙ length-take i objects ∙ (let small : min i (length objects) ≡ i = omega arith in small) in
    let there : x ≡ get_or (by_object old p.0) (length p.0) x = rw (count, ← p.2) at in
    let grown = grown_at old p.0 x y (omega arith) there in
    (p.0 ++ y ∷ [], objects_more pass objects i o a b c p.0 y lt is p.1 laid, is_new ∙ (rw (count, ← p.2) at grown))

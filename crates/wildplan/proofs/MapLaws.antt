-- Lines of sizes, one by one.
use Rattle.std.proofs.Common.{◌≡◌, ◌<◌, ℕ, ◌+◌, List, [], ◌∷◌, ◌++◌, length, take, get_or, refl, sym, ap, ◌∙◌, append-nil, append_assoc, codes, arith, subst}
use Rattle.std.proofs.lemmas.List.{take_more}
use Rattle.std.proofs.lemmas.List.{length-take-le}
use Rattle.wl_module.specs.Bodies.{Body}
use Rattle.wl_data.specs.Sizes.{HasEntrySize}
use Rattle.std.specs.List.{count_by}
use Rattle.wl_text.specs.Pieces.{numbered}
use Rattle.wl_plan.specs.PlannedImports.{is_function_import}
use Rattle.wl_plan.specs.declared.layout.LinkPlan.{LinkPlan}
use Rattle.wl_plan.specs.ObjectSegments.{ObjectSegment, segments_of_objects}
use Rattle.wildplan.specs.Map.{size_line, AreCodeLines, data_line, total_lines, IsMapText}

-- with one more body
code_more : (number : ℕ) (bodies : List Body) (b : Body) (text : List ℕ) (size place : ℕ) → AreCodeLines number bodies text → HasEntrySize b size → place ≡ number + length bodies → AreCodeLines number (bodies ++ b ∷ []) (text ++ size_line (codes "code ") place size)
code_more number [] b text size place h has at =
    let here : place ≡ number = omega (arith, at) in
    (size, [], has, refl, rw (h, here) (sym (append-nil (size_line (codes "code ") number size))))
code_more number (x ∷ bodies) b text size place (other, rest, first, lines, is) has at = (
  other,
  rest ++ size_line (codes "code ") place size,
  first,
  code_more (number + 1) bodies b rest size place lines has (omega (arith, at)),
  rw is (append_assoc (size_line (codes "code ") number other) rest _),
)

-- a turn of the loop over bodies
pub code_step : (first i : ℕ) (bodies : List Body) (b : Body) (page old new : List ℕ) (size : ℕ) → i < length bodies → b ≡ get_or bodies i b → (text : List ℕ) × AreCodeLines first (take i bodies) text × (page ≡ old ++ text) → HasEntrySize b size → new ≡ page ++ size_line (codes "code ") (first + i) size → (text : List ℕ) × AreCodeLines first (take (i + 1) bodies) text × (new ≡ old ++ text)
code_step first i bodies b page old new size within is (text, lines, so_far) has grown =
    let more : take (i + 1) bodies ≡ take i bodies ++ b ∷ [] = take_more bodies i b within ∙ ap (λ (x : Body). take i bodies ++ x ∷ []) (sym is) in
    let len : length (take i bodies) ≡ i = length-take-le i bodies (omega (arith, within)) in (
      text ++ size_line (codes "code ") (first + i) size,
      rw more (code_more first (take i bodies) b text size (first + i) lines has (omega (arith, len))),
      rw (grown, so_far) (append_assoc old text _),
    )

-- the lines of a whole map
pub map_is : (plan : LinkPlan) (first : ℕ) (bodies : List Body) (segments : List ObjectSegment) (p0 p1 p2 p3 text : List ℕ) → p0 ≡ [] → first ≡ count_by is_function_import plan.layout.imports → bodies ≡ plan.layout.function_bodies → segments ≡ segments_of_objects 0 plan.layout.object_data_layouts → (t : List ℕ) × AreCodeLines first bodies t × (p1 ≡ p0 ++ t) → p2 ≡ p1 ++ numbered data_line 0 segments → p3 ≡ p2 ++ total_lines plan → text ≡ p3 → IsMapText plan text
map_is plan first bodies segments p0 p1 p2 p3 text none f b s (t, lines, begun) two three is =
    let one : p1 ≡ t = begun ∙ ap (λ (p : List ℕ). p ++ t) none in
    record {
      functions = t;
      sized = subst (λ (n : ℕ). AreCodeLines n plan.layout.function_bodies t) f (subst (λ (xs : List Body). AreCodeLines first xs t) b lines);
      is = is ∙ three ∙ ap (λ (p : List ℕ). p ++ total_lines plan) (two ∙ ap (λ (p : List ℕ). p ++ numbered data_line 0 segments) one ∙ ap (λ (xs : List ObjectSegment). t ++ numbered data_line 0 xs) s) ∙ append_assoc t (numbered data_line 0 (segments_of_objects 0 plan.layout.object_data_layouts)) (total_lines plan);
    }

-- The listing of a plan, part by part.
use Rattle.std.proofs.Common.{◌≡◌, ◌∙◌, ℕ, List, [], ◌∷◌, ◌++◌, map, refl, sym, ap, subst, append-nil}
use Rattle.std.specs.Prelude.{Result, Ok, Err, OnOk}
use Rattle.std.specs.List.{flat_map}
use Rattle.std.proofs.lemmas.List.Concat.{flat_map-append}
use Rattle.wl_module.specs.Bodies.{Body}
use Rattle.wl_module.specs.Exports.{Exported}
use Rattle.wl_module.specs.Types.{FunctionType}
use Rattle.wl_custom.specs.Debug.{DebugInput}
use Rattle.wl_output.specs.declared.fixups.Fixup.{Fixup}
use Rattle.wl_check.specs.Spelled.{AnswersListing, IsListing, ReadsListing}
use Rattle.wl_check.specs.Texts.{line_text}
use Rattle.wl_check.specs.declared.listing.ListingError.{ListingError}
use Rattle.wl_check.specs.declared.listing.ListingError.TheVariants.{Bad}
use Rattle.wl_check.specs.declared.line.Line.{Line}
use Rattle.wl_check.specs.declared.line.Line.TheVariants.{Version, Fix, Feature, End}
use Rattle.wl_plan.specs.ObjectSegments.{ObjectSegment}
use Rattle.wl_plan.specs.Origins.{PlannedFunction}
use Rattle.wl_plan.specs.PlanLines.{numbered_lines, type_line, import_line, function_line, body_line, global_line, memory_lines, table_lines, slot_line, segment_line, export_line, start_lines, debug_line, first_function, first_global, output_segments, lines_of}
use Rattle.wl_plan.specs.PlannedImports.{PlannedImport}
use Rattle.wl_plan.specs.declared.layout.LinkPlan.{LinkPlan}
use Rattle.wl_plan.specs.declared.layout.PlannedGlobal.{PlannedGlobal}

-- the page has these lines
pub record IsWritten (page : List ℕ) (lines : List Line) : Type 0 where
  pub text : page ≡ flat_map line_text lines

-- the first line
pub written_first : (old new : List ℕ) → old ≡ [] → new ≡ old ++ line_text Version → IsWritten new (Version ∷ [])
written_first old new none is = record {
  text = is ∙ ap (λ (t : List ℕ). t ++ line_text Version) none ∙ sym (append-nil (line_text Version));
}

-- and more after those
pub written_more : {old : List ℕ} {xs : List Line} (new : List ℕ) (ys : List Line) → IsWritten old xs → new ≡ old ++ flat_map line_text ys → IsWritten new (xs ++ ys)
written_more {old} {xs} new ys so_far is = record {
  text = is ∙ ap (λ (t : List ℕ). t ++ flat_map line_text ys) so_far.text ∙ sym (flat_map-append line_text xs ys);
}

-- and the last line
pub written_last : {old : List ℕ} {xs : List Line} (new : List ℕ) → IsWritten old xs → new ≡ old ++ line_text End → IsWritten new (xs ++ (End ∷ []))
written_last {old} {xs} new so_far is =
    written_more new (End ∷ []) so_far (is ∙ ap (λ (t : List ℕ). old ++ t) (sym (append-nil (line_text End))))

-- the lines of the parts of a plan are those of the plan
pub lines_are : (plan : LinkPlan) (types : List FunctionType) (imports : List PlannedImport) (f : ℕ) (functions : List PlannedFunction) (bodies : List Body) (g : ℕ) (globals : List PlannedGlobal)
    (elements : List ℕ) (segments : List ObjectSegment) (exports : List Exported) (fixups : List Fixup) (names : List (List ℕ)) (sections : List DebugInput)
    → types ≡ plan.layout.output_types → imports ≡ plan.layout.imports → f ≡ first_function plan → functions ≡ plan.layout.function_type_indices → bodies ≡ plan.layout.function_bodies
    → g ≡ first_global plan → globals ≡ plan.layout.globals → elements ≡ plan.layout.element_functions → segments ≡ output_segments plan → exports ≡ plan.layout.exports
    → fixups ≡ plan.fixups → names ≡ plan.layout.features → sections ≡ plan.layout.debug_sections
    → (Version ∷ []) ++ numbered_lines type_line 0 types ++ map import_line imports ++ numbered_lines function_line f functions ++ numbered_lines body_line f bodies
    ++ numbered_lines global_line g globals ++ memory_lines plan.layout.memory ++ table_lines plan.layout.table ++ numbered_lines slot_line 1 elements ++ numbered_lines segment_line 0 segments
    ++ map export_line exports ++ start_lines plan.layout.start_function ++ map Fix fixups ++ map Feature names ++ map debug_line sections ++ (End ∷ []) ≡ lines_of plan
lines_are plan types imports f functions bodies g globals elements segments exports fixups names sections e1 e2 e3 e4 e5 e6 e7 e8 e9 e10 e11 e12 e13 =
    rw (e1, e2, e3, e4, e5, e6, e7, e8, e9, e10, e11, e12, e13) refl

-- what holds whatever is answered
pub on_ok : {X E : Type 0} (r : Result X E) (P : Type 0) → P → OnOk r P
on_ok (Ok x) P p = p
on_ok (Err e) P p = tt

-- ---- the listing as it is read back

-- the lines of a listing are what is read of it
pub read_is : {X : Type 0} (view : X → List Line) (text : List ℕ) (r : Result X ListingError) (x : X) (lines : List Line) → r ≡ Ok x → ReadsListing view text r → IsListing lines text → view x ≡ lines
read_is {X} view text r x lines is h listing =
    let same : ◌≡◌ {A = Result (List Line) ListingError} (Ok lines) (Ok (view x)) = subst (λ (y : Result X ListingError). AnswersListing view y (Ok lines)) is (h.only lines listing) in
    cc

-- and none of them is bad
pub none_bad : {X : Type 0} (view : X → List Line) (text : List ℕ) (r : Result X ListingError) (n : ℕ) (lines : List Line) → r ≡ Err (Bad n) → ReadsListing view text r → IsListing lines text → ⊥
none_bad {X} view text r n lines is h listing =
    let same : ◌≡◌ {A = Result (List Line) ListingError} (Ok lines) (Err (Bad n)) = subst (λ (y : Result X ListingError). AnswersListing view y (Ok lines)) is (h.only lines listing) in
    absurd cc

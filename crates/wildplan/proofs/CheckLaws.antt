-- What checking a text against a plan says.
use Rattle.std.proofs.Common.{◌≡◌, ◌∙◌, ℕ, List, Option, Some, None, refl, ap, subst}
use Rattle.std.specs.List.{AllByRecursion, flat_map}
use Rattle.wl_words.specs.declared.args.WasmArgs.{WasmArgs}
use Rattle.wl_check.specs.Difference.{DiffersAt, IsDifference}
use Rattle.wl_check.specs.Ranges.{InRange}
use Rattle.wl_check.specs.Spelled.{IsBadLine, IsListing}
use Rattle.wl_check.specs.Texts.{line_text}
use Rattle.wl_check.specs.declared.difference.Difference.{Difference}
use Rattle.wl_check.specs.declared.line.Line.{Line}
use Rattle.wl_plan.specs.LinkPlan.{IsLinkPlan}
use Rattle.wl_plan.specs.PlanLines.{lines_of, listing_text}
use Rattle.wl_plan.specs.declared.layout.LinkPlan.{LinkPlan}
use Rattle.wildplan.specs.Check.{IsChecked, IsVerdict}
use Rattle.wildplan.specs.declared.check.Verdict.{Verdict}
use Rattle.wildplan.specs.declared.check.Verdict.TheVariants.{Same, Bad, Differs}

-- the listing of a plan, as lines
pub plan_is : (plan : LinkPlan) (text : List ℕ) → AllByRecursion InRange (lines_of plan) → text ≡ listing_text plan → IsListing (lines_of plan) text
plan_is plan text fits same = record { in_range = fits; joined = same }

-- what is known of texts and listings
pub record ListingsAreOne : Type 0 where
  pub one_listing : (text : List ℕ) (ks ls : List Line) → IsListing ks text → IsListing ls text → ks ≡ ls
  pub one_bad_line : (text : List ℕ) (m n : ℕ) → IsBadLine text m → IsBadLine text n → m ≡ n
  pub not_both : (text : List ℕ) (lines : List Line) (n : ℕ) → IsListing lines text → IsBadLine text n → ⊥
  pub one_difference : (ks ls : List Line) (a b : Option Difference) → IsDifference ks ls a → IsDifference ks ls b → a ≡ b

-- the lines of one text differ from those of the plan, or don't
never_both : ListingsAreOne → (plan : LinkPlan) (text : List ℕ) (n : ℕ) (found want : Option Line) → AllByRecursion InRange (lines_of plan) → text ≡ listing_text plan
    → (lines : List Line) × IsListing lines text × DiffersAt lines (lines_of plan) n found want → ⊥
never_both laws plan text n found want fits same (lines, is, apart) =
    let one = laws.one_listing text lines (lines_of plan) is (plan_is plan text fits same) in
    let none = laws.one_difference lines (lines_of plan) None (Some (record { line = n; found = found; want = want })) one apart in
    absurd cc

same_difference : ListingsAreOne → (plan : LinkPlan) (text : List ℕ) (n m : ℕ) (found want other another : Option Line)
    → (lines : List Line) × IsListing lines text × DiffersAt lines (lines_of plan) n found want
    → (lines : List Line) × IsListing lines text × DiffersAt lines (lines_of plan) m other another → ◌≡◌ {A = Verdict} (Differs n found want) (Differs m other another)
same_difference laws plan text n m found want other another (ks, first, a) (ls, second, b) =
    let one = laws.one_listing text ls ks second first in
    let apart = subst (λ (xs : List Line). DiffersAt xs (lines_of plan) m other another) one b in
    let d : Difference = record { line = n; found = found; want = want } in
    let e : Difference = record { line = m; found = other; want = another } in
    let same = laws.one_difference ks (lines_of plan) (Some d) (Some e) a apart in
    ap (λ (o : Option Difference). elim o [ None ↦ Same | Some x ↦ Differs x.line x.found x.want ]) same

pub one_verdict : ListingsAreOne → (plan : LinkPlan) (text : List ℕ) (a b : Verdict) → AllByRecursion InRange (lines_of plan) → IsVerdict plan text a → IsVerdict plan text b → a ≡ b
one_verdict laws plan text Same Same fits h g = refl
one_verdict laws plan text Same (Bad n) fits h g = absurd (laws.not_both text (lines_of plan) n (plan_is plan text fits h) g)
one_verdict laws plan text Same (Differs n found want) fits h g = absurd (never_both laws plan text n found want fits h g)
one_verdict laws plan text (Bad n) Same fits h g = absurd (laws.not_both text (lines_of plan) n (plan_is plan text fits g) h)
one_verdict laws plan text (Bad n) (Bad m) fits h g = ap (λ (k : ℕ). Bad k) (laws.one_bad_line text n m h g)
one_verdict laws plan text (Bad n) (Differs m found want) fits h g = absurd (laws.not_both text g.0 n g.1 h)
one_verdict laws plan text (Differs n found want) Same fits h g = absurd (never_both laws plan text n found want fits g h)
one_verdict laws plan text (Differs n found want) (Bad m) fits h g = absurd (laws.not_both text h.0 m h.1 g)
one_verdict laws plan text (Differs n found want) (Differs m other another) fits h g = same_difference laws plan text n m found want other another h g

pub one_check : ListingsAreOne → ((objects : List (List ℕ)) (args : WasmArgs) (a b : LinkPlan) → IsLinkPlan objects args a → IsLinkPlan objects args b → a ≡ b)
    → (objects : List (List ℕ)) (args : WasmArgs) (text : List ℕ) (a b : Verdict) → IsChecked objects args text a → IsChecked objects args text b → a ≡ b
one_check laws plans objects args text a b h g =
    let same = plans objects args g.plan h.plan g.planned h.planned in
    one_verdict laws h.plan text a b h.in_range h.verdict (subst (λ (p : LinkPlan). IsVerdict p text b) same g.verdict)

-- what is reported where the lines of a text are those of the plan
pub told : (plan : LinkPlan) (text : List ℕ) (lines : List Line) → IsListing lines text → lines ≡ lines_of plan → text ≡ listing_text plan
told plan text lines h same = h.joined ∙ ap (λ (xs : List Line). flat_map line_text xs) same

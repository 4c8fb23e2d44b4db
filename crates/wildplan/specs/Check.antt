-- What checking a text against the listing of a plan says.
use Rattle.std.specs.Prelude.{◌≡◌, ℕ, List, ◌++◌, codes, decimal}
use Rattle.std.specs.List.{AllByRecursion}
use Rattle.wl_words.specs.declared.args.WasmArgs.{WasmArgs}
use Rattle.wl_check.specs.Difference.{DiffersAt}
use Rattle.wl_check.specs.Ranges.{InRange}
use Rattle.wl_check.specs.Spelled.{IsBadLine, IsListing}
use Rattle.wl_check.specs.declared.line.Line.{Line}
use Rattle.wl_plan.specs.LinkPlan.{IsLinkPlan}
use Rattle.wl_plan.specs.PlanLines.{lines_of, listing_text}
use Rattle.wl_plan.specs.declared.layout.LinkPlan.{LinkPlan}
use Rattle.wildplan.specs.declared.check.Verdict.{Verdict}
use Rattle.wildplan.specs.declared.check.Verdict.TheVariants.{Same, Bad, Differs}

-- The text is the listing of the plan; or its stretch of that number, from 0, is the first that
-- spells no line; or it is another listing, and that is the least place at which its lines and
-- those of the plan differ.
abbrev pub IsVerdict : LinkPlan → List ℕ → Verdict → Type 0
IsVerdict plan text Same = text ≡ listing_text plan
IsVerdict plan text (Bad line) = IsBadLine text line
IsVerdict plan text (Differs line found want) =
    (lines : List Line) × IsListing lines text × DiffersAt lines (lines_of plan) line found want

-- what is said of a text and the plan of objects, each of whose lines has numbers in range
pub record IsChecked (objects : List (List ℕ)) (args : WasmArgs) (text : List ℕ) (v : Verdict)
    : Type 0 where
  pub plan : LinkPlan
  pub planned : IsLinkPlan objects args plan
  pub in_range : AllByRecursion InRange (lines_of plan)
  pub verdict : IsVerdict plan text v

-- the line of a verdict: what it is, and the number of the line that it names
abbrev pub verdict_text : Verdict → List ℕ
verdict_text Same = codes "same\n"
verdict_text (Bad line) = codes "bad " ++ decimal line ++ codes "\n"
verdict_text (Differs line found want) = codes "differs " ++ decimal line ++ codes "\n"

-- this is the line of the verdict on a text and a plan
abbrev pub IsVerdictText : LinkPlan → List ℕ → List ℕ → Type 0
IsVerdictText plan text line = (v : Verdict) × IsVerdict plan text v × (line ≡ verdict_text v)

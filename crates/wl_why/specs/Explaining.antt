-- Steps as `explain` makes them.
use Rattle.std.specs.Prelude.{◌≡◌, ℕ, List, Option, Some, None, slice_get}
use Rattle.std.specs.List.{AllZip}
use Rattle.wl_symbols.specs.declared.units.LinkUnit.{LinkUnit}
use Rattle.wl_why.specs.Certificate.{step_unit}
use Rattle.wl_why.specs.declared.certificate.Step.{Step}
use Rattle.wl_why.specs.declared.walk.Visit.{Visit}

-- the step of a unit that comes from that place
abbrev pub step_of : LinkUnit → Option ℕ → Step
step_of u from = record { object = u.object; unit = u.unit; from = from }

-- the step of a unit that comes from none
abbrev pub plain_step : LinkUnit → Step
plain_step u = step_of u None

-- the step is of the unit of the visited number, and comes from where the visit does
pub record IsVisitStep (units : List LinkUnit) (v : Visit) (s : Step) : Type 0 where
  pub unit : slice_get units v.node ≡ Some (step_unit s)
  pub from : s.from ≡ v.from

-- the steps are those of the visits
abbrev pub AreVisitSteps : List LinkUnit → List Visit → List Step → Type 0
AreVisitSteps units visits steps = AllZip (IsVisitStep units) visits steps

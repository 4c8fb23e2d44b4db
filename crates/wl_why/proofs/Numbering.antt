-- What the numbers of units are good for, and how steps are looked up.
use Rattle.std.proofs.Common.{◌≡◌, ℕ, ◌<◌, true, List, ap, sym, ◌∙◌, length, Some, None, slice_get}
use Rattle.std.specs.Option.{option_map}
use Rattle.std.proofs.lemmas.Option.{slice_get_within, same_Some}
use Rattle.wl_lists.proofs.Found.{map_some}
use Rattle.wl_symbols.specs.Link.{Link}
use Rattle.wl_symbols.specs.Units.{units_of, exists, unit_number, total_of}
use Rattle.wl_symbols.specs.Roots.{IsRoot}
use Rattle.wl_symbols.specs.declared.units.LinkUnit.{LinkUnit}
use Rattle.wl_symbols.specs.declared.units.UnitCounts.{UnitCounts}
use Rattle.wl_symbols.specs.declared.units.WasmGcUnit.TheVariants.{DefinedFunction}
use Rattle.wl_why.specs.Certificate.{step_unit, unit_at_place}
use Rattle.wl_why.specs.declared.certificate.Step.{Step}

-- what `units_are_numbered` of wl_symbols says
pub record Numbering : Type 0 where
  pub below : (ns : List UnitCounts) (u : LinkUnit) → exists ns u ≡ true → unit_number ns u < total_of ns
  pub own : (ns : List UnitCounts) (u v : LinkUnit) → exists ns u ≡ true → exists ns v ≡ true → unit_number ns u ≡ unit_number ns v → u ≡ v
  pub each : (ns : List UnitCounts) (n : ℕ) → n < total_of ns → (u : LinkUnit) × (exists ns u ≡ true) × (unit_number ns u ≡ n)
  pub roots : (link : Link) (u : LinkUnit) → IsRoot link u → exists (units_of link.objects) u ≡ true

-- what a step is read as that isn't there
abbrev pub no_step : Step
no_step = record { object = 0; unit = DefinedFunction 0; from = None }

-- the unit of a step that stands there
pub unit_here : (steps : List Step) (place : ℕ) (s : Step) → slice_get steps place ≡ Some s → unit_at_place steps place ≡ Some (step_unit s)
unit_here steps place s at = ap (option_map step_unit) at

-- the step of a unit that stands there
pub step_here : (steps : List Step) (place : ℕ) (u : LinkUnit) → unit_at_place steps place ≡ Some u → (s : Step) × (slice_get steps place ≡ Some s) × (step_unit s ≡ u)
step_here steps place u at = map_some step_unit (slice_get steps place) u at

pub place_within : (steps : List Step) (place : ℕ) (u : LinkUnit) → unit_at_place steps place ≡ Some u → place < length steps
place_within steps place u at = let p = step_here steps place u at in slice_get_within steps place p.0 p.1

pub same_unit_here : (steps : List Step) (place : ℕ) (u v : LinkUnit) → unit_at_place steps place ≡ Some u → unit_at_place steps place ≡ Some v → u ≡ v
same_unit_here steps place u v a b = same_Some u v (sym a ∙ b)

pub same_step_here : (steps : List Step) (place : ℕ) (s t : Step) → slice_get steps place ≡ Some s → slice_get steps place ≡ Some t → s ≡ t
same_step_here steps place s t a b = same_Some s t (sym a ∙ b)

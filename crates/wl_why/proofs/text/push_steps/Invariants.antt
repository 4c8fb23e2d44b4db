use Rattle.std.proofs.Common.{◌≡◌, ◌++◌, drop}
use Rattle.std.specs.List.{flat_map}
use Rattle.wl_why.specs.Text.{why_line}
use Rattle.wl_why.proofs.text.push_steps.Given as goal

abbrev pub invariant-loop-step : goal.invariant-loop-step
invariant-loop-step l = l.page ++ flat_map (why_line l.collects l.steps) (drop l.step-index l.steps) ≡ l.fn.page ++ flat_map (why_line l.collects l.steps) l.steps

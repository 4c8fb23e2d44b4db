use Rattle.std.proofs.Common.{◌≡◌, drop, length, replicate, false}
use Rattle.wl_symbols.specs.Units.{total_of}
use Rattle.wl_why.specs.Marked.{with_marks}
use Rattle.wl_why.specs.Text.{step_number}
use Rattle.wl_why.proofs.text.mark_steps.Given as goal

abbrev pub invariant-loop-step : goal.invariant-loop-step
invariant-loop-step l = record {
  each : length l.marks ≡ total_of l.numbers;
  marks : with_marks (step_number l.numbers) l.marks (drop l.step-index l.steps) ≡ with_marks (step_number l.numbers) (replicate (total_of l.numbers) false) l.steps;
}

use Rattle.std.proofs.Common.{◌≡◌, Some}
use Rattle.wl_load.specs.Images.{code_of}
use Rattle.wl_load.specs.Storage.{machine}
use Rattle.wl_load.specs.Steps.{Going, exec}
use Rattle.wl_load.proofs.running.run_steps.Given as goal

abbrev pub invariant-loop-used : goal.invariant-loop-used
invariant-loop-used l = record {
  going : exec l.program l.used (machine l.fn.stack l.fn.store) ≡ Going (machine l.stack l.store);
  code : code_of l.program l.running.function ≡ Some l.running.code.now;
}

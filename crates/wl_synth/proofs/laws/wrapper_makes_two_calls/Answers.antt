use Rattle.std.proofs.Common.{length}
use Rattle.wl_synth.specs.Bodies.{wrapper_ops}
use Rattle.wl_synth.proofs.RunLaws.{wrapper_runs}
use Rattle.wl_synth.proofs.laws.wrapper_makes_two_calls.Goals as goal

pub returns : goal.returns
returns c w s ctors original type body e fits first is fit = (wrapper_ops ctors original (length type.params), e.decodes.0, wrapper_runs w s ctors original type fits first is fit)

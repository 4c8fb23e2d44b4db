use Rattle.wl_synth.specs.Bodies.{call_sequence_ops}
use Rattle.wl_synth.proofs.RunLaws.{sequence_runs}
use Rattle.wl_synth.proofs.laws.call_sequence_makes_its_calls.Goals as goal

pub returns : goal.returns
returns c w s calls body e fits a = (call_sequence_ops calls, e.decodes.0, sequence_runs w s calls fits a)

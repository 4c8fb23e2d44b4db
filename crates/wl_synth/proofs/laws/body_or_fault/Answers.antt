use Rattle.std.proofs.Common.{◌≡◌}
use Rattle.wl_synth.specs.declared.error.SynthError.TheVariants.{OutOfMemory, Range}
use Rattle.wl_synth.proofs.BodyLaws.{none_too_great}
use Rattle.wl_synth.proofs.OneLaws.{OneForm, body_one}
use Rattle.wl_synth.proofs.laws.body_or_fault.Goals as goal

pub returns-clause-one : goal.returns-clause-one
returns-clause-one c ops body other e f =
    let forms : OneForm = record { unsigned = c.shortest_form_is_one.ensures.unsigned; signed = c.shortest_form_is_one.ensures.signed } in
    body_one forms ops body other e f

pub returns-clause-either : goal.returns-clause-either
returns-clause-either c ops body number e fault = absurd (let no : Range number ≡ OutOfMemory = none_too_great ops (Range number) e.in_range fault in cc)

use Rattle.std.proofs.Common.{◌≡◌}
use Rattle.wl_bind.specs.Stepped.{stepped}
use Rattle.wl_bind.specs.Later.{globals_walked}
use Rattle.wl_bind.proofs.SteppedLaws.{left_from}
use Rattle.wl_bind.proofs.absorbing.absorb_got_imports.Given as goal

abbrev pub invariant-loop-object : goal.invariant-loop-object
invariant-loop-object l =
    left_from (globals_walked l.input l.scan) l.object l.files l.rows
    ≡ stepped (globals_walked l.input l.scan) 0 l.files l.fn.rows

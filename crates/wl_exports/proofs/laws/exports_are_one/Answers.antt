use Rattle.wl_exports.proofs.OneLaws.{exports_one, wrappers_one}
use Rattle.wl_exports.proofs.laws.exports_are_one.Goals as goal

pub returns-clause-exports : goal.returns-clause-exports
returns-clause-exports c =
    λ input xs ys x y. exports_one input xs ys (c.entries_stand_once.ensures.functions input)
    (c.entries_stand_once.ensures.globals input) x y

pub returns-clause-wrappers : goal.returns-clause-wrappers
returns-clause-wrappers c =
    λ input xs ys x y. wrappers_one input xs ys (c.entries_stand_once.ensures.functions input) x y

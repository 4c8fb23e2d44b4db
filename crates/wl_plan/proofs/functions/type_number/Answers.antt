use Rattle.std.proofs.Common.{◌∙◌, sym}
use Rattle.wl_plan.proofs.TypePlaceLaws.{type_there, type_at}
use Rattle.wl_plan.proofs.functions.type_number.Goals as goal

pub returns-in-Some : goal.returns-in-Some
returns-in-Some c = λ one.
    type_at c.args.types.now c.args.ty.now c.in-Some.place c.same_types_are_one.ensures
    (sym c.place.ensures.place ∙ c.in-Some.is)

pub returns-in-None : goal.returns-in-None
returns-in-None c = λ one.
    let there = type_there c.args.types.now c.args.ty.now one in
    let found = c.in-None.ensures.found in
    absurd cc

use Rattle.std.proofs.Common.{◌∙◌, Some, sym, ap}
use Rattle.wl_module.specs.Types.{FunctionType}
use Rattle.wl_types.proofs.SameLaws.{type_is, type_at}
use Rattle.wl_types.proofs.types.TypeMerger.add.Goals as goal

pub returns-in-Some-clause-place : goal.returns-in-Some-clause-place
returns-in-Some-clause-place c =
    type_at c.args.self.now c.args.ty.now c.in-Some.place (sym c.in-Some.ensures.place)

pub returns-clause-place : goal.returns-clause-place
returns-clause-place c =
    let stored = c.in_ok-place.ensures.stored in
    stored.1 ∙ ap (λ (t : FunctionType). Some t) (sym (type_is c.in_ok-added.added stored.0 stored.2) ∙ c.in_ok-added.ensures)

use Rattle.std.proofs.Common.{◌∙◌, ℤ, ap, rules, sym, w32, Ok, Option, Some}
use Rattle.std.specs.Prelude.{FitsSigned}
use Rattle.std.proofs.lemmas.Int.{to_z-of_z}
use Rattle.wl_plan.proofs.TakenLaws.{refused_pointer, takes_pointer}
use Rattle.wl_plan.proofs.fixups.FixupSources.taken.Goals as goal

pub returns-in-Err : goal.returns-in-Err
returns-in-Err c =
    let s = c.args.self.now in
    refused_pointer s.book.now.input.now s.book.now.placing.now c.args.relocated.now c.in-Err.error
    (sym c.pointer.ensures ∙ c.in-Err.is)

pub returns-in-Some : goal.returns-in-Some
returns-in-Some c =
    let s = c.args.self.now in
    let fits : FitsSigned w32 c.in-Some.offset = search rules in
    let same = to_z-of_z w32 c.in-Some.offset fits in
    takes_pointer s.book.now.input.now s.book.now.placing.now c.args.relocated.now _
    (sym c.pointer.ensures ∙ (c.in-Ok.is ∙ ap (λ (p : Option ℤ). Ok p) (c.in-Some.is ∙ ap (λ (z : ℤ). Some z) (sym same))))

use Rattle.std.proofs.Common.{◌∙◌, rules, w32}
use Rattle.std.specs.Prelude.{FitsSigned}
use Rattle.std.proofs.lemmas.Int.{to_z-of_z}
use Rattle.wl_plan.proofs.TakenLaws.{refused_value, takes_value}
use Rattle.wl_plan.proofs.fixups.FixupSources.value_taken.Goals as goal

pub returns-in-Err : goal.returns-in-Err
returns-in-Err c =
    let s = c.args.self.now in
    refused_value s.book.now.input.now s.book.now.placing.now c.args.relocated.now c.in-Err.error
    c.requires.common c.in-Err.ensures

pub returns-in-Ok : goal.returns-in-Ok
returns-in-Ok c =
    let s = c.args.self.now in
    let r = c.args.relocated.now in
    let fits : FitsSigned w32 c.addend_left.result = search rules in
    let same = to_z-of_z w32 c.addend_left.result fits ∙ c.addend_left.ensures in
    takes_value s.book.now.input.now s.book.now.placing.now r c.in-Ok.value _
    c.requires.common c.in-Ok.ensures same

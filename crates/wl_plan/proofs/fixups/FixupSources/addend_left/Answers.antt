use Rattle.std.proofs.Common.{◌≡◌, ◌∙◌, false, sym}
use Rattle.wl_custom.specs.RelocationTypes.{is_absolute}
use Rattle.wl_plan.specs.Threads.{address_named}
use Rattle.wl_plan.proofs.FixupLaws.{left_zero}
use Rattle.wl_plan.proofs.fixups.FixupSources.addend_left.Goals as goal

pub returns-then-not-is_absolute : goal.returns-then-not-is_absolute
returns-then-not-is_absolute c =
    let r = c.args.relocated.now in
    let off : is_absolute r.relocation.ty ≡ false = sym c.is_absolute.ensures ∙ c.if-not-is_absolute.true in
    sym (left_zero (address_named c.args.self.now.book.now.input.now c.args.self.now.book.now.placing.now r) r.relocation off)

use Rattle.wl_check.proofs.RowLaws.{fixup_row}
use Rattle.wl_check.proofs.rows.push_fixup_line.Goals as goal

pub returns-clause-appended : goal.returns-clause-appended
returns-clause-appended c =
    fixup_row c.args.page.now c.push_decimal.new.self c.push_place.new.page c.push_decimal-2.new.self c.push_word.new.self c.push_word-2.new.self c.push_to.new.page c.args.fixup
    c.in_ok-push_decimal.ensures c.in_ok-push_place.ensures (rw c.from.ensures at c.in_ok-push_decimal-2.ensures) c.in_ok-push_word.ensures (rw c.word.ensures at c.in_ok-push_word-2.ensures) c.in_ok-push_to.ensures.appended

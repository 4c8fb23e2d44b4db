use Rattle.std.proofs.Common.{◌≡◌, ◌≢◌, List, [], ℕ, refl, subst}
use Rattle.wl_check.proofs.ListingLaws.{IsRead, are_more, are_none, line_shortens, read_all, read_bad}
use Rattle.wl_check.proofs.listing.check_lines.Goals as goal

pub loop-words-init : goal.loop-words-init
loop-words-init c = rw c.new-words.ensures (are_none c.args.text.now)

pub loop-words-smaller : goal.loop-words-smaller
loop-words-smaller c = line_shortens c.loop-words.words c.in-Ok.line c.line.new.self c.in-Ok.ensures

pub loop-words-preserved : goal.loop-words-preserved
loop-words-preserved c =
    are_more c.args.text.now c.loop-words.lines c.loop-words.words c.in-Ok.line c.line.new.self c.loop-words.invariant c.in-Ok.ensures

pub returns-in-Err-NoLine-clause-err : goal.returns-in-Err-NoLine-clause-err
returns-in-Err-NoLine-clause-err c =
    let some : c.loop-words.words ≢ [] = λ none. (let h = c.loop-words-test.ensures.1 none in cc) in
    let r = c.loop-words.invariant in
    rw (← r.count) (read_bad c.args.text.now r.lines c.loop-words.words r.read some (rw c.in-Err-NoLine.field-0-is at c.in-Err-NoLine.ensures))

pub returns-clause-listing : goal.returns-clause-listing
returns-clause-listing c =
    let none : c.loop-words.words ≡ [] = c.loop-words-test.ensures.0 refl in
    let r = c.loop-words.invariant in
    (r.lines, read_all c.args.text.now r.lines (subst (λ (w : List ℕ). IsRead c.args.text.now r.lines w) none r.read))

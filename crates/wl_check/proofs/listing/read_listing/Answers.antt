use Rattle.std.proofs.Common.{◌≡◌, ◌≢◌, List, [], ℕ, length, refl, ◌∙◌, subst}
use Rattle.wl_check.proofs.ListingLaws.{IsRead, read_more, read_bad, read_all, line_shortens, reads_good, reads_fault}
use Rattle.wl_check.proofs.listing.read_listing.Goals as goal

pub loop-words-smaller : goal.loop-words-smaller
loop-words-smaller c = line_shortens c.loop-words.words c.in-Ok.line c.line.new.self c.in-Ok.ensures

pub loop-words-preserved : goal.loop-words-preserved
loop-words-preserved c =
    rw c.in_ok-push-in-Ok.ensures.items (read_more c.args.text.now c.loop-words.lines.items c.loop-words.words c.in-Ok.line c.line.new.self c.loop-words.invariant c.in-Ok.ensures)

pub returns-in-Err-NoLine : goal.returns-in-Err-NoLine
returns-in-Err-NoLine c =
    let some : c.loop-words.words ≢ [] = λ none. (let h = c.loop-words-test.ensures.1 none in cc) in
    let count : c.len.result ≡ length c.loop-words.lines.items = c.len.ensures ∙ c.loop-words.lines.ok.0 in
    rw count (reads_fault _ c.args.text.now (length c.loop-words.lines.items) (read_bad c.args.text.now c.loop-words.lines.items c.loop-words.words c.loop-words.invariant some (rw c.in-Err-NoLine.field-0-is at c.in-Err-NoLine.ensures)))

pub returns : goal.returns
returns c =
    let none : c.loop-words.words ≡ [] = c.loop-words-test.ensures.0 refl in
    let whole : IsRead c.args.text.now c.loop-words.lines.items [] = subst (λ (w : List ℕ). IsRead c.args.text.now c.loop-words.lines.items w) none c.loop-words.invariant in
    reads_good _ c.args.text.now c.loop-words.lines (read_all c.args.text.now c.loop-words.lines.items whole)

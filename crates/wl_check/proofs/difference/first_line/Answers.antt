use Rattle.std.proofs.Common.{rules, ◌≡◌, ◌≢◌, List, [], Option, None, slice_get, sym, ap, subst}
use Rattle.std.proofs.lemmas.List.{nil_from_length}
use Rattle.wl_check.specs.declared.line.Line.{Line}
use Rattle.wl_check.proofs.DifferenceLaws.{line_is, line_there, listing_none}
use Rattle.wl_check.proofs.difference.first_line.Goals as goal

pub returns-then-is_empty : goal.returns-then-is_empty
returns-then-is_empty c = λ lines h.
    let none = nil_from_length c.args.text.now (search rules) in
    sym (ap (λ (xs : List Line). slice_get xs 0) (listing_none lines c.args.text.now h none))

pub unreachable-requires : goal.unreachable-requires
unreachable-requires c =
    let some : c.args.text.now ≢ [] = search rules in
    line_there c.requires.0 c.args.text.now c.requires.1 some (rw (c.in-Err-NoLine.field-0-is, c.new.ensures) at c.in-Err-NoLine.ensures)

pub returns-in-Ok : goal.returns-in-Ok
returns-in-Ok c = λ lines h.
    line_is lines c.args.text.now c.in-Ok.line c.line.new.self h (rw c.new.ensures at c.in-Ok.ensures)

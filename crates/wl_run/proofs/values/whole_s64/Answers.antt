use Rattle.std.proofs.Common.{◌≡◌, ◌∙◌, sym, rules, w64, SFits, []}
use Rattle.std.proofs.lemmas.Int.{to_z-of_z}
use Rattle.wl_bytes.specs.Leb.{s64_form}
use Rattle.wl_run.proofs.ValueLaws.{none_left, some_left, refused, taken, left_over}
use Rattle.wl_run.proofs.values.whole_s64.Goals as goal

pub returns-in_default : goal.returns-in_default
returns-in_default c =
    refused s64_form c.args.text.now _ _ _ c.in_default.ensures.reads c.new-reader.ensures

pub returns-then-is_empty : goal.returns-then-is_empty
returns-then-is_empty c =
    let fits : SFits w64 c.in-Ok.number = search rules in
    let none : c.read_s64.new.self.rest ≡ [] =
    sym c.rest.ensures.value ∙ none_left c.rest.result.now c.if-is_empty.ensures in
    rw (to_z-of_z w64 c.in-Ok.number fits) (taken s64_form c.args.text.now _ _ _ c.in-Ok.ensures.reads c.new-reader.ensures none)

pub returns-else-is_empty : goal.returns-else-is_empty
returns-else-is_empty c =
    left_over s64_form c.args.text.now _ _ _ c.in-Ok.ensures.reads c.new-reader.ensures
    (λ none. some_left c.rest.result.now c.if-is_empty.ensures (c.rest.ensures.value ∙ none))

use Rattle.std.proofs.Common.{◌≢◌, ◌∙◌, get_or, sym, true≢false, arith}
use Rattle.std.proofs.lemmas.Str.Pattern.{starts_char}
use Rattle.std.proofs.lemmas.Str.Parse.{parse_plain}
use Rattle.wl_words.proofs.NumberLaws.{digits, number_read}
use Rattle.wl_words.proofs.values.number_of.Goals as goal

pub returns : goal.returns
returns c =
    let starts = starts_char 43 c.args.text.now c.starts_with.result c.starts_with.ensures.cases (omega arith) (omega arith) in
    let plain : get_or c.args.text.now 0 0 ≢ 43 = λ is. absurd (true≢false (sym (starts.1 is) ∙ c.if-starts_with.false)) in
    c.ok.ensures.value ∙ number_read 64 c.args.text.now c.parse.result (parse_plain digits 64 c.args.text.now c.parse.result c.parse.ensures.value.0 plain)

use Rattle.std.proofs.Common.{rules, ◌++◌, sym, ap, ◌∙◌, arith}
use Rattle.std.proofs.lemmas.Str.Pattern.{split_once_first}
use Rattle.wl_words.proofs.NamesInLaws.{names_step, names_last}
use Rattle.wl_words.proofs.values.names_in.Goals as goal

pub loop-name-preserved : goal.loop-name-preserved
loop-name-preserved c =
    let cut = split_once_first 44 c.loop-name.rest.now c.split_once.result c.split_once.ensures.cases (omega arith) in
    let parts = rw c.in-Some.is at cut in
    let put = c.in_ok-push_filled.ensures in
    (search rules, names_step c.loop-name.names c.push_filled.new.self c.args.value.now c.loop-name.rest.now c.in-Some.name.now c.in-Some.behind.now put parts.0 parts.1 parts.2 c.loop-name.invariant.1)

pub returns : goal.returns
returns c =
    let cut = split_once_first 44 c.loop-name.rest.now c.split_once.result c.split_once.ensures.cases (omega arith) in
    let none = rw c.in_default.is at cut in
    let put = c.in_ok-push_filled-2.ensures in
    put ∙ ap (λ xs. c.loop-name.names ++ xs) (sym (names_last c.loop-name.rest.now none)) ∙ c.loop-name.invariant.1

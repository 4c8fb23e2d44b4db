use Rattle.std.proofs.Common.{rules, ◌≡◌, ◌≢◌, List, [], length, ap}
use Rattle.std.proofs.lemmas.List.{nil_from_length}
use Rattle.wl_check.proofs.DifferenceLaws.{alike_differ, alike_whole}
use Rattle.wl_check.proofs.difference.first_difference.Goals.{else-is_empty-via-then-is_empty+else-is_empty-2, else-is_empty-via-else-is_empty}
use Rattle.wl_check.proofs.difference.first_difference.Goals as goal

pub returns-then-is_empty-2 : goal.returns-then-is_empty-2
returns-then-is_empty-2 c = λ ks ls h g.
    let both = c.common_front-alike.result in
    alike_whole c.args.found.now c.args.want.now both.lines both.found.now both.want.now c.common_front-alike.ensures.alike
    (nil_from_length both.found.now (search rules)) (nil_from_length both.want.now (search rules)) ks ls h g

pub returns : goal.returns
returns c = λ ks ls h g.
    let both = c.common_front-alike.result in
    let some : both.found.now ≡ [] → both.want.now ≡ [] → ⊥ = elim c.else-is_empty.branch [
      | else-is_empty-via-then-is_empty+else-is_empty-2 w ↦ λ found want. (let other : both.want.now ≢ [] = search rules in other want)
      | else-is_empty-via-else-is_empty w ↦ λ found want. (let other : both.found.now ≢ [] = search rules in other found)
    ] in
    alike_differ c.args.found.now c.args.want.now both.lines both.found.now both.want.now c.in_ok-first_line.field-0 c.in_ok-first_line-2.field-0
    c.common_front-alike.ensures.alike c.common_front-alike.ensures.apart some c.in_ok-first_line.ensures c.in_ok-first_line-2.ensures ks ls h g

use Rattle.std.proofs.Common.{rules, ◌≡◌, ◌≢◌, ◌<◌, ◌+◌, ◌-◌, ◌∙◌, ℕ, List, [], Option, Some, length, drop, sym, ap, subst, arith}
use Rattle.wl_check.specs.DifferenceSteps.{AreAlike}
use Rattle.wl_check.specs.Reading.{strip}
use Rattle.wl_check.specs.Spelled.{first_stretch}
use Rattle.wl_check.proofs.DifferenceLaws.{alike_first, alike_more, stretch_some, stretch_within}
use Rattle.wl_check.proofs.difference.common_front.Goals as goal

pub loop-stretch-init : goal.loop-stretch-init
loop-stretch-init c =
    alike_first c.requires.found.0 c.requires.want.0 c.args.found.now c.args.want.now c.requires.found.1 c.requires.want.1

pub split_at-requires : goal.split_at-requires
split_at-requires c = rw c.first_stretch-stretch.ensures (stretch_within c.loop-stretch.found.now)

pub loop-stretch-smaller : goal.loop-stretch-smaller
loop-stretch-smaller c =
    let some : c.loop-stretch.found.now ≢ [] = search rules in
    let one = stretch_some c.loop-stretch.found.now some in
    let within = stretch_within c.loop-stretch.found.now in
    let same = ap (λ (t : List ℕ). length t) c.first_stretch-stretch.ensures in
    let left = c.split_at.ensures.back_len in
    omega (arith, one, within, same, left)

pub loop-stretch-preserved : goal.loop-stretch-preserved
loop-stretch-preserved c =
    let found = c.loop-stretch.found.now in
    let some : c.loop-stretch.found.now ≢ [] = search rules in
    let there : strip (first_stretch found) c.loop-stretch.want.now ≡ Some c.in-Some.behind.now =
    ap (λ (t : List ℕ). strip t c.loop-stretch.want.now) (sym c.first_stretch-stretch.ensures) ∙ c.in-Some.ensures.rest in
    let left : c.split_at.result.1.now ≡ drop (length (first_stretch found)) found =
    c.split_at.ensures.back ∙ ap (λ (t : List ℕ). drop (length t) found) c.first_stretch-stretch.ensures in
    subst (λ (t : List ℕ). AreAlike c.args.found.now c.args.want.now (c.loop-stretch.lines + 1) t c.in-Some.behind.now) (sym left)
    (alike_more c.args.found.now c.args.want.now c.loop-stretch.lines found c.loop-stretch.want.now c.in-Some.behind.now c.loop-stretch.invariant some there)

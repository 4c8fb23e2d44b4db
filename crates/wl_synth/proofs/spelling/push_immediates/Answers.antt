use Rattle.std.proofs.Common.{◌≡◌, [], drop, arith}
use Rattle.wl_synth.specs.Spelling.{StandBehind}
use Rattle.std.specs.Prelude.{map, pos, None}
use Rattle.wl_synth.specs.Encoding.{AddsText}
use Rattle.wl_synth.proofs.SpellLaws.{number_more, numbers_done}
use Rattle.std.proofs.lemmas.Grind.{common_steps}
use Rattle.wl_synth.proofs.spelling.push_immediates.Goals as goal

pub loop-number-preserved : goal.loop-number-preserved
loop-number-preserved c =
    number_more (AddsText (StandBehind c.args.code None (map (λ n. pos n) c.args.numbers.now)) c.args.out.now.items) c.args.numbers.now c.loop-number.number-index c.loop-number.out.items c.push_immediate.new.out.items
    c.loop-number-test.true c.loop-number.invariant c.in_ok-push_immediate.ensures

pub returns : goal.returns
returns c =
    let none : drop c.loop-number.number-index c.args.numbers.now ≡ [] = grind (arith, common_steps) in
    numbers_done (AddsText (StandBehind c.args.code None (map (λ n. pos n) c.args.numbers.now)) c.args.out.now.items) c.args.numbers.now c.loop-number.number-index c.loop-number.out.items
    none c.loop-number.invariant

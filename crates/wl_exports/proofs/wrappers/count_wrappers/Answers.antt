use Rattle.std.proofs.Common.{◌≡◌, ◌∙◌, ◌+◌, true, sym, ap, arith}
use Rattle.wl_exports.specs.Wrappers.{wraps}
use Rattle.wl_lists.proofs.Places.{item_at}
use Rattle.wl_exports.proofs.WrapLaws.{count_more, count_all, at_most_one, one_if, byte_if}
use Rattle.wl_exports.proofs.wrappers.count_wrappers.Goals as goal

pub loop-export-preserved : goal.loop-export-preserved
loop-export-preserved c =
    let input = c.args.input.now in
    let i = c.loop-export.export-index in
    let x = c.export-item.result in
    let at = item_at c.args.exports.now i x c.loop-export-test.true c.export-item.is in
    let more = count_more input c.args.exports.now i x c.loop-export.count c.can_wrap.result c.requires.plain at
    (λ e plain. c.can_wrap.ensures input e c.requires.hosts plain) c.loop-export.invariant.counted in
    let one : c.from-count.result ≡ one_if c.can_wrap.result = c.from-count.ensures ∙ byte_if c.can_wrap.result in
    let most = at_most_one c.can_wrap.result c.from-count.result one in
    let few = c.loop-export.invariant.few in
    record {
      few = omega (arith, most, few);
      counted = ap (λ n. c.loop-export.count + n) one ∙ more;
    }

pub returns : goal.returns
returns c =
    let input = c.args.input.now in
    let wrap : wraps input ≡ true = sym c.wraps.ensures ∙ c.if-not-wraps.false in
    count_all input c.args.exports.now c.loop-export.export-index c.loop-export.count c.requires.plain
    c.loop-export-test.false wrap c.loop-export.invariant.counted

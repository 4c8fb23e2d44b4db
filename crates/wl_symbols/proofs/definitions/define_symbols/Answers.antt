use Rattle.std.proofs.Common.{◌+◌, take, arith, refl}
use Rattle.std.proofs.lemmas.List.{take_all, length-take-le}
use Rattle.wl_symbols.specs.Adding.{firsts_in}
use Rattle.wl_symbols.specs.Definitions.{defined_by}
use Rattle.wl_symbols.proofs.CountLaws.{entries_few, symbols_counted}
use Rattle.wl_symbols.proofs.RowLaws.{row_more}
use Rattle.wl_symbols.proofs.definitions.define_symbols.Goals as goal

pub returns-in_err-push-clause-cost : goal.returns-in_err-push-clause-cost
returns-in_err-push-clause-cost g c =
    let object = c.args.object in
    let k = c.loop-i.i in
    let symbols = c.args.symbols.now in
    let s = c.index-symbols-i.result in
    let all = symbols_counted object k symbols s c.loop-i-test.true c.index-symbols-i.is in
    let few = entries_few object 0 (take (k + 1) symbols) in
    let len = length-take-le (k + 1) symbols (omega (arith, c.loop-i-test.true)) in
    let before = c.loop-i.invariant.counted in
    let one = c.define.ensures.cost in
    omega (arith, all, few, len, before, one, c.loop-i-test.true)

pub loop-i-preserved : goal.loop-i-preserved
loop-i-preserved g c =
    let object = c.args.object in
    let k = c.loop-i.i in
    let symbols = c.args.symbols.now in
    let s = c.index-symbols-i.result in
    let all = symbols_counted object k symbols s c.loop-i-test.true c.index-symbols-i.is in
    let before = c.loop-i.invariant.counted in
    let one = c.define.ensures.cost in
    record {
      row = rw (
        c.in_ok-push.ensures.items,
        c.define.ensures.value,
        c.loop-i.invariant.row,
        row_more (defined_by (firsts_in c.args.names.now.names.firsts) c.args.args.now object) k
            symbols s c.loop-i-test.true c.index-symbols-i.is,
      )
          refl;
      counted = omega (arith, all, before, one);
    }

pub returns-clause-cost : goal.returns-clause-cost
returns-clause-cost g c =
    let object = c.args.object in
    let k = c.loop-i.i in
    let symbols = c.args.symbols.now in
    let whole = take_all k symbols c.loop-i-test.false in
    let before = rw whole at c.loop-i.invariant.counted in
    let few = entries_few object 0 symbols in
    omega (arith, before, few)

use Rattle.std.proofs.Common.{◌+◌, take, drop, arith}
use Rattle.wl_symbols.specs.Entries.{entries_at, entries_from}
use Rattle.wl_symbols.specs.Adding.{firsts_in}
use Rattle.wl_symbols.proofs.AdditionLaws.{adds_all, meets_all, symbols_split, symbols_more}
use Rattle.wl_symbols.proofs.CountLaws.{symbols_counted}
use Rattle.wl_symbols.proofs.adding.add_symbols.Goals as goal

pub returns-in-Some-clause-adds : goal.returns-in-Some-clause-adds
returns-in-Some-clause-adds g c =
    let k = c.loop-i.i in
    let symbols = c.args.symbols.now in
    let s = c.index-symbols-i.result in
    meets_all (firsts_in c.args.names.now.names.firsts) (firsts_in c.loop-i.names.names.firsts) (entries_from c.args.object 0 (take k symbols)) (entries_at c.args.object k s) (entries_from c.args.object (k + 1) (drop (k + 1) symbols)) (entries_from c.args.object 0 symbols) c.in-Some.repeat c.loop-i.invariant.adds
    (rw c.in-Some.is at c.in_ok-repeat.ensures.adds)
    (symbols_split c.args.object k symbols s c.loop-i-test.true c.index-symbols-i.is)

pub loop-i-preserved : goal.loop-i-preserved
loop-i-preserved g c =
    let k = c.loop-i.i in
    let symbols = c.args.symbols.now in
    let s = c.index-symbols-i.result in
    record {
      adds = rw (symbols_more c.args.object k symbols s c.loop-i-test.true c.index-symbols-i.is)
          (adds_all (firsts_in c.args.names.now.names.firsts) (firsts_in c.loop-i.names.names.firsts) (firsts_in c.add_symbol.new.names.names.firsts) (entries_from c.args.object 0 (take k symbols)) (entries_at c.args.object k s) c.loop-i.invariant.adds
          (rw c.in_default.is at c.in_ok-repeat.ensures.adds));
      counted = (let told = rw c.in_default.is at c.in_ok-repeat.ensures.counted in
          let all = symbols_counted c.args.object k symbols s c.loop-i-test.true c.index-symbols-i.is in
          omega (arith, told, all));
      cost = omega arith;
    }

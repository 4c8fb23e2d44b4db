use Rattle.std.proofs.Common.{◌≡◌, ◌≤◌, ◌+◌, take, drop, length, arith, ap}
use Rattle.std.proofs.lemmas.List.Sums.{sum_by_more, sum_by_more_le}
use Rattle.wl_linking.specs.Object.{Object}
use Rattle.wl_symbols.specs.Entries.{entries_from, entries_of, symbol_count}
use Rattle.wl_symbols.specs.Adding.{firsts_in}
use Rattle.wl_symbols.proofs.AdditionLaws.{adds_all, meets_all, objects_split, objects_more}
use Rattle.wl_symbols.proofs.CountLaws.{objects_counted}
use Rattle.wl_symbols.proofs.adding.add_files.Goals as goal

pub returns-in-Some-clause-adds : goal.returns-in-Some-clause-adds
returns-in-Some-clause-adds g c =
    let k = c.loop-object.object in
    let files = c.args.files.now in
    let o = c.index-files-object.result in
    meets_all (firsts_in c.args.names.now.names.firsts) (firsts_in c.loop-object.names.names.firsts) (entries_of 0 (take k files)) (entries_from k 0 o.symbols) (entries_of (k + 1) (drop (k + 1) files)) (entries_of 0 files) c.in-Some.repeat c.loop-object.invariant.adds
    (rw (c.in-Some.is, c.symbols.ensures) at c.in_ok-repeat.ensures.adds)
    (objects_split k files o c.loop-object-test.true c.index-files-object.is)

pub returns-in-Some-clause-cost : goal.returns-in-Some-clause-cost
returns-in-Some-clause-cost g c =
    let sum = sum_by_more_le (λ (o : Object). length o.symbols) c.args.files.now c.loop-object.object c.index-files-object.result c.loop-object-test.true in
    let here : symbol_count (take c.loop-object.object c.args.files.now) + length c.index-files-object.result.symbols ≤ symbol_count c.args.files.now = rw (← c.index-files-object.is) at sum in
    let len : length c.symbols.result.now ≡ length c.index-files-object.result.symbols = ap length c.symbols.ensures in
    omega arith

pub loop-object-preserved : goal.loop-object-preserved
loop-object-preserved g c =
    let k = c.loop-object.object in
    let files = c.args.files.now in
    let o = c.index-files-object.result in
    let sum = sum_by_more (λ (o : Object). length o.symbols) files k o c.loop-object-test.true in
    let here : symbol_count (take (k + 1) files) ≡ symbol_count (take k files) + length o.symbols = rw (← c.index-files-object.is) at sum in
    let len : length c.symbols.result.now ≡ length o.symbols = ap length c.symbols.ensures in
    record {
      adds = rw (objects_more k files o c.loop-object-test.true c.index-files-object.is)
          (adds_all (firsts_in c.args.names.now.names.firsts) (firsts_in c.loop-object.names.names.firsts) (firsts_in c.add_symbols.new.names.names.firsts) (entries_of 0 (take k files)) (entries_from k 0 o.symbols) c.loop-object.invariant.adds
          (rw (c.in_default.is, c.symbols.ensures) at c.in_ok-repeat.ensures.adds));
      counted = (let told = rw (c.in_default.is, c.symbols.ensures) at c.in_ok-repeat.ensures.counted in
          let all = objects_counted k files o c.loop-object-test.true c.index-files-object.is in
          omega (arith, told, all));
      cost = omega arith;
    }

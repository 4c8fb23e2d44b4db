use Rattle.std.proofs.Common.{◌≡◌, ℕ, ◌+◌, ◌<◌, ◌≤◌, List, length, take, get_or, arith, refl}
use Rattle.std.proofs.lemmas.List.Sums.{sum_by_more, sum_by-take-drop}
use Rattle.wl_linking.specs.Object.{Object}
use Rattle.wl_symbols.specs.Entries.{symbol_count}
use Rattle.wl_symbols.specs.Adding.{firsts_in}
use Rattle.wl_symbols.specs.Definitions.{defined_by}
use Rattle.wl_symbols.proofs.CountLaws.{objects_counted}
use Rattle.wl_symbols.proofs.RowLaws.{rows_more}
use Rattle.wl_symbols.proofs.definitions.DefinitionRows.of.Goals as goal

-- the symbols of an object are among all
symbols_within : (k : ℕ) (files : List Object) (o : Object) → k < length files → o ≡ get_or files k o
    → symbol_count (take k files) + length o.symbols ≤ symbol_count files
symbols_within k files o lt is =
    let count : Object → ℕ = λ (o : Object). length o.symbols in
    let more = rw (← is) at (sum_by_more count files k o lt) in
    let all = sum_by-take-drop count files (k + 1) in
    omega (arith, more, all)

pub returns-in_err-push-clause-cost : goal.returns-in_err-push-clause-cost
returns-in_err-push-clause-cost g c =
    let k = c.loop-object.object in
    let files = c.args.files.now in
    let o = c.file-item.result in
    let lt : k < length files = rw c.as_slice-file-items.ensures.objects at c.loop-object-test.true in
    let is = rw c.as_slice-file-items.ensures.objects at c.file-item.is in
    let cost = rw c.symbols.ensures at c.define_symbols.ensures.cost in
    let bound = c.loop-object.invariant.cost in
    omega (arith, symbols_within k files o lt is, cost, bound)

pub loop-object-preserved : goal.loop-object-preserved
loop-object-preserved g c =
    let k = c.loop-object.object in
    let files = c.args.files.now in
    let o = c.file-item.result in
    let define = defined_by (firsts_in c.args.names.now.names.firsts) c.args.args.now in
    let lt : k < length files = rw c.as_slice-file-items.ensures.objects at c.loop-object-test.true in
    let is = rw c.as_slice-file-items.ensures.objects at c.file-item.is in
    let all = objects_counted k files o lt is in
    let sum = sum_by_more (λ (o : Object). length o.symbols) files k o lt in
    let here : symbol_count (take (k + 1) files) ≡ symbol_count (take k files) + length o.symbols =
    rw (← is) at sum in
    let counted = rw c.symbols.ensures at c.in_ok-define_symbols.ensures.counted in
    let row = rw c.symbols.ensures at c.in_ok-define_symbols.ensures.row in
    let cost = rw c.symbols.ensures at c.define_symbols.ensures.cost in
    let before = c.loop-object.invariant.counted in
    let bound = c.loop-object.invariant.cost in
    record {
      rows = rw (
        c.in_ok-push.ensures.ok,
        row,
        c.loop-object.invariant.rows,
        rows_more define k files o lt is,
      )
          refl;
      counted = omega (arith, all, counted, before);
      cost = omega (arith, here, cost, bound);
    }

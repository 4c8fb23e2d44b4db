use Rattle.std.proofs.Common.{List, None, subst, take_all, ◌≡◌, ◌+◌, take, drop, length, arith, ap}
use Rattle.wl_symbols.specs.Index.{all_entries}
use Rattle.wl_symbols.specs.Adding.{firsts_in}
use Rattle.wl_symbols.specs.Entries.{Entry}
use Rattle.wl_symbols.specs.Bearers.{found_in}
use Rattle.wl_symbols.specs.Telling.{Tells}
use Rattle.wl_symbols.proofs.ToldLaws.{tells_all, tells_early}
use Rattle.wl_symbols.proofs.IndexLaws.{all_split, all_more, within_all, more_of_all}
use Rattle.wl_symbols.proofs.telling.tell_objects.Goals as goal

pub returns-in-Some-clause-tells : goal.returns-in-Some-clause-tells
returns-in-Some-clause-tells g c =
    let k = c.loop-entries.entries-index in
    let index = c.args.objects.now in
    let xs = c.entries-item.result in
    tells_early (found_in c.args.lists.now.lists) (firsts_in c.args.names.now.names.firsts) (firsts_in c.loop-entries.names.names.firsts) (firsts_in c.tell_entries.new.names.names.firsts) (all_entries (take k index)) xs (all_entries (drop (k + 1) index)) (all_entries index) c.args.steps.now c.loop-entries.steps c.tell_entries.new.steps c.in-Some.repeat c.loop-entries.invariant.tells
    (rw (c.in-Some.is, c.as_slice.ensures) at c.in_ok-repeat.ensures.tells)
    (all_split k index xs c.loop-entries-test.true c.entries-item.is)

pub returns-in-Some-clause-cost : goal.returns-in-Some-clause-cost
returns-in-Some-clause-cost g c =
    let within = within_all c.loop-entries.entries-index c.args.objects.now c.entries-item.result c.loop-entries-test.true c.entries-item.is in
    let len : length c.as_slice.result.now ≡ length c.entries-item.result = ap length c.as_slice.ensures in
    omega (arith, within, len)

pub returns-in_err-repeat-clause-cost : goal.returns-in_err-repeat-clause-cost
returns-in_err-repeat-clause-cost g c =
    let within = within_all c.loop-entries.entries-index c.args.objects.now c.entries-item.result c.loop-entries-test.true c.entries-item.is in
    let len : length c.as_slice.result.now ≡ length c.entries-item.result = ap length c.as_slice.ensures in
    omega (arith, within, len)

pub loop-entries-preserved : goal.loop-entries-preserved
loop-entries-preserved g c =
    let k = c.loop-entries.entries-index in
    let index = c.args.objects.now in
    let xs = c.entries-item.result in
    let more = more_of_all k index xs c.loop-entries-test.true c.entries-item.is in
    let len : length c.as_slice.result.now ≡ length xs = ap length c.as_slice.ensures in
    record {
      tells = rw (all_more k index xs c.loop-entries-test.true c.entries-item.is)
          (tells_all (found_in c.args.lists.now.lists) (firsts_in c.args.names.now.names.firsts) (firsts_in c.loop-entries.names.names.firsts) (firsts_in c.tell_entries.new.names.names.firsts) (all_entries (take k index)) xs c.args.steps.now c.loop-entries.steps c.tell_entries.new.steps c.loop-entries.invariant.tells
          (rw (c.in_default.is, c.as_slice.ensures) at c.in_ok-repeat.ensures.tells));
      cost = omega (arith, more, len);
    }

pub returns-clause-tells : goal.returns-clause-tells
returns-clause-tells g c =
    let whole : take c.loop-entries.entries-index c.args.objects.now ≡ c.args.objects.now = take_all c.loop-entries.entries-index c.args.objects.now (omega arith) in
    subst (λ (index : List (List Entry)). Tells (found_in c.args.lists.now.lists) (firsts_in c.args.names.now.names.firsts) (firsts_in c.loop-entries.names.names.firsts) (all_entries index) c.args.steps.now c.loop-entries.steps None) whole c.loop-entries.invariant.tells

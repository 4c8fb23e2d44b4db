use Rattle.std.proofs.Common.{◌≡◌, List, None, subst, take_all, [], ◌∷◌, ◌+◌, take, drop, arith}
use Rattle.wl_symbols.specs.Adding.{firsts_in}
use Rattle.wl_symbols.specs.Entries.{Entry}
use Rattle.wl_symbols.specs.Bearers.{found_in}
use Rattle.wl_symbols.specs.Telling.{Tells}
use Rattle.wl_symbols.proofs.ToldLaws.{tells_all, tells_early}
use Rattle.wl_symbols.proofs.IndexLaws.{split_at, one_more}
use Rattle.wl_symbols.proofs.telling.tell_entries.Goals as goal

pub returns-in-Some-clause-tells : goal.returns-in-Some-clause-tells
returns-in-Some-clause-tells g c =
    let k = c.loop-entry.entry-index in
    let xs = c.args.entries.now in
    let x = c.entry-item.result in
    tells_early (found_in c.args.lists.now.lists) (firsts_in c.args.names.now.names.firsts) (firsts_in c.loop-entry.names.names.firsts) (firsts_in c.tell_entry.new.names.names.firsts) (take k xs) (x ∷ []) (drop (k + 1) xs) xs c.args.steps.now c.loop-entry.steps c.tell_entry.new.steps c.in-Some.repeat c.loop-entry.invariant.tells
    (rw c.in-Some.is at c.in_ok-repeat.ensures.tells)
    (split_at k xs x c.loop-entry-test.true c.entry-item.is)

pub loop-entry-preserved : goal.loop-entry-preserved
loop-entry-preserved g c =
    let k = c.loop-entry.entry-index in
    let xs = c.args.entries.now in
    let x = c.entry-item.result in
    record {
      tells = rw (one_more k xs x c.loop-entry-test.true c.entry-item.is)
          (tells_all (found_in c.args.lists.now.lists) (firsts_in c.args.names.now.names.firsts) (firsts_in c.loop-entry.names.names.firsts) (firsts_in c.tell_entry.new.names.names.firsts) (take k xs) (x ∷ []) c.args.steps.now c.loop-entry.steps c.tell_entry.new.steps c.loop-entry.invariant.tells
          (rw c.in_default.is at c.in_ok-repeat.ensures.tells));
      cost = omega arith;
    }

pub returns-clause-tells : goal.returns-clause-tells
returns-clause-tells g c =
    let whole : take c.loop-entry.entry-index c.args.entries.now ≡ c.args.entries.now = take_all c.loop-entry.entry-index c.args.entries.now (omega arith) in
    subst (λ (xs : List Entry). Tells (found_in c.args.lists.now.lists) (firsts_in c.args.names.now.names.firsts) (firsts_in c.loop-entry.names.names.firsts) xs c.args.steps.now c.loop-entry.steps None) whole c.loop-entry.invariant.tells

use Rattle.std.proofs.Common.{◌∙◌, ◌++◌, ap, sym, take, List}
use Rattle.wl_symbols.specs.Entries.{Entry}
use Rattle.wl_symbols.specs.Bearers.{found_in}
use Rattle.wl_symbols.specs.Exchanging.{changes_for, Change}
use Rattle.wl_symbols.proofs.IndexLaws.{one_more}
use Rattle.wl_symbols.proofs.BearerLaws.{changes_more, exchanged_is}
use Rattle.wl_symbols.proofs.exchanging.push_changes.Goals as goal

pub loop-entry-preserved : goal.loop-entry-preserved
loop-entry-preserved c = λ new have.
    let k = c.loop-entry.entry-index in
    let x = c.entry-item.result in
    let found = found_in c.args.lists.now.lists in
    let added = found_in c.args.added.now.lists in
    let more = one_more k c.args.entries.now x c.loop-entry-test.true c.entry-item.is in
    let list = exchanged_is c.args.object x.name c.name-name.result.now new added found c.in_ok-list.list c.get.result.now c.get-in-loop-entry.result.now c.in_ok-list.ensures c.get.ensures c.get-in-loop-entry.ensures c.name-name.ensures have in
    let one : Change = record { name = c.name-name.result.now; list = c.in_ok-list.list } in
    c.in_ok-push.ensures.items
    ∙ (changes_more found c.args.object new (take k c.args.entries.now) x c.args.changes.now.items c.loop-entry.changes.items one (λ i. record { name = c.name-name.ensures i; list = list i }) (c.loop-entry.invariant new have)
    ∙ ap (λ (xs : List Entry). c.args.changes.now.items ++ changes_for found c.args.object new xs) (sym more))

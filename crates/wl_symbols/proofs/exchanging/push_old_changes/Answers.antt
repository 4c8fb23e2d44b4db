use Rattle.std.proofs.Common.{◌≡◌, ◌∙◌, [], List, Option, unwrap_or, append-nil, ap, sym}
use Rattle.wl_lists.proofs.Places.{item_at}
use Rattle.wl_symbols.specs.Entries.{Entry}
use Rattle.wl_symbols.specs.Index.{entries_in}
use Rattle.wl_symbols.proofs.BearerLaws.{in_past}
use Rattle.wl_symbols.proofs.exchanging.push_old_changes.Goals as goal

pub returns-in-None : goal.returns-in-None
returns-in-None c = λ new have.
    let none : entries_in c.args.objects.now c.args.object ≡ [] = in_past c.args.objects.now c.args.object c.in-None.ensures.lookup.3 in
    rw none (sym (append-nil c.args.changes.now.items))

pub returns-in-Some : goal.returns-in-Some
returns-in-Some c =
    let told = c.in-Some.ensures.lookup in
    let some : c.as_slice.result.now ≡ entries_in c.args.objects.now c.args.object = c.as_slice.ensures ∙ sym (ap (λ (o : Option (List Entry)). unwrap_or o []) (item_at c.args.objects.now c.args.object c.in-Some.old.now told.3.0 told.1)) in
    rw some at c.push_changes.ensures

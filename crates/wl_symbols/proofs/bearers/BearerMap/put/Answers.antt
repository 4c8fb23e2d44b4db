use Rattle.std.proofs.Common.{◌≡◌, ◌==◌, ◌∙◌, List, bytes_eq, cond, None, Some, Option, ap, sym, true, false, length}
use Rattle.std.proofs.lemmas.Map.Text.{hash_map_updates_str}
use Rattle.wl_symbols.specs.Bearers.{found_in}
use Rattle.wl_symbols.specs.declared.bearers.Bearer.{Bearer}
use Rattle.wl_symbols.proofs.BearerLaws.{none_if_empty, some_if_not, where_ok}
use Rattle.wl_symbols.proofs.bearers.BearerMap.put.Goals as goal

pub returns-then-is_empty-clause-put : goal.returns-then-is_empty-clause-put
returns-then-is_empty-clause-put c = λ q.
    let empty : (length c.args.list == 0) ≡ true = ap (λ (bs : List Bearer). length bs == 0) (sym c.as_slice.ensures) ∙ (sym c.is_empty.ensures ∙ c.if-is_empty.true) in
    hash_map_updates_str c.args.name.now c.args.self.now.lists c.remove.new.self None c.remove.ensures.updates q
    ∙ ap (λ (o : Option (List Bearer)). cond (bytes_eq c.args.name.now q) o (found_in c.args.self.now.lists q)) (sym (none_if_empty c.args.list empty))

pub returns-else-is_empty-clause-put : goal.returns-else-is_empty-clause-put
returns-else-is_empty-clause-put c = λ q.
    let some : (length c.args.list == 0) ≡ false = ap (λ (bs : List Bearer). length bs == 0) (sym c.as_slice.ensures) ∙ (sym c.is_empty.ensures ∙ c.if-is_empty.false) in
    let updates = where_ok c.insert-old.result _ (c.insert-old.ensures.succeeds c.requires) c.insert-old.ensures.updates in
    hash_map_updates_str c.args.name.now c.args.self.now.lists c.insert-old.new.self (Some c.args.list) updates q
    ∙ ap (λ (o : Option (List Bearer)). cond (bytes_eq c.args.name.now q) o (found_in c.args.self.now.lists q)) (sym (some_if_not c.args.list some))

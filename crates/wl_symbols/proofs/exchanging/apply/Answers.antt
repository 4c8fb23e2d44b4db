use Rattle.std.proofs.Common.{◌≡◌, ◌∙◌, ◌+◌, ◌++◌, ◌∷◌, [], ℕ, List, length, bytes_eq, cond, ap, sym, subst, arith}
use Rattle.std.proofs.lemmas.List.{length-append}
use Rattle.wl_symbols.specs.Bearers.{found_in, if_some}
use Rattle.wl_symbols.specs.Exchanging.{changed, Change}
use Rattle.wl_symbols.proofs.BearerLaws.{changed_last}
use Rattle.wl_symbols.proofs.exchanging.apply.Goals as goal

pub loop-change-preserved : goal.loop-change-preserved
loop-change-preserved c =
    let old = c.loop-change.changes.items in
    let new = c.pop.new.self.items in
    let last : Change = c.in-Some.change in
    let split : old ≡ new ++ last ∷ [] = c.in-Some.ensures.items in
    let shorter : length old ≡ length new + 1 = ap length split ∙ length-append new (last ∷ []) in
    let put = subst (λ (d : Change). (r : List ℕ) → found_in c.put.new.self.lists r ≡ cond (bytes_eq d.name r) (if_some d.list) (found_in c.loop-change.lists.lists r)) c.change.view_is c.put.ensures.put in
    record {
      found = λ name. sym (changed_last new last (found_in c.loop-change.lists.lists) (found_in c.put.new.self.lists) name put) ∙ (ap (λ cs. changed cs (found_in c.loop-change.lists.lists) name) (sym split) ∙ c.loop-change.invariant.found name);
      room = omega (arith, shorter);
    }

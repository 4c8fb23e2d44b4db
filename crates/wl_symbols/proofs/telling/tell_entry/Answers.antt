use Rattle.std.proofs.Common.{◌≡◌, ◌∙◌, [], ◌∷◌, None, Some, true, false, refl, sym, subst, arith}
use Rattle.wl_symbols.specs.Entries.{Entry}
use Rattle.wl_symbols.specs.Repeats.{Pair}
use Rattle.wl_symbols.specs.Adding.{firsts_in}
use Rattle.wl_symbols.specs.Bearers.{found_in}
use Rattle.wl_symbols.specs.Telling.{Tells}
use Rattle.wl_symbols.proofs.ToldLaws.{tells_put, tells_before, tells_repeat}
use Rattle.wl_symbols.proofs.telling.tell_entry.Goals as goal
use Rattle.wl_symbols.proofs.telling.tell_entry.Goals.{then-leads+in_ok-put, else-leads}

pub returns-in-Some-clause-tells : goal.returns-in-Some-clause-tells
returns-in-Some-clause-tells g c =
    let lists = found_in c.args.lists.now.lists in
    let old = firsts_in c.args.names.now.names.firsts in
    let e : Entry = record { name = c.entry.inside.name.now; strength = c.entry.inside.strength; place = c.entry.inside.place } in
    let pair : Pair = record { name = c.entry.inside.name.now; first = c.in-Some.first; second = c.entry.inside.place } in
    subst (λ (x : Entry). Tells lists old old (x ∷ []) c.args.steps.now c.tick.new.self (Some pair)) c.entry.view_is
    (tells_repeat lists old old e c.get-bearers.result.now c.args.steps.now c.tick.new.self pair c.get-bearers.ensures c.in-Some.ensures.0 c.in-Some.ensures.1 refl refl)

pub returns-clause-tells : goal.returns-clause-tells
returns-clause-tells g c =
    let lists = found_in c.args.lists.now.lists in
    let old = firsts_in c.args.names.now.names.firsts in
    let e : Entry = record { name = c.entry.inside.name.now; strength = c.entry.inside.strength; place = c.entry.inside.place } in
    subst (λ (x : Entry). Tells lists old (firsts_in c.if-leads.names.names.firsts) (x ∷ []) c.args.steps.now c.if-leads.steps None) c.entry.view_is
    (elim c.if-leads.branch [
      | then-leads+in_ok-put w ↦ (let cost = w.in_ok-put.ensures.cost in
          let tick = c.tick.ensures in
          rw (w.names-is, w.steps-is) (tells_put lists old (firsts_in w.put.new.self.names.firsts) e c.get-bearers.result.now c.args.steps.now w.put.new.steps c.get-bearers.ensures c.in_default.ensures (c.leads.ensures.0 w.if-leads.true) (rw w.firsts_among.ensures at w.in_ok-put.ensures.ok) (omega (arith, cost, tick))))
      | else-leads w ↦ rw (w.names-is, w.steps-is) (tells_before lists old e c.get-bearers.result.now c.args.steps.now c.tick.new.self c.get-bearers.ensures c.in_default.ensures (λ h. let t : true ≡ false = sym (c.leads.ensures.1 h) ∙ w.if-leads.false in absurd cc) c.tick.ensures)
    ])

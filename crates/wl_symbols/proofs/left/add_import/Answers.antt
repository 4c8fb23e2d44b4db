use Rattle.std.proofs.Common.{◌≡◌, ◌∙◌, ℕ, List, Bor, true, false, sym, ap, length, vec_len, is_some, rules}
use Rattle.wl_symbols.specs.Left.{place_of_import}
use Rattle.wl_symbols.proofs.TellingLaws.{kept_names, added_names, told_names}
use Rattle.wl_symbols.proofs.left.add_import.Goals as goal

pub returns-then-contains_key-clause-list : goal.returns-then-contains_key-clause-list
returns-then-contains_key-clause-list c =
    let there : is_some (place_of_import c.module.result.now c.field.result.now c.args.list.now.items) ≡ true =
    ap is_some (sym (c.requires.told c.module.result.now c.field.result.now)) ∙ (sym c.contains_key.ensures ∙ c.if-contains_key.true) in
    kept_names c.args.list.now.items c.args.slot.now c.module.result.now c.field.result.now c.module.ensures c.field.ensures there

pub returns-clause-list : goal.returns-clause-list
returns-clause-list c =
    let absent : is_some (place_of_import c.module.result.now c.field.result.now c.args.list.now.items) ≡ false =
    ap is_some (sym (c.requires.told c.module.result.now c.field.result.now)) ∙ (sym c.contains_key.ensures ∙ c.if-contains_key.false) in
    rw (c.in_ok-push.ensures.items, c.of.ensures) (added_names c.args.list.now.items c.args.slot.now c.module.result.now c.field.result.now c.module.ensures c.field.ensures absent)

pub returns-clause-told : goal.returns-clause-told
returns-clause-told c = λ o q.
    let absent : is_some (place_of_import c.module.result.now c.field.result.now c.args.list.now.items) ≡ false =
    ap is_some (sym (c.requires.told c.module.result.now c.field.result.now)) ∙ (sym c.contains_key.ensures ∙ c.if-contains_key.false) in
    let text : List ℕ → Bor (List ℕ) = λ bytes. record { ref_ptr = (0, 0); now = bytes } in
    let same_len : vec_len c.args.list.now ≡ length c.args.list.now.items = search rules in
    rw (c.in_ok-push.ensures.items, c.of.ensures)
    (told_names c.args.list.now.items c.args.slot.now o q c.module.result.now c.field.result.now _ _ c.len-place.result c.module.ensures c.field.ensures absent (c.len-place.ensures ∙ same_len) (c.requires.told o q)
    (c.in_ok-insert.ensures.updates.0 (text o, text q)))

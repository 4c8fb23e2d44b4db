use Rattle.std.proofs.Common.{◌≡◌, ◌∙◌, true, false, sym, ap, length, vec_len, is_some, rules}
use Rattle.std.proofs.lemmas.Map.Text.{hash_map_updates_str}
use Rattle.wl_symbols.specs.Left.{place_of_name}
use Rattle.wl_symbols.proofs.TellingLaws.{kept_name, added_name, told_name}
use Rattle.wl_symbols.proofs.left.add_name.Goals as goal

pub returns-then-contains_key-clause-list : goal.returns-then-contains_key-clause-list
returns-then-contains_key-clause-list c =
    let there : is_some (place_of_name c.field-name.result.now c.args.list.now.items) ≡ true =
    ap is_some (sym (c.requires.told c.field-name.result.now)) ∙ (sym c.contains_key.ensures ∙ c.if-contains_key.true) in
    kept_name c.args.list.now.items c.args.slot.now c.field-name.result.now c.field-name.ensures there

pub returns-clause-list : goal.returns-clause-list
returns-clause-list c =
    let absent : is_some (place_of_name c.field-name.result.now c.args.list.now.items) ≡ false =
    ap is_some (sym (c.requires.told c.field-name.result.now)) ∙ (sym c.contains_key.ensures ∙ c.if-contains_key.false) in
    rw (c.in_ok-push.ensures.items, c.of.ensures) (added_name c.args.list.now.items c.args.slot.now c.field-name.result.now c.field-name.ensures absent)

pub returns-clause-told : goal.returns-clause-told
returns-clause-told c = λ q.
    let absent : is_some (place_of_name c.field-name.result.now c.args.list.now.items) ≡ false =
    ap is_some (sym (c.requires.told c.field-name.result.now)) ∙ (sym c.contains_key.ensures ∙ c.if-contains_key.false) in
    let same_len : vec_len c.args.list.now ≡ length c.args.list.now.items = search rules in
    rw (c.in_ok-push.ensures.items, c.of.ensures)
    (told_name c.args.list.now.items c.args.slot.now q c.field-name.result.now _ _ c.len-place.result c.field-name.ensures absent (c.len-place.ensures ∙ same_len) (c.requires.told q)
    (hash_map_updates_str c.field-name.result.now c.args.places.now c.insert.new.self _ c.in_ok-insert.ensures.updates q))

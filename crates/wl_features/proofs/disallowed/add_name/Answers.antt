use Rattle.std.proofs.Common.{◌∙◌, sym}
use Rattle.std.proofs.lemmas.Map.Text.{hash_map_updates_str}
use Rattle.wl_features.specs.Disallowing.{first_in}
use Rattle.wl_features.proofs.DisallowingLaws.{name_kept, name_added}
use Rattle.wl_features.proofs.disallowed.add_name.Goals as goal

pub returns-then-contains_key : goal.returns-then-contains_key
returns-then-contains_key c = λ q.
    name_kept (first_in c.args.firsts.now) c.args.name.now q c.args.object
    (sym c.contains_key.ensures ∙ c.if-contains_key.true)

pub returns : goal.returns
returns c = λ q.
    name_added (first_in c.args.firsts.now) c.args.name.now q c.args.object _
    (sym c.contains_key.ensures ∙ c.if-contains_key.false)
    (hash_map_updates_str c.args.name.now c.args.firsts.now c.insert.new.self _
    c.in_ok-insert.ensures.updates q)

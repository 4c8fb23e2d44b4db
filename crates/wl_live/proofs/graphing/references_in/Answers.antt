use Rattle.std.proofs.Common.{◌≡◌, ◌⊎◌, ◌↔◌, sym, subst, rules, List, [], Contains}
use Rattle.std.specs.List.{flat_map}
use Rattle.wl_symbols.specs.declared.units.LinkUnit.{LinkUnit}
use Rattle.wl_live.specs.Mentions.{mentions_left, object_mentions}
use Rattle.wl_live.specs.Laying.{mention_references}
use Rattle.wl_live.specs.Table.{Reference, object_references}
use Rattle.wl_live.specs.declared.mentions.Mention.{Mention}
use Rattle.wl_live.proofs.FollowedLaws.{Lists, lists_begin, lists_go_on, lists_end}
use Rattle.wl_live.proofs.ReferenceLaws.{refers_to}
use Rattle.wl_live.proofs.TableLaws.{object_mentioned}
use Rattle.wl_live.proofs.graphing.references_in.Goals as goal

pub loop-mention-init : goal.loop-mention-init
loop-mention-init c =
    let link = c.args.symbols.now in
    let ns = c.args.numbers.now in
    let u = c.args.unit in
    let all = object_references link ns u.object c.args.said.now in
    let list = c.new-list.result.items in
    let empty : list ≡ [] = search rules in
    let first : mentions_left c.into_iter-mention-iterator.result ≡ object_mentions u.object c.args.said.now = search rules in
    subst (λ (ms : List Mention). Lists u all (flat_map (mention_references link ns) ms) list) (sym first)
    (subst (λ (rs : List Reference). Lists u all rs list) (sym (object_mentioned link ns u.object c.args.said.now))
    (subst (λ (l : List LinkUnit). Lists u all all l) (sym empty) (lists_begin u all)))

pub loop-mention-preserved : goal.loop-mention-preserved
loop-mention-preserved c =
    let link = c.args.symbols.now in
    let ns = c.args.numbers.now in
    let u = c.args.unit in
    let at = c.loop-mention in
    let all = object_references link ns u.object c.args.said.now in
    let refs = mention_references link ns in
    lists_go_on u all (refs c.in-Some.mention) (flat_map refs (mentions_left c.next.new.self)) at.list.items c.push_followed.new.list.items
    (subst (λ (rs : List Reference). (v : LinkUnit) → Contains c.push_followed.new.list.items v ↔ (Contains at.list.items v ⊎ Contains rs (refers_to u v))) c.followed_by.ensures c.in_ok-push_followed.ensures)
    (subst (λ (ms : List Mention). Lists u all (flat_map refs ms) at.list.items) c.in-Some.ensures.steps at.invariant)

pub returns : goal.returns
returns c =
    let link = c.args.symbols.now in
    let ns = c.args.numbers.now in
    let u = c.args.unit in
    let at = c.loop-mention in
    let all = object_references link ns u.object c.args.said.now in
    lists_end u all at.list.items (subst (λ (ms : List Mention). Lists u all (flat_map (mention_references link ns) ms) at.list.items) c.in-None.ensures.steps.0 at.invariant)

use Rattle.std.proofs.Common.{◌≡◌, ◌++◌, ◌∙◌, ap, sym, subst, append-nil, List, Some, None}
use Rattle.std.proofs.lemmas.Result.{on_ok_weaker}
use Rattle.wl_reach.specs.Graph.{HasRoom}
use Rattle.wl_reach.specs.declared.graph.Edge.{Edge}
use Rattle.wl_symbols.specs.Link.{Link}
use Rattle.wl_symbols.specs.Units.{unit_number_if}
use Rattle.wl_live.specs.Mentions.{referring}
use Rattle.wl_live.specs.Laying.{mention_edges}
use Rattle.wl_live.proofs.TableLaws.{mention_few, mention_node, mention_none, number_if-lt}
use Rattle.wl_live.proofs.table.add_room.Goals as goal

pub add-requires : goal.add-requires
add-requires c =
    let ns = c.args.numbers.now in
    let m = c.args.mention in
    let number : unit_number_if ns (referring m) ≡ Some c.in-Some.node = ap (unit_number_if ns) (sym c.referring.ensures) ∙ (sym c.number.ensures ∙ c.in-Some.is) in
    rw c.requires (number_if-lt ns (referring m) c.in-Some.node number)

pub returns-in-Some-clause-room : goal.returns-in-Some-clause-room
returns-in-Some-clause-room c =
    let ns = c.args.numbers.now in
    let m = c.args.mention in
    let number : unit_number_if ns (referring m) ≡ Some c.in-Some.node = ap (unit_number_if ns) (sym c.referring.ensures) ∙ (sym c.number.ensures ∙ c.in-Some.is) in
    on_ok_weaker {Q = (link : Link) (old : List Edge) → HasRoom c.args.rooms.now old → HasRoom c.add.new.self (old ++ mention_edges link ns m)} c.add.result
    (λ has link old room. has old (mention_edges link ns m) room (mention_node link ns m c.in-Some.node number) (rw c.most_references.ensures (mention_few link ns m)))
    c.add.ensures.has

pub returns-in-None-clause-room : goal.returns-in-None-clause-room
returns-in-None-clause-room c =
    let ns = c.args.numbers.now in
    let m = c.args.mention in
    let number : unit_number_if ns (referring m) ≡ None = ap (unit_number_if ns) (sym c.referring.ensures) ∙ (sym c.number.ensures ∙ c.in-None.is) in
    λ link old room.
    subst (λ (es : List Edge). HasRoom c.args.rooms.now es) (sym (append-nil old) ∙ ap (λ (l : List Edge). old ++ l) (sym (mention_none link ns m number))) room

use Rattle.std.proofs.Common.{sym, ◌∙◌}
use Rattle.wl_lists.proofs.Places.{item_at}
use Rattle.wl_linking.proofs.SlotLaws.{know_none, know_more, know_agreed, two_names, one_name, known_by_range}
use Rattle.wl_linking.proofs.slots.have_one_name.Goals as goal
use Rattle.wl_linking.proofs.slots.have_one_name.Goals.{else-claims-via-then-claims+else-not-agrees, else-claims-via-else-claims}

pub loop-symbol-init : goal.loop-symbol-init
loop-symbol-init c = rw c.in_ok-names.ensures (know_none c.args.kind c.args.count c.args.symbols.now)

pub agrees-requires : goal.agrees-requires
agrees-requires c =
    let here = item_at c.args.symbols.now c.loop-symbol.symbol-index c.symbol-item.result c.loop-symbol-test.true c.symbol-item.is in
    λ known at. known_by_range c.args.kind c.args.count c.args.symbols.now c.loop-symbol.symbol-index c.loop-symbol.names.items c.symbol-item.result known c.requires here c.loop-symbol.invariant at

pub returns-then-not-agrees : goal.returns-then-not-agrees
returns-then-not-agrees c =
    let here = item_at c.args.symbols.now c.loop-symbol.symbol-index c.symbol-item.result c.loop-symbol-test.true c.symbol-item.is in
    two_names c.args.kind c.args.count c.args.symbols.now c.loop-symbol.symbol-index c.loop-symbol.names.items c.agrees.new.names.items c.symbol-item.result here (sym c.claims.ensures ∙ c.if-claims.true) c.if-not-agrees.ensures c.loop-symbol.invariant

pub loop-symbol-preserved : goal.loop-symbol-preserved
loop-symbol-preserved c =
    let here = item_at c.args.symbols.now c.loop-symbol.symbol-index c.symbol-item.result c.loop-symbol-test.true c.symbol-item.is in
    elim c.else-claims.branch [
      | else-claims-via-then-claims+else-not-agrees w ↦
          rw w.names-is (know_agreed c.args.kind c.args.count c.args.symbols.now c.loop-symbol.symbol-index c.loop-symbol.names.items w.agrees.new.names.items c.symbol-item.result here (sym c.claims.ensures ∙ w.if-claims.true) w.if-not-agrees.ensures c.loop-symbol.invariant)
      | else-claims-via-else-claims w ↦
          rw w.names-is (know_more c.args.kind c.args.count c.args.symbols.now c.loop-symbol.symbol-index c.loop-symbol.names.items c.symbol-item.result here (λ claim lt. let e = c.claims.ensures in let no = w.if-claims.false in absurd cc) c.loop-symbol.invariant)
    ]

pub returns : goal.returns
returns c = one_name c.args.kind c.args.count c.args.symbols.now c.loop-symbol.symbol-index c.loop-symbol.names.items c.loop-symbol-test.false c.loop-symbol.invariant

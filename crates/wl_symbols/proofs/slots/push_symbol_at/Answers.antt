use Rattle.std.proofs.Common.{◌≡◌, ◌∙◌, ap, sym, arith, rules, length, slice_set}
use Rattle.wl_symbols.specs.ImportSlots.{ImportSlot}
use Rattle.wl_symbols.proofs.PlacingLaws.{put_there, put_nowhere}
use Rattle.wl_symbols.proofs.slots.push_symbol_at.Goals as goal

pub returns-in_ok-push_symbol : goal.returns-in_ok-push_symbol
returns-in_ok-push_symbol c =
    let slots = c.args.slots.now.items in
    let count : c.len.result ≡ length slots = search rules in
    ap (λ (t : ImportSlot). slice_set slots c.args.place t) c.in_ok-push_symbol.ensures
    ∙ put_there slots c.args.place c.args.number c.index_mut.result.now (omega (arith, count, c.if-place-len.true)) c.index_mut.ensures.value

pub returns-else-place-len : goal.returns-else-place-len
returns-else-place-len c =
    let slots = c.args.slots.now.items in
    let count : c.len.result ≡ length slots = search rules in
    sym (put_nowhere slots c.args.place c.args.number (omega (arith, count, c.if-place-len.false)))

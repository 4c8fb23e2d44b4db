use Rattle.std.proofs.Common.{◌∙◌, refl}
use Rattle.wl_symbols.specs.Bearers.{found_in}
use Rattle.wl_symbols.proofs.BearerLaws.{indexed_exchanged}
use Rattle.wl_symbols.proofs.exchanging.exchange.Goals as goal

pub returns-clause-indexed : goal.returns-clause-indexed
returns-clause-indexed c = λ h all.
    indexed_exchanged (found_in c.args.lists.now.lists) (found_in c.reserve.new.self.lists) (found_in c.apply.new.lists.lists) c.args.objects.now.items c.replace_at-replaced.new.objects.items c.args.object c.args.entries
    (c.replace_at-replaced.ensures ∙ rw c.in_ok-make_room.ensures.padded refl)
    c.reserve.ensures.same
    (λ q. c.apply.ensures q ∙ rw (c.in_ok-changes.ensures, c.as_slice.ensures.value, c.as_slice-2.ensures) refl)
    h all

use Rattle.std.proofs.Common.{ℕ}
use Rattle.wl_places.specs.Addresses.{symbol_address, IsHigh}
use Rattle.wl_places.proofs.AddressLaws.{address_more, none_more}
use Rattle.wl_places.proofs.addresses.AddressBook.of_object.Goals as goal

pub loop-number-preserved : goal.loop-number-preserved
loop-number-preserved c =
    let book = c.args.self.now in
    let f = λ (n : ℕ). symbol_address book.input.now book.placing.now c.args.object n in (
      address_more f c.loop-number.number c.in_ok-of_symbol.field-0 c.loop-number.addresses.items
          c.push.new.self.items c.in_ok-of_symbol.ensures.ok c.in_ok-push.ensures.items
          c.loop-number.invariant.0,
      none_more (λ (n : ℕ). IsHigh (f n)) c.loop-number.number c.in_ok-of_symbol.ensures.low
          c.loop-number.invariant.1,
    )

use Rattle.std.proofs.Common.{◌≡◌, rules, Some, None}
use Rattle.wl_bind.specs.BindingSteps.{slot_numbers, number_at}
use Rattle.wl_bind.proofs.TypeLaws.{slot_typed}
use Rattle.wl_bind.proofs.types.type_of_slot.Goals as goal

pub returns-in_err-number : goal.returns-in_err-number
returns-in_err-number c =
    let files = c.args.files.now in
    let none : number_at (slot_numbers files) c.args.object c.args.slot ≡ None = rw (← c.requires) (search rules) in
    rw (slot_typed files c.args.object c.args.slot, none) (search rules)

pub returns : goal.returns
returns c =
    let files = c.args.files.now in
    let some : number_at (slot_numbers files) c.args.object c.args.slot ≡ Some c.in_ok-number.number = rw (← c.requires) (search rules) in
    rw (slot_typed files c.args.object c.args.slot, some) c.type_in.ensures

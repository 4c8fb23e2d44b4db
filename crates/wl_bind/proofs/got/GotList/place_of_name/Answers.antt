use Rattle.std.proofs.Common.{◌∙◌, sym}
use Rattle.wl_bind.specs.GotSteps.{named, is_name}
use Rattle.wl_lists.proofs.Found.{position_map}
use Rattle.wl_bind.proofs.got.GotList.place_of_name.Goals as goal

pub returns : goal.returns
returns g c =
    let found = rw c.as_bytes.ensures.value at c.get.ensures.value in
    rw (← c.self.view_is) (c.copied.ensures ∙ (found ∙ (c.self.invariant c.args.name.now
    ∙ sym (position_map named (λ e. is_name c.args.name.now e.name) c.self.inside.entries.entries))))

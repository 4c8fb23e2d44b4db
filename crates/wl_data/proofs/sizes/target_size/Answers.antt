use Rattle.std.proofs.Common.{[], ◌∷◌, refl}
use Rattle.wl_data.proofs.SizeLaws.{other_destination}
use Rattle.wl_data.proofs.sizes.target_size.Goals as goal

pub returns-then-passive-clause-value : goal.returns-then-passive-clause-value
returns-then-passive-clause-value c = rw c.if-passive.true (1 ∷ [], refl, refl)

pub returns-clause-value : goal.returns-clause-value
returns-clause-value c =
    let n = c.name_size.ensures.value in
    let s = c.place_size.ensures.value in
    rw c.if-passive.false (other_destination c.args.memory_index c.args.offset c.name_size.result c.place_size.result n.0 s.0 n.1 s.1 n.2 s.2)

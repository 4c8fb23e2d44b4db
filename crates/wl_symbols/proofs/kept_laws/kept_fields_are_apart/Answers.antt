use Rattle.wl_symbols.specs.Relocations.{EndsBefore, relocations}
use Rattle.wl_lists.proofs.Later.{later_at}
use Rattle.wl_symbols.proofs.KeptFieldLaws.{all_fitting, all_later}
use Rattle.wl_symbols.proofs.kept_laws.kept_fields_are_apart.Goals as goal

pub returns : goal.returns
returns c = λ input i j r q whole lt here there.
    later_at EndsBefore (relocations input) i j r q
    (all_later input.live 0 input.link.objects (all_fitting c.whole_objects.ensures.fitting input.link.objects whole))
    lt here there

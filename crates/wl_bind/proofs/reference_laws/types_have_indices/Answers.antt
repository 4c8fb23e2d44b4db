use Rattle.wl_bind.proofs.EntryTypeLaws.{own_indexed, host_indexed}
use Rattle.wl_bind.proofs.reference_laws.types_have_indices.Goals as goal

pub returns-clause-functions : goal.returns-clause-functions
returns-clause-functions c = λ input object o indices function settled here are kept.
    own_indexed c.whole_objects.ensures.fitting input object o indices function settled here are kept

pub returns-clause-hosts : goal.returns-clause-hosts
returns-clause-hosts c = λ input host o indices settled listed here are.
    host_indexed c.whole_objects.ensures.fitting input host o indices settled listed here are

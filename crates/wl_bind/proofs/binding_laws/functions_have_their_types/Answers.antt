use Rattle.wl_bind.proofs.MismatchLaws.{types_agree}
use Rattle.wl_bind.proofs.binding_laws.functions_have_their_types.Goals as goal

pub returns : goal.returns
returns c = λ input object number s target declared actual clear looked is function leads declared_is actual_is.
    types_agree input object number s target declared actual clear looked is function leads declared_is actual_is

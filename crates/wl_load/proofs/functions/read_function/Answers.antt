use Rattle.std.proofs.Common.{ℕ, List, subst}
use Rattle.wl_bytes.specs.Outcome.{HasCause}
use Rattle.wl_ops.specs.Decoding.{DecodeFault}
use Rattle.wl_load.proofs.LoadLaws.{undecoded_told}
use Rattle.wl_load.proofs.functions.read_function.Goals as goal

pub returns-in-Err-clause-fault : goal.returns-in-Err-clause-fault
returns-in-Err-clause-fault c =
    rw c.load_error.ensures
    (undecoded_told c.args.number c.args.part.now c.in-Err.error (subst (λ (body : List ℕ). HasCause (λ e. DecodeFault e body) c.in-Err.error) c.as_slice-body.ensures c.in-Err.ensures.fault))

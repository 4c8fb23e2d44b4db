-- Steps that are clear, in a row.
use Rattle.wl_linking.specs.declared.error.LinkError.{LinkError}
use Rattle.wl_linking.specs.Steps.{Clear, Step, NoStep}
use Rattle.wl_linking.proofs.StepLaws.{clear_end, clear_step}

pub three_clear : (a b c : LinkError → Type 0) → Clear a → Clear b → Clear c → Clear (Step a (Step b (Step c NoStep)))
three_clear a b c p q r = clear_step a (Step b (Step c NoStep)) p (clear_step b (Step c NoStep) q (clear_step c NoStep r clear_end))

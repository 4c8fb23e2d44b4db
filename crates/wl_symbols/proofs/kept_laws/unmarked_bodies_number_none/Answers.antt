use Rattle.wl_symbols.proofs.KeptLaws.{unnumbered}
use Rattle.wl_symbols.proofs.kept_laws.unmarked_bodies_number_none.Goals as goal

pub returns : goal.returns
returns c = λ link live object function o body is here has on off.
    unnumbered c.numbers_or_fault.ensures c.numbers_are_one.ensures.none link live object function o body is here has on off

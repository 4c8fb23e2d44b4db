use Rattle.wl_symbols.proofs.RefusalLaws.{names_or_repeat, never_both, one_refusal}
use Rattle.wl_symbols.proofs.name_laws.names_or_repeat.Goals as goal

pub returns-clause-some : goal.returns-clause-some
returns-clause-some c = names_or_repeat

pub returns-clause-never_both : goal.returns-clause-never_both
returns-clause-never_both c = never_both

pub returns-clause-one : goal.returns-clause-one
returns-clause-one c = one_refusal

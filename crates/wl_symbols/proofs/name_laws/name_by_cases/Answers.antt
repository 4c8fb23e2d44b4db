use Rattle.wl_symbols.proofs.NamedLaws.{named_cases, def_shared}
use Rattle.wl_symbols.proofs.DefinitionLaws.{named_only, unknown_only, settled}
use Rattle.wl_symbols.proofs.name_laws.name_by_cases.Goals as goal

pub returns-clause-name : goal.returns-clause-name
returns-clause-name c = named_cases

pub returns-clause-shared : goal.returns-clause-shared
returns-clause-shared c = def_shared

pub returns-clause-only : goal.returns-clause-only
returns-clause-only c = named_only

pub returns-clause-unknown : goal.returns-clause-unknown
returns-clause-unknown c = unknown_only

pub returns-clause-settled : goal.returns-clause-settled
returns-clause-settled c = settled

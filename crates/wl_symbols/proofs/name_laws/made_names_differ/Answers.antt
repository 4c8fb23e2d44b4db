use Rattle.wl_symbols.proofs.MadeLaws.{parse_name}
use Rattle.wl_symbols.proofs.name_laws.made_names_differ.Goals as goal

pub returns : goal.returns
returns c = parse_name

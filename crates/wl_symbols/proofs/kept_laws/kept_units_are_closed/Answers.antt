use Rattle.wl_symbols.proofs.KeptLaws.{kept_root, kept_by_symbol, kept_by_number, kept_by_slot}
use Rattle.wl_symbols.proofs.kept_laws.kept_units_are_closed.Goals as goal

pub returns : goal.returns
returns c = record {
  root = λ link u root. kept_root link u root;
  symbol = λ link u v kept by. kept_by_symbol link u v kept by;
  segment = λ link u v kept by there. kept_by_number link u v kept by there;
  slot = λ link u v kept by. kept_by_slot link u v kept by;
}

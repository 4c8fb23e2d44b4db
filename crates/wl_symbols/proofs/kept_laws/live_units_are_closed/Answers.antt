use Rattle.wl_symbols.proofs.KeptLaws.{live_root, live_by_symbol, live_by_number, live_by_slot}
use Rattle.wl_symbols.proofs.kept_laws.live_units_are_closed.Goals as goal

pub returns : goal.returns
returns c = record {
  root = λ link live u is root. live_root link live u is root;
  symbol = λ link live u v is on by. live_by_symbol link live u v is on by;
  segment = λ link live u v is on by there. live_by_number link live u v is on by there;
  slot = λ link live u v is on by. live_by_slot link live u v is on by;
}

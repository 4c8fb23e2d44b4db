use Rattle.wl_symbols.proofs.NumberingLaws.{unit_number-lt, unit_number-injective}
use Rattle.wl_symbols.proofs.OneLaws.{unit_numbered}
use Rattle.wl_symbols.proofs.ExistLaws.{root_exists}
use Rattle.wl_symbols.proofs.kept_laws.units_are_numbered.Goals as goal

pub returns : goal.returns
returns c = record {
  below = λ ns u there. unit_number-lt ns u there;
  own = λ ns u v there here same. unit_number-injective ns u v there here same;
  each = λ ns n lt. let h = unit_numbered ns n lt in (h.unit, h.there, h.number);
  roots = λ link u root. root_exists link u root;
}

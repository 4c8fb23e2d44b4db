use Rattle.wl_symbols.proofs.DenseLaws.{ordinal_apart, ordinal_before}
use Rattle.wl_symbols.proofs.kept_laws.ordinals_are_dense.Goals as goal

pub returns : goal.returns
returns c = record {
  apart = λ live u v n same eu ev. ordinal_apart live u v n same eu ev;
  before = λ live u k n e lt. ordinal_before live u k n e lt;
}

use Rattle.wl_symbols.proofs.KeptLaws.{live_one, ordinal_one}
use Rattle.wl_symbols.proofs.OneLaws.{live_sets_one}
use Rattle.wl_symbols.proofs.kept_laws.live_sets_are_one.Goals as goal

pub returns : goal.returns
returns c = record {
  one = λ link a b la lb. live_sets_one link a b la lb;
  units = λ link a b u la lb. live_one link a b u la lb;
  ordinals = λ link a b u la lb. ordinal_one link a b u la lb;
}

use Rattle.wl_bytes.proofs.ListLaws.{exact}
use Rattle.wl_custom.proofs.FeatureLaws.{features_reading}
use Rattle.wl_custom.proofs.features.features_or_fault.Goals as goal

pub returns : goal.returns
returns c = exact features_reading

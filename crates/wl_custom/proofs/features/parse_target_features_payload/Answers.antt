use Rattle.wl_custom.specs.Features.{feature_at}
use Rattle.wl_bytes.proofs.ListLaws.{reads_list}
use Rattle.wl_custom.proofs.FeatureLaws.{feature_reading}
use Rattle.wl_custom.proofs.features.parse_target_features_payload.Goals as goal

pub returns : goal.returns
returns c = reads_list (λ _. feature_at) tt feature_reading (λ v. v.items) c.args.payload.now c.read_payload.result c.read_payload.ensures

-- The laws of the target features section.
use Rattle.std.proofs.Common.{refl}
use Rattle.wl_bytes.proofs.Readings.{IsReading}
use Rattle.wl_bytes.proofs.GrammarLaws.{map_reading}
use Rattle.wl_bytes.specs.Lists.{Listed, ListedFault, list_at}
use Rattle.wl_bytes.proofs.ReadingLaws.{both}
use Rattle.wl_bytes.proofs.ListLaws.{one_byte_reading, word_reading, list_reading, whole_reading, IsWholeReading}
use Rattle.wl_custom.specs.Features.{IsFeature, FeatureFault, feature_from, feature_at, AreFeatures, FeaturesFault, features_of}

pub feature_reading : IsReading IsFeature FeatureFault feature_at
unfolding feature_at
feature_reading = map_reading _ IsFeature FeatureFault _ feature_from (λ f. (f.prefix, f.name)) (λ place p text s. s) (λ place f text s. (s, refl)) (both one_byte_reading (λ _. word_reading))

pub features_reading : IsWholeReading AreFeatures FeaturesFault features_of
features_reading = whole_reading (Listed IsFeature) (ListedFault IsFeature FeatureFault) (list_at feature_at) (list_reading IsFeature FeatureFault feature_at feature_reading)

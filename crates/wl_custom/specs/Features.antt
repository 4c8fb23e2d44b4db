-- The target features section (tool conventions, "Target Features Section").
use Rattle.std.specs.Prelude.{ℕ, List, Result}
use Rattle.wl_bytes.specs.Cursor.{Cursor}
use Rattle.wl_bytes.specs.Items.{IsByte, IsName}
use Rattle.wl_bytes.specs.Grammar.{Then, ThenFault, then_at, map_at}
use Rattle.wl_bytes.specs.Lists.{ByteFault, one_byte_at, WordFault, word_at, Listed, ListedFault, list_at, Whole, WholeFault, whole_of}
use Rattle.wl_bytes.specs.declared.read_error.ReadError.{ReadError}

-- a feature: whether it is used or refused, and its name
pub record Feature : Type 0 where
  pub prefix : ℕ
  pub name : List ℕ

-- a byte and a name
abbrev pub IsFeature : ℕ → Feature → List ℕ → Type 0
IsFeature place f text = Then IsByte (λ _. IsName) place (f.prefix, f.name) text

-- one of the two is at fault
abbrev pub FeatureFault : ReadError → Cursor → Type 0
FeatureFault = ThenFault IsByte ByteFault (λ _. WordFault)

-- what was read as a feature
abbrev pub feature_from : ℕ × List ℕ → Feature
feature_from p = record { prefix = p.0; name = p.1 }

-- the next feature
unfoldable pub feature_at : Cursor → Result (Feature × Cursor) ReadError
feature_at c = map_at feature_from (then_at one_byte_at (λ _. word_at)) c

-- the payload is a list of these features
abbrev pub AreFeatures : List Feature → List ℕ → Type 0
AreFeatures = Whole (Listed IsFeature)

-- what is wrong with a payload that is none
abbrev pub FeaturesFault : ReadError → List ℕ → Type 0
FeaturesFault = WholeFault (Listed IsFeature) (ListedFault IsFeature FeatureFault)

-- the features of a whole payload
abbrev pub features_of : List ℕ → Result (List Feature) ReadError
features_of payload = whole_of (list_at feature_at) payload

-- The first objects and names among which features don't fit together.
use Rattle.std.specs.Prelude.{◌≡◌, ℕ, ◌<◌, Bool, List, Option, Some, None, MatchOption, if◌then◌else◌, length, slice_get}
use Rattle.std.specs.HashMap.{HashMap, get_by}
use Rattle.std.specs.Option.{option_or}
use Rattle.std.specs.Str.{bytes_eq}
use denote.Ref.{Bor}
use Rattle.wl_linking.specs.Object.{Object}
use Rattle.wl_linking.specs.declared.error.LinkError.{LinkError}
use Rattle.wl_linking.specs.declared.error.LinkError.TheVariants.{FeatureConflict}
use Rattle.wl_features.specs.Faults.{DisallowedBy}

-- none of so many objects disallows the feature of that name
pub record NoneBelow (objects : List Object) (name : List ℕ) (count : ℕ) : Type 0 where
  pub none : (object : ℕ) → object < count → DisallowedBy objects name object → ⊥

-- no object does
abbrev pub NoneDisallows : List Object → List ℕ → Type 0
NoneDisallows objects name = NoneBelow objects name (length objects)

-- the object of that number does, and none before it
pub record IsFirstBy (objects : List Object) (name : List ℕ) (object : ℕ) : Type 0 where
  pub by : DisallowedBy objects name object
  pub before : NoneBelow objects name object

-- what a map has for a name
abbrev pub first_in : {S : Type 0} → HashMap (Bor (List ℕ)) ℕ S → List ℕ → Option ℕ
first_in m name = get_by (λ k. bytes_eq name k.now) m

-- the first object, where one more, after it, may disallow the feature
abbrev pub with_object : Option ℕ → Bool → ℕ → Option ℕ
with_object first is_one object = option_or first (if is_one then Some object else None)

-- for each name the first of so many objects is found that disallows the feature
abbrev pub AreFirsts : (List ℕ → Option ℕ) → List Object → ℕ → Type 0
AreFirsts found objects count =
    (name : List ℕ)
    → MatchOption (found name) (NoneBelow objects name count) (IsFirstBy objects name)

-- none of so many names is disallowed
pub record AreFree (objects : List Object) (names : List (List ℕ)) (count : ℕ) : Type 0 where
  pub free : (place : ℕ) (name : List ℕ) → place < count → slice_get names place ≡ Some name
      → NoneDisallows objects name

-- the refusal names the first of these that is disallowed, and the first object that does it
pub record IsFirstClash (objects : List Object) (names : List (List ℕ)) (e : LinkError)
    : Type 0 where
  pub place : ℕ
  pub name : List ℕ
  pub object : ℕ
  pub here : slice_get names place ≡ Some name
  pub by : IsFirstBy objects name object
  pub before : AreFree objects names place
  pub told : e ≡ FeatureConflict object name

-- Why features don't fit together.
use Rattle.std.specs.Prelude.{◌≡◌, ℕ, ◌==◌, ◌||◌, ◌<◌, Bool, true, false, List, Some, Contains, slice_get}
use Rattle.std.specs.List.{list_any}
use Rattle.std.specs.Str.{bytes_eq}
use Rattle.std.specs.declared.cmp.Ordering.TheVariants.{Less}
use Rattle.wl_custom.specs.Features.{Feature}
use Rattle.wl_linking.specs.Object.{Object}
use Rattle.wl_linking.specs.Steps.{Step, NoStep}
use Rattle.wl_linking.specs.declared.error.LinkError.{LinkError}
use Rattle.wl_linking.specs.declared.error.LinkError.TheVariants.{BadFeature, SharedMemoryFeature, FeatureConflict}
use Rattle.wl_linking.specs.declared.error.SharedMemoryNeed.{SharedMemoryNeed}
use Rattle.wl_linking.specs.declared.error.SharedMemoryNeed.TheVariants.{Disallowed, Atomics, BulkMemory}
use Rattle.wl_custom.specs.declared.features.TheConstants.{TARGET_FEATURE_PREFIX_DISALLOWED}
use Rattle.wl_symbols.specs.Link.{Link}
use Rattle.wl_features.specs.declared.taken.TheConstants.{TARGET_FEATURE_SHARED_MEM, TARGET_FEATURE_ATOMICS, TARGET_FEATURE_BULK_MEMORY}
use Rattle.wl_features.specs.Taken.{is_used, names_of, taken_names, by_bytes}

-- ---- prefixes

-- nothing that is linked with the object may use it
abbrev pub is_disallowed : Feature → Bool
is_disallowed f = f.prefix == TARGET_FEATURE_PREFIX_DISALLOWED

-- its prefix says what the object asks for
abbrev pub is_known : Feature → Bool
is_known f = is_used f || is_disallowed f

-- an object has a feature whose prefix doesn't
pub record IsBadFeature (objects : List Object) (e : LinkError) : Type 0 where
  pub object : ℕ
  pub o : Object
  pub here : slice_get objects object ≡ Some o
  pub feature : Feature
  pub one : Contains o.features feature
  pub unknown : is_known feature ≡ false
  pub told : e ≡ BadFeature object feature.prefix

-- ---- what is disallowed

-- the object disallows the feature of that name
abbrev pub disallows : List ℕ → Object → Bool
disallows name o = list_any (bytes_eq name) (names_of is_disallowed o.features)

-- the object of that number does
abbrev pub DisallowedBy : List Object → List ℕ → ℕ → Type 0
DisallowedBy objects name object =
    (o : Object) × (slice_get objects object ≡ Some o) × (disallows name o ≡ true)

-- ---- shared memory

-- an object disallows it
abbrev pub IsSharedDisallowed : Link → LinkError → Type 0
IsSharedDisallowed link e =
    (object : ℕ) × DisallowedBy link.objects TARGET_FEATURE_SHARED_MEM.now object
    × (e ≡ SharedMemoryFeature (Disallowed object))

-- it needs a feature that the output hasn't
abbrev pub IsLacking : Link → List ℕ → SharedMemoryNeed → LinkError → Type 0
IsLacking link name need e =
    (Contains (taken_names link) name → ⊥) × (e ≡ SharedMemoryFeature need)

-- these reasons, in their order
abbrev pub shared_steps : Link → LinkError → Type 0
shared_steps link =
    Step (IsSharedDisallowed link)
    (Step (IsLacking link TARGET_FEATURE_ATOMICS.now Atomics)
    (Step (IsLacking link TARGET_FEATURE_BULK_MEMORY.now BulkMemory) NoStep))

-- where features are compared, and memory is shared
abbrev pub IsSharedFault : Link → LinkError → Type 0
IsSharedFault link e =
    (link.args.check_features ≡ true) × (link.args.shared_memory ≡ true) × shared_steps link e

-- ---- conflicts

-- the output has the feature, and the object of that number disallows it
pub record Clashes (link : Link) (name : List ℕ) (object : ℕ) : Type 0 where
  pub taken : Contains (taken_names link) name
  pub by : DisallowedBy link.objects name object

-- where features are compared: the least name that clashes, and the first object with which it does
pub record IsConflict (link : Link) (e : LinkError) : Type 0 where
  pub checked : link.args.check_features ≡ true
  pub name : List ℕ
  pub object : ℕ
  pub clash : Clashes link name object
  pub least : (other : List ℕ) (place : ℕ) → Clashes link other place
      → by_bytes other name ≡ Less → ⊥
  pub first : (place : ℕ) → Clashes link name place → place < object → ⊥
  pub told : e ≡ FeatureConflict object name

-- ---- all of them

-- the reasons, in the order in which they are judged, and others after them
abbrev pub feature_steps : Link → (LinkError → Type 0) → LinkError → Type 0
feature_steps link rest =
    Step (IsBadFeature link.objects) (Step (IsSharedFault link) (Step (IsConflict link) rest))

-- why features don't fit together
abbrev pub feature_fault : Link → LinkError → Type 0
feature_fault link = feature_steps link NoStep

-- The features that the output has (tool conventions, "Target Features Section").
use Rattle.std.specs.Prelude.{ℕ, ◌==◌, Bool, List, ◌++◌, map, All, Contains}
use Rattle.std.specs.List.{filter, flat_map}
use Rattle.std.specs.List.Sorted.{IsStrictlySortedBy}
use Rattle.std.specs.Cmp.Lexicographic.{slice_cmp}
use Rattle.std.specs.Ordering.{nat_cmp}
use Rattle.std.specs.declared.cmp.Ordering.{Ordering}
use Rattle.wl_custom.specs.Features.{Feature}
use Rattle.wl_linking.specs.Object.{Object}
use Rattle.wl_custom.specs.declared.features.TheConstants.{TARGET_FEATURE_PREFIX_USED}
use Rattle.wl_symbols.specs.Link.{Link}

-- the object uses it
abbrev pub is_used : Feature → Bool
is_used f = f.prefix == TARGET_FEATURE_PREFIX_USED

-- the names of those features that pass a test
abbrev pub names_of : (Feature → Bool) → List Feature → List (List ℕ)
names_of test features = map (λ (f : Feature). f.name) (filter test features)

-- what objects use, and what the words add
abbrev pub taken_names : Link → List (List ℕ)
taken_names link =
    flat_map (λ (o : Object). names_of is_used o.features) link.objects
    ++ link.args.extra_features

-- texts by their first bytes that differ, a front before the whole
abbrev pub by_bytes : List ℕ → List ℕ → Ordering
by_bytes = slice_cmp nat_cmp

-- these are the names of the features that the output has: each once, in the order of their bytes
pub record AreTaken (link : Link) (names : List (List ℕ)) : Type 0 where
  pub all : All (Contains names) (taken_names link)
  pub no_other : All (Contains (taken_names link)) names
  pub ascending : IsStrictlySortedBy by_bytes names

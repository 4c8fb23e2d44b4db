-- What a plan has beside the module's own sections: the features, and the debug sections.
use Rattle.std.specs.Prelude.{◌≡◌, ℕ, ◌||◌, Bool, true, false, List, [], codes, if◌then◌else◌}
use Rattle.wl_custom.specs.Debug.{DebugInput}
use Rattle.wl_words.specs.Args.{emits_stripped_section}
use Rattle.wl_symbols.specs.Link.{Link}
use Rattle.wl_features.specs.Taken.{AreTaken}
use Rattle.wl_plan.specs.Bodies.{object_debug_sections}

-- the features that the output has, or none
abbrev pub AreTakenIf : Bool → Link → List (List ℕ) → Type 0
AreTakenIf true link names = AreTaken link names
AreTakenIf false link names = names ≡ []

-- the features that the output has, unless the words leave their section out
abbrev pub AreOutputFeatures : Link → List (List ℕ) → Type 0
AreOutputFeatures link names =
    AreTakenIf (emits_stripped_section link.args (codes "target_features")) link names

-- the debug sections of all objects, unless the words leave them out
abbrev pub output_debug_sections : Link → List DebugInput
output_debug_sections link =
    if link.args.strip_all || link.args.strip_debug then []
    else object_debug_sections 0 link.objects

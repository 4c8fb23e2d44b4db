-- What becomes of a section of an object, by its name (object file linking, version 2).
use Rattle.std.specs.Prelude.{ℕ, ◌||◌, Bool, if◌then◌else◌, List, [], ◌∷◌, Option, Some, None, codes, nat_eq}
use Rattle.std.specs.List.{starts_with, list_any}
use Rattle.std.specs.Str.{bytes_eq}
use Rattle.wl_sections.specs.declared.outcome.SectionRuleOutcome.{SectionRuleOutcome}
use Rattle.wl_sections.specs.declared.outcome.SectionRuleOutcome.TheVariants.{Discard, Debug}

-- the names of sections that have no copy in the output
abbrev pub discarded_names : List (List ℕ)
discarded_names =
    codes "type" ∷ codes "import" ∷ codes "function" ∷ codes "table" ∷ codes "memory"
    ∷ codes "global" ∷ codes "export" ∷ codes "start" ∷ codes "element" ∷ codes "data_count"
    ∷ codes "code" ∷ codes "data"
    ∷ codes "linking" ∷ codes "name" ∷ codes "target_features" ∷ []

-- the name is one of these
abbrev pub is_discarded : List ℕ → Bool
is_discarded name = list_any (bytes_eq name) discarded_names

-- those have no copy, nor have relocation sections; debug sections are copied; of others there is no
-- rule
abbrev pub section_outcome : List ℕ → Option SectionRuleOutcome
section_outcome name =
    if is_discarded name || starts_with nat_eq name (codes "reloc.") then Some Discard
    else if starts_with nat_eq name (codes ".debug_") then Some Debug
    else None

-- The parts of the output with their names.
use Rattle.std.specs.Prelude.{ℕ, List, [], ◌∷◌, codes}
use Rattle.wl_sections.specs.declared.output_section.OutputSection.{OutputSection}
use Rattle.wl_sections.specs.declared.output_section.OutputSection.TheVariants as section

-- the parts, by their numbers, and the name of each
abbrev pub built_in_sections : List (OutputSection × List ℕ)
built_in_sections =
    (section.Type, codes "type")
    ∷ (section.Import, codes "import")
    ∷ (section.Function, codes "function")
    ∷ (section.Table, codes "table")
    ∷ (section.Memory, codes "memory")
    ∷ (section.Global, codes "global")
    ∷ (section.Export, codes "export")
    ∷ (section.Start, codes "start")
    ∷ (section.Element, codes "element")
    ∷ (section.DataCount, codes "data_count")
    ∷ (section.Code, codes "code")
    ∷ (section.Data, codes "data")
    ∷ (section.Name, codes "name")
    ∷ (section.TargetFeatures, codes "target_features")
    ∷ (section.Debug, codes ".debug")
    ∷ []

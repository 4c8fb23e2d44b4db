-- What the sections of a module are (core specification, "Sections"): their ids, and the order in
-- which they stand.
use Rattle.std.specs.Prelude.{ℕ, ◌==◌, Bool, List, [], ◌∷◌, Option}
use Rattle.wl_bytes.specs.Lists.{with_code}
use Rattle.wl_module.specs.declared.section_kind.SectionKind.{SectionKind}
use Rattle.wl_module.specs.declared.section_kind.SectionKind.TheVariants as kind

-- the id of a section
abbrev pub id_of : SectionKind → ℕ
id_of kind.Custom = 0
id_of kind.Type = 1
id_of kind.Import = 2
id_of kind.Function = 3
id_of kind.Table = 4
id_of kind.Memory = 5
id_of kind.Global = 6
id_of kind.Export = 7
id_of kind.Start = 8
id_of kind.Element = 9
id_of kind.Code = 10
id_of kind.Data = 11
id_of kind.DataCount = 12
id_of kind.Tag = 13

-- all of them
abbrev pub section_kinds : List SectionKind
section_kinds =
    kind.Custom ∷ kind.Type ∷ kind.Import ∷ kind.Function ∷ kind.Table ∷ kind.Memory ∷ kind.Global
    ∷ kind.Export ∷ kind.Start
    ∷ kind.Element ∷ kind.Code ∷ kind.Data ∷ kind.DataCount ∷ kind.Tag ∷ []

-- the section of an id
abbrev pub kind_of : ℕ → Option SectionKind
kind_of = with_code id_of section_kinds

-- a section with a name, for tools
abbrev pub is_custom : SectionKind → Bool
is_custom k = id_of k == 0

-- its place among the sections that stand in order, from 1, the data count before code and data; 0
-- where it may stand anywhere
abbrev pub place_of : SectionKind → ℕ
place_of kind.Custom = 0
place_of kind.Type = 1
place_of kind.Import = 2
place_of kind.Function = 3
place_of kind.Table = 4
place_of kind.Memory = 5
place_of kind.Global = 6
place_of kind.Export = 7
place_of kind.Start = 8
place_of kind.Element = 9
place_of kind.DataCount = 10
place_of kind.Code = 11
place_of kind.Data = 12
place_of kind.Tag = 0

-- What a word of the command line says of an option.
use Rattle.std.specs.Prelude.{ℕ, ◌==◌, ◌&&◌, ◌||◌, Bool, true, false, if◌then◌else◌, nat_lt, List, [], ◌∷◌, length, Option, Some, None, find, option_map, codes}
use Rattle.std.specs.Str.{bytes_eq}
use Rattle.std.specs.List.{position_or_len, before_first, after_first}
use Rattle.wl_words.specs.declared.options.OptionKind.{OptionKind}
use Rattle.wl_words.specs.declared.options.OptionKind.TheVariants.{Nothing, Value, OptionalValue}
use Rattle.wl_words.specs.declared.options.Flag.TheVariants as flag
use Rattle.wl_words.specs.declared.options.Setting.TheVariants as setting
use Rattle.wl_words.specs.declared.options.MemoryOption.TheVariants as memory
use Rattle.wl_words.specs.Rows.{OptionRow}

-- a row of the table
abbrev option_row : List ℕ → OptionKind → OptionRow
option_row name takes = record { name = name; takes = takes }

-- the table of options: those of one letter come after one dash, the others after one or two
abbrev pub options : List OptionRow
options =
    option_row (codes "export") (Value setting.Export)
    ∷ option_row (codes "export-if-defined") (Value setting.ExportIfDefined)
    ∷ option_row (codes "export-dynamic") (Nothing flag.ExportDynamic)
    ∷ option_row (codes "allow-undefined") (Nothing flag.AllowUndefined)
    ∷ option_row (codes "shared-memory") (Nothing flag.SharedMemory)
    ∷ option_row (codes "stack-first") (Nothing (flag.StackFirst true))
    ∷ option_row (codes "no-stack-first") (Nothing (flag.StackFirst false))
    ∷ option_row (codes "gc-sections") (Nothing (flag.GcSections true))
    ∷ option_row (codes "no-gc-sections") (Nothing (flag.GcSections false))
    ∷ option_row (codes "check-features") (Nothing (flag.CheckFeatures true))
    ∷ option_row (codes "no-check-features") (Nothing (flag.CheckFeatures false))
    ∷ option_row (codes "entry") (Value setting.Entry)
    ∷ option_row (codes "e") (Value setting.Entry)
    ∷ option_row (codes "no-entry") (Nothing flag.NoEntry)
    ∷ option_row (codes "z") (Value setting.Keyword)
    ∷ option_row (codes "initial-memory") (Value setting.InitialMemory)
    ∷ option_row (codes "max-memory") (Value setting.MaxMemory)
    ∷ option_row (codes "import-memory") (OptionalValue memory.Import)
    ∷ option_row (codes "export-memory") (OptionalValue memory.Export)
    ∷ option_row (codes "extra-features") (Value setting.ExtraFeatures)
    ∷ option_row (codes "strip-all") (Nothing flag.StripAll)
    ∷ option_row (codes "s") (Nothing flag.StripAll)
    ∷ option_row (codes "strip-debug") (Nothing flag.StripDebug)
    ∷ option_row (codes "S") (Nothing flag.StripDebug)
    ∷ option_row (codes "keep-section") (Value setting.KeepSection)
    ∷ option_row (codes "o") (Value setting.Output)
    ∷ option_row (codes "generate") (Value setting.Generate)
    ∷ option_row (codes "why") (Nothing flag.Why)
    ∷ option_row (codes "map") (Nothing flag.Map)
    ∷ option_row (codes "check") (Value setting.Check)
    ∷ option_row (codes "run") (Value setting.Run)
    ∷ option_row (codes "replace") (Value setting.Replace)
    ∷ []

-- a word of two or more bytes, of which the first is a dash, is an option's; any other names an
-- object
abbrev pub is_option : List ℕ → Bool
is_option [] = false
is_option (a ∷ []) = false
is_option (a ∷ b ∷ rest) = a == 45

-- an equals sign
abbrev pub is_equals : ℕ → Bool
is_equals byte = byte == 61

-- the word up to its first equals sign, or all of it
abbrev pub front_of : List ℕ → List ℕ
front_of word = before_first is_equals word

-- what follows the first equals sign
abbrev pub value_of : List ℕ → Option (List ℕ)
value_of word =
    if nat_lt (position_or_len is_equals word) (length word)
    then Some (after_first is_equals word)
    else None

-- dashes and a name: one dash or two, but one dash alone before a name of one letter
abbrev pub is_spelled : List ℕ → List ℕ → Bool
is_spelled front name =
    bytes_eq front (45 ∷ name) || (nat_lt 1 (length name) && bytes_eq front (45 ∷ 45 ∷ name))

-- what the first of these options is whose dashes and name these are
abbrev pub taken_in : List OptionRow → List ℕ → Option OptionKind
taken_in rows front =
    option_map (λ r. r.takes) (find (λ r. is_spelled front r.name) rows)

-- what the option is whose dashes and name these are, by the table of options
abbrev pub taken_by : List ℕ → Option OptionKind
taken_by front = taken_in options front

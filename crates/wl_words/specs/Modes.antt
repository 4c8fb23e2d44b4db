-- Modes: what is written in place of the listing, and which options ask for them.
use Rattle.std.specs.Prelude.{◌≡◌, ◌≤◌, ℕ, Bool, true, false, if◌then◌else◌, List, Option, Some, None, slice_get, ⊤}
use Rattle.std.specs.Option.{option_and_then}
use Rattle.wl_words.specs.Options.{value_of}
use Rattle.wl_words.specs.declared.values.TheConstants.{MAX_GENERATED}
use Rattle.wl_words.specs.declared.options.OptionKind.{OptionKind}
use Rattle.wl_words.specs.declared.options.OptionKind.TheVariants.{Nothing, Value}
use Rattle.wl_words.specs.declared.options.Flag.TheVariants as flag
use Rattle.wl_words.specs.declared.options.Setting.TheVariants as setting
use Rattle.wl_words.specs.declared.modes.ValuePlace.{ValuePlace}
use Rattle.wl_words.specs.declared.modes.Mode.{Mode}
use Rattle.wl_words.specs.declared.modes.Mode.TheVariants as mode
use Rattle.wl_words.specs.declared.modes.ModeName.{ModeName}
use Rattle.wl_words.specs.declared.modes.ModeName.TheVariants as name

-- the mode that an option asks for, whatever its value
abbrev pub mode_in : OptionKind → Option ModeName
mode_in (Nothing flag.Why) = Some name.Why
mode_in (Nothing flag.Map) = Some name.Map
mode_in (Value setting.Generate) = Some name.Generate
mode_in (Value setting.Check) = Some name.Check
mode_in (Value setting.Run) = Some name.Run
mode_in _ = None

-- the name of a mode; the listing is written where no mode is asked for
abbrev pub mode_name : Mode → Option ModeName
mode_name mode.Listing = None
mode_name (mode.Generate count) = Some name.Generate
mode_name mode.Why = Some name.Why
mode_name mode.Map = Some name.Map
mode_name (mode.Check file) = Some name.Check
mode_name (mode.Run function) = Some name.Run

-- the objects are generated, and no file is read
abbrev pub generates : Mode → Bool
generates (mode.Generate count) = true
generates _ = false

-- the mode that is asked for now, if one is, is none other than the one before
abbrev pub KeepsMode : Option ModeName → Option ModeName → Type 0
KeepsMode (Some old) (Some new) = old ≡ new
KeepsMode _ _ = ⊤

-- the value that stands in this place of the words: after the first equals sign of its word, or
-- the whole word
abbrev pub placed_value : List (List ℕ) → ValuePlace → Option (List ℕ)
placed_value words place =
    option_and_then (λ word. if place.joined then value_of word else Some word)
    (slice_get words place.word)

-- as many objects as can be generated; and a name stands where its place is
abbrev pub IsFitMode : List (List ℕ) → Mode → Type 0
IsFitMode words (mode.Generate count) = (1 ≤ count) × (count ≤ MAX_GENERATED)
IsFitMode words (mode.Check file) = (name : List ℕ) × (placed_value words file ≡ Some name)
IsFitMode words (mode.Run function) = (name : List ℕ) × (placed_value words function ≡ Some name)
IsFitMode words _ = ⊤

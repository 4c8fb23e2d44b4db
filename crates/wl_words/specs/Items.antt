-- What the words of the command line are: items, each in one word or two.
use Rattle.std.specs.Prelude.{◌≡◌, ℕ, ◌+◌, true, false, List, [], ◌∷◌, Option, Some, None, slice_get, ⊤}
use Rattle.wl_words.specs.Options.{is_option, front_of, value_of, taken_by}
use Rattle.std.specs.Option.{option_or}
use Rattle.wl_words.specs.Values.{number_of, stack_size, generated_count}
use Rattle.wl_words.specs.Modes.{mode_in, KeepsMode}
use Rattle.wl_words.specs.Replacing.{replaced_object}
use Rattle.wl_words.specs.declared.modes.ModeName.{ModeName}
use Rattle.wl_words.specs.declared.modes.ValuePlace.{ValuePlace}
use Rattle.wl_words.specs.declared.options.OptionKind.{OptionKind}
use Rattle.wl_words.specs.declared.options.OptionKind.TheVariants.{Nothing, Value, OptionalValue}
use Rattle.wl_words.specs.declared.options.Flag.{Flag}
use Rattle.wl_words.specs.declared.options.Setting.{Setting}
use Rattle.wl_words.specs.declared.options.Setting.TheVariants as setting
use Rattle.wl_words.specs.declared.options.MemoryOption.{MemoryOption}

-- the name of an object, in the word of this number; an option without a value; one with its value
-- and where that stands; and one that may have a value
pub data ArgItem : Type 0 where
  Object : ℕ → ArgItem
  Given : Flag → ArgItem
  Set : Setting → List ℕ → ValuePlace → ArgItem
  Memory : MemoryOption → Option (List ℕ) → ArgItem

-- the word of this number names an object
pub record NamesObject (words : List (List ℕ)) (at : ℕ) : Type 0 where
  pub word : List ℕ
  pub here : slice_get words at ≡ Some word
  pub plain : is_option word ≡ false

-- the word of this number is an option's, which takes this, and this follows its equals sign
pub record NamesOption (words : List (List ℕ)) (at : ℕ) (takes : OptionKind)
    (behind : Option (List ℕ)) : Type 0 where
  pub word : List ℕ
  pub here : slice_get words at ≡ Some word
  pub dashed : is_option word ≡ true
  pub named : taken_by (front_of word) ≡ Some takes
  pub value : value_of word ≡ behind

-- after the equals sign of the word of this number
abbrev pub joined_place : ℕ → ValuePlace
joined_place word = record { word = word; joined = true }

-- the whole word of this number
abbrev pub word_place : ℕ → ValuePlace
word_place word = record { word = word; joined = false }

-- the word of this number is an option's that takes a value, and this is the value, in that place:
-- after the equals sign of the same word, or the next word
pub data HasValue (words : List (List ℕ)) (at : ℕ) (setting : Setting) (value : List ℕ)
    (place : ValuePlace) : Type 0 where
  joined : NamesOption words at (Value setting) (Some value) → place ≡ joined_place at
      → HasValue words at setting value place
  parted : NamesOption words at (Value setting) None → slice_get words (at + 1) ≡ Some value
      → place ≡ word_place (at + 1) → HasValue words at setting value place

-- the option may have this value: of some the value says a number
abbrev pub IsSoundValue : Setting → List ℕ → Type 0
IsSoundValue setting.Export value = ⊤
IsSoundValue setting.ExportIfDefined value = ⊤
IsSoundValue setting.Entry value = ⊤
IsSoundValue setting.Keyword value = (n : ℕ) × (stack_size value ≡ Some n)
IsSoundValue setting.InitialMemory value = (n : ℕ) × (number_of 64 value ≡ Some n)
IsSoundValue setting.MaxMemory value = (n : ℕ) × (number_of 64 value ≡ Some n)
IsSoundValue setting.ExtraFeatures value = ⊤
IsSoundValue setting.KeepSection value = ⊤
IsSoundValue setting.Output value = ⊤
IsSoundValue setting.Generate value = (n : ℕ) × (generated_count value ≡ Some n)
IsSoundValue setting.Check value = ⊤
IsSoundValue setting.Run value = ⊤
IsSoundValue setting.Replace value = (n : ℕ) × (replaced_object value ≡ Some n)

-- the item stands at this word, and the next item at that one
abbrev pub StandsAtWord : List (List ℕ) → ℕ → ArgItem → ℕ → Type 0
StandsAtWord words at (Object place) next = NamesObject words at × (place ≡ at) × (next ≡ at + 1)
StandsAtWord words at (Given flag) next = NamesOption words at (Nothing flag) None × (next ≡ at + 1)
StandsAtWord words at (Set setting value place) next =
    HasValue words at setting value place × IsSoundValue setting value × (next ≡ place.word + 1)
StandsAtWord words at (Memory option value) next =
    NamesOption words at (OptionalValue option) value × (next ≡ at + 1)

-- the mode that an item asks for
abbrev pub mode_of_item : ArgItem → Option ModeName
mode_of_item (Object word) = None
mode_of_item (Given flag) = mode_in (Nothing flag)
mode_of_item (Set setting value place) = mode_in (Value setting)
mode_of_item (Memory option value) = None

-- the mode that is asked for last
abbrev pub mode_after : Option ModeName → List ArgItem → Option ModeName
mode_after before [] = before
mode_after before (item ∷ items) = mode_after (option_or (mode_of_item item) before) items

-- the items follow one another, from this word to that one, and none asks for another mode than the
-- one before it
abbrev pub AreArgItems : List (List ℕ) → ℕ → Option ModeName → List ArgItem → ℕ → Type 0
AreArgItems words at before [] end = at ≡ end
AreArgItems words at before (item ∷ items) end =
    (next : ℕ) × StandsAtWord words at item next × KeepsMode before (mode_of_item item)
    × AreArgItems words next (option_or (mode_of_item item) before) items end

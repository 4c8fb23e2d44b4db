-- Words that are no items.
use Rattle.std.specs.Prelude.{◌≡◌, ◌≢◌, ◌⊎◌, ℕ, ◌+◌, true, List, Option, Some, None, slice_get}
use Rattle.wl_words.specs.Options.{is_option, front_of, taken_by}
use Rattle.wl_words.specs.Values.{number_of, stack_size_text, generated_count}
use Rattle.wl_words.specs.Modes.{mode_in, KeepsMode}
use Rattle.wl_words.specs.Replacing.{replaced_object}
use Rattle.wl_words.specs.Items.{ArgItem, AreArgItems, NamesOption, HasValue, mode_after}
use Rattle.wl_words.specs.declared.modes.ModeName.{ModeName}
use Rattle.wl_words.specs.declared.modes.ValuePlace.{ValuePlace}
use Rattle.wl_words.specs.declared.options.OptionKind.TheVariants.{Nothing, Value}
use Rattle.wl_words.specs.declared.options.Flag.{Flag}
use Rattle.wl_words.specs.declared.options.Setting.{Setting}
use Rattle.wl_words.specs.declared.options.Setting.TheVariants as setting
use Rattle.wl_words.specs.declared.error.ArgError.{ArgError}
use Rattle.wl_words.specs.declared.error.ArgError.TheVariants.{OutOfMemory, UnknownOption, MissingValue, BadNumber, TwoModes}

-- the word of this number is an option's, of which there is none, or which has a value and takes
-- none
pub data IsUnknownOption (words : List (List ℕ)) (at : ℕ) : Type 0 where
  unnamed : (word : List ℕ) → slice_get words at ≡ Some word → is_option word ≡ true
      → taken_by (front_of word) ≡ None → IsUnknownOption words at
  valued : (flag : Flag) (value : List ℕ) → NamesOption words at (Nothing flag) (Some value)
      → IsUnknownOption words at

-- the word of this number is an option's that takes a value, and it is the last word and has none
pub record LacksValue (words : List (List ℕ)) (at : ℕ) : Type 0 where
  pub setting : Setting
  pub named : NamesOption words at (Value setting) None
  pub last : slice_get words (at + 1) ≡ None

-- the value, in the word of this place, is no number, or its keyword isn't known
abbrev pub ValueFault : Setting → List ℕ → ℕ → ArgError → Type 0
ValueFault setting.Keyword value place e =
    ((stack_size_text value ≡ None) × (e ≡ UnknownOption place))
    ⊎ ((text : List ℕ) × (stack_size_text value ≡ Some text) × (number_of 32 text ≡ None)
    × (e ≡ BadNumber place))
ValueFault setting.InitialMemory value place e = (number_of 64 value ≡ None) × (e ≡ BadNumber place)
ValueFault setting.MaxMemory value place e = (number_of 64 value ≡ None) × (e ≡ BadNumber place)
ValueFault setting.Generate value place e =
    (generated_count value ≡ None) × (e ≡ BadNumber place)
ValueFault setting.Replace value place e = (replaced_object value ≡ None) × (e ≡ BadNumber place)
ValueFault _ value place e = ⊥

-- no item stands at this word, and this is what is reported of it
pub data ItemFault (words : List (List ℕ)) (at : ℕ) (e : ArgError) : Type 0 where
  unknown : IsUnknownOption words at → e ≡ UnknownOption at → ItemFault words at e
  lacking : LacksValue words at → e ≡ MissingValue at → ItemFault words at e
  unsound : (setting : Setting) (value : List ℕ) (place : ValuePlace)
      → HasValue words at setting value place → ValueFault setting value place.word e
      → ItemFault words at e

-- the option in the word of this number asks for another mode than the one before; one that takes
-- no value has none
pub data AsksOtherMode (words : List (List ℕ)) (at : ℕ) (before : Option ModeName) : Type 0 where
  bare : (flag : Flag) → NamesOption words at (Nothing flag) None
      → (KeepsMode before (mode_in (Nothing flag)) → ⊥) → AsksOtherMode words at before
  with_value : (setting : Setting) (value : Option (List ℕ))
      → NamesOption words at (Value setting) value
      → (KeepsMode before (mode_in (Value setting)) → ⊥) → AsksOtherMode words at before

-- the words end here, as items of the mode before: another mode is reported before a value
pub data StopFault (words : List (List ℕ)) (at : ℕ) (before : Option ModeName) (e : ArgError)
    : Type 0 where
  other : AsksOtherMode words at before → e ≡ TwoModes at → StopFault words at before e
  alone : (AsksOtherMode words at before → ⊥) → ItemFault words at e
      → StopFault words at before e

-- after items, from the first word on, no item follows
pub record FrontFault (words : List (List ℕ)) (e : ArgError) : Type 0 where
  pub items : List ArgItem
  pub at : ℕ
  pub before : AreArgItems words 0 None items at
  pub fault : StopFault words at (mode_after None items) e

-- a refusal of a value has its cause; want of memory is free
pub record RefusesValue (setting : Setting) (value : List ℕ) (place : ℕ) (e : ArgError)
    : Type 0 where
  pub cause_is : e ≢ OutOfMemory → ValueFault setting value place e

-- a refusal of an item has its cause; want of memory is free
pub record StopsAt (words : List (List ℕ)) (at : ℕ) (before : Option ModeName) (e : ArgError)
    : Type 0 where
  pub cause_is : e ≢ OutOfMemory → StopFault words at before e

-- Modes of items, and options that ask for another one.
use Rattle.std.proofs.Common.{◌≡◌, ◌⊎◌, ◌≤◌, ◌&&◌, ℕ, List, Bool, true, false, if◌then◌else◌, nat_le, Option, Some, None, unwrap_or, refl, sym, ap, subst, ◌∙◌, slice_get, inl, inr}
use Rattle.std.specs.Option.{option_or, option_and_then}
use Rattle.std.proofs.lemmas.Bool.{leb-true}
use Rattle.wl_words.specs.Options.{front_of, taken_by}
use Rattle.wl_words.specs.Values.{number_of, generated_count}
use Rattle.wl_words.specs.Modes.{mode_in, mode_name, KeepsMode, IsFitMode, placed_value}
use Rattle.wl_words.specs.Items.{ArgItem, Object, Given, Set, Memory, NamesOption, HasValue, joined, parted, StandsAtWord, mode_of_item}
use Rattle.wl_words.specs.Args.{mode_of}
use Rattle.wl_words.specs.Faults.{AsksOtherMode, bare, with_value}
use Rattle.wl_words.specs.declared.options.OptionKind.{OptionKind}
use Rattle.wl_words.specs.declared.options.OptionKind.TheVariants.{Nothing}
use Rattle.wl_words.specs.declared.options.Flag.{Flag}
use Rattle.wl_words.specs.declared.options.Flag.TheVariants as flag
use Rattle.wl_words.specs.declared.options.Setting.{Setting}
use Rattle.wl_words.specs.declared.options.Setting.TheVariants as setting
use Rattle.wl_words.specs.declared.modes.Mode.{Mode}
use Rattle.wl_words.specs.declared.modes.ModeName.{ModeName}
use Rattle.wl_words.specs.declared.modes.ValuePlace.{ValuePlace}
use Rattle.wl_words.specs.declared.modes.ModeName.TheVariants as name
use Rattle.wl_words.specs.declared.values.TheConstants.{MAX_GENERATED}
use Rattle.wl_words.proofs.OptionLaws.{some_same, some_none, one_option, no_option, not_unnamed, flag_value, value_option}

-- ---- names of modes

same_name : (a b : ModeName) → (a ≡ b) ⊎ (a ≡ b → ⊥)
same_name name.Generate name.Generate = inl refl
same_name name.Generate name.Why = inr (λ is. absurd cc)
same_name name.Generate name.Map = inr (λ is. absurd cc)
same_name name.Generate name.Check = inr (λ is. absurd cc)
same_name name.Generate name.Run = inr (λ is. absurd cc)
same_name name.Why name.Generate = inr (λ is. absurd cc)
same_name name.Why name.Why = inl refl
same_name name.Why name.Map = inr (λ is. absurd cc)
same_name name.Why name.Check = inr (λ is. absurd cc)
same_name name.Why name.Run = inr (λ is. absurd cc)
same_name name.Map name.Generate = inr (λ is. absurd cc)
same_name name.Map name.Why = inr (λ is. absurd cc)
same_name name.Map name.Map = inl refl
same_name name.Map name.Check = inr (λ is. absurd cc)
same_name name.Map name.Run = inr (λ is. absurd cc)
same_name name.Check name.Generate = inr (λ is. absurd cc)
same_name name.Check name.Why = inr (λ is. absurd cc)
same_name name.Check name.Map = inr (λ is. absurd cc)
same_name name.Check name.Check = inl refl
same_name name.Check name.Run = inr (λ is. absurd cc)
same_name name.Run name.Generate = inr (λ is. absurd cc)
same_name name.Run name.Why = inr (λ is. absurd cc)
same_name name.Run name.Map = inr (λ is. absurd cc)
same_name name.Run name.Check = inr (λ is. absurd cc)
same_name name.Run name.Run = inl refl

pub keeps_none : (before : Option ModeName) → KeepsMode before None
keeps_none None = tt
keeps_none (Some old) = tt

pub keeps_or_other : (before now : Option ModeName) → KeepsMode before now ⊎ (KeepsMode before now → ⊥)
keeps_or_other None now = inl tt
keeps_or_other (Some old) None = inl tt
keeps_or_other (Some old) (Some new) = same_name old new

-- ---- what an item says of the mode

-- a count that is taken lies in its range
picked : (low high : Bool) (count n : ℕ) → (if low && high then Some count else None) ≡ Some n → (low ≡ true) × (high ≡ true) × (count ≡ n)
picked true true count n is = (refl, refl, some_same count n is)
picked true false count n is = absurd (some_none n (sym is))
picked false high count n is = absurd (some_none n (sym is))

in_range : (o : Option ℕ) (n : ℕ) → option_and_then (λ count. if nat_le 1 count && nat_le count MAX_GENERATED then Some count else None) o ≡ Some n → (1 ≤ n) × (n ≤ MAX_GENERATED)
in_range None n is = absurd (some_none n (sym is))
in_range (Some count) n is =
    let p = picked (nat_le 1 count) (nat_le count MAX_GENERATED) count n is in
    subst (λ (k : ℕ). (1 ≤ k) × (k ≤ MAX_GENERATED)) p.2 (leb-true 1 count p.0, leb-true count MAX_GENERATED p.1)

-- an item says nothing of the mode, or the mode of its name
abbrev SaysMode : List (List ℕ) → ArgItem → Option Mode → Type 0
SaysMode words item None = mode_of_item item ≡ None
SaysMode words item (Some m) = (new : ModeName) × (mode_of_item item ≡ Some new) × (mode_name m ≡ Some new) × IsFitMode words m

counted : (words : List (List ℕ)) (value : List ℕ) (place : ValuePlace) (n : ℕ) → generated_count value ≡ Some n → SaysMode words (Set setting.Generate value place) (mode_of (Set setting.Generate value place))
counted words value place n is = rw is (name.Generate, refl, refl, in_range (number_of 32 value) n is)

-- the value of an option stands in its place
stands_there : (words : List (List ℕ)) (at : ℕ) (s : Setting) (value : List ℕ) (place : ValuePlace) → HasValue words at s value place → placed_value words place ≡ Some value
stands_there words at s value place (joined named is) = rw (is, named.here) named.value
stands_there words at s value place (parted named next is) = rw (is, next) refl

says_mode : (words : List (List ℕ)) (at : ℕ) (item : ArgItem) (next : ℕ) → StandsAtWord words at item next → SaysMode words item (mode_of item)
says_mode words at (Object place) next h = refl
says_mode words at (Memory option value) next h = refl
says_mode words at (Given flag.ExportDynamic) next h = refl
says_mode words at (Given flag.AllowUndefined) next h = refl
says_mode words at (Given flag.SharedMemory) next h = refl
says_mode words at (Given (flag.StackFirst on)) next h = refl
says_mode words at (Given (flag.GcSections on)) next h = refl
says_mode words at (Given (flag.CheckFeatures on)) next h = refl
says_mode words at (Given flag.NoEntry) next h = refl
says_mode words at (Given flag.StripAll) next h = refl
says_mode words at (Given flag.StripDebug) next h = refl
says_mode words at (Given flag.Why) next h = (name.Why, refl, refl, tt)
says_mode words at (Given flag.Map) next h = (name.Map, refl, refl, tt)
says_mode words at (Set setting.Export value place) next h = refl
says_mode words at (Set setting.ExportIfDefined value place) next h = refl
says_mode words at (Set setting.Entry value place) next h = refl
says_mode words at (Set setting.Keyword value place) next h = refl
says_mode words at (Set setting.InitialMemory value place) next h = refl
says_mode words at (Set setting.MaxMemory value place) next h = refl
says_mode words at (Set setting.ExtraFeatures value place) next h = refl
says_mode words at (Set setting.KeepSection value place) next h = refl
says_mode words at (Set setting.Output value place) next h = refl
says_mode words at (Set setting.Generate value place) next (has, (n, is), on) = counted words value place n is
says_mode words at (Set setting.Check value place) next h = (name.Check, refl, refl, (value, stands_there words at setting.Check value place h.0))
says_mode words at (Set setting.Replace value place) next h = refl
says_mode words at (Set setting.Run value place) next h = (name.Run, refl, refl, (value, stands_there words at setting.Run value place h.0))

-- the mode with one more item, and that it fits
mode_more : (words : List (List ℕ)) (item : ArgItem) (said : Option Mode) (old new : Mode) → SaysMode words item said → new ≡ unwrap_or said old → IsFitMode words old → (mode_name new ≡ option_or (mode_of_item item) (mode_name old)) × IsFitMode words new
mode_more words item None old new says is fit = (ap mode_name is ∙ sym (ap (λ (o : Option ModeName). option_or o (mode_name old)) says), subst (IsFitMode words) (sym is) fit)
mode_more words item (Some m) old new (next, asks, named, fits) is fit = (ap mode_name is ∙ named ∙ sym (ap (λ (o : Option ModeName). option_or o (mode_name old)) asks), subst (IsFitMode words) (sym is) fits)

pub mode_step : (words : List (List ℕ)) (at : ℕ) (item : ArgItem) (next : ℕ) (old new : Mode) → StandsAtWord words at item next → new ≡ unwrap_or (mode_of item) old → IsFitMode words old → (mode_name new ≡ option_or (mode_of_item item) (mode_name old)) × IsFitMode words new
mode_step words at item next old new h is fit = mode_more words item (mode_of item) old new (says_mode words at item next h) is fit

-- ---- options that ask for another mode

-- an option that keeps the mode asks for no other
pub keeps_no_other : (words : List (List ℕ)) (at : ℕ) (before : Option ModeName) (t : OptionKind) (behind : Option (List ℕ)) → NamesOption words at t behind → KeepsMode before (mode_in t) → AsksOtherMode words at before → ⊥
keeps_no_other words at before t behind h keeps (bare flag named differs) = differs (subst (λ (o : OptionKind). KeepsMode before (mode_in o)) (one_option words at _ _ _ _ h named).0 keeps)
keeps_no_other words at before t behind h keeps (with_value setting value named differs) = differs (subst (λ (o : OptionKind). KeepsMode before (mode_in o)) (one_option words at _ _ _ _ h named).0 keeps)

-- nor does a word that names no option
pub unnamed_no_other : (words : List (List ℕ)) (at : ℕ) (before : Option ModeName) (word : List ℕ) → slice_get words at ≡ Some word → taken_by (front_of word) ≡ None → AsksOtherMode words at before → ⊥
unnamed_no_other words at before word here none (bare flag named differs) = not_unnamed words at _ _ word named here none
unnamed_no_other words at before word here none (with_value setting value named differs) = not_unnamed words at _ _ word named here none

-- nor an option that has a value and takes none
pub valued_no_other : (words : List (List ℕ)) (at : ℕ) (before : Option ModeName) (f : Flag) (value : List ℕ) → NamesOption words at (Nothing f) (Some value) → AsksOtherMode words at before → ⊥
valued_no_other words at before f value h (bare flag named differs) = some_none value (one_option words at _ _ _ _ h named).1
valued_no_other words at before f value h (with_value setting behind named differs) = flag_value f setting (one_option words at _ _ _ _ h named).0

-- nor an item that keeps the mode
pub item_no_other : (words : List (List ℕ)) (at : ℕ) (before : Option ModeName) (item : ArgItem) (next : ℕ) → StandsAtWord words at item next → KeepsMode before (mode_of_item item) → AsksOtherMode words at before → ⊥
item_no_other words at before (Object place) next h keeps (bare flag named differs) = no_option words at _ _ h.0 named
item_no_other words at before (Object place) next h keeps (with_value setting value named differs) = no_option words at _ _ h.0 named
item_no_other words at before (Given flag) next h keeps other = keeps_no_other words at before _ _ h.0 keeps other
item_no_other words at before (Set setting value place) next h keeps other =
    let o = value_option words at setting value place h.0 in
    keeps_no_other words at before _ _ o.1 keeps other
item_no_other words at before (Memory option value) next h keeps other = keeps_no_other words at before _ _ h.0 keeps other

-- and one that doesn't asks for another
pub other_of_item : (words : List (List ℕ)) (at : ℕ) (before : Option ModeName) (item : ArgItem) (next : ℕ) → StandsAtWord words at item next → (KeepsMode before (mode_of_item item) → ⊥) → AsksOtherMode words at before
other_of_item words at before (Object place) next h differs = absurd (differs (keeps_none before))
other_of_item words at before (Given flag) next h differs = bare flag h.0 differs
other_of_item words at before (Set setting value place) next h differs =
    let o = value_option words at setting value place h.0 in
    with_value setting o.0 o.1 differs
other_of_item words at before (Memory option value) next h differs = absurd (differs (keeps_none before))

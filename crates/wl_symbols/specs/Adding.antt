-- Entries that are added, one by one.
use Rattle.std.specs.Prelude.{◌≡◌, ℕ, List, [], ◌∷◌, ◌++◌, take, slice_get, Option, Some, None, if◌then◌else◌, unwrap_or, MatchOption}
use Rattle.std.specs.Option.{option_or}
use Rattle.std.specs.Str.{bytes_eq}
use Rattle.std.specs.HashMap.{HashMap, get_by}
use denote.Ref.{Bor}
use Rattle.wl_symbols.specs.Entries.{Entry, is_strength, first_of, firsts_of}
use Rattle.wl_symbols.specs.Repeats.{Pair}
use Rattle.wl_symbols.specs.declared.entry.Place.{Place}
use Rattle.wl_symbols.specs.declared.entry.Firsts.{Firsts}
use Rattle.wl_symbols.specs.declared.entry.Strength.{Strength}
use Rattle.wl_symbols.specs.declared.entry.Strength.TheVariants.{Strong, Weak, Undefined}

-- ---- what is found

-- no symbol
abbrev pub no_firsts : Firsts
no_firsts = record { strong = None; weak = None; undefined = None }

-- one more symbol, after these
abbrev pub with_place : Firsts → Strength → Place → Firsts
with_place b Strong p =
    record { strong = option_or b.strong (Some p); weak = b.weak; undefined = b.undefined }
with_place b Weak p =
    record { strong = b.strong; weak = option_or b.weak (Some p); undefined = b.undefined }
with_place b Undefined p =
    record { strong = b.strong; weak = b.weak; undefined = option_or b.undefined (Some p) }

-- what a map has for a name
abbrev pub firsts_in : {S : Type 0} → HashMap (Bor (List ℕ)) Firsts S → List ℕ → Firsts
firsts_in m name = unwrap_or (get_by (λ k. bytes_eq name k.now) m) no_firsts

-- for each name there are the first symbols of these
abbrev pub Holds : (List ℕ → Firsts) → List Entry → Type 0
Holds found entries = (name : List ℕ) → found name ≡ firsts_of name entries

-- ---- entries that repeat a strong name

-- the first strong symbol before, whose name a strong symbol has too
abbrev pub repeat_of : List Entry → Entry → Option Place
repeat_of before e = if is_strength Strong e.strength then first_of e.name Strong before else None

-- none repeats a strong name
abbrev pub NoneRepeats : List Entry → Type 0
NoneRepeats entries =
    (k : ℕ) (e : Entry) → slice_get entries k ≡ Some e → repeat_of (take k entries) e ≡ None

-- the second is the earliest that repeats a strong name, and the first is the first that had it
pub record AreTwo (entries : List Entry) (pair : Pair) : Type 0 where
  pub front : List Entry
  pub entry : Entry
  pub back : List Entry
  pub split : front ++ entry ∷ back ≡ entries
  pub name_is : entry.name ≡ pair.name
  pub second_is : entry.place ≡ pair.second
  pub repeats : repeat_of front entry ≡ Some pair.first
  pub earliest : NoneRepeats front

-- the strong symbol of these, where one more of that strength repeats its name
abbrev pub repeat_in : Firsts → Strength → Option Place
repeat_in firsts strength = if is_strength Strong strength then firsts.strong else None

-- ---- what a call adds to what is found

-- one more entry: it is found too, or it repeats the strong name of the symbol reported
abbrev pub AddsOne : (List ℕ → Firsts) → (List ℕ → Firsts) → Entry → Option Place → Type 0
AddsOne old new e told = (before : List Entry) → Holds old before →
    MatchOption told ((repeat_of before e ≡ None) × Holds new (before ++ e ∷ []))
    (λ first. repeat_of before e ≡ Some first)

-- more entries, none of which repeats a strong name
pub record Adds (old new : List ℕ → Firsts) (entries : List Entry) : Type 0 where
  pub found : (before : List Entry) → Holds old before → Holds new (before ++ entries)
  pub clear : (before : List Entry) → Holds old before → NoneRepeats before
      → NoneRepeats (before ++ entries)

-- more entries, the first repeat among which is reported
abbrev pub Meets : (List ℕ → Firsts) → List Entry → Pair → Type 0
Meets old entries pair =
    (before : List Entry) → Holds old before → NoneRepeats before → AreTwo (before ++ entries) pair

-- all of them are added, or the first repeat is reported
abbrev pub AddsAll : (List ℕ → Firsts) → (List ℕ → Firsts) → List Entry → Option Pair → Type 0
AddsAll old new entries told = MatchOption told (Adds old new entries) (Meets old entries)

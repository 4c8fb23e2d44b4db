-- Strong names that come twice.
use Rattle.std.specs.Prelude.{◌≡◌, ℕ, List}
use Rattle.wl_linking.specs.Object.{Object}
use Rattle.wl_linking.specs.declared.error.LinkError.{LinkError}
use Rattle.wl_linking.specs.declared.error.LinkError.TheVariants.{DuplicateSymbol}
use Rattle.wl_symbols.specs.Names.{HasSymbol, IsBefore}
use Rattle.wl_symbols.specs.declared.entry.Place.{Place}
use Rattle.wl_symbols.specs.declared.entry.Strength.TheVariants.{Strong}

-- each name is that of one strong symbol at most
abbrev pub HasOneStrong : List Object → Type 0
HasOneStrong objects =
    (name : List ℕ) (o k p l : ℕ) → HasSymbol objects name Strong o k
    → HasSymbol objects name Strong p l
    → (o ≡ p) × (k ≡ l)

-- the second strong symbol repeats the name of the first
pub record Repeats (objects : List Object) (name : List ℕ) (first second : Place) : Type 0 where
  pub first_is : HasSymbol objects name Strong first.object first.symbol
  pub second_is : HasSymbol objects name Strong second.object second.symbol
  pub in_order : IsBefore first.object first.symbol second.object second.symbol

-- two symbols of one name
pub record Pair : Type 0 where
  pub name : List ℕ
  pub first : Place
  pub second : Place

-- the second repeats the name of the first, and before the second no symbol repeats a name
pub record IsFirstRepeat (objects : List Object) (pair : Pair) : Type 0 where
  pub repeats : Repeats objects pair.name pair.first pair.second
  pub earliest : (name : List ℕ) (p q : Place) → Repeats objects name p q
      → IsBefore q.object q.symbol pair.second.object pair.second.symbol → ⊥

-- the refusal of the two: their name, and where each stands
abbrev pub refusal_of : Pair → LinkError
refusal_of pair =
    DuplicateSymbol pair.name pair.first.object pair.first.symbol pair.second.object
    pair.second.symbol

-- the refusal is of the earliest symbol of these objects that repeats a strong name
abbrev pub IsDuplicate : List Object → LinkError → Type 0
IsDuplicate objects error = (pair : Pair) × IsFirstRepeat objects pair × (error ≡ refusal_of pair)

-- Which definition a name has.
use Rattle.std.specs.Prelude.{◌≡◌, ◌⊎◌, ℕ, ◌<◌, true, false, List, Option, Some, unwrap_or, option_map, if◌then◌else◌}
use Rattle.std.specs.Option.{option_or, option_map_or}
use Rattle.wl_custom.specs.Symbols.{Symbol as LinkedSymbol}
use Rattle.wl_linking.specs.Object.{Object}
use Rattle.wl_symbols.specs.Link.{Link}
use Rattle.wl_symbols.specs.LinkerNames.{name_of, exists_under, made_of}
use Rattle.wl_symbols.specs.Entries.{strength_of, is_private, entries_of, firsts_of, symbol_in}
use Rattle.wl_words.specs.declared.args.WasmArgs.{WasmArgs}
use Rattle.wl_symbols.specs.declared.linker_symbol.WasmLinkerSymbol.{WasmLinkerSymbol}
use Rattle.wl_symbols.specs.declared.entry.Place.{Place}
use Rattle.wl_symbols.specs.declared.entry.Firsts.{Firsts}
use Rattle.wl_symbols.specs.declared.entry.Strength.{Strength}
use Rattle.wl_symbols.specs.declared.entry.Strength.TheVariants.{Strong, Weak, Undefined}
use Rattle.wl_symbols.specs.declared.entry.Definition.{Definition}
use Rattle.wl_symbols.specs.declared.entry.Definition.TheVariants.{Symbol, Made}

-- the symbol of a place
abbrev pub at_place : Place → Definition
at_place p = Symbol p.object p.symbol

-- the first strong symbol, or else the first weak one, or else what the linker makes, or else the
-- first undefined one
abbrev pub chosen : Firsts → Option WasmLinkerSymbol → Option Definition
chosen firsts made =
    option_or (option_map at_place (option_or firsts.strong firsts.weak))
    (option_or (option_map (λ m. Made m) made) (option_map at_place firsts.undefined))

-- what a name stands for
abbrev pub named : Link → List ℕ → Option Definition
named link name = chosen (firsts_of name (entries_of 0 link.objects)) (made_of link.args name)

-- what that symbol of the place stands for: itself, where other objects don't know it by a name, or
-- else what its name does
abbrev pub def_for : Link → ℕ → ℕ → LinkedSymbol → Definition
def_for link object symbol s =
    if is_private s then Symbol object symbol
    else unwrap_or (named link s.name) (Symbol object symbol)

-- what the symbol of the place stands for
abbrev pub def : Link → ℕ → ℕ → Definition
def link object symbol =
    option_map_or (def_for link object symbol) (symbol_in link.objects object symbol)
    (Symbol object symbol)

-- ---- the same by places

-- at the place stands a symbol of that strength that other objects know by the name
pub record HasSymbol (objects : List Object) (name : List ℕ) (strength : Strength)
    (object symbol : ℕ) : Type 0 where
  pub s : LinkedSymbol
  pub stands : symbol_in objects object symbol ≡ Some s
  pub shared : is_private s ≡ false
  pub name_is : s.name ≡ name
  pub strength_is : strength_of s ≡ strength

-- the first place comes before the second
abbrev pub IsBefore : ℕ → ℕ → ℕ → ℕ → Type 0
IsBefore object symbol later_object later_symbol =
    (object < later_object) ⊎ ((object ≡ later_object) × (symbol < later_symbol))

-- the first of all these symbols stands at the place
pub record IsFirst (objects : List Object) (name : List ℕ) (strength : Strength) (object symbol : ℕ)
    : Type 0 where
  pub here : HasSymbol objects name strength object symbol
  pub none_before : (o k : ℕ) → HasSymbol objects name strength o k → IsBefore o k object symbol → ⊥

-- there is no such symbol
abbrev pub HasNone : List Object → List ℕ → Strength → Type 0
HasNone objects name strength =
    (object symbol : ℕ) → HasSymbol objects name strength object symbol → ⊥

-- the linker makes the name under these options
pub record IsMade (args : WasmArgs) (name : List ℕ) (made : WasmLinkerSymbol) : Type 0 where
  pub name_is : name_of made ≡ name
  pub exists_ : exists_under args made ≡ true

-- the first strong symbol of the name; where there is none, the first weak one; where there is
-- none, what the linker makes; where there is nothing, the first undefined one
abbrev pub StandsFor : Link → List ℕ → Definition → Type 0
StandsFor link name (Symbol object symbol) =
    IsFirst link.objects name Strong object symbol
    ⊎ ((HasNone link.objects name Strong × IsFirst link.objects name Weak object symbol)
    ⊎ (HasNone link.objects name Strong × HasNone link.objects name Weak
    × ((m : WasmLinkerSymbol) → IsMade link.args name m → ⊥)
    × IsFirst link.objects name Undefined object symbol))
StandsFor link name (Made m) =
    HasNone link.objects name Strong × HasNone link.objects name Weak × IsMade link.args name m

-- nothing has the name
pub record IsUnknown (link : Link) (name : List ℕ) : Type 0 where
  pub none : (strength : Strength) → HasNone link.objects name strength
  pub not_made : (m : WasmLinkerSymbol) → IsMade link.args name m → ⊥

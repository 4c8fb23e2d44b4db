-- What the symbols of all objects stand for, a row for each object.
use Rattle.std.specs.Prelude.{◌≡◌, ℕ, ◌+◌, List, [], ◌∷◌, unwrap_or, if◌then◌else◌}
use Rattle.wl_custom.specs.Symbols.{Symbol as LinkedSymbol}
use Rattle.wl_linking.specs.Object.{Object}
use Rattle.wl_symbols.specs.Link.{Link}
use Rattle.wl_symbols.specs.LinkerNames.{made_of}
use Rattle.wl_symbols.specs.Entries.{is_private, entries_of}
use Rattle.wl_symbols.specs.Names.{chosen, def_for}
use Rattle.wl_symbols.specs.Adding.{Holds}
use Rattle.wl_words.specs.declared.args.WasmArgs.{WasmArgs}
use Rattle.wl_symbols.specs.declared.entry.Firsts.{Firsts}
use Rattle.wl_symbols.specs.declared.entry.Definition.{Definition}
use Rattle.wl_symbols.specs.declared.entry.Definition.TheVariants.{Symbol}

-- the row of these symbols, the first of which has number k
abbrev pub row_from : (ℕ → LinkedSymbol → Definition) → ℕ → List LinkedSymbol → List Definition
row_from define k [] = []
row_from define k (s ∷ symbols) = define k s ∷ row_from define (k + 1) symbols

-- the rows of these objects, the first of which has number i
abbrev pub rows_from : (ℕ → ℕ → LinkedSymbol → Definition) → ℕ → List Object
    → List (List Definition)
rows_from define i [] = []
rows_from define i (o ∷ objects) = row_from (define i) 0 o.symbols ∷ rows_from define (i + 1) objects

-- what each symbol stands for
abbrev pub definitions_of : Link → List (List Definition)
definitions_of link = rows_from (def_for link) 0 link.objects

-- what that symbol of the place stands for, by what is found for its name
abbrev pub defined_by : (List ℕ → Firsts) → WasmArgs → ℕ → ℕ → LinkedSymbol → Definition
defined_by found args object symbol s =
    if is_private s then Symbol object symbol
    else unwrap_or (chosen (found s.name) (made_of args s.name)) (Symbol object symbol)

-- for each name the first symbols are found, and for each symbol what it stands for
pub record IsTable (link : Link) (found : List ℕ → Firsts) (rows : List (List Definition))
    : Type 0 where
  pub holds : Holds found (entries_of 0 link.objects)
  pub rows_are : rows ≡ definitions_of link

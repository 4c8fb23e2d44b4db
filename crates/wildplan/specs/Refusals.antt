-- The lines of refusals.
use Rattle.std.specs.Prelude.{◌≡◌, ℕ, ℤ, List, [], ◌∷◌, ◌++◌, codes, decimal}
use Rattle.std.specs.Fmt.{signed_decimal}
use Rattle.std.specs.List.{flat_map}
use Rattle.wl_linking.specs.declared.error.LinkError.{LinkError}
use Rattle.wl_linking.specs.declared.error.LinkError.TheVariants as error
use Rattle.wl_linking.specs.declared.error.UndefinedSymbol.{UndefinedSymbol}
use Rattle.wl_text.specs.Pieces.{quoted, numbers_text}
use Rattle.wl_text.specs.Names.{why_name, form_name, quantity_name, need_text, bound_name}

-- what is refused, by its name, and what is reported of it
abbrev pub refusal_line : List ℕ → List ℕ → List ℕ
refusal_line name told = codes "error: " ++ name ++ told ++ codes "\n"

-- a text is that line
abbrev pub IsLine : List ℕ → List ℕ → List ℕ → Type 0
IsLine name told text = text ≡ refusal_line name told

-- a name in quotes after a blank, and numbers
abbrev pub name_text : List ℕ → List ℕ → List ℕ
name_text name numbers = codes " " ++ quoted name ++ numbers_text numbers

-- a name in quotes, and two things, each an object's number and its own there
abbrev pub pair_text : List ℕ → ℕ × ℕ → ℕ × ℕ → List ℕ
pair_text name first second = name_text name (first.0 ∷ first.1 ∷ second.0 ∷ second.1 ∷ [])

-- an object's number and a word, each after a blank
abbrev pub object_text : ℕ → List ℕ → List ℕ
object_text object word = codes " " ++ decimal object ++ codes " " ++ word

-- a word and numbers, each after a blank
abbrev pub word_text : List ℕ → List ℕ → List ℕ
word_text word numbers = codes " " ++ word ++ numbers_text numbers

-- an object's number, the place of a field and a value, each after a blank
abbrev pub range_text : ℕ → ℕ → ℤ → List ℕ
range_text object offset value =
    numbers_text (object ∷ offset ∷ []) ++ codes " " ++ signed_decimal value

-- an object's number and the name that it refers to, each after a blank
abbrev pub undefined_text : UndefinedSymbol → List ℕ
undefined_text u = codes " " ++ decimal u.object ++ codes " " ++ quoted u.name

-- The line of a refusal: its name and what it reports. When memory ran out there is no line.
abbrev pub error_line : LinkError → List ℕ
error_line error.OutOfMemory = []
error_line (error.Malformed object why) =
    refusal_line (codes "Malformed") (object_text object (why_name why))
error_line (error.Unsupported object form) =
    refusal_line (codes "Unsupported") (object_text object (form_name form))
error_line (error.DuplicateSymbol name first_object first_symbol second_object second_symbol) =
    refusal_line (codes "DuplicateSymbol")
    (pair_text name (first_object, first_symbol) (second_object, second_symbol))
error_line (error.BadFeature object prefix) =
    refusal_line (codes "BadFeature") (numbers_text (object ∷ prefix ∷ []))
error_line (error.SharedMemoryFeature need) =
    refusal_line (codes "SharedMemoryFeature") (codes " " ++ need_text need)
error_line (error.FeatureConflict object feature) =
    refusal_line (codes "FeatureConflict") (object_text object (quoted feature))
error_line (error.EntryNotDefined name) = refusal_line (codes "EntryNotDefined") (name_text name [])
error_line (error.WrongKind object symbol) =
    refusal_line (codes "WrongKind") (numbers_text (object ∷ symbol ∷ []))
error_line (error.SignatureMismatch object symbol) =
    refusal_line (codes "SignatureMismatch") (numbers_text (object ∷ symbol ∷ []))
error_line (error.UndefinedSymbols symbols) =
    refusal_line (codes "UndefinedSymbols") (flat_map undefined_text symbols)
error_line (error.ConflictingTypes name first_object first_slot second_object second_slot) =
    refusal_line (codes "ConflictingTypes")
    (pair_text name (first_object, first_slot) (second_object, second_slot))
error_line (error.BadStackSize size) =
    refusal_line (codes "BadStackSize") (numbers_text (size ∷ []))
error_line (error.TooLarge what) = refusal_line (codes "TooLarge") (codes " " ++ quantity_name what)
error_line (error.BadMemorySize which requested needed) =
    refusal_line (codes "BadMemorySize") (word_text (bound_name which) (requested ∷ needed ∷ []))
error_line (error.RelocationRange object offset value) =
    refusal_line (codes "RelocationRange") (range_text object offset value)
error_line (error.ConstantRange value) =
    refusal_line (codes "ConstantRange") (numbers_text (value ∷ []))
error_line (error.ExportNotFound name) = refusal_line (codes "ExportNotFound") (name_text name [])
error_line (error.DuplicateExport name) = refusal_line (codes "DuplicateExport") (name_text name [])

-- Objects for trials: a chain of functions, each of which calls the next one (core specification
-- 1.0, "Modules"; tool conventions, "Linking").
use Rattle.std.specs.Prelude.{ℕ, ◌+◌, ◌==◌, List, [], ◌∷◌, ◌++◌, map, length, codes, decimal, if◌then◌else◌}
use Rattle.std.specs.List.{range_with_len}

-- ---- sections

-- a text of less than 128 bytes after its length
abbrev pub sized : List ℕ → List ℕ
sized text = length text ∷ text

-- a section of that number ("Sections")
abbrev pub section : ℕ → List ℕ → List ℕ
section id payload = id ∷ sized payload

-- a custom section of that name ("Custom Section")
abbrev pub custom : List ℕ → List ℕ → List ℕ
custom name payload = section 0 (sized name ++ payload)

-- ---- what all objects have

-- what comes before all sections, and the one type, of a function that takes and returns
-- nothing
abbrev pub front : List ℕ
front =
    0 ∷ 0x61 ∷ 0x73 ∷ 0x6d ∷ 1 ∷ 0 ∷ 0 ∷ 0 ∷ section 1 (1 ∷ 0x60 ∷ 0 ∷ 0 ∷ [])

-- two functions of it ("Function Section")
abbrev pub two_functions : List ℕ
two_functions = section 3 (2 ∷ 0 ∷ 0 ∷ [])

-- the body of a function that does nothing
abbrev pub empty_body : List ℕ
empty_body = 0 ∷ 0x0b ∷ []

-- the body of one that calls function 0, whose number takes five bytes
abbrev pub calling_body : List ℕ
calling_body = 0 ∷ 0x10 ∷ 0x80 ∷ 0x80 ∷ 0x80 ∷ 0x80 ∷ 0 ∷ 0x0b ∷ []

-- the bodies: this one, and one that does nothing ("Code Section")
abbrev pub code : List ℕ → List ℕ
code body = section 10 (2 ∷ sized body ++ sized empty_body)

-- the names of the first and of the second function that the object of that number defines
abbrev pub chained_name : ℕ → List ℕ
chained_name number = codes "f" ++ decimal number

abbrev pub spare_name : ℕ → List ℕ
spare_name number = codes "d" ++ decimal number

-- the import of the function of that name ("Import Section")
abbrev pub import_of : List ℕ → List ℕ
import_of name = section 2 (1 ∷ sized (codes "env") ++ sized name ++ 0 ∷ 0 ∷ [])

-- ---- symbols and relocations

-- the symbol of the function of that index, which is defined and has a name
abbrev pub defined_symbol : ℕ → List ℕ → List ℕ
defined_symbol index name = 0 ∷ 0 ∷ index ∷ sized name

-- the symbols of the two functions that the object of that number defines, the first of which has
-- that index
abbrev pub both_defined : ℕ → ℕ → List ℕ
both_defined first number =
    defined_symbol first (chained_name number) ++ defined_symbol (first + 1) (spare_name number)

-- the symbol of function 0, which is undefined and has no name of its own
abbrev pub imported_symbol : List ℕ
imported_symbol = 0 ∷ 0x10 ∷ 0 ∷ []

-- so many symbols, in a table of symbols of version 2
abbrev pub linking : ℕ → List ℕ → List ℕ
linking count symbols = custom (codes "linking") (2 ∷ 8 ∷ sized (count ∷ symbols))

-- the field at byte 4 of section 3, which is that of the call, holds the index of symbol 0
abbrev pub call_relocation : List ℕ
call_relocation = custom (codes "reloc.CODE") (3 ∷ 1 ∷ 0 ∷ 4 ∷ 0 ∷ [])

-- ---- objects

-- the first function of the object calls the first one of the next object
abbrev pub calling_object : ℕ → List ℕ
calling_object number =
    front ++ import_of (chained_name (number + 1)) ++ two_functions ++ code calling_body
    ++ linking 3 (imported_symbol ++ both_defined 1 number) ++ call_relocation

-- no function calls any
abbrev pub last_object : ℕ → List ℕ
last_object number =
    front ++ two_functions ++ code empty_body ++ linking 2 (both_defined 0 number)

-- the object of that number, where there are so many
abbrev pub generated_object : ℕ → ℕ → List ℕ
generated_object count number =
    if number + 1 == count then last_object number else calling_object number

-- so many objects
abbrev pub generated : ℕ → List (List ℕ)
generated count = map (generated_object count) (range_with_len 0 count)

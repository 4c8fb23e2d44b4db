-- What files in memory hold.
use Rattle.std.specs.Prelude.{◌≡◌, ◌<◌, ℕ, List, [], ◌∷◌, length, drop, Option, Some, None, if◌then◌else◌, slice_get}
use Rattle.std.specs.Option.{option_map_or}
use Rattle.std.specs.Str.{bytes_eq}
use Rattle.wl_files.specs.declared.mem_files.MemFile.{MemFile}

-- the bytes of the first file of that name
abbrev pub held : List MemFile → List ℕ → Option (List ℕ)
held [] name = None
held (file ∷ files) name =
    if bytes_eq file.name.now name then Some file.bytes.items else held files name

-- the bytes of the file at a place
abbrev pub bytes_at : List MemFile → ℕ → List ℕ
bytes_at files i = option_map_or (λ (file : MemFile). file.bytes.items) (slice_get files i) []

-- the place of the first file of that name
abbrev pub FindsFile : List MemFile → List ℕ → Option ℕ → Type 0
FindsFile files name None = held files name ≡ None
FindsFile files name (Some i) = (i < length files) × (held files name ≡ Some (bytes_at files i))

-- the bytes of the open file
abbrev pub opened : List MemFile → Option ℕ → List ℕ
opened files None = []
opened files (Some i) = bytes_at files i

-- what is left of it
abbrev pub left_of : List MemFile → Option ℕ → ℕ → List ℕ
left_of files open_place given = drop given (opened files open_place)

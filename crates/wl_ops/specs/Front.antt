-- What is added to a list that was read before.
use Rattle.std.specs.Prelude.{List, ◌++◌, Result, Ok}
use Rattle.wl_bytes.specs.Cursor.{Cursor}
use Rattle.wl_bytes.specs.Parse.{◌>>=◌}
use Rattle.wl_bytes.specs.declared.read_error.ReadError.{ReadError}

-- what was read before, and after it what is read
abbrev pub with_front : {X : Type 0} → List X → Result (List X × Cursor) ReadError
    → Result (List X × Cursor) ReadError
with_front front read = read >>= λ x. Ok (front ++ x.0, x.1)

-- The entries of a part by their places in it.
use Rattle.std.specs.Prelude.{ℕ, ◌+◌, nat_lt, if◌then◌else◌, Option, Some, None}
use Rattle.wl_bind.specs.Parts.{start_of}
use Rattle.wl_bind.specs.declared.parts.PartStarts.{PartStarts}

-- where the entry of that place in a part stands, if the part has one
abbrev pub entry_of : PartStarts → ℕ → ℕ → Option ℕ
entry_of s part place =
    if nat_lt (start_of s part + place) (start_of s (part + 1))
    then Some (start_of s part + place) else None

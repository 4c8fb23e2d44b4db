-- Bodies and segments, filled with the numbers that their fields take.
use Rattle.std.specs.Prelude.{ℕ, ℤ, ◌+◌, ◌%◌, ◌^◌, if◌then◌else◌, List, [], ◌∷◌}
use Rattle.std.specs.Int.{w32, cast_unsigned}
use Rattle.wl_custom.specs.RelocationTypes.{field_form}
use Rattle.wl_load.specs.Fields.{with_field}
use Rattle.wl_output.specs.declared.fixups.Fixup.{Fixup}
use Rattle.wl_output.specs.declared.fixups.FixupTo.{FixupTo}
use Rattle.wl_output.specs.declared.fixups.FixupTo.TheVariants.{Value, Deferred}
use Rattle.wl_run.specs.Sites.{is_at}
use Rattle.wl_run.specs.declared.sites.Site.{Site}

-- a value and what is left to be added to it, as a number of 32 bits
abbrev pub number_taken : ℕ → ℤ → ℕ
number_taken value left = (value + cast_unsigned w32 left) % 2 ^ 32

-- bytes with the number of a field in it; a field that waits for a thread stays
abbrev pub taken_by : Fixup → FixupTo → List ℕ → List ℕ
taken_by f (Value value left) bytes =
    with_field (field_form f.ty) f.position (number_taken value left) bytes
taken_by f (Deferred offset) bytes = bytes

abbrev pub with_fixup : Fixup → List ℕ → List ℕ
with_fixup f bytes = taken_by f f.to bytes

-- the bytes of a function or a segment, in which each of its fields has its number
abbrev pub filled : Site → List Fixup → List ℕ → List ℕ
filled site [] bytes = bytes
filled site (f ∷ fs) bytes = filled site fs (if is_at site f then with_fixup f bytes else bytes)

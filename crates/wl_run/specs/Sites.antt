-- Where the fields of fixups lie.
use Rattle.std.specs.Prelude.{ℕ, ◌+◌, ◌*◌, ◌^◌, ◌==◌, ◌&&◌, Bool}
use Rattle.wl_symbols.specs.declared.relocated.FixupPlace.{FixupPlace}
use Rattle.wl_symbols.specs.declared.relocated.FixupPlace.TheVariants.{Code, Segment}
use Rattle.wl_output.specs.declared.fixups.Fixup.{Fixup}
use Rattle.wl_run.specs.declared.sites.Site.{Site}

-- functions come before segments
abbrev pub place_number : FixupPlace → ℕ
place_number Code = 0
place_number Segment = 1

-- the field of the fixup lies in that function or segment
abbrev pub is_at : Site → Fixup → Bool
is_at site f =
    f.object == site.object
    && (place_number f.place == place_number site.place && f.unit == site.unit)

-- a number by which these stand in order: by object, functions before segments, by unit
abbrev pub rank : ℕ → FixupPlace → ℕ → ℕ
rank object place unit = (2 * object + place_number place) * 2 ^ 32 + unit

abbrev pub site_rank : Site → ℕ
site_rank s = rank s.object s.place s.unit

abbrev pub fixup_rank : Fixup → ℕ
fixup_rank f = rank f.object f.place f.unit

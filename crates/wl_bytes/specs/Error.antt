-- A fault of one number, name or stretch as a fault of a section.
use Rattle.wl_bytes.specs.declared.error.BytesError.{BytesError}
use Rattle.wl_bytes.specs.declared.error.BytesError.TheVariants.{End, BadLeb as Leb, BadUtf8 as Utf8}
use Rattle.wl_bytes.specs.declared.read_error.Why.TheVariants.{Truncated, BadLeb, BadUtf8}
use Rattle.wl_bytes.specs.declared.read_error.ReadError.{ReadError}
use Rattle.wl_bytes.specs.declared.read_error.ReadError.TheVariants.{Malformed}

-- the same cause, as sections report it
abbrev pub read_error : BytesError → ReadError
read_error End = Malformed Truncated
read_error Leb = Malformed BadLeb
read_error Utf8 = Malformed BadUtf8

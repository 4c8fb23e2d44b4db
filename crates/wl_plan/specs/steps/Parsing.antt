-- What is wrong with an object, as a refusal of the plan.
use Rattle.std.specs.Prelude.{ℕ}
use Rattle.wl_bytes.specs.declared.read_error.ReadError.{ReadError}
use Rattle.wl_bytes.specs.declared.read_error.ReadError.TheVariants as read
use Rattle.wl_linking.specs.declared.error.LinkError.{LinkError}
use Rattle.wl_linking.specs.declared.error.LinkError.TheVariants.{OutOfMemory, Malformed, Unsupported}

-- the refusal of an object for this reason
abbrev pub link_error_of : ℕ → ReadError → LinkError
link_error_of object read.OutOfMemory = OutOfMemory
link_error_of object (read.Malformed why) = Malformed object why
link_error_of object (read.Unsupported form) = Unsupported object form

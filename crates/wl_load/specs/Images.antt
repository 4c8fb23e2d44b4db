-- What a machine runs: functions, types and a table, which stay, and what runs change.
use Rattle.std.specs.Prelude.{ℕ, ◌-◌, nat_lt, min, ◌&&◌, Bool, true, if◌then◌else◌, length, slice_get, Option, Some, None, option_map, option_and_then}
use Rattle.wl_module.specs.Types.{FunctionType}
use Rattle.wl_load.specs.declared.memory.TheConstants.{MAX_IMAGE_PAGES}
use Rattle.wl_load.specs.declared.program.Program.{Program}
use Rattle.wl_load.specs.declared.store.Store.{Store}
use Rattle.wl_load.specs.Codes.{Code}
use Rattle.wl_load.specs.Values.{are_integers, are_integer_runs}

-- What stays and what runs change.
pub record LoadedImage : Type 0 where
  pub program : Program
  pub store : Store

-- ---- functions

abbrev pub is_host : Program → ℕ → Bool
is_host p f = nat_lt f (length p.hosts)

-- a function that isn't the host's
abbrev pub code_of : Program → ℕ → Option Code
code_of p f = if is_host p f then None else slice_get p.functions (f - length p.hosts)

-- the number of its type
abbrev pub type_index_of : Program → ℕ → Option ℕ
type_index_of p f =
    if is_host p f then slice_get p.hosts f
    else option_map (λ (c : Code). c.type_index) (code_of p f)

abbrev pub type_of : Program → ℕ → Option FunctionType
type_of p f = option_and_then (λ t. slice_get p.types t) (type_index_of p f)

-- all its locals are integers
abbrev pub has_integer_locals : Option Code → Bool
has_integer_locals None = true
has_integer_locals (Some c) = are_integer_runs c.locals

-- so are its parameters
abbrev pub is_known : Program → ℕ → FunctionType → Bool
is_known p f t = are_integers t.params && has_integer_locals (code_of p f)

-- ---- memory

-- how many pages there may be: the maximum, and never more than an image may have
abbrev pub least_limit : Option ℕ → ℕ
least_limit None = MAX_IMAGE_PAGES
least_limit (Some n) = min n MAX_IMAGE_PAGES

abbrev pub page_limit : Program → ℕ
page_limit p = least_limit p.maximum_pages

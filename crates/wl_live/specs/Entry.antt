-- The function at which the program starts.
use Rattle.std.specs.Prelude.{◌≡◌, ℕ, Bool, false, List, Option, Some, None}
use Rattle.std.specs.Option.{option_map_or}
use Rattle.wl_custom.specs.Symbols.{is_defined_function}
use Rattle.wl_linking.specs.declared.error.LinkError.{LinkError}
use Rattle.wl_linking.specs.declared.error.LinkError.TheVariants.{EntryNotDefined}
use Rattle.wl_symbols.specs.Link.{Link}
use Rattle.wl_symbols.specs.Entries.{symbol_in}
use Rattle.wl_symbols.specs.Names.{named}
use Rattle.wl_symbols.specs.declared.entry.Definition.{Definition}
use Rattle.wl_symbols.specs.declared.entry.Definition.TheVariants.{Symbol, Made}

-- this is a function that an object defines
abbrev pub gives_function : Link → Option Definition → Bool
gives_function link None = false
gives_function link (Some (Made m)) = false
gives_function link (Some (Symbol object number)) =
    option_map_or is_defined_function (symbol_in link.objects object number) false

-- an entry is asked for, and its name stands for no function that an object defines
pub record IsEntryFault (link : Link) (e : LinkError) : Type 0 where
  pub name : List ℕ
  pub asked : link.args.entry ≡ Some name
  pub missing : gives_function link (named link name) ≡ false
  pub told : e ≡ EntryNotDefined name

-- The rows of the table of options.
use Rattle.std.specs.Prelude.{ℕ, List}
use Rattle.wl_words.specs.declared.options.OptionKind.{OptionKind}

-- an option: its name, without dashes, and what it is by the value that it takes
pub record OptionRow : Type 0 where
  pub name : List ℕ
  pub takes : OptionKind

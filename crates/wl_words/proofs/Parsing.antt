-- The words so far.
use Rattle.std.proofs.Common.{◌≡◌, ◌≤◌, ℕ, List, length, None}
use Rattle.wl_words.specs.Items.{ArgItem, AreArgItems, mode_after}
use Rattle.wl_words.specs.Modes.{mode_name, IsFitMode}
use Rattle.wl_words.specs.Args.{AsksFor}
use Rattle.wl_words.specs.declared.args.WasmArgs.{WasmArgs}

-- items stand up to this word, and they ask for this
pub record ParsesUpTo (words : List (List ℕ)) (at : ℕ) (args : WasmArgs) : Type 0 where
  pub items : List ArgItem
  pub stand : AreArgItems words 0 None items at
  pub asked : AsksFor items args
  pub mode : mode_name args.mode ≡ mode_after None items
  pub fit : IsFitMode words args.mode
  pub within : at ≤ length words

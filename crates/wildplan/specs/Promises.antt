-- What a text that was written says.
use Rattle.std.specs.Prelude.{ℕ, List}
use Rattle.wl_symbols.specs.Input.{Input}
use Rattle.wl_symbols.specs.Link.{link_of}
use Rattle.wl_words.specs.declared.args.WasmArgs.{WasmArgs}
use Rattle.wl_plan.specs.Faults.{input_of}
use Rattle.wildplan.specs.Modes.{IsPlanText}
use Rattle.wildplan.specs.Replacing.{PlanInputs}

-- the link, and what is kept of it
abbrev pub input_told : (words : List (List ℕ)) (inputs : PlanInputs) (args : WasmArgs)
    (text : List ℕ) → IsPlanText words inputs args text → Input
input_told words inputs args text is =
    input_of (link_of is.is_plan.files args) is.is_plan.planned.live

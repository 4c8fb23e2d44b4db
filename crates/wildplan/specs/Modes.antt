-- What is planned and what is written, by the mode that the words ask for.
use Rattle.std.specs.Prelude.{◌≡◌, ℕ, List, [], Option, Some, unwrap_or, codes, if◌then◌else◌}
use Rattle.wl_words.specs.Modes.{generates, placed_value}
use Rattle.wl_words.specs.declared.args.WasmArgs.{WasmArgs}
use Rattle.wl_words.specs.declared.modes.Mode.{Mode}
use Rattle.wl_words.specs.declared.modes.Mode.TheVariants as mode
use Rattle.wl_symbols.specs.Link.{Link, link_of}
use Rattle.wl_plan.specs.LinkPlan.{IsLinkPlan}
use Rattle.wl_plan.specs.declared.layout.LinkPlan.{LinkPlan}
use Rattle.wl_why.specs.Text.{IsWhyText}
use Rattle.wildplan.specs.Generated.{summary_text}
use Rattle.wl_plan.specs.PlanLines.{listing_text}
use Rattle.wildplan.specs.Map.{IsMapText}
use Rattle.wildplan.specs.Replacing.{PlanInputs, AreSound, objects_after}
use Rattle.wildplan.specs.Check.{IsVerdictText}
use Rattle.wildplan.specs.Running.{IsRunText}

-- the same words with this entry
abbrev pub with_entry : Option (List ℕ) → WasmArgs → WasmArgs
with_entry entry args = record {
  inputs = args.inputs;
  replacements = args.replacements;
  export_symbols = args.export_symbols;
  required_export_symbols = args.required_export_symbols;
  export_dynamic = args.export_dynamic;
  allow_undefined = args.allow_undefined;
  shared_memory = args.shared_memory;
  stack_first = args.stack_first;
  gc_sections = args.gc_sections;
  check_features = args.check_features;
  entry = entry;
  z_stack_size = args.z_stack_size;
  initial_memory = args.initial_memory;
  max_memory = args.max_memory;
  import_memory = args.import_memory;
  export_memory = args.export_memory;
  extra_features = args.extra_features;
  strip_all = args.strip_all;
  strip_debug = args.strip_debug;
  keep_sections = args.keep_sections;
  output = args.output;
  mode = args.mode;
}

-- the words that are planned: the first of generated objects is the entry
abbrev pub planned_args : WasmArgs → WasmArgs
planned_args args =
    if generates args.mode then with_entry (Some (codes "f0")) args else args

-- what is written of the plan of a link: where a text is compared, its verdict; and where a function
-- is run, how that ends
abbrev pub IsTextOf : List (List ℕ) → Option (List ℕ) → Mode → Link → LinkPlan → List ℕ → Type 0
IsTextOf words compared mode.Listing link plan text = text ≡ listing_text plan
IsTextOf words compared (mode.Generate count) link plan text = text ≡ summary_text plan
IsTextOf words compared mode.Why link plan text = IsWhyText link text
IsTextOf words compared mode.Map link plan text = IsMapText plan text
IsTextOf words compared (mode.Check file) link plan text =
    IsVerdictText plan (unwrap_or compared []) text
IsTextOf words compared (mode.Run function) link plan text =
    IsRunText plan (unwrap_or (placed_value words function) []) text

-- the objects, once each replacement was done, have a plan, and this is what is written of it
pub record IsPlanText (words : List (List ℕ)) (inputs : PlanInputs) (args : WasmArgs)
    (text : List ℕ) : Type 0 where
  pub sound : AreSound inputs
  pub plan : LinkPlan
  pub is_plan : IsLinkPlan (objects_after inputs) args plan
  pub is_text : IsTextOf words inputs.compared args.mode (link_of is_plan.files args) plan text

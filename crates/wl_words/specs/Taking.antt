-- Items that are taken in, one by one.
use Rattle.std.specs.Prelude.{◌≡◌, ◌≢◌, ℕ, List, [], ◌∷◌, ◌++◌, length, Option, Some, None, unwrap_or}
use Rattle.std.specs.Option.{option_or}
use Rattle.wl_words.specs.Modes.{mode_name, KeepsMode}
use Rattle.wl_words.specs.Items.{ArgItem, StandsAtWord, AreArgItems, mode_of_item}
use Rattle.wl_words.specs.Faults.{FrontFault}
use Rattle.wl_words.specs.Args.{AsksFor, input_of, replacement_of, export_symbol_of, required_export_symbol_of, export_dynamic_of, allow_undefined_of, shared_memory_of, stack_first_of, gc_sections_of, check_features_of, entry_of, z_stack_size_of, initial_memory_of, max_memory_of, import_memory_of, export_memory_of, extra_features_of, strip_all_of, strip_debug_of, keep_section_of, output_of, mode_of}
use Rattle.wl_words.specs.declared.args.WasmArgs.{WasmArgs}
use Rattle.wl_words.specs.declared.error.ArgError.{ArgError}
use Rattle.wl_words.specs.declared.error.ArgError.TheVariants.{OutOfMemory}

-- a list, and after it what there may be
abbrev pub put_behind : {X : Type 0} → List X → Option X → List X
put_behind xs None = xs
put_behind xs (Some x) = xs ++ x ∷ []

-- one more item is asked for
pub record AddsItem (item : ArgItem) (old new : WasmArgs) : Type 0 where
  pub inputs : new.inputs ≡ put_behind old.inputs (input_of item)
  pub replacements : new.replacements ≡ put_behind old.replacements (replacement_of item)
  pub export_symbols : new.export_symbols ≡ put_behind old.export_symbols (export_symbol_of item)
  pub required_export_symbols : new.required_export_symbols
      ≡ put_behind old.required_export_symbols (required_export_symbol_of item)
  pub export_dynamic : new.export_dynamic ≡ unwrap_or (export_dynamic_of item) old.export_dynamic
  pub allow_undefined : new.allow_undefined
      ≡ unwrap_or (allow_undefined_of item) old.allow_undefined
  pub shared_memory : new.shared_memory ≡ unwrap_or (shared_memory_of item) old.shared_memory
  pub stack_first : new.stack_first ≡ unwrap_or (stack_first_of item) old.stack_first
  pub gc_sections : new.gc_sections ≡ unwrap_or (gc_sections_of item) old.gc_sections
  pub check_features : new.check_features ≡ unwrap_or (check_features_of item) old.check_features
  pub entry : new.entry ≡ unwrap_or (entry_of item) old.entry
  pub z_stack_size : new.z_stack_size ≡ unwrap_or (z_stack_size_of item) old.z_stack_size
  pub initial_memory : new.initial_memory ≡ option_or (initial_memory_of item) old.initial_memory
  pub max_memory : new.max_memory ≡ option_or (max_memory_of item) old.max_memory
  pub import_memory : new.import_memory ≡ option_or (import_memory_of item) old.import_memory
  pub export_memory : new.export_memory ≡ option_or (export_memory_of item) old.export_memory
  pub extra_features : new.extra_features ≡ unwrap_or (extra_features_of item) old.extra_features
  pub strip_all : new.strip_all ≡ unwrap_or (strip_all_of item) old.strip_all
  pub strip_debug : new.strip_debug ≡ unwrap_or (strip_debug_of item) old.strip_debug
  pub keep_sections : new.keep_sections ≡ put_behind old.keep_sections (keep_section_of item)
  pub output : new.output ≡ option_or (output_of item) old.output
  pub mode : new.mode ≡ unwrap_or (mode_of item) old.mode

-- the item at this word is asked for, and the next item stands at that one
pub record TakesItem (words : List (List ℕ)) (at : ℕ) (old new : WasmArgs) (next : ℕ) : Type 0 where
  pub item : ArgItem
  pub stands : StandsAtWord words at item next
  pub keeps : KeepsMode (mode_name old.mode) (mode_of_item item)
  pub adds : AddsItem item old new

-- the words are items to their end, and this is what they ask for
pub record ParsesAll (words : List (List ℕ)) (args : WasmArgs) : Type 0 where
  pub items : List ArgItem
  pub spelled : AreArgItems words 0 None items (length words)
  pub asked : AsksFor items args

-- a refusal of a word has its cause; want of memory is free
pub record RefusesFront (words : List (List ℕ)) (e : ArgError) : Type 0 where
  pub cause_is : e ≢ OutOfMemory → FrontFault words e

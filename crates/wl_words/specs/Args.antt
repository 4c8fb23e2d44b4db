-- What the words of the command line ask for.
use Rattle.std.specs.Prelude.{◌≡◌, ◌≢◌, ◌||◌, not, ℕ, Bool, true, false, if◌then◌else◌, nat_lt, List, [], length, Option, Some, None, option_map, option_to_list, unwrap_or, codes, slice_get, ◌++◌, nat_le, find, map}
use Rattle.std.specs.Str.{bytes_eq}
use Rattle.std.specs.List.{filter_map, last_or, list_any}
use Rattle.wl_words.specs.Values.{number_of, stack_size, generated_count, names_in, MemoryName, memory_name}
use Rattle.wl_words.specs.Modes.{generates, placed_value}
use Rattle.wl_words.specs.Replacing.{replaced_object, replacing_name}
use Rattle.wl_words.specs.declared.replacing.ObjectReplacement.{ObjectReplacement}
use Rattle.wl_words.specs.Items.{ArgItem, Object, Given, Set, Memory, AreArgItems}
use Rattle.wl_words.specs.Faults.{FrontFault}
use Rattle.wl_words.specs.declared.options.Flag.TheVariants as flag
use Rattle.wl_words.specs.declared.options.Setting.TheVariants as setting
use Rattle.wl_words.specs.declared.options.MemoryOption.TheVariants as memory
use Rattle.wl_words.specs.declared.modes.Mode.{Mode}
use Rattle.wl_words.specs.declared.modes.Mode.TheVariants as mode
use Rattle.wl_words.specs.declared.args.TheConstants.{DEFAULT_STACK_SIZE}
use Rattle.wl_words.specs.declared.args.WasmArgs.{WasmArgs}
use Rattle.wl_words.specs.declared.error.ArgError.{ArgError}
use Rattle.wl_words.specs.declared.error.ArgError.TheVariants.{OutOfMemory, BadNumber, ExtraInput, NoInputs}

-- ---- what an item says of a field

-- the number of the word that names an object
abbrev pub input_of : ArgItem → Option ℕ
input_of (Object word) = Some word
input_of _ = None

-- an object that a file replaces
abbrev pub replacement_of : ArgItem → Option ObjectReplacement
replacement_of (Set setting.Replace value place) =
    option_map (λ object. record { object = object; place = place }) (replaced_object value)
replacement_of _ = None

-- a name that is exported where it is defined
abbrev pub export_symbol_of : ArgItem → Option (List ℕ)
export_symbol_of (Set setting.Export name place) = Some name
export_symbol_of (Set setting.ExportIfDefined name place) = Some name
export_symbol_of _ = None

-- a name that is exported and has to be defined
abbrev pub required_export_symbol_of : ArgItem → Option (List ℕ)
required_export_symbol_of (Set setting.Export name place) = Some name
required_export_symbol_of _ = None

-- that what objects define and don't hide is exported
abbrev pub export_dynamic_of : ArgItem → Option Bool
export_dynamic_of (Given flag.ExportDynamic) = Some true
export_dynamic_of _ = None

-- that names that nothing defines are left to the host
abbrev pub allow_undefined_of : ArgItem → Option Bool
allow_undefined_of (Given flag.AllowUndefined) = Some true
allow_undefined_of _ = None

-- that threads share the memory
abbrev pub shared_memory_of : ArgItem → Option Bool
shared_memory_of (Given flag.SharedMemory) = Some true
shared_memory_of _ = None

-- whether the stack lies before the data
abbrev pub stack_first_of : ArgItem → Option Bool
stack_first_of (Given (flag.StackFirst on)) = Some on
stack_first_of _ = None

-- whether what nothing refers to is left out
abbrev pub gc_sections_of : ArgItem → Option Bool
gc_sections_of (Given (flag.GcSections on)) = Some on
gc_sections_of _ = None

-- whether the features of the objects are compared
abbrev pub check_features_of : ArgItem → Option Bool
check_features_of (Given (flag.CheckFeatures on)) = Some on
check_features_of _ = None

-- the entry function, or that there is none
abbrev pub entry_of : ArgItem → Option (Option (List ℕ))
entry_of (Given flag.NoEntry) = Some None
entry_of (Set setting.Entry name place) = Some (Some name)
entry_of _ = None

-- the bytes of the stack
abbrev pub z_stack_size_of : ArgItem → Option ℕ
z_stack_size_of (Set setting.Keyword value place) = stack_size value
z_stack_size_of _ = None

-- the bytes that the memory begins with
abbrev pub initial_memory_of : ArgItem → Option ℕ
initial_memory_of (Set setting.InitialMemory value place) = number_of 64 value
initial_memory_of _ = None

-- the bytes that the memory may grow to
abbrev pub max_memory_of : ArgItem → Option ℕ
max_memory_of (Set setting.MaxMemory value place) = number_of 64 value
max_memory_of _ = None

-- the module and the name of an imported memory
abbrev pub import_memory_of : ArgItem → Option MemoryName
import_memory_of (Memory memory.Import value) = Some (memory_name value)
import_memory_of _ = None

-- the name by which the memory is exported
abbrev pub export_memory_of : ArgItem → Option (List ℕ)
export_memory_of (Memory memory.Export value) = Some (unwrap_or value (codes "memory"))
export_memory_of _ = None

-- the features that are used beside those of the objects
abbrev pub extra_features_of : ArgItem → Option (List (List ℕ))
extra_features_of (Set setting.ExtraFeatures value place) = Some (names_in value)
extra_features_of _ = None

-- that sections that the program doesn't need are left out
abbrev pub strip_all_of : ArgItem → Option Bool
strip_all_of (Given flag.StripAll) = Some true
strip_all_of _ = None

-- that debug sections are left out
abbrev pub strip_debug_of : ArgItem → Option Bool
strip_debug_of (Given flag.StripDebug) = Some true
strip_debug_of _ = None

-- the name of a section that is left in
abbrev pub keep_section_of : ArgItem → Option (List ℕ)
keep_section_of (Set setting.KeepSection name place) = Some name
keep_section_of _ = None

-- the name of a file
abbrev pub output_of : ArgItem → Option (List ℕ)
output_of (Set setting.Output name place) = Some name
output_of _ = None

-- the mode
abbrev pub mode_of : ArgItem → Option Mode
mode_of (Given flag.Why) = Some mode.Why
mode_of (Given flag.Map) = Some mode.Map
mode_of (Set setting.Generate value place) = option_map mode.Generate (generated_count value)
mode_of (Set setting.Check file place) = Some (mode.Check place)
mode_of (Set setting.Run function place) = Some (mode.Run place)
mode_of _ = None

-- ---- the fields

-- all that the items say, in their order
abbrev pub all_of : {X : Type 0} → (ArgItem → Option X) → List ArgItem → List X
all_of says items = filter_map says items

-- the last that the items say, if they say anything
abbrev pub said_of : {X : Type 0} → (ArgItem → Option X) → List ArgItem → Option X
said_of says items = last_or None (filter_map says items)

-- the last that the items say, or this where they say nothing
abbrev pub last_of : {X : Type 0} → (ArgItem → Option X) → X → List ArgItem → X
last_of says default items = unwrap_or (said_of says items) default

-- what the items ask for
pub record AsksFor (items : List ArgItem) (args : WasmArgs) : Type 0 where
  pub inputs : args.inputs ≡ all_of input_of items
  pub replacements : args.replacements ≡ all_of replacement_of items
  pub export_symbols : args.export_symbols ≡ all_of export_symbol_of items
  pub required_export_symbols : args.required_export_symbols
      ≡ all_of required_export_symbol_of items
  pub export_dynamic : args.export_dynamic ≡ last_of export_dynamic_of false items
  pub allow_undefined : args.allow_undefined ≡ last_of allow_undefined_of false items
  pub shared_memory : args.shared_memory ≡ last_of shared_memory_of false items
  pub stack_first : args.stack_first ≡ last_of stack_first_of false items
  pub gc_sections : args.gc_sections ≡ last_of gc_sections_of true items
  pub check_features : args.check_features ≡ last_of check_features_of true items
  pub entry : args.entry ≡ last_of entry_of (Some (codes "_start")) items
  pub z_stack_size : args.z_stack_size ≡ last_of z_stack_size_of DEFAULT_STACK_SIZE items
  pub initial_memory : args.initial_memory ≡ said_of initial_memory_of items
  pub max_memory : args.max_memory ≡ said_of max_memory_of items
  pub import_memory : args.import_memory ≡ said_of import_memory_of items
  pub export_memory : args.export_memory ≡ said_of export_memory_of items
  pub extra_features : args.extra_features ≡ last_of extra_features_of [] items
  pub strip_all : args.strip_all ≡ last_of strip_all_of false items
  pub strip_debug : args.strip_debug ≡ last_of strip_debug_of false items
  pub keep_sections : args.keep_sections ≡ all_of keep_section_of items
  pub output : args.output ≡ said_of output_of items
  pub mode : args.mode ≡ last_of mode_of mode.Listing items

-- ---- the words as a whole

-- the lesser of two numbers that may be there
abbrev pub earlier : Option ℕ → Option ℕ → Option ℕ
earlier (Some a) (Some b) = Some (if nat_le a b then a else b)
earlier (Some a) None = Some a
earlier None (Some b) = Some b
earlier None None = None

-- the first word that names an object, or a file in the place of one
abbrev pub first_input : WasmArgs → Option ℕ
first_input args =
    earlier (slice_get args.inputs 0)
    (option_map (λ (r : ObjectReplacement). r.place.word) (slice_get args.replacements 0))

-- the word of the first replacement of an object that no word names
abbrev pub lost_in : ℕ → List ObjectReplacement → Option ℕ
lost_in objects replacements =
    option_map (λ (r : ObjectReplacement). r.place.word)
    (find (λ (r : ObjectReplacement). nat_le objects r.object) replacements)

abbrev pub lost_replacement : WasmArgs → Option ℕ
lost_replacement args = lost_in (length args.inputs) args.replacements

-- What is wrong with words each of which is right, if anything is: beside generated objects no word
-- names an object or a replacement, and else each replacement is of an object that a word names.
abbrev pub whole_fault : WasmArgs → Option ArgError
whole_fault args =
    if generates args.mode
    then option_map ExtraInput (first_input args)
    else option_map BadNumber (lost_replacement args)

-- this is what is wrong with them
abbrev pub WholeFault : WasmArgs → ArgError → Type 0
WholeFault args e = whole_fault args ≡ Some e

-- the words are items, and this is what they ask for
pub record IsArgs (words : List (List ℕ)) (args : WasmArgs) : Type 0 where
  pub items : List ArgItem
  pub spelled : AreArgItems words 0 None items (length words)
  pub asked : AsksFor items args
  pub sound : (e : ArgError) → WholeFault args e → ⊥

-- the words are no items, or together they ask for what can't be
pub data WordsFault (words : List (List ℕ)) (e : ArgError) : Type 0 where
  front : FrontFault words e → WordsFault words e
  whole : (items : List ArgItem) (args : WasmArgs) → AreArgItems words 0 None items (length words)
      → AsksFor items args → WholeFault args e → WordsFault words e

-- a refusal of words has its cause; want of memory is free
pub record RefusesWords (words : List (List ℕ)) (e : ArgError) : Type 0 where
  pub cause_is : e ≢ OutOfMemory → WordsFault words e

-- there are objects to plan: a word names one, or they are generated
abbrev pub has_work : WasmArgs → Bool
has_work args = nat_lt 0 (length args.inputs) || generates args.mode

-- the words are at fault, or they aren't and there is nothing to plan
abbrev pub HasArgFault : List (List ℕ) → ArgError → Type 0
HasArgFault words OutOfMemory = ⊥
HasArgFault words NoInputs = (args : WasmArgs) × IsArgs words args × (has_work args ≡ false)
HasArgFault words e = WordsFault words e

-- the names of the objects that are read
abbrev pub object_names : List (List ℕ) → WasmArgs → List (List ℕ)
object_names words args = filter_map (slice_get words) args.inputs

-- the names of the files that replace objects
abbrev pub replacing_names : List (List ℕ) → WasmArgs → List (List ℕ)
replacing_names words args = map (replacing_name words) args.replacements

-- the name of the file that is compared with the listing, if one is
abbrev pub compared_name : List (List ℕ) → Mode → Option (List ℕ)
compared_name words (mode.Check file) = placed_value words file
compared_name words _ = None

-- the names of the files that hold objects, in the order in which they are read: those of the
-- objects, and after them those of the files that replace some
abbrev pub object_files : List (List ℕ) → WasmArgs → List (List ℕ)
object_files words args = object_names words args ++ replacing_names words args

-- the names of the files that are read, in order: after those that hold objects that of the file
-- which is compared
abbrev pub files_to_read : List (List ℕ) → WasmArgs → List (List ℕ)
files_to_read words args = object_files words args ++ option_to_list (compared_name words args.mode)

-- a section that the program doesn't need is left in: no such section is left out, or its name is
-- kept
abbrev pub emits_stripped_section : WasmArgs → List ℕ → Bool
emits_stripped_section args name =
    not args.strip_all || list_any (λ kept. bytes_eq kept name) args.keep_sections

-- the name by which the memory is exported: the one that is asked for; else an imported memory has
-- none, and any other is called memory
abbrev pub export_name : Option (List ℕ) → Option MemoryName → Option (List ℕ)
export_name (Some name) imported = Some name
export_name None (Some imported) = None
export_name None None = Some (codes "memory")

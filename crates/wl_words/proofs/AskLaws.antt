-- What items ask for, with one more.
use Rattle.std.proofs.Common.{◌≡◌, List, [], ◌∷◌, ◌++◌, true, false, Option, Some, None, unwrap_or, codes, refl, sym, ap, ◌∙◌, rules, append-nil}
use Rattle.std.specs.List.{last_or}
use Rattle.std.specs.Option.{option_or}
use Rattle.std.proofs.lemmas.List.Elements.{filter_map-append}
use Rattle.wl_words.specs.Items.{ArgItem}
use Rattle.wl_words.specs.Args.{AsksFor, all_of, said_of, last_of, input_of, replacement_of, export_symbol_of, required_export_symbol_of, export_dynamic_of, allow_undefined_of, shared_memory_of, stack_first_of, gc_sections_of, check_features_of, entry_of, z_stack_size_of, initial_memory_of, max_memory_of, import_memory_of, export_memory_of, extra_features_of, strip_all_of, strip_debug_of, keep_section_of, output_of, mode_of}
use Rattle.wl_words.specs.Taking.{put_behind, AddsItem}
use Rattle.wl_words.specs.declared.modes.Mode.TheVariants.{Listing}
use Rattle.wl_words.specs.declared.args.TheConstants.{DEFAULT_STACK_SIZE}
use Rattle.wl_words.specs.declared.args.WasmArgs.{WasmArgs}

last_more : {X : Type 0} (o : Option X) (xs : List X) (x : X) → last_or o (xs ++ x ∷ []) ≡ Some x
last_more o [] x = refl
last_more o (y ∷ xs) x = last_more (Some y) xs x

-- each kind of field, whatever the item says of it
all_more : {X : Type 0} (says : ArgItem → Option X) (items : List ArgItem) (item : ArgItem) (said : Option X) → says item ≡ said → all_of says (items ++ item ∷ []) ≡ put_behind (all_of says items) said
all_more says items item None is = rw (filter_map-append, is) (append-nil _)
all_more says items item (Some x) is = rw (filter_map-append, is) refl

said_more : {X : Type 0} (says : ArgItem → Option X) (items : List ArgItem) (item : ArgItem) (said : Option X) → says item ≡ said → said_of says (items ++ item ∷ []) ≡ option_or said (said_of says items)
said_more says items item None is = rw (filter_map-append, is) (search rules)
said_more says items item (Some x) is = rw (filter_map-append, is) (rw last_more refl)

last_same : {X : Type 0} (says : ArgItem → Option X) (default : X) (items : List ArgItem) (item : ArgItem) (said : Option X) → says item ≡ said → last_of says default (items ++ item ∷ []) ≡ unwrap_or said (last_of says default items)
last_same says default items item None is = rw (filter_map-append, is) (search rules)
last_same says default items item (Some x) is = rw (filter_map-append, is) (rw last_more refl)

-- a field as it was asked for, and with one more item
all_field : {X : Type 0} (says : ArgItem → Option X) (items : List ArgItem) (item : ArgItem) (old new : List X) → old ≡ all_of says items → new ≡ put_behind old (says item) → new ≡ all_of says (items ++ item ∷ [])
all_field says items item old new was is = is ∙ ap (λ xs. put_behind xs (says item)) was ∙ sym (all_more says items item (says item) refl)

said_field : {X : Type 0} (says : ArgItem → Option X) (items : List ArgItem) (item : ArgItem) (old new : Option X) → old ≡ said_of says items → new ≡ option_or (says item) old → new ≡ said_of says (items ++ item ∷ [])
said_field says items item old new was is = is ∙ ap (λ o. option_or (says item) o) was ∙ sym (said_more says items item (says item) refl)

last_field : {X : Type 0} (says : ArgItem → Option X) (default : X) (items : List ArgItem) (item : ArgItem) (old new : X) → old ≡ last_of says default items → new ≡ unwrap_or (says item) old → new ≡ last_of says default (items ++ item ∷ [])
last_field says default items item old new was is = is ∙ ap (λ x. unwrap_or (says item) x) was ∙ sym (last_same says default items item (says item) refl)

-- all fields
pub asks_more : (items : List ArgItem) (item : ArgItem) (old new : WasmArgs) → AsksFor items old → AddsItem item old new → AsksFor (items ++ item ∷ []) new
asks_more items item old new h adds = record {
  inputs = all_field input_of items item old.inputs new.inputs h.inputs adds.inputs;
  replacements = all_field replacement_of items item old.replacements new.replacements h.replacements adds.replacements;
  export_symbols = all_field export_symbol_of items item old.export_symbols new.export_symbols h.export_symbols adds.export_symbols;
  required_export_symbols = all_field required_export_symbol_of items item old.required_export_symbols new.required_export_symbols h.required_export_symbols adds.required_export_symbols;
  export_dynamic = last_field export_dynamic_of false items item old.export_dynamic new.export_dynamic h.export_dynamic adds.export_dynamic;
  allow_undefined = last_field allow_undefined_of false items item old.allow_undefined new.allow_undefined h.allow_undefined adds.allow_undefined;
  shared_memory = last_field shared_memory_of false items item old.shared_memory new.shared_memory h.shared_memory adds.shared_memory;
  stack_first = last_field stack_first_of false items item old.stack_first new.stack_first h.stack_first adds.stack_first;
  gc_sections = last_field gc_sections_of true items item old.gc_sections new.gc_sections h.gc_sections adds.gc_sections;
  check_features = last_field check_features_of true items item old.check_features new.check_features h.check_features adds.check_features;
  entry = last_field entry_of (Some (codes "_start")) items item old.entry new.entry h.entry adds.entry;
  z_stack_size = last_field z_stack_size_of DEFAULT_STACK_SIZE items item old.z_stack_size new.z_stack_size h.z_stack_size adds.z_stack_size;
  initial_memory = said_field initial_memory_of items item old.initial_memory new.initial_memory h.initial_memory adds.initial_memory;
  max_memory = said_field max_memory_of items item old.max_memory new.max_memory h.max_memory adds.max_memory;
  import_memory = said_field import_memory_of items item old.import_memory new.import_memory h.import_memory adds.import_memory;
  export_memory = said_field export_memory_of items item old.export_memory new.export_memory h.export_memory adds.export_memory;
  extra_features = last_field extra_features_of [] items item old.extra_features new.extra_features h.extra_features adds.extra_features;
  strip_all = last_field strip_all_of false items item old.strip_all new.strip_all h.strip_all adds.strip_all;
  strip_debug = last_field strip_debug_of false items item old.strip_debug new.strip_debug h.strip_debug adds.strip_debug;
  keep_sections = all_field keep_section_of items item old.keep_sections new.keep_sections h.keep_sections adds.keep_sections;
  output = said_field output_of items item old.output new.output h.output adds.output;
  mode = last_field mode_of Listing items item old.mode new.mode h.mode adds.mode;
}

-- what the items ask for, as a record
pub args_of : List ArgItem → WasmArgs
args_of items = record {
  inputs = all_of input_of items;
  replacements = all_of replacement_of items;
  export_symbols = all_of export_symbol_of items;
  required_export_symbols = all_of required_export_symbol_of items;
  export_dynamic = last_of export_dynamic_of false items;
  allow_undefined = last_of allow_undefined_of false items;
  shared_memory = last_of shared_memory_of false items;
  stack_first = last_of stack_first_of false items;
  gc_sections = last_of gc_sections_of true items;
  check_features = last_of check_features_of true items;
  entry = last_of entry_of (Some (codes "_start")) items;
  z_stack_size = last_of z_stack_size_of DEFAULT_STACK_SIZE items;
  initial_memory = said_of initial_memory_of items;
  max_memory = said_of max_memory_of items;
  import_memory = said_of import_memory_of items;
  export_memory = said_of export_memory_of items;
  extra_features = last_of extra_features_of [] items;
  strip_all = last_of strip_all_of false items;
  strip_debug = last_of strip_debug_of false items;
  keep_sections = all_of keep_section_of items;
  output = said_of output_of items;
  mode = last_of mode_of Listing items;
}

pub asks_args : (items : List ArgItem) → AsksFor items (args_of items)
unfolding args_of
asks_args items = record {
  inputs = refl;
  replacements = refl;
  export_symbols = refl;
  required_export_symbols = refl;
  export_dynamic = refl;
  allow_undefined = refl;
  shared_memory = refl;
  stack_first = refl;
  gc_sections = refl;
  check_features = refl;
  entry = refl;
  z_stack_size = refl;
  initial_memory = refl;
  max_memory = refl;
  import_memory = refl;
  export_memory = refl;
  extra_features = refl;
  strip_all = refl;
  strip_debug = refl;
  keep_sections = refl;
  output = refl;
  mode = refl;
}

-- items ask for one thing
asks_one : (items : List ArgItem) (args : WasmArgs) → AsksFor items args → args ≡ args_of items
unfolding args_of
asks_one items args h = λ i. record {
  inputs = h.inputs i;
  replacements = h.replacements i;
  export_symbols = h.export_symbols i;
  required_export_symbols = h.required_export_symbols i;
  export_dynamic = h.export_dynamic i;
  allow_undefined = h.allow_undefined i;
  shared_memory = h.shared_memory i;
  stack_first = h.stack_first i;
  gc_sections = h.gc_sections i;
  check_features = h.check_features i;
  entry = h.entry i;
  z_stack_size = h.z_stack_size i;
  initial_memory = h.initial_memory i;
  max_memory = h.max_memory i;
  import_memory = h.import_memory i;
  export_memory = h.export_memory i;
  extra_features = h.extra_features i;
  strip_all = h.strip_all i;
  strip_debug = h.strip_debug i;
  keep_sections = h.keep_sections i;
  output = h.output i;
  mode = h.mode i;
}

pub asks_same : (items : List ArgItem) (a b : WasmArgs) → AsksFor items a → AsksFor items b → a ≡ b
asks_same items a b h k = asks_one items a h ∙ sym (asks_one items b k)

-- What the linker makes stands in a space only where the output has it.
use Rattle.std.proofs.Common.{◌≡◌, ◌∙◌, ℕ, ◌+◌, Bool, true, false, List, [], ◌∷◌, ◌++◌, length, map, filter_map, refl, sym, ap, subst, inl, inr, Option, Some, None, if◌then◌else◌, find, is_some}
use Rattle.std.specs.List.{range_with_len}
use Rattle.std.specs.Option.{option_map, option_and_then, option_map_or}
use Rattle.std.specs.Str.{bytes_eq}
use Rattle.std.proofs.lemmas.Bool.{cases_Bool}
use Rattle.std.proofs.lemmas.Option.{same_Some}
use Rattle.wl_linking.specs.Object.{Object}
use Rattle.wl_custom.specs.declared.symbols.WasmSymbolKind.{WasmSymbolKind}
use Rattle.wl_custom.specs.declared.symbols.WasmSymbolKind.TheVariants as symbol
use Rattle.wl_symbols.specs.LinkerNames.{kind_of, name_of, all_made, symbol_named, is_exported_as_data}
use Rattle.wl_symbols.specs.declared.linker_symbol.WasmLinkerSymbol.{WasmLinkerSymbol}
use Rattle.wl_symbols.specs.declared.linker_symbol.WasmLinkerSymbol.TheVariants as linker
use Rattle.wl_symbols.specs.ImportSlots.{ImportSlot}
use Rattle.wl_symbols.specs.Left.{first_imports}
use Rattle.wl_bind.specs.ExportedAddresses.{if_data, data_named, exported_addresses}
use Rattle.wl_bind.specs.ExportedData.{is_made_name, dynamic_data, forced_data}
use Rattle.wl_bind.specs.FunctionBinding.{link_stubs, host_functions}
use Rattle.wl_bind.specs.GlobalBinding.{host_globals}
use Rattle.wl_bind.specs.FunctionSpace.{FunctionEntry, FunctionOf, InitMemory, host_function_part, made_function_part, init_memory_part, stub_part, kept_functions, functions_of, object_functions, function_parts, function_space}
use Rattle.wl_bind.specs.GlobalSpace.{GlobalEntry, GlobalOf, AddressOf, DataOf, host_global_part, made_global_part, address_part, got_mem_part, got_func_part, dynamic_part, forced_part, kept_globals, globals_of, object_globals, global_parts, global_space}
use Rattle.wl_symbols.specs.Input.{Input}
use Rattle.wl_bind.specs.Made.{is_forced, is_made, has_init_memory}
use Rattle.wl_bind.specs.MadeIndices.{StandsAt, IsMadeIndex}
use Rattle.wl_bind.specs.Parts.{by_object, joined}
use Rattle.wl_bind.specs.Sameness.{same_made}
use Rattle.wl_bind.specs.Scan.{got_mem, got_func}
use Rattle.wl_bind.specs.declared.binding.FunctionTarget.TheVariants as function
use Rattle.wl_bind.specs.declared.binding.GlobalTarget.TheVariants as global
use Rattle.wl_exports.specs.Exports.{ExportEntry, Entity, export_of, made_of_kind, made_entity, made_under}
use Rattle.wl_exports.specs.steps.Exports.{IsPlainIf, kind_of_symbol, kind_of_made}
use Rattle.wl_exports.specs.Sources.{IsPlainExport}
use Rattle.wl_lists.proofs.Firsts.{in_firsts_onto}
use Rattle.wl_lists.proofs.Found.{any_in}
use Rattle.wl_lists.proofs.In.{IsIn, in_at, in_split}

-- ---- all of a list

abbrev AllIn : {X : Type 0} → (X → Type 0) → List X → Type 0
AllIn {X} P xs = (x : X) → IsIn xs x → P x

all_joined : {X : Type 0} (P : X → Type 0) (xs ys : List X) → AllIn P xs → AllIn P ys → AllIn P (xs ++ ys)
all_joined P xs ys a b x h = elim (in_split xs ys x h) [ inl l ↦ a x l | inr r ↦ b x r ]

all_mapped : {A X : Type 0} (P : X → Type 0) (f : A → X) (as_ : List A) → ((a : A) → IsIn as_ a → P (f a))
    → AllIn P (map f as_)
all_mapped P f [] each x h = absurd h
all_mapped P f (a ∷ as_) each x h = elim h [
  | inl e ↦ subst P e (each a (inl refl))
  | inr r ↦ all_mapped P f as_ (λ b k. each b (inr k)) x r
]

all_if : {X : Type 0} (P : X → Type 0) (b : Bool) (x : X) → (b ≡ true → P x) → AllIn P (if b then x ∷ [] else [])
all_if P true x here y h = elim h [ inl e ↦ subst P e (here refl) | inr none ↦ absurd none ]
all_if P false x here y h = absurd h

all_objects : {X : Type 0} (P : X → Type 0) (f : ℕ → Object → List X) (n : ℕ) (objects : List Object)
    → ((k : ℕ) (o : Object) → AllIn P (f k o)) → AllIn P (by_object f n objects)
all_objects P f n [] each x h = absurd h
all_objects P f n (o ∷ objects) each x h =
    all_joined P (f n o) (by_object f (n + 1) objects) (each n o) (all_objects P f (n + 1) objects each) x h

-- ---- functions

abbrev MadeFunction : Input → FunctionEntry → Type 0
MadeFunction input f = (m : WasmLinkerSymbol) → f ≡ FunctionOf (function.Made m) → is_made input m ≡ true

made_function : (input : Input) (n : WasmLinkerSymbol) → AllIn (MadeFunction input) (made_function_part input n)
made_function input n = all_if (MadeFunction input) (is_made input n) (FunctionOf (function.Made n))
    (λ made m e. let same : n ≡ m = cc in subst (λ (k : WasmLinkerSymbol). is_made input k ≡ true) same made)

functions_made : (input : Input) → AllIn (MadeFunction input) (function_space input)
functions_made input =
    all_joined (MadeFunction input) (joined (function_parts input)) (object_functions input)
    (all_joined (MadeFunction input) (host_function_part input) _
    (all_mapped (MadeFunction input) (λ (t : ImportSlot). FunctionOf (function.Host t.object t.number))
    (first_imports (host_functions input)) (λ t h m e. absurd cc))
    (all_joined (MadeFunction input) (made_function_part input linker.CallCtors) _ (made_function input linker.CallCtors)
    (all_joined (MadeFunction input) (made_function_part input linker.InitTls) _ (made_function input linker.InitTls)
    (all_joined (MadeFunction input) (init_memory_part input) _
    (all_if (MadeFunction input) (has_init_memory input) InitMemory (λ made m e. absurd cc))
    (all_joined (MadeFunction input) (stub_part input) []
    (all_mapped (MadeFunction input) (λ (t : ImportSlot). FunctionOf (function.Stub t.object t.number))
    (link_stubs input) (λ t h m e. absurd cc))
    (λ f h. absurd h))))))
    (all_objects (MadeFunction input) (functions_of input) 0 input.link.objects
    (λ k o. all_mapped (MadeFunction input) (λ n. FunctionOf (function.Defined k n)) (kept_functions input k o)
    (λ n h m e. absurd cc)))

-- ---- data of the linker's

record FromName (names : List (List ℕ)) (m : WasmLinkerSymbol) : Type 0 where
  pub name : List ℕ
  pub among : IsIn names name
  pub gives : data_named name ≡ Some m

from_first : (n : List ℕ) (names : List (List ℕ)) (m : WasmLinkerSymbol) (o : Option WasmLinkerSymbol)
    → data_named n ≡ o → (IsIn (filter_map data_named names) m → FromName names m)
    → IsIn (filter_map data_named (n ∷ names)) m → FromName (n ∷ names) m
from_first n names m None e rest h =
    let r = rest (rw e at h) in record { name = r.name; among = inr r.among; gives = r.gives }
from_first n names m (Some k) e rest h = elim (rw e at h) [
  | inl same ↦ record { name = n; among = inl refl; gives = e ∙ ap (λ (j : WasmLinkerSymbol). Some j) same }
  | inr later ↦ (let r = rest later in record { name = r.name; among = inr r.among; gives = r.gives })
]

from_name : (names : List (List ℕ)) (m : WasmLinkerSymbol) → IsIn (filter_map data_named names) m → FromName names m
from_name [] m h = absurd h
from_name (n ∷ names) m h =
    from_first n names m (data_named n) refl (λ k. from_name names m k) h

found_passes : {X : Type 0} (p : X → Bool) (xs : List X) (x : X) → find p xs ≡ Some x → p x ≡ true
found_passes p [] x e = absurd cc
found_passes {X} p (y ∷ xs) x e = elim (cases_Bool (p y)) [
  | inl t ↦
      let first : Some y ≡ Some x = rw t at e in
      subst (λ (z : X). p z ≡ true) (same_Some y x first) t
  | inr f ↦ found_passes p xs x (rw f at e)
]

data_made : (input : Input) (m : WasmLinkerSymbol) → is_exported_as_data true m ≡ true → is_forced input m ≡ true
    → is_made input m ≡ true
data_made input linker.DataEnd is forced = forced
data_made input _ is forced = cc

if_is : (b : Bool) (k m : WasmLinkerSymbol) → (if b then Some k else None) ≡ Some m → (b ≡ true) × (k ≡ m)
if_is true k m e = (refl, same_Some k m e)
if_is false k m e = absurd cc

data_from : (o : Option WasmLinkerSymbol) (m : WasmLinkerSymbol) → option_and_then if_data o ≡ Some m
    → (o ≡ Some m) × (is_exported_as_data true m ≡ true)
data_from None m e = absurd cc
data_from (Some k) m e =
    let h = if_is (is_exported_as_data true k) k m e in (
      ap (λ (j : WasmLinkerSymbol). Some j) h.1,
      subst (λ (j : WasmLinkerSymbol). is_exported_as_data true j ≡ true) h.1 h.0,
    )

address_made : (input : Input) (m : WasmLinkerSymbol) → IsIn (exported_addresses input.link.args) m
    → is_made input m ≡ true
address_made input m h =
    elim (in_firsts_onto same_made [] (filter_map data_named input.link.args.export_symbols) m h) [
      | inl none ↦ absurd none
      | inr among ↦
          (let f = from_name input.link.args.export_symbols m among in
          let g = data_from (symbol_named f.name) m f.gives in
          let passes = found_passes (λ (n : WasmLinkerSymbol). bytes_eq (name_of n) f.name) all_made m g.0 in
          data_made input m g.1
          (any_in (bytes_eq (name_of m)) input.link.args.export_symbols f.name f.among passes))
    ]

-- ---- globals

record MadeGlobal (input : Input) (g : GlobalEntry) : Type 0 where
  pub thing : (m : WasmLinkerSymbol) → g ≡ GlobalOf (global.Made m) → is_made input m ≡ true
  pub address : (m : WasmLinkerSymbol) → g ≡ AddressOf m → is_made input m ≡ true

made_global : (input : Input) (n : WasmLinkerSymbol) → AllIn (MadeGlobal input) (made_global_part input n)
made_global input n = all_if (MadeGlobal input) (is_made input n) (GlobalOf (global.Made n))
    (λ made. record {
      thing = λ m e. let same : n ≡ m = cc in subst (λ (k : WasmLinkerSymbol). is_made input k ≡ true) same made;
      address = λ m e. absurd cc;
    })

globals_made : (input : Input) → AllIn (MadeGlobal input) (global_space input)
globals_made input =
    all_joined (MadeGlobal input) (joined (global_parts input)) (object_globals input)
    (all_joined (MadeGlobal input) (host_global_part input) _
    (all_mapped (MadeGlobal input) (λ (t : ImportSlot). GlobalOf (global.Host t.object t.number))
    (first_imports (host_globals input)) (λ t h. record { thing = λ m e. absurd cc; address = λ m e. absurd cc }))
    (all_joined (MadeGlobal input) (made_global_part input linker.MemoryBase) _ (made_global input linker.MemoryBase)
    (all_joined (MadeGlobal input) (made_global_part input linker.TableBase) _ (made_global input linker.TableBase)
    (all_joined (MadeGlobal input) (made_global_part input linker.StackPointer) _ (made_global input linker.StackPointer)
    (all_joined (MadeGlobal input) (made_global_part input linker.TlsBase) _ (made_global input linker.TlsBase)
    (all_joined (MadeGlobal input) (made_global_part input linker.TlsSize) _ (made_global input linker.TlsSize)
    (all_joined (MadeGlobal input) (made_global_part input linker.TlsAlign) _ (made_global input linker.TlsAlign)
    (all_joined (MadeGlobal input) (address_part input) _
    (all_mapped (MadeGlobal input) (λ n. AddressOf n) (exported_addresses input.link.args)
    (λ n h. record {
      thing = λ m e. absurd cc;
      address = λ m e. (let same : n ≡ m = cc in
          subst (λ (k : WasmLinkerSymbol). is_made input k ≡ true) same (address_made input n h));
    }))
    (all_joined (MadeGlobal input) (got_mem_part input) _
    (all_mapped (MadeGlobal input) (λ k. GlobalOf (global.GotMem k)) (range_with_len 0 (length (got_mem input)))
    (λ k h. record { thing = λ m e. absurd cc; address = λ m e. absurd cc }))
    (all_joined (MadeGlobal input) (got_func_part input) _
    (all_mapped (MadeGlobal input) (λ k. GlobalOf (global.GotFunc k)) (range_with_len 0 (length (got_func input)))
    (λ k h. record { thing = λ m e. absurd cc; address = λ m e. absurd cc }))
    (all_joined (MadeGlobal input) (dynamic_part input) _
    (all_mapped (MadeGlobal input) (λ d. DataOf d) (dynamic_data input)
    (λ d h. record { thing = λ m e. absurd cc; address = λ m e. absurd cc }))
    (all_joined (MadeGlobal input) (forced_part input) []
    (all_mapped (MadeGlobal input) (λ d. DataOf d) (forced_data input)
    (λ d h. record { thing = λ m e. absurd cc; address = λ m e. absurd cc }))
    (λ f h. absurd h)))))))))))))
    (all_objects (MadeGlobal input) (globals_of input) 0 input.link.objects
    (λ k o. all_mapped (MadeGlobal input) (λ n. GlobalOf (global.Defined k n)) (kept_globals input k o)
    (λ n h. record { thing = λ m e. absurd cc; address = λ m e. absurd cc })))

-- ---- indices

stands_made : (input : Input) (m : WasmLinkerSymbol) (kind : WasmSymbolKind) (i : ℕ) → StandsAt input m kind i
    → is_made input m ≡ true
stands_made input m symbol.Func i at =
    functions_made input (FunctionOf (function.Made m)) (in_at (function_space input) i (FunctionOf (function.Made m)) at) m refl
stands_made input m symbol.Data i at =
    (globals_made input (AddressOf m) (in_at (global_space input) i (AddressOf m) at)).address m refl
stands_made input m symbol.Global i at =
    (globals_made input (GlobalOf (global.Made m)) (in_at (global_space input) i (GlobalOf (global.Made m)) at)).thing m refl
stands_made input m symbol.Section i at = absurd at
stands_made input m symbol.Event i at = absurd at
stands_made input m symbol.Table i at = absurd at

stands_plain : (input : Input) (m : WasmLinkerSymbol) (kind : WasmSymbolKind) (name : List ℕ) (i : ℕ)
    → StandsAt input m kind i
    → IsPlainExport input (export_of name (made_of_kind m kind)) (record { name = name; kind = kind_of_symbol kind; index = i })
stands_plain input m symbol.Func name i at = record { name = refl; leads = (refl, at) }
stands_plain input m symbol.Data name i at = record { name = refl; leads = (refl, at) }
stands_plain input m symbol.Global name i at = record { name = refl; leads = (refl, at) }
stands_plain input m symbol.Section name i at = absurd at
stands_plain input m symbol.Event name i at = absurd at
stands_plain input m symbol.Table name i at = absurd at

-- the entry of what the linker makes, where the output has it
abbrev pub made_entry : Input → WasmLinkerSymbol → List ℕ → Option ExportEntry
made_entry input m name = if is_made input m then Some (export_of name (made_entity m)) else None

pub made_plain : (input : Input) (m : WasmLinkerSymbol) (name : List ℕ) (i : ℕ) → IsMadeIndex input m (Some i)
    → IsPlainIf input (made_entry input m name) (Some (record { name = name; kind = kind_of_made m; index = i }))
made_plain input m name i at =
    let made = stands_made input m (kind_of m) i at in
    rw made (stands_plain input m (kind_of m) name i at)

pub made_tells : (input : Input) (m : WasmLinkerSymbol) (index : Option ℕ) → IsMadeIndex input m index
    → is_some index ≡ is_made input m
made_tells input m None is = sym is
made_tells input m (Some i) is = sym (stands_made input m (kind_of m) i is)

pub made_name : (input : Input) (name : List ℕ) (m : WasmLinkerSymbol) → symbol_named name ≡ Some m
    → is_made_name input name ≡ is_made input m
made_name input name m e = ap (λ (o : Option WasmLinkerSymbol). option_map_or (is_made input) o false) e

if_made : (b : Bool) (name : List ℕ) (e : Entity)
    → option_map (export_of name) (if b then Some e else None) ≡ (if b then Some (export_of name e) else None)
if_made true name e = refl
if_made false name e = refl

pub under_is : (input : Input) (name : List ℕ) (m : WasmLinkerSymbol) → symbol_named name ≡ Some m
    → option_map (export_of name) (made_under input name) ≡ made_entry input m name
under_is input name m e =
    ap (λ (o : Option WasmLinkerSymbol). option_map (export_of name)
    (option_and_then (λ (k : WasmLinkerSymbol). if is_made input k then Some (made_entity k) else None) o)) e
    ∙ if_made (is_made input m) name (made_entity m)

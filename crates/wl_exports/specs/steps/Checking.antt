-- How it is seen why there can't be these exports.
use Rattle.std.specs.Prelude.{◌≡◌, ℕ, ◌<◌, true, false, List, Contains, Some, None, IsSome, slice_get}
use Rattle.wl_module.specs.Exports.{Exported}
use Rattle.wl_linking.specs.declared.error.LinkError.{LinkError}
use Rattle.wl_linking.specs.declared.error.LinkError.TheVariants.{OutOfMemory, ExportNotFound, DuplicateExport, WrongKind}
use Rattle.wl_symbols.specs.Names.{named}
use Rattle.wl_symbols.specs.declared.entry.Definition.TheVariants.{Symbol}
use Rattle.wl_bind.specs.ExportedData.{is_made_name}
use Rattle.wl_symbols.specs.Input.{Input}
use Rattle.wl_exports.specs.Exports.{ExportEntry, object_entity, named_entity, first_exports}
use Rattle.wl_exports.specs.Faults.{is_table_symbol}

-- ---- names

-- the symbol defines something that can be exported
pub record IsSoundSymbol (input : Input) (object number : ℕ) : Type 0 where
  pub defined : IsSome (object_entity input (Symbol object number))
  pub no_table : is_table_symbol input (Some (Symbol object number)) ≡ false

-- what is reported of a symbol that a name stands for
pub data IsSymbolFault (input : Input) (name : List ℕ) (object number : ℕ) (e : LinkError)
    : Type 0 where
  no_room : e ≡ OutOfMemory → IsSymbolFault input name object number e
  a_table : is_table_symbol input (Some (Symbol object number)) ≡ true → e ≡ WrongKind object number
      → IsSymbolFault input name object number e
  nothing : is_table_symbol input (Some (Symbol object number)) ≡ false
      → object_entity input (Symbol object number) ≡ None → e ≡ ExportNotFound name
      → IsSymbolFault input name object number e

-- nothing is reported of the name
pub data IsSoundName (input : Input) (name : List ℕ) : Type 0 where
  is_made : is_made_name input name ≡ true → IsSoundName input name
  is_defined : IsSome (named_entity input name) → is_table_symbol input (named input.link name) ≡ false
      → IsSoundName input name

-- what is reported of a name
pub data IsNameFault (input : Input) (name : List ℕ) (e : LinkError) : Type 0 where
  no_memory : e ≡ OutOfMemory → IsNameFault input name e
  is_a_table : is_made_name input name ≡ false → (object number : ℕ)
      → named input.link name ≡ Some (Symbol object number)
      → is_table_symbol input (named input.link name) ≡ true → e ≡ WrongKind object number
      → IsNameFault input name e
  is_missing : is_made_name input name ≡ false → named_entity input name ≡ None
      → is_table_symbol input (named input.link name) ≡ false → e ≡ ExportNotFound name
      → IsNameFault input name e

-- nothing is reported of the names that have to be exported
abbrev pub AreSoundNames : Input → Type 0
AreSoundNames input =
    (name : List ℕ) → Contains input.link.args.required_export_symbols name → IsSoundName input name

-- ---- repeats

-- no two of these have one name
abbrev pub AreDistinct : List Exported → Type 0
AreDistinct exports =
    (i k : ℕ) (a b : Exported) → i < k → slice_get exports i ≡ Some a → slice_get exports k ≡ Some b
    → a.name ≡ b.name → ⊥

-- two of these have one name
pub record HasRepeat (exports : List Exported) (e : LinkError) : Type 0 where
  pub first : ℕ
  pub second : ℕ
  pub in_order : first < second
  pub one : Exported
  pub here : slice_get exports first ≡ Some one
  pub other : Exported
  pub there : slice_get exports second ≡ Some other
  pub same : one.name ≡ other.name
  pub told : e ≡ DuplicateExport one.name

-- what is reported of these
pub data IsRepeat (exports : List Exported) (e : LinkError) : Type 0 where
  lack : e ≡ OutOfMemory → IsRepeat exports e
  twice : HasRepeat exports e → IsRepeat exports e

-- no two of what objects export and of the memory have one name
abbrev pub AreSoundFirst : Input → Type 0
AreSoundFirst input =
    (i k : ℕ) (a b : ExportEntry) → i < k → slice_get (first_exports input) i ≡ Some a
    → slice_get (first_exports input) k ≡ Some b → a.name ≡ b.name → ⊥

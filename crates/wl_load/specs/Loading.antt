-- What parts an image is made of, and what refuses them.
use Rattle.std.specs.Prelude.{◌≡◌, ◌≤◌, ◌<◌, ℕ, zero, suc, ◌+◌, ◌*◌, true, false, List, [], ◌∷◌, length, Option, IfSome}
use Rattle.std.specs.List.{AllByRecursion, AllZip}
use Rattle.wl_bytes.specs.declared.read_error.ReadError.{ReadError}
use Rattle.wl_bytes.specs.declared.read_error.ReadError.TheVariants.{OutOfMemory as OutOfMemoryRead, Malformed, Unsupported}
use Rattle.wl_module.specs.declared.limits.TheConstants.{WASM_PAGE_SIZE}
use Rattle.wl_ops.specs.declared.op.Op.{Op}
use Rattle.wl_ops.specs.Decoding.{AreTaken, DecodeFault}
use Rattle.wl_load.specs.declared.parts.ImageFunction.{ImageFunction}
use Rattle.wl_load.specs.declared.parts.ImageParts.{ImageParts}
use Rattle.wl_load.specs.declared.error.LoadError.{LoadError}
use Rattle.wl_load.specs.declared.error.LoadError.TheVariants.{OutOfMemory, HostGlobal, TooBig, Init, Body, Nesting}
use Rattle.wl_load.specs.Codes.{Code}
use Rattle.wl_load.specs.Pages.{AreWholePages}
use Rattle.wl_load.specs.Blocks.{is_nested}
use Rattle.wl_load.specs.Images.{LoadedImage}
use Rattle.wl_load.specs.LocalRuns.{Declares}

-- ---- what is asked for

-- there is such a type
abbrev pub HasType : ImageParts → ℕ → Type 0
HasType parts t = t < length parts.types

-- there is such a function
abbrev pub HasFunction : ImageParts → Option ℕ → Type 0
HasFunction parts slot = IfSome slot (λ f. f < length parts.hosts + length parts.functions)

-- The parts fit: memory has whole pages, no more than an image may have and than its maximum, and
-- the types and functions that are named by numbers are there. What bodies name is judged by the
-- run.
pub record AreFit (parts : ImageParts) : Type 0 where
  pub pages : AreWholePages parts.memory
  pub maximum : IfSome parts.maximum_pages (λ n. length parts.memory ≤ n * WASM_PAGE_SIZE)
  pub hosts : AllByRecursion (HasType parts) parts.hosts
  pub functions : AllByRecursion (λ (f : ImageFunction). HasType parts f.type_index) parts.functions
  pub table : AllByRecursion (HasFunction parts) parts.table

-- ---- what is made of them

-- a function as it is run: its locals and operators are those of the body
pub record IsCodeOf (f : ImageFunction) (code : Code) : Type 0 where
  pub type_index : code.type_index ≡ f.type_index
  pub locals : Declares f.body code.locals
  pub ops : AreTaken code.ops f.body

-- one by one
abbrev pub AreCodesOf : List ImageFunction → List Code → Type 0
AreCodesOf functions codes = AllZip IsCodeOf functions codes

-- blocks nest in each function
abbrev pub AreNested : List Code → Type 0
AreNested codes = AllByRecursion (λ (c : Code). is_nested c.ops ≡ true) codes

-- The image of these parts: the functions are their code, and nest; all else is as it was given.
pub record IsImageOf (parts : ImageParts) (image : LoadedImage) : Type 0 where
  pub types : image.program.types ≡ parts.types
  pub hosts : image.program.hosts ≡ parts.hosts
  pub table : image.program.table ≡ parts.table
  pub maximum_pages : image.program.maximum_pages ≡ parts.maximum_pages
  pub is_shared : image.program.is_shared ≡ parts.shared
  pub functions : AreCodesOf parts.functions image.program.functions
  pub nested : AreNested image.program.functions
  pub memory : image.store.memory ≡ parts.memory
  pub globals : image.store.globals ≡ parts.globals
  pub segments : image.store.segments ≡ parts.segments

-- ---- refusals

-- a body that can be decoded
abbrev pub IsDecoded : ImageFunction → Type 0
IsDecoded f = (ops : List Op) × AreTaken ops f.body

-- After so many functions comes the first whose body can't be decoded.
abbrev pub IsUndecoded : List ImageFunction → ℕ → Type 0
IsUndecoded [] count = ⊥
IsUndecoded (f ∷ fs) zero = (e : ReadError) × DecodeFault e f.body
IsUndecoded (f ∷ fs) (suc count) = IsDecoded f × IsUndecoded fs count

-- After so many functions comes the first whose blocks don't nest.
abbrev pub IsUnnested : List Code → ℕ → Type 0
IsUnnested [] count = ⊥
IsUnnested (c ∷ cs) zero = is_nested c.ops ≡ false
IsUnnested (c ∷ cs) (suc count) = (is_nested c.ops ≡ true) × IsUnnested cs count

-- all bodies can be decoded, and the blocks of that function are the first that don't nest
abbrev pub AreUnnested : List ImageFunction → ℕ → Type 0
AreUnnested functions count =
    (codes : List Code) × AreCodesOf functions codes × IsUnnested codes count

-- functions are refused so, of which the first has this number
abbrev pub FunctionsFault : ℕ → List ImageFunction → LoadError → Type 0
FunctionsFault first functions OutOfMemory = Unit {0}
FunctionsFault first functions (HostGlobal index) = ⊥
FunctionsFault first functions (TooBig pages) = ⊥
FunctionsFault first functions (Init global) = ⊥
FunctionsFault first functions (Body function) =
    (k : ℕ) × (function ≡ first + k) × IsUndecoded functions k
FunctionsFault first functions (Nesting function) =
    (k : ℕ) × (function ≡ first + k) × AreUnnested functions k

-- an image of these parts is refused so; other causes come before there are such parts
abbrev pub LoadFault : ImageParts → LoadError → Type 0
LoadFault parts = FunctionsFault (length parts.hosts) parts.functions

-- ---- parts of this

-- why a body can't be decoded, reported for its function
abbrev pub load_error : ℕ → ReadError → LoadError
load_error number OutOfMemoryRead = OutOfMemory
load_error number (Malformed why) = Body number
load_error number (Unsupported form) = Body number

-- the first of these whose body can't be decoded is reported
abbrev pub UndecodedFault : ℕ → List ImageFunction → LoadError → Type 0
UndecodedFault first functions OutOfMemory = Unit {0}
UndecodedFault first functions (HostGlobal index) = ⊥
UndecodedFault first functions (TooBig pages) = ⊥
UndecodedFault first functions (Init global) = ⊥
UndecodedFault first functions (Body function) =
    (k : ℕ) × (function ≡ first + k) × IsUndecoded functions k
UndecodedFault first functions (Nesting function) = ⊥

-- the first of these whose blocks don't nest is reported
abbrev pub UnnestedFault : ℕ → List Code → LoadError → Type 0
UnnestedFault first codes OutOfMemory = Unit {0}
UnnestedFault first codes (HostGlobal index) = ⊥
UnnestedFault first codes (TooBig pages) = ⊥
UnnestedFault first codes (Init global) = ⊥
UnnestedFault first codes (Body function) = ⊥
UnnestedFault first codes (Nesting function) =
    (k : ℕ) × (function ≡ first + k) × IsUnnested codes k

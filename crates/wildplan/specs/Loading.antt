-- The image of a plan, and why there is none.
use Rattle.std.specs.Prelude.{◌≡◌, ◌≤◌, ◌<◌, ℕ, zero, suc, ◌+◌, List, [], ◌∷◌, length, Option, Some, None, unwrap_or, IfSome, false}
use Rattle.std.specs.Option.{option_or}
use Rattle.std.specs.List.{AllByRecursion, AllZip, flat_map}
use Rattle.wl_module.specs.Bodies.{Body}
use Rattle.wl_module.specs.declared.limits.MemoryType.{MemoryType}
use Rattle.wl_numeric.specs.declared.value.Value.{Value}
use Rattle.wl_symbols.specs.declared.relocated.FixupPlace.TheVariants.{Code}
use Rattle.wl_output.specs.declared.entities.OutputImportEntity.{OutputImportEntity}
use Rattle.wl_output.specs.declared.entities.OutputImportEntity.TheVariants.{Function, Global, Memory}
use Rattle.wl_output.specs.declared.fixups.Fixup.{Fixup}
use Rattle.wl_load.specs.Images.{LoadedImage}
use Rattle.wl_load.specs.Loading.{IsImageOf, LoadFault}
use Rattle.wl_load.specs.declared.error.LoadError.{LoadError}
use Rattle.wl_load.specs.declared.error.LoadError.TheVariants as load
use Rattle.wl_load.specs.declared.memory.TheConstants.{MAX_IMAGE_PAGES}
use Rattle.wl_load.specs.declared.parts.ImageFunction.{ImageFunction}
use Rattle.wl_load.specs.declared.parts.ImageParts.{ImageParts}
use Rattle.wl_plan.specs.Origins.{Origin, OfObject, OfLinker, OfInitMemory, OfStub, OfWrapper, PlannedFunction}
use Rattle.wl_plan.specs.PlanLines.{first_global}
use Rattle.wl_plan.specs.PlannedImports.{PlannedImport}
use Rattle.wl_plan.specs.declared.layout.LinkPlan.{LinkPlan}
use Rattle.wl_plan.specs.declared.layout.PlannedGlobal.{PlannedGlobal}
use Rattle.wl_run.specs.Data.{first_memory, kept_segments}
use Rattle.wl_run.specs.Filled.{filled}
use Rattle.wl_run.specs.Tables.{first_table}
use Rattle.wl_run.specs.Values.{HasFirstValue}
use Rattle.wl_run.specs.declared.sites.Site.{Site}

-- ---- functions

-- the number of the type of an imported function
abbrev pub host_type : OutputImportEntity → List ℕ
host_type (Function type_index) = type_index ∷ []
host_type (Global ty) = []
host_type (Memory m) = []

-- those of all that are imported
abbrev pub host_types : List PlannedImport → List ℕ
host_types imports = flat_map (λ (i : PlannedImport). host_type i.entity) imports

-- a function of an object
abbrev pub function_site : ℕ → ℕ → Site
function_site object unit = record { object = object; place = Code; unit = unit }

-- the bytes of a function; one of an object is filled
abbrev pub body_of : List Fixup → Origin → List ℕ → List ℕ
body_of fixups (OfObject object unit) bytes = filled (function_site object unit) fixups bytes
body_of fixups (OfLinker m) bytes = bytes
body_of fixups OfInitMemory bytes = bytes
body_of fixups (OfStub name) bytes = bytes
body_of fixups (OfWrapper name) bytes = bytes

-- a function as an image takes it: the number of its type, and its body
abbrev pub image_function : List Fixup → PlannedFunction → Body → ImageFunction
image_function fixups f b =
    record { type_index = f.type_index; body = body_of fixups f.origin b.bytes }

-- one for each that isn't imported
abbrev pub image_functions : List Fixup → List PlannedFunction → List Body → List ImageFunction
image_functions fixups (f ∷ fs) (b ∷ bs) =
    image_function fixups f b ∷ image_functions fixups fs bs
image_functions fixups [] bs = []
image_functions fixups (f ∷ fs) [] = []

-- ---- memory

-- a memory that is imported
abbrev pub memory_in : OutputImportEntity → Option MemoryType
memory_in (Function type_index) = None
memory_in (Global ty) = None
memory_in (Memory m) = Some m

abbrev pub imported_memory : List PlannedImport → Option MemoryType
imported_memory [] = None
imported_memory (i ∷ is) = option_or (memory_in i.entity) (imported_memory is)

-- none at all
abbrev pub no_memory : MemoryType
no_memory = record { initial = 0; maximum = None; shared = false }

-- the plan's own memory, or the imported one
abbrev pub memory_of : LinkPlan → MemoryType
memory_of plan =
    unwrap_or (option_or plan.layout.memory (imported_memory plan.layout.imports)) no_memory

-- ---- globals

-- a global starts with that constant
abbrev pub StartsWith : PlannedGlobal → Value → Type 0
StartsWith g v = HasFirstValue g.global.body v

-- it starts with one
abbrev pub HasStart : PlannedGlobal → Type 0
HasStart g = (v : Value) × StartsWith g v

-- after so many globals comes the first that doesn't start with a constant
abbrev pub IsFirstUnread : List PlannedGlobal → ℕ → Type 0
IsFirstUnread [] count = ⊥
IsFirstUnread (g ∷ gs) zero = HasStart g → ⊥
IsFirstUnread (g ∷ gs) (suc count) = HasStart g × IsFirstUnread gs count

-- the first global that doesn't start with a constant is reported
abbrev pub IsInitFault : List PlannedGlobal → LoadError → Type 0
IsInitFault globals load.OutOfMemory = Unit {0}
IsInitFault globals (load.HostGlobal index) = ⊥
IsInitFault globals (load.TooBig pages) = ⊥
IsInitFault globals (load.Init global) = IsFirstUnread globals global
IsInitFault globals (load.Body function) = ⊥
IsInitFault globals (load.Nesting function) = ⊥

-- ---- parts

-- nothing of a plan asks the host for a global
abbrev pub HasNoHostGlobal : LinkPlan → Type 0
HasNoHostGlobal plan = first_global plan ≡ 0

-- memory begins with no more pages than an image may have
abbrev pub HasFewPages : LinkPlan → Type 0
HasFewPages plan = (memory_of plan).initial ≤ MAX_IMAGE_PAGES

-- The parts of the image of a plan, field by field.
pub record IsParts (plan : LinkPlan) (parts : ImageParts) : Type 0 where
  pub no_host_global : HasNoHostGlobal plan
  pub few_pages : HasFewPages plan
  pub types : parts.types ≡ plan.layout.output_types
  pub memory : parts.memory
      ≡ first_memory plan.fixups (memory_of plan).initial plan.layout.object_data_layouts
  pub maximum_pages : parts.maximum_pages ≡ (memory_of plan).maximum
  pub is_shared : parts.shared ≡ (memory_of plan).shared
  pub globals : AllZip StartsWith plan.layout.globals parts.globals
  pub table : parts.table ≡ first_table plan.layout.table plan.layout.element_functions
  pub hosts : parts.hosts ≡ host_types plan.layout.imports
  pub functions : parts.functions
      ≡ image_functions plan.fixups plan.layout.function_type_indices plan.layout.function_bodies
  pub segments : parts.segments ≡ kept_segments plan.fixups plan.layout.object_data_layouts

-- ---- what is asked for

-- there is such a function
abbrev pub HasFunction : LinkPlan → ℕ → Type 0
HasFunction plan f =
    f < length (host_types plan.layout.imports) + length plan.layout.function_type_indices

-- there is such a type
abbrev pub HasType : LinkPlan → ℕ → Type 0
HasType plan t = t < length plan.layout.output_types

-- What the parts of a plan name by numbers is there, each function has a body, and memory may have
-- the pages with which it begins.
pub record CanBeLoaded (plan : LinkPlan) : Type 0 where
  pub hosts : AllByRecursion (HasType plan) (host_types plan.layout.imports)
  pub functions : AllByRecursion (λ (f : PlannedFunction). HasType plan f.type_index)
      plan.layout.function_type_indices
  pub bodies : length plan.layout.function_bodies ≡ length plan.layout.function_type_indices
  pub elements : AllByRecursion (HasFunction plan) plan.layout.element_functions
  pub maximum : IfSome (memory_of plan).maximum (λ n. (memory_of plan).initial ≤ n)

-- ---- the image

-- the image of a plan: of its parts
pub record IsLoaded (plan : LinkPlan) (image : LoadedImage) : Type 0 where
  pub parts : ImageParts
  pub are_parts : IsParts plan parts
  pub is_image : IsImageOf parts image

-- a plan whose functions are refused so
pub record AreRefused (plan : LinkPlan) (e : LoadError) : Type 0 where
  pub parts : ImageParts
  pub are_parts : IsParts plan parts
  pub fault : LoadFault parts e

-- the first cause for which a plan has no parts of an image
abbrev pub IsUnprepared : LinkPlan → LoadError → Type 0
IsUnprepared plan load.OutOfMemory = Unit {0}
IsUnprepared plan (load.HostGlobal index) = (index ≡ 0) × (0 < first_global plan)
IsUnprepared plan (load.TooBig pages) =
    HasNoHostGlobal plan × (pages ≡ (memory_of plan).initial) × (MAX_IMAGE_PAGES < pages)
IsUnprepared plan (load.Init global) =
    HasNoHostGlobal plan × HasFewPages plan × IsFirstUnread plan.layout.globals global
IsUnprepared plan (load.Body function) = ⊥
IsUnprepared plan (load.Nesting function) = ⊥

-- The first cause for which a plan isn't loaded, in this order: the host is asked for a global,
-- memory begins with too many pages, a global doesn't start with a constant, a body isn't decoded,
-- blocks of a function don't nest.
abbrev pub IsNotLoaded : LinkPlan → LoadError → Type 0
IsNotLoaded plan load.OutOfMemory = Unit {0}
IsNotLoaded plan (load.HostGlobal index) = (index ≡ 0) × (0 < first_global plan)
IsNotLoaded plan (load.TooBig pages) =
    HasNoHostGlobal plan × (pages ≡ (memory_of plan).initial) × (MAX_IMAGE_PAGES < pages)
IsNotLoaded plan (load.Init global) =
    HasNoHostGlobal plan × HasFewPages plan × IsFirstUnread plan.layout.globals global
IsNotLoaded plan (load.Body function) = AreRefused plan (load.Body function)
IsNotLoaded plan (load.Nesting function) = AreRefused plan (load.Nesting function)

-- Words that stand for one of a few things: each is read again, which computes, case by case; a clause
-- of `_` is checked for each case that none before it takes.
use Rattle.std.proofs.Common.{◌≡◌, ℕ, false, List, ◌++◌, Some, refl}
use Rattle.wl_module.specs.Types.{value_types}
use Rattle.wl_module.specs.declared.types.ValType.{ValType}
use Rattle.wl_module.specs.declared.types.ValType.TheVariants.{I32}
use Rattle.wl_module.specs.declared.imports.ExternalKind.{ExternalKind}
use Rattle.wl_module.specs.declared.imports.ExternalKind.TheVariants as external
use Rattle.wl_custom.specs.RelocationTypes.{type_name, relocation_types}
use Rattle.wl_custom.specs.declared.relocation_type.RelocationType.{RelocationType}
use Rattle.wl_custom.specs.declared.relocation_type.RelocationType.TheVariants as type
use Rattle.wl_text.specs.Names.{value_type_name, kind_name}
use Rattle.wl_check.specs.declared.kinds.LineKind.{LineKind}
use Rattle.wl_check.specs.declared.kinds.LineKind.TheVariants as kind
use Rattle.wl_check.specs.declared.kinds.SourceKind.{SourceKind}
use Rattle.wl_check.specs.declared.kinds.SourceKind.TheVariants as source_kind
use Rattle.wl_check.specs.declared.kinds.OriginKind.{OriginKind}
use Rattle.wl_check.specs.declared.kinds.OriginKind.TheVariants as origin_kind
use Rattle.wl_check.specs.declared.kinds.StateKind.{StateKind}
use Rattle.wl_check.specs.declared.kinds.StateKind.TheVariants as state_kind
use Rattle.wl_check.specs.declared.line.MadeFunction.{MadeFunction}
use Rattle.wl_check.specs.declared.line.MadeFunction.TheVariants.{CallCtors}
use Rattle.wl_output.specs.declared.entities.MadeGlobal.{MadeGlobal}
use Rattle.wl_output.specs.declared.entities.MadeGlobal.TheVariants.{MemoryBase}
use Rattle.wl_symbols.specs.declared.relocated.FixupPlace.{FixupPlace}
use Rattle.wl_symbols.specs.declared.relocated.FixupPlace.TheVariants as place
use Rattle.wl_check.specs.Texts.{made_function_name, made_global_name, place_name}
use Rattle.wl_check.specs.Reading.{strip, case_at}
use Rattle.wl_check.specs.LineReading.{made_functions, made_globals, places, export_kinds, line_word, line_kinds, source_word, source_kinds, origin_word, origin_kinds, state_word, state_kinds}
use Rattle.wl_check.proofs.Codes.{IsCode, IsInside, case_code}

-- the word of a case is read again as it
abbrev IsRead : {X : Type 0} → (X → List ℕ) → List X → X → Type 0
IsRead word cases x = (rest : List ℕ) → case_at word cases (word x ++ rest) ≡ Some (x, rest)

value_read : (t : ValType) → IsRead value_type_name value_types t
unfolding case_at strip
value_read I32 rest = refl
value_read _ rest = refl

value_inside : (t : ValType) → IsInside (value_type_name t)
value_inside I32 rest = refl
value_inside _ rest = refl

pub value_type_code : IsCode false value_type_name (λ (t : ValType). Unit {0}) (case_at value_type_name value_types)
value_type_code = case_code value_type_name value_types (λ t rest. value_read t rest) (λ t. value_inside t)

export_read : (k : ExternalKind) → IsRead kind_name export_kinds k
unfolding case_at strip
export_read external.Func rest = refl
export_read _ rest = refl

export_inside : (k : ExternalKind) → IsInside (kind_name k)
export_inside external.Func rest = refl
export_inside _ rest = refl

pub export_kind_code : IsCode false kind_name (λ (k : ExternalKind). Unit {0}) (case_at kind_name export_kinds)
export_kind_code = case_code kind_name export_kinds (λ k rest. export_read k rest) (λ k. export_inside k)

reloc_read : (t : RelocationType) → IsRead type_name relocation_types t
unfolding case_at strip
reloc_read type.FunctionIndexLeb rest = refl
reloc_read _ rest = refl

reloc_inside : (t : RelocationType) → IsInside (type_name t)
reloc_inside type.FunctionIndexLeb rest = refl
reloc_inside _ rest = refl

pub relocation_type_code : IsCode false type_name (λ (t : RelocationType). Unit {0}) (case_at type_name relocation_types)
relocation_type_code = case_code type_name relocation_types (λ t rest. reloc_read t rest) (λ t. reloc_inside t)

made_function_read : (m : MadeFunction) → IsRead made_function_name made_functions m
unfolding case_at strip
made_function_read CallCtors rest = refl
made_function_read _ rest = refl

made_function_inside : (m : MadeFunction) → IsInside (made_function_name m)
made_function_inside CallCtors rest = refl
made_function_inside _ rest = refl

pub made_function_code : IsCode false made_function_name (λ (m : MadeFunction). Unit {0}) (case_at made_function_name made_functions)
made_function_code = case_code made_function_name made_functions (λ m rest. made_function_read m rest) (λ m. made_function_inside m)

made_global_read : (m : MadeGlobal) → IsRead made_global_name made_globals m
unfolding case_at strip
made_global_read MemoryBase rest = refl
made_global_read _ rest = refl

made_global_inside : (m : MadeGlobal) → IsInside (made_global_name m)
made_global_inside MemoryBase rest = refl
made_global_inside _ rest = refl

pub made_global_code : IsCode false made_global_name (λ (m : MadeGlobal). Unit {0}) (case_at made_global_name made_globals)
made_global_code = case_code made_global_name made_globals (λ m rest. made_global_read m rest) (λ m. made_global_inside m)

place_read : (p : FixupPlace) → IsRead place_name places p
unfolding case_at strip
place_read place.Code rest = refl
place_read _ rest = refl

place_inside : (p : FixupPlace) → IsInside (place_name p)
place_inside place.Code rest = refl
place_inside _ rest = refl

pub place_code : IsCode false place_name (λ (p : FixupPlace). Unit {0}) (case_at place_name places)
place_code = case_code place_name places (λ p rest. place_read p rest) (λ p. place_inside p)

-- ---- what lines and choices in them begin with

source_read : (k : SourceKind) → IsRead source_word source_kinds k
unfolding case_at strip
source_read source_kind.Object rest = refl
source_read _ rest = refl

source_inside : (k : SourceKind) → IsInside (source_word k)
source_inside source_kind.Object rest = refl
source_inside _ rest = refl

pub source_words : IsCode false source_word (λ (k : SourceKind). Unit {0}) (case_at source_word source_kinds)
source_words = case_code source_word source_kinds (λ k rest. source_read k rest) (λ k. source_inside k)

origin_read : (k : OriginKind) → IsRead origin_word origin_kinds k
unfolding case_at strip
origin_read origin_kind.Object rest = refl
origin_read _ rest = refl

origin_inside : (k : OriginKind) → IsInside (origin_word k)
origin_inside origin_kind.Object rest = refl
origin_inside _ rest = refl

pub origin_words : IsCode false origin_word (λ (k : OriginKind). Unit {0}) (case_at origin_word origin_kinds)
origin_words = case_code origin_word origin_kinds (λ k rest. origin_read k rest) (λ k. origin_inside k)

state_read : (k : StateKind) → IsRead state_word state_kinds k
unfolding case_at strip
state_read state_kind.Active rest = refl
state_read _ rest = refl

state_inside : (k : StateKind) → IsInside (state_word k)
state_inside state_kind.Active rest = refl
state_inside _ rest = refl

pub state_words : IsCode false state_word (λ (k : StateKind). Unit {0}) (case_at state_word state_kinds)
state_words = case_code state_word state_kinds (λ k rest. state_read k rest) (λ k. state_inside k)

line_read : (k : LineKind) → IsRead line_word line_kinds k
unfolding case_at strip
line_read kind.Version rest = refl
line_read _ rest = refl

line_inside : (k : LineKind) → IsInside (line_word k)
line_inside kind.Version rest = refl
line_inside _ rest = refl

pub line_words : IsCode false line_word (λ (k : LineKind). Unit {0}) (case_at line_word line_kinds)
line_words = case_code line_word line_kinds (λ k rest. line_read k rest) (λ k. line_inside k)

-- The laws of globals and memories.
use Rattle.std.proofs.Common.{ℕ, Bool, true, false, List, [], ◌∷◌, Result, refl}
use Rattle.wl_bytes.specs.Leb.{IsU32}
use Rattle.wl_bytes.proofs.Readings.{IsReading}
use Rattle.wl_bytes.specs.declared.read_error.Why.TheVariants.{BadByte}
use Rattle.wl_bytes.specs.declared.read_error.ReadError.{ReadError}
use Rattle.wl_bytes.specs.declared.read_error.ReadError.TheVariants.{Malformed}
use Rattle.wl_bytes.specs.Outcome.{Gives, ReadsWhole}
use Rattle.wl_bytes.specs.Lists.{NumberFault, number_at, Listed, ListedFault, list_at}
use Rattle.wl_module.specs.Globals.{mutability_code, IsMutability, MutabilityFault, mutability_at, global_type_from, IsGlobalType, GlobalTypeFault, global_type_at, global_from, IsGlobal, GlobalFault, global_at, AreGlobals, GlobalsFault, globals_of}
use Rattle.wl_module.specs.Memories.{memory_once, AreMemories, MemoriesFault, memories_of, IsDataCount, DataCountFault, data_count_of}
use Rattle.wl_bytes.proofs.ReadingLaws.{both, seen}
use Rattle.wl_bytes.proofs.ListLaws.{AreAll, coded_reading, number_reading, list_reading, whole_reading, IsWholeReading, reads_whole}
use Rattle.wl_bytes.proofs.AfterLaws.{list_once_reading}
use Rattle.wl_module.proofs.TypeLaws.{value_type_reading}
use Rattle.wl_module.proofs.ConstantLaws.{expression_reading}
use Rattle.wl_module.proofs.LimitLaws.{memory_type_reading}

-- ---- globals

both_of_them : AreAll mutability_code (false ∷ true ∷ [])
both_of_them false = refl
both_of_them true = refl

mutability_reading : IsReading IsMutability MutabilityFault mutability_at
unfolding mutability_at
mutability_reading = coded_reading mutability_code (false ∷ true ∷ []) (λ _. Malformed BadByte) both_of_them

pub global_type_reading : IsReading IsGlobalType GlobalTypeFault global_type_at
unfolding global_type_at
global_type_reading = seen global_type_from (both value_type_reading (λ _. mutability_reading))

pub global_reading : IsReading IsGlobal GlobalFault global_at
unfolding global_at
global_reading = seen global_from (both global_type_reading (λ _. expression_reading))

pub globals_reading : IsWholeReading AreGlobals GlobalsFault globals_of
globals_reading = whole_reading (Listed IsGlobal) (ListedFault IsGlobal GlobalFault) (list_at global_at) (list_reading IsGlobal GlobalFault global_at global_reading)

-- ---- memories

pub memories_reading : (imported : Bool) → IsWholeReading (AreMemories imported) (MemoriesFault imported) (memories_of imported)
memories_reading imported = whole_reading _ _ _ (list_once_reading (memory_once imported) memory_type_reading)

-- ---- the data count

pub data_count_reading : IsWholeReading IsDataCount DataCountFault data_count_of
data_count_reading = whole_reading IsU32 NumberFault number_at number_reading

pub counts : (payload : List ℕ) (r : Result ℕ ReadError) → Gives (λ n. n) r (data_count_of payload) → ReadsWhole (λ n. n) IsDataCount DataCountFault payload r
counts payload r given = reads_whole (λ n. n) IsDataCount DataCountFault data_count_of data_count_reading payload r given

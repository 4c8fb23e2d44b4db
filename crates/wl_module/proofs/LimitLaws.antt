-- The laws of limits.
use Rattle.std.proofs.Common.{◌≡◌, ℕ, Bool, true, false, List, [], ◌∷◌, Some, Result, refl}
use Rattle.wl_bytes.specs.Leb.{IsU32}
use Rattle.wl_bytes.specs.Grammar.{Then, ThenFault}
use Rattle.wl_bytes.proofs.Readings.{IsReading}
use Rattle.wl_bytes.specs.Cursor.{Cursor}
use Rattle.wl_module.specs.declared.limits.LimitsFlags.{LimitsFlags}
use Rattle.wl_bytes.specs.declared.read_error.Why.TheVariants.{BadLimits}
use Rattle.wl_bytes.specs.declared.read_error.Form.TheVariants.{TableForm, TableType as OtherElements}
use Rattle.wl_bytes.specs.declared.read_error.ReadError.{ReadError}
use Rattle.wl_bytes.specs.declared.read_error.ReadError.TheVariants.{Malformed, Unsupported}
use Rattle.wl_bytes.specs.Lists.{NumberFault, IsCoded, CodedFault, with_code}
use Rattle.wl_bytes.specs.Checks.{When, WhenFault}
use Rattle.wl_module.specs.Limits.{flags_code, all_flags, memory_flags_error, table_flags_error, IsMemoryFlags, MemoryFlagsFault, memory_flags_at, is_own, IsTableFlags, TableFlagsFault, table_flags_at, limits_from, IsLimits, LimitsFault, sizes_at, limits_at, limits_fit, memory_limits_fit, memory_of, IsMemoryType, MemoryTypeFault, memory_type_at, elements_code, table_of, IsTableType, TableTypeFault, elements_at, table_type_at}
use Rattle.wl_bytes.proofs.ReadingLaws.{both, seen}
use Rattle.wl_bytes.proofs.ListLaws.{AreAll, coded_reading, number_reading}
use Rattle.wl_bytes.proofs.CheckLaws.{where_reading, when_reading}

-- ---- flags

all_of_them : AreAll flags_code all_flags
all_of_them f = by f.has_maximum f.shared
  where
    by : (m s : Bool) → with_code flags_code all_flags (flags_code (record { has_maximum = m; shared = s })) ≡ Some (record { has_maximum = m; shared = s })
    by false false = refl
    by true false = refl
    by false true = refl
    by true true = refl

memory_flags_reading : IsReading IsMemoryFlags MemoryFlagsFault memory_flags_at
unfolding memory_flags_at
memory_flags_reading = coded_reading flags_code all_flags memory_flags_error all_of_them

table_flags_reading : IsReading IsTableFlags TableFlagsFault table_flags_at
unfolding table_flags_at
table_flags_reading = where_reading _ _ _ is_own (Unsupported TableForm) (coded_reading flags_code all_flags table_flags_error all_of_them)

-- ---- limits

sizes_reading : (f : LimitsFlags) → IsReading (Then IsU32 (λ _. When IsU32 f.has_maximum)) (ThenFault IsU32 NumberFault (λ _. WhenFault NumberFault f.has_maximum)) (sizes_at f)
unfolding sizes_at
sizes_reading f = both number_reading (λ _. when_reading _ _ _ number_reading f.has_maximum)

limits_reading : {flags : ℕ → LimitsFlags → List ℕ → Type 0} {wrong : ReadError → Cursor → Type 0} {read : Cursor → Result (LimitsFlags × Cursor) ReadError} → IsReading flags wrong read → IsReading (IsLimits flags) (LimitsFault flags wrong) (limits_at read)
limits_reading law = seen limits_from (both law sizes_reading)

-- ---- memories and tables

pub memory_type_reading : IsReading IsMemoryType MemoryTypeFault memory_type_at
unfolding memory_type_at
memory_type_reading = seen memory_of (where_reading _ _ _ memory_limits_fit (Malformed BadLimits) (limits_reading memory_flags_reading))

elements_reading : IsReading (IsCoded elements_code) (CodedFault elements_code (λ _. Unsupported OtherElements)) elements_at
unfolding elements_at
elements_reading = coded_reading elements_code (tt ∷ []) (λ _. Unsupported OtherElements) (λ _. refl)

pub table_type_reading : IsReading IsTableType TableTypeFault table_type_at
unfolding table_type_at
table_type_reading = seen table_of (both elements_reading (λ _. where_reading _ _ _ limits_fit (Malformed BadLimits) (limits_reading table_flags_reading)))

-- The laws of what a linking section says of segments and of functions that run at the start.
use Rattle.std.proofs.Common.{refl}
use Rattle.wl_bytes.proofs.Readings.{IsReading}
use Rattle.wl_bytes.proofs.GrammarLaws.{map_reading}
use Rattle.wl_bytes.specs.Lists.{Listed, ListedFault, list_at}
use Rattle.wl_bytes.specs.declared.read_error.Why.TheVariants.{BadAlignment}
use Rattle.wl_bytes.specs.declared.read_error.ReadError.TheVariants.{Malformed}
use Rattle.wl_bytes.proofs.ReadingLaws.{both, seen}
use Rattle.wl_bytes.proofs.ListLaws.{number_reading, word_reading, list_reading, whole_reading, IsWholeReading}
use Rattle.wl_bytes.proofs.CheckLaws.{where_reading}
use Rattle.wl_custom.specs.Infos.{is_exponent, two_to, IsAlignment, AlignmentFault, alignment_at, IsInfo, InfoFault, info_from, info_at, AreInfos, InfosFault, infos_of, IsInit, InitFault, init_from, init_at, AreInits, InitsFault, inits_of}
use Rattle.wl_custom.specs.declared.infos.WasmInitFunc.{WasmInitFunc}

-- ---- segments

alignment_reading : IsReading IsAlignment AlignmentFault alignment_at
unfolding alignment_at
alignment_reading = seen two_to (where_reading _ _ _ is_exponent (Malformed BadAlignment) number_reading)

info_reading : IsReading IsInfo InfoFault info_at
unfolding info_at
info_reading = map_reading _ IsInfo InfoFault _ info_from (λ i. (i.name, (i.alignment, i.flags))) (λ place p text s. s) (λ place i text s. (s, refl))
    (both word_reading (λ _. both alignment_reading (λ _. number_reading)))

pub infos_reading : IsWholeReading AreInfos InfosFault infos_of
infos_reading = whole_reading (Listed IsInfo) (ListedFault IsInfo InfoFault) (list_at info_at) (list_reading IsInfo InfoFault info_at info_reading)

-- ---- functions

init_reading : IsReading IsInit InitFault init_at
unfolding init_at
init_reading = map_reading _ IsInit InitFault _ init_from (λ (f : WasmInitFunc). (f.priority, f.symbol_index)) (λ place p text s. s) (λ place f text s. (s, refl)) (both number_reading (λ _. number_reading))

pub inits_reading : IsWholeReading AreInits InitsFault inits_of
inits_reading = whole_reading (Listed IsInit) (ListedFault IsInit InitFault) (list_at init_at) (list_reading IsInit InitFault init_at init_reading)

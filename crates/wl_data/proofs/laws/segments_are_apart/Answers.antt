use Rattle.wl_data.specs.Layouts.{memory_spans, block_spans}
use Rattle.wl_data.proofs.SpanLaws.{row_is_apart}
use Rattle.wl_data.proofs.laws.segments_are_apart.Goals as goal

pub returns-clause-memory : goal.returns-clause-memory
returns-clause-memory c = λ pass segments start end placed p. row_is_apart start.memory end.memory (memory_spans pass placed) p.memory

pub returns-clause-block : goal.returns-clause-block
returns-clause-block c = λ pass segments start end placed p. row_is_apart start.block end.block (block_spans pass placed) p.block

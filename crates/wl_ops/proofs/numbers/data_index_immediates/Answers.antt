use Rattle.std.proofs.Common.{sym, ◌∙◌}
use Rattle.wl_ops.proofs.ToldLaws.{reads_none, reads_some, reads_fault}
use Rattle.wl_ops.proofs.numbers.data_index_immediates.Goals as goal

pub returns-then-not-holds_prefix-clause-reads : goal.returns-then-not-holds_prefix-clause-reads
returns-then-not-holds_prefix-clause-reads c = reads_none (λ v. v.items) c.args.body.now c.new.result c.new.ensures.items (sym c.holds_prefix.ensures ∙ c.if-not-holds_prefix.true)

pub returns-in-Ok-clause-reads : goal.returns-in-Ok-clause-reads
returns-in-Ok-clause-reads c = reads_some (λ v. v.items) c.args.body.now c.in-Ok.numbers c.in-Ok.ensures

pub returns-in-Err-clause-reads : goal.returns-in-Err-clause-reads
returns-in-Err-clause-reads c = rw c.in_body.ensures (reads_fault (λ v. v.items) c.args.body.now c.in-Err.error (sym c.holds_prefix.ensures ∙ c.if-not-holds_prefix.false) c.in-Err.ensures)

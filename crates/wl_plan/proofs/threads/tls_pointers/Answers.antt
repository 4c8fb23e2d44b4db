use Rattle.std.proofs.Common.{sym}
use Rattle.wl_plan.proofs.DeferredLaws.{fixup_at, pointers_more, pointers_of_fixups}
use Rattle.wl_plan.proofs.threads.tls_pointers.Goals as goal

pub loop-fixup-init : goal.loop-fixup-init
loop-fixup-init c =
    rw c.new-pointers.ensures.items
    (sym (pointers_of_fixups c.args.book.now.input.now c.args.book.now.placing.now c.args.fixups.now c.requires.fixups))

pub push_pointer-requires-clause-kept : goal.push_pointer-requires-clause-kept
push_pointer-requires-clause-kept c =
    fixup_at c.args.book.now.input.now c.args.book.now.placing.now c.args.fixups.now c.loop-fixup.fixup-index _
    c.requires.fixups c.loop-fixup-test.true

pub loop-fixup-preserved : goal.loop-fixup-preserved
loop-fixup-preserved c =
    pointers_more c.args.book.now.placing.now c.args.fixups.now c.loop-fixup.fixup-index _ c.loop-fixup.pointers.items
    c.push_pointer.new.pointers.items _ c.loop-fixup-test.true c.in_ok-push_pointer.ensures c.loop-fixup.invariant

use Rattle.std.proofs.Common.{◌≡◌, ◌++◌, drop}
use Rattle.std.specs.List.{filter_map}
use Rattle.wl_plan.specs.Running.{pointer_to}
use Rattle.wl_plan.specs.Threads.{tls_pointers}
use Rattle.wl_output.specs.declared.fixups.Fixup.{Fixup}
use Rattle.wl_plan.proofs.DeferredLaws.{start_there}
use Rattle.wl_plan.proofs.threads.tls_pointers.Given as goal

abbrev pub invariant-loop-fixup : goal.invariant-loop-fixup
invariant-loop-fixup l =
    l.pointers.items
    ++ filter_map (λ (f : Fixup). pointer_to f (start_there l.book.placing.now f) f.to) (drop l.fixup-index l.fixups)
    ≡ tls_pointers l.book.input.now l.book.placing.now

use Rattle.std.proofs.Common.{take}
use Rattle.std.specs.List.{AllZip}
use Rattle.wl_bind.specs.Parts.{by_object}
use Rattle.wl_ctors.specs.InitCalls.{IsInitCall, init_functions_of}
use Rattle.wl_ctors.proofs.calls.init_calls.Given as goal

abbrev pub invariant-loop-object : goal.invariant-loop-object
invariant-loop-object l =
    AllZip (IsInitCall l.input) (by_object init_functions_of 0 (take l.object l.input.link.objects))
    l.calls.items

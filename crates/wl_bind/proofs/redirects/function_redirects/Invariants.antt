use Rattle.std.proofs.Common.{◌≡◌, map}
use Rattle.std.specs.List.{range_with_len}
use Rattle.wl_bind.specs.steps.Redirects.{redirect_of}
use Rattle.wl_bind.proofs.redirects.function_redirects.Given as goal

abbrev pub invariant-loop-number : goal.invariant-loop-number
invariant-loop-number l =
    l.list ≡ map (redirect_of l.input.link l.function_rows l.object) (range_with_len 0 l.number)

use Rattle.std.proofs.Common.{◌≡◌, ◌+◌, drop, find}
use Rattle.std.specs.Option.{option_or, option_map}
use Rattle.wl_bind.specs.steps.Kinds.{is_wrong_at, init_place, wrong_init_from}
use Rattle.wl_bind.proofs.kinds.find_wrong_init.Given as goal

abbrev pub invariant-loop-object : goal.invariant-loop-object
invariant-loop-object l = wrong_init_from l.input 0 l.input.link.objects ≡ wrong_init_from l.input l.object (drop l.object l.input.link.objects)

abbrev pub invariant-loop-function : goal.invariant-loop-function
invariant-loop-function l =
    wrong_init_from l.input 0 l.input.link.objects
    ≡ option_or (option_map (init_place l.object) (find (is_wrong_at l.input l.object) (drop l.function-index l.function-items)))
    (wrong_init_from l.input (l.object + 1) (drop (l.object + 1) l.input.link.objects))

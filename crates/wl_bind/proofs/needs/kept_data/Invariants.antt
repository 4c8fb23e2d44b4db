use Rattle.std.proofs.Common.{◌≡◌, ◌||◌, drop}
use Rattle.wl_bind.specs.Made.{keeps_thread_data, keeps_common_data}
use Rattle.wl_bind.specs.Parts.{any_object}
use Rattle.wl_bind.proofs.needs.kept_data.Given as goal

abbrev pub invariant-loop-object : goal.invariant-loop-object
invariant-loop-object l =
    let rest = drop l.object l.input.link.objects in
    record {
      thread : (l.kept.thread || any_object (keeps_thread_data l.input) l.object rest)
          ≡ any_object (keeps_thread_data l.input) 0 l.input.link.objects;
      common : (l.kept.common || any_object (keeps_common_data l.input) l.object rest)
          ≡ any_object (keeps_common_data l.input) 0 l.input.link.objects;
    }

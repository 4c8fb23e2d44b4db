use Rattle.std.proofs.Common.{◌≡◌, ◌||◌, length, drop}
use Rattle.std.specs.List.{list_any, range_with_len}
use Rattle.wl_bind.specs.Made.{is_kept_thread_data, is_kept_common_data, keeps_thread_data, keeps_common_data}
use Rattle.wl_bind.proofs.needs.kept_data_in.Given as goal

abbrev pub invariant-loop-k : goal.invariant-loop-k
invariant-loop-k l =
    let places = drop l.k (range_with_len 0 (length l.file.segments)) in
    record {
      thread : (l.kept.thread || list_any (is_kept_thread_data l.input l.object l.file) places)
          ≡ keeps_thread_data l.input l.object l.file;
      common : (l.kept.common || list_any (is_kept_common_data l.input l.object l.file) places)
          ≡ keeps_common_data l.input l.object l.file;
    }

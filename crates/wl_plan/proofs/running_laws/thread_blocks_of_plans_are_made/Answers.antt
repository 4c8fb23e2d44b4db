use Rattle.wl_plan.proofs.RunningLaws.{PlaceLaws, block_made}
use Rattle.wl_plan.proofs.running_laws.thread_blocks_of_plans_are_made.Goals as goal

pub returns : goal.returns
returns c =
    let laws : PlaceLaws = record {
      memory = c.places_end_in_time.ensures.memory;
      before_flag = c.places_end_in_time.ensures.before_flag;
      flag = c.places_end_in_time.ensures.flag;
      block = c.places_end_in_time.ensures.block;
      apart = c.places_end_in_time.ensures.apart;
      block_apart = c.places_end_in_time.ensures.block_apart;
      shared = c.copied_segments_are_passive.ensures.shared;
      own = c.copied_segments_are_passive.ensures.own;
    } in
    block_made c.thread_block_is_made.ensures c.whole_objects.ensures.fitting c.segments_have_layouts.ensures laws

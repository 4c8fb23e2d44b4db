use Rattle.std.proofs.Common.{◌++◌, [], ◌∷◌}
use Rattle.std.specs.List.{flat_map}
use Rattle.wl_synth.specs.Wat as wat
use Rattle.wl_synth.specs.Bodies.{copy_ops, drop_ops, claim_ops, release_ops, wait_ops, init_memory_ops}
use Rattle.wl_synth.proofs.BodyLaws.{last_is_end, made_result, added}
use Rattle.wl_synth.proofs.memory.encode_init_memory_body.Goals as goal

pub returns : goal.returns
returns c =
    let flag = c.args.flag in
    let copies = c.args.copies.now in
    let one = claim_ops flag in
    let two = one ++ flat_map copy_ops copies in
    let three = two ++ release_ops flag in
    let four = three ++ wait_ops flag in
    let five = four ++ flat_map drop_ops copies in
    let first = added one [] _ _ c.new-body.ensures c.in_ok-push_claim.ensures in
    let second = added (flat_map copy_ops copies) one _ _ first c.in_ok-push_copies.ensures in
    let third = added (release_ops flag) two _ _ second c.in_ok-push_release.ensures in
    let fourth = added (wait_ops flag) three _ _ third c.in_ok-push_wait.ensures in
    let fifth = added (flat_map drop_ops copies) four _ _ fourth c.in_ok-push_segment_drops.ensures in
    let same = added (wat.end ∷ []) five _ _ fifth c.in_ok-push.ensures in
    made_result _ c.spell.result c.push.new.self (init_memory_ops flag copies) same (last_is_end five) c.spell.ensures

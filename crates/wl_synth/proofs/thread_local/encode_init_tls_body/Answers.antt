use Rattle.std.proofs.Common.{◌++◌, [], ◌∷◌}
use Rattle.std.specs.List.{flat_map}
use Rattle.wl_synth.specs.Wat as wat
use Rattle.wl_synth.specs.Bodies.{thread_block, clear_ops, template_ops, pointer_ops, got_ops, init_tls_ops}
use Rattle.wl_synth.proofs.BodyLaws.{last_is_end, made_result, added}
use Rattle.wl_synth.proofs.thread_local.encode_init_tls_body.Goals as goal

pub returns : goal.returns
returns c =
    let g = c.args.tls_base_global in
    let size = c.args.tls_size in
    let copies = c.args.copies.now in
    let fixups = c.args.fixups.now in
    let got = c.args.got_fixups.now in
    let one = wat.local_get 0 ∷ wat.global_set g ∷ [] in
    let two = one ++ clear_ops size in
    let three = two ++ flat_map template_ops copies in
    let four = three ++ flat_map (pointer_ops g) fixups in
    let five = four ++ flat_map (got_ops g) got in
    let first = added one [] _ _ c.new-body.ensures c.in_ok-push.ensures in
    let second = added (clear_ops size) one _ _ first c.in_ok-push_clear.ensures in
    let third = added (flat_map template_ops copies) two _ _ second c.in_ok-push_templates.ensures in
    let fourth = added (flat_map (pointer_ops g) fixups) three _ _ third c.in_ok-push_pointers.ensures in
    let fifth = added (flat_map (got_ops g) got) four _ _ fourth c.in_ok-push_got_fixups.ensures in
    let same = added (wat.end ∷ []) five _ _ fifth c.in_ok-push-2.ensures in
    made_result _ c.spell.result c.push-2.new.self (init_tls_ops (thread_block g size copies fixups got)) same (last_is_end five) c.spell.ensures

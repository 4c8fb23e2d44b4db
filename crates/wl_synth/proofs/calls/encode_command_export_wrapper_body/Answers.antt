use Rattle.std.proofs.Common.{◌++◌, [], ◌∷◌}
use Rattle.wl_synth.specs.Wat as wat
use Rattle.wl_synth.specs.Bodies.{locals_from, wrapper_ops}
use Rattle.wl_synth.proofs.BodyLaws.{last_is_end, made_result, added, wrapper_in_range, memory_alone}
use Rattle.wl_synth.proofs.calls.encode_command_export_wrapper_body.Goals as goal

pub returns : goal.returns
returns c =
    let ctors = wat.call c.args.call_ctors ∷ [] in
    let parameters = locals_from 0 c.args.n_params in
    let original = wat.call c.args.original ∷ [] in
    let all = wrapper_ops c.args.call_ctors c.args.original c.args.n_params in
    let first = added ctors [] _ _ c.new-body.ensures c.in_ok-push.ensures in
    let second = added parameters ctors _ _ first c.in_ok-push_parameters.ensures in
    let third = added original (ctors ++ parameters) _ _ second c.in_ok-push-2.ensures in
    let same = added (wat.end ∷ []) (ctors ++ parameters ++ original) _ _ third c.in_ok-push-3.ensures in
    memory_alone _ c.spell.result all (wrapper_in_range c.args.call_ctors c.args.original c.args.n_params)
    (made_result _ c.spell.result c.push-3.new.self all same (last_is_end (ctors ++ parameters ++ original)) c.spell.ensures)

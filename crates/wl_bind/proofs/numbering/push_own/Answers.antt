use Rattle.std.proofs.Common.{◌∙◌, ℕ, List, ◌∷◌, [], ◌++◌, map, ap, sym, arith, append_assoc}
use Rattle.std.specs.List.{range_with_len}
use Rattle.std.proofs.lemmas.List.FromFn.{map-range_with_len_more}
use Rattle.wl_bind.specs.steps.OwnIndices.{own_unit, own_index}
use Rattle.wl_bind.proofs.numbering.push_own.Goals as goal

pub loop-number-preserved : goal.loop-number-preserved
loop-number-preserved c =
    let f : ℕ → ℕ = λ k. own_index c.args.input.now c.args.firsts.now c.args.object (own_unit c.args.own k) in
    let so_far : List ℕ = map f (range_with_len 0 c.loop-number.number) in
    c.in_ok-push.ensures.ok
    ∙ (ap (λ (x : ℕ). c.loop-number.indices ++ x ∷ [])
    (c.own_index.ensures ∙ ap (own_index c.args.input.now c.args.firsts.now c.args.object) c.unit-unit.ensures)
    ∙ (ap (λ (is : List ℕ). is ++ f c.loop-number.number ∷ []) c.loop-number.invariant
    ∙ (append_assoc c.args.indices.now so_far (f c.loop-number.number ∷ [])
    ∙ ap (λ (is : List ℕ). c.args.indices.now ++ is) (sym (map-range_with_len_more f 0 c.loop-number.number c.loop-number.number (omega arith))))))

use Rattle.std.proofs.Common.{◌≡◌, List, Option, IfOk, IfErr, OnOk, subst}
use Rattle.wl_module.specs.Types.{FunctionType}
use Rattle.wl_types.specs.Types.{IsFull}
use Rattle.wl_bind.specs.Parts.{AreIndicesOf}
use Rattle.wl_bind.specs.steps.Merging.{is_marked, merged}
use Rattle.wl_bind.specs.OutputTypes.{types_if, local_types}
use Rattle.wl_bind.proofs.MergeLaws.{live_ones}
use Rattle.wl_bind.proofs.merging.merge_object.Goals as goal

-- the types that are marked are the live ones
ones : (c : goal.After-drop-marks)
    → types_if (is_marked c.deref.result.now) 0 c.types.result.now ≡ local_types c.args.input.now c.args.object c.args.file.now
ones c =
    live_ones c.args.input.now c.args.object c.args.file.now c.types.result.now c.deref.result.now c.in_ok-marks.marks.items
    c.types.ensures c.deref.ensures.value c.in_ok-marks.ensures

pub returns-clause-types : goal.returns-clause-types
returns-clause-types c =
    subst (λ (es : List (Option FunctionType)). OnOk c.merge_marked.result (c.merge_marked.new.merger ≡ merged c.args.merger.now es))
    (ones c) c.merge_marked.ensures.types

pub returns-clause-indices : goal.returns-clause-indices
returns-clause-indices c =
    subst (λ (es : List (Option FunctionType)). IfOk c.merge_marked.result (AreIndicesOf c.merge_marked.new.merger es))
    (ones c) c.merge_marked.ensures.indices

pub returns-clause-err : goal.returns-clause-err
returns-clause-err c =
    subst (λ (es : List (Option FunctionType)). IfErr c.merge_marked.result (IsFull (merged c.args.merger.now es)))
    (ones c) c.merge_marked.ensures.err

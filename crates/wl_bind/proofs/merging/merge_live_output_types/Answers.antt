use Rattle.std.proofs.Common.{◌≡◌, [], refl}
use Rattle.std.proofs.lemmas.Result.{err_from_is_err_and}
use Rattle.indexmap.specs.IndexSet.{insert_all}
use Rattle.wl_module.specs.Types.{same_type}
use Rattle.wl_bind.specs.OutputTypes.{made_types}
use Rattle.wl_bind.proofs.MergeLaws.{output_is, first_full, second_full, rows_of_output}
use Rattle.wl_bind.proofs.merging.merge_live_output_types.Goals as goal

pub returns-in_err-merged-clause-err : goal.returns-in_err-merged-clause-err
returns-in_err-merged-clause-err c =
    let p = err_from_is_err_and c.from_residual.result c.from_residual.ensures.1 in
    rw (p.1, p.2) (first_full c.args.input.now c.in_err-merged.field-0.0 c.in_err-merged.ensures.err)

pub returns-in_err-merge_made-clause-err : goal.returns-in_err-merge_made-clause-err
returns-in_err-merge_made-clause-err c =
    let input = c.args.input.now in
    let residual = c.from_residual-in_err-merge_made in
    let p = err_from_is_err_and residual.result residual.ensures.1 in
    rw (p.1, p.2) (second_full input c.in_ok-merged.merged.types c.in_err-merge_made.field-0.0
    c.in_ok-merged.ensures.types
    (c.in_err-merge_made.ensures.err input c.requires.indices c.requires.stubs))

pub returns-clause-ok : goal.returns-clause-ok
returns-clause-ok c =
    let input = c.args.input.now in
    let first = c.in_ok-merged.merged.types in
    let second = c.merge_made.new.merger in
    let second-is : second ≡ insert_all same_type first (made_types input) =
    c.in_ok-merge_made.ensures.types input c.requires.indices c.requires.stubs in
    let all = output_is input [] first second refl c.in_ok-merged.ensures.types second-is in
    record {
      types = all;
      indices = rows_of_output input first second c.in_ok-merged.merged.indices second-is all
          c.in_ok-merged.ensures.indices;
    }

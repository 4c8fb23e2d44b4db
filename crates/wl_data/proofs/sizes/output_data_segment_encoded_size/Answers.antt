use Rattle.std.proofs.Common.{◌+◌, refl, arith}
use Rattle.wl_data.proofs.SizeLaws.{size_is}
use Rattle.wl_data.proofs.sizes.output_data_segment_encoded_size.Goals as goal

pub returns-then-size-ge-SIZE_LIMIT-clause-err : goal.returns-then-size-ge-SIZE_LIMIT-clause-err
returns-then-size-ge-SIZE_LIMIT-clause-err c =
    let u = c.uleb_len-count.ensures in
    let t = c.target_size.ensures.value in
    (refl, (_, size_is _ c.args.data_len c.target_size.result c.uleb_len-count.result (c.target_size.result + c.uleb_len-count.result + c.args.data_len) t.0 u.0 t.1 (rw c.from.ensures at u.1) t.2 u.2 refl, omega arith))

pub returns-clause-ok : goal.returns-clause-ok
returns-clause-ok c =
    let u = c.uleb_len-count.ensures in
    let t = c.target_size.ensures.value in
    size_is _ c.args.data_len c.target_size.result c.uleb_len-count.result (c.target_size.result + c.uleb_len-count.result + c.from-2.result) t.0 u.0 t.1 (rw c.from.ensures at u.1) t.2 u.2 (omega arith)

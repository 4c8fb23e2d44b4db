use Rattle.std.proofs.Common.{refl, inr}
use Rattle.wl_bytes.proofs.ListLaws.{whole_alternatives}
use Rattle.wl_ops.specs.Decoding.{AreTaken, DecodeFault, decoded}
use Rattle.wl_ops.proofs.DecodeLaws.{decoded_reading}
use Rattle.wl_ops.proofs.LieLaws.{numbers_lie}
use Rattle.wl_ops.proofs.ToldLaws.{one_list}
use Rattle.wl_ops.proofs.laws.numbers_are_one.Goals as goal

pub returns : goal.returns
returns c =
    let either = whole_alternatives AreTaken DecodeFault decoded decoded_reading in
    record {
      one = λ body ns ks h g. one_list body ns ks h g;
      within = λ body ns h. numbers_lie ns body h;
      none = λ body e f. inr (λ ops taken. either.no_fault body ops e taken f.1, refl);
    }

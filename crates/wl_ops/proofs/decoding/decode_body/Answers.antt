use Rattle.wl_bytes.proofs.ListLaws.{reads_whole}
use Rattle.wl_ops.specs.Decoding.{AreTaken, DecodeFault, decoded}
use Rattle.wl_ops.proofs.CountLaws.{items_few}
use Rattle.wl_ops.proofs.DecodeLaws.{decoded_reading, few_of}
use Rattle.wl_ops.proofs.decoding.decode_body.Goals as goal

pub returns-clause-reads : goal.returns-clause-reads
returns-clause-reads c = reads_whole (λ v. v.items) AreTaken DecodeFault decoded decoded_reading c.args.body.now c.decode.result c.decode.ensures

pub returns-clause-few : goal.returns-clause-few
returns-clause-few c = few_of (λ v. v.items) c.args.body.now c.decode.result items_few c.decode.ensures

use Rattle.std.proofs.Common.{◌≡◌, Ok, refl}
use Rattle.wl_bytes.specs.Lists.{word_at}
use Rattle.wl_bytes.proofs.CheckLaws.{name_placed}
use Rattle.wl_bytes.proofs.words.read_placed_name.Goals as goal

pub returns : goal.returns
returns c =
    let word : word_at c.args.reader.now ≡ Ok (c.in_ok-name.name.now, c.read_name.new.self) = rw c.in_ok-name.ensures.exact refl in
    rw c.position.ensures.value (name_placed c.args.reader.now c.read_name.new.self c.in_ok-name.name.now word)

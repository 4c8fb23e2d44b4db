use Rattle.std.proofs.Common.{◌≡◌, ◌≢◌, ℕ, ◌<◌, ◌%◌, ◌/◌, ◌∙◌, ap, true, get_or, set, length, arith}
use Rattle.std.specs.Int.{bit_at}
use Rattle.std.proofs.lemmas.List.{get_or_read}
use Rattle.wl_reach.proofs.MarkLaws.{length-unpacked, word_within, unpacked-set}
use Rattle.wl_reach.proofs.marks.Marks.set.Goals as goal

pub index-requires : goal.index-requires
index-requires c =
    let lt : c.args.place < c.self.inside.len = rw (← c.self.view_is, length-unpacked c.self.inside.len c.self.inside.words.items) at c.requires in
    omega (arith, word_within c.self.inside.len (length c.self.inside.words.items) c.args.place c.self.invariant lt)

pub index_mut-requires : goal.index_mut-requires
index_mut-requires c =
    let lt : c.args.place < c.self.inside.len = rw (← c.self.view_is, length-unpacked c.self.inside.len c.self.inside.words.items) at c.requires in
    omega (arith, word_within c.self.inside.len (length c.self.inside.words.items) c.args.place c.self.invariant lt)

pub returns : goal.returns
returns c =
    let lt : c.args.place < c.self.inside.len = rw (← c.self.view_is, length-unpacked c.self.inside.len c.self.inside.words.items) at c.requires in
    let within : c.args.place / 64 < length c.self.inside.words.items = word_within c.self.inside.len (length c.self.inside.words.items) c.args.place c.self.invariant lt in
    let word : c.index.result.now ≡ get_or c.self.inside.words.items (c.args.place / 64) 0 = get_or_read c.self.inside.words.items (c.args.place / 64) c.index.result.now within c.index.ensures 0 in
    let others : (j : ℕ) → j ≢ c.args.place % 64 → bit_at c.with_bit.result j ≡ bit_at (get_or c.self.inside.words.items (c.args.place / 64) 0) j = λ j apart. c.with_bit.ensures.others j apart ∙ ap (λ w. bit_at w j) word in
    unpacked-set c.self.inside.len c.self.inside.words.items c.args.place c.with_bit.result lt c.self.invariant c.with_bit.ensures.set others
    ∙ ap (λ l. set l c.args.place true) c.self.view_is

use Rattle.std.proofs.Common.{◌≡◌, ◌<◌, ◌%◌, ◌/◌, ◌==◌, ◌∙◌, sym, ap, false, get_or, length, arith}
use Rattle.std.specs.Int.{bit_at}
use Rattle.std.proofs.lemmas.List.{get_or_read}
use Rattle.wl_reach.proofs.MarkLaws.{length-unpacked, word_within, get_or-unpacked}
use Rattle.wl_reach.proofs.marks.Marks.get.Goals as goal

pub index-requires : goal.index-requires
index-requires c =
    let lt : c.args.place < c.self.inside.len = rw (← c.self.view_is, length-unpacked c.self.inside.len c.self.inside.words.items) at c.requires in
    omega (arith, word_within c.self.inside.len (length c.self.inside.words.items) c.args.place c.self.invariant lt)

pub returns : goal.returns
returns c =
    let lt : c.args.place < c.self.inside.len = rw (← c.self.view_is, length-unpacked c.self.inside.len c.self.inside.words.items) at c.requires in
    let within : c.args.place / 64 < length c.self.inside.words.items = word_within c.self.inside.len (length c.self.inside.words.items) c.args.place c.self.invariant lt in
    let word : c.index.result.now ≡ get_or c.self.inside.words.items (c.args.place / 64) 0 = get_or_read c.self.inside.words.items (c.args.place / 64) c.index.result.now within c.index.ensures 0 in
    c.has_bit.ensures
    ∙ (ap (λ w. bit_at w (c.args.place % 64) == 1) word
    ∙ (sym (get_or-unpacked c.self.inside.len c.self.inside.words.items c.args.place false lt)
    ∙ ap (λ l. get_or l c.args.place false) c.self.view_is))

use Rattle.std.proofs.Common.{◌≡◌, ◌+◌, ◌*◌, ◌<◌, ◌%◌, ◌/◌, ◌^◌, ◌∙◌, ap, subst, get_or, length, take, count_ones, List, Bool, arith}
use Rattle.std.proofs.lemmas.List.{get_or_read}
use Rattle.std.proofs.lemmas.Nat.{div-add-mod'}
use Rattle.wl_reach.specs.Marks.{count_set, unpacked}
use Rattle.wl_reach.proofs.RankLaws.{count_in}
use Rattle.wl_reach.proofs.MarkLaws.{length-unpacked, word_within}
use Rattle.wl_reach.proofs.marks.Marks.count_in_word.Goals as goal

pub index-requires : goal.index-requires
index-requires c =
    let lt : c.args.place < c.self.inside.len = rw (← c.self.view_is, length-unpacked c.self.inside.len c.self.inside.words.items) at c.requires in
    omega (arith, word_within c.self.inside.len (length c.self.inside.words.items) c.args.place c.self.invariant lt)

pub returns : goal.returns
returns c =
    let lt : c.args.place < c.self.inside.len = rw (← c.self.view_is, length-unpacked c.self.inside.len c.self.inside.words.items) at c.requires in
    let within : c.args.place / 64 < length c.self.inside.words.items = word_within c.self.inside.len (length c.self.inside.words.items) c.args.place c.self.invariant lt in
    let word : c.index.result.now ≡ get_or c.self.inside.words.items (c.args.place / 64) 0 = get_or_read c.self.inside.words.items (c.args.place / 64) c.index.result.now within c.index.ensures 0 in
    let whole : c.args.place / 64 * 64 + c.args.place % 64 ≡ c.args.place = div-add-mod' c.args.place 64 in
    let count = count_in c.self.inside.len c.self.inside.words.items (c.args.place / 64) (c.args.place % 64) (omega arith) (omega arith) in
    let ones : c.ones_below.result ≡ count_ones (get_or c.self.inside.words.items (c.args.place / 64) 0 % 2 ^ (c.args.place % 64)) = c.ones_below.ensures ∙ ap (λ x. count_ones (x % 2 ^ (c.args.place % 64))) word in
    subst (λ (m : List Bool). count_set (take (c.args.place / 64 * 64) m) + c.ones_below.result ≡ count_set (take c.args.place m)) c.self.view_is
    (ap (λ r. count_set (take (c.args.place / 64 * 64) (unpacked c.self.inside.len c.self.inside.words.items)) + r) ones
    ∙ (count ∙ ap (λ p. count_set (take p (unpacked c.self.inside.len c.self.inside.words.items))) whole))

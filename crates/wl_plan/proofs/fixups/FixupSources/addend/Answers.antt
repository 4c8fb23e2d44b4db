use Rattle.std.proofs.Common.{arith, w32}
use Rattle.std.specs.Prelude.{FitsSigned}
use Rattle.std.proofs.lemmas.Int.{ints}
use Rattle.wl_linking.specs.Fitting.{IsWhole}
use Rattle.wl_lists.proofs.Places.{all_at}
use Rattle.wl_plan.proofs.FieldLaws.{among_those, object_of}
use Rattle.wl_plan.proofs.fixups.FixupSources.addend.Goals as goal

pub overflow_cast-result : goal.overflow_cast-result
overflow_cast-result c =
    let input = c.args.self.now.book.now.input.now in
    let r = c.args.relocated.now in
    let from = object_of input r c.requires.kept in
    let whole = all_at IsWhole input.link.objects r.object from.object
    c.requires.sources.settled.whole from.here in
    let fits : FitsSigned w32 r.relocation.addend =
    c.addends_are_words.ensures from.object r.relocation whole (among_those input r from) in
    omega (arith, ints)

pub returns : goal.returns
returns c =
    let input = c.args.self.now.book.now.input.now in
    let r = c.args.relocated.now in
    let from = object_of input r c.requires.kept in
    let whole = all_at IsWhole input.link.objects r.object from.object
    c.requires.sources.settled.whole from.here in
    let fits : FitsSigned w32 r.relocation.addend =
    c.addends_are_words.ensures from.object r.relocation whole (among_those input r from) in
    omega (arith, ints)

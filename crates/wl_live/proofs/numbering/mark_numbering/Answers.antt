use Rattle.std.proofs.Common.{◌≡◌, ◌∙◌, ap, sym, drop, false, List, []}
use Rattle.std.proofs.lemmas.List.{drop_all}
use Rattle.wl_live.specs.Facts.{Facts}
use Rattle.wl_live.specs.Numbering.{numbering_from, numbering_units, with_units}
use Rattle.wl_live.specs.declared.object_facts.SegmentUse.{SegmentUse}
use Rattle.wl_live.proofs.NumberingLaws.{numbering_more, numbering_is}
use Rattle.wl_live.proofs.numbering.mark_numbering.Goals as goal

pub loop-object-preserved : goal.loop-object-preserved
loop-object-preserved c =
    let ns = c.args.numbers.now in
    let k = c.loop-object.object in
    let is = c.mark_object.ensures.marks ∙ ap (λ (l : List SegmentUse). with_units ns c.loop-object.marks (numbering_units k l)) c.segments.ensures in
    record {
      each = c.mark_object.ensures.each ∙ c.loop-object.invariant.each;
      marks =
          numbering_more ns c.loop-object.marks c.mark_object.new.marks c.args.facts.now k c.index-facts-object.result c.loop-object-test.true (sym c.index-facts-object.is) is
          ∙ c.loop-object.invariant.marks;
    }

pub returns : goal.returns
returns c =
    let ns = c.args.numbers.now in
    let facts = c.args.facts.now in
    let k = c.loop-object.object in
    let none : drop k facts ≡ [] = drop_all k facts c.loop-object-test.false in
    let done : with_units ns c.loop-object.marks (numbering_from k (drop k facts)) ≡ c.loop-object.marks =
    ap (λ (l : List Facts). with_units ns c.loop-object.marks (numbering_from k l)) none in
    numbering_is c.numbers_are_one.ensures.one c.args.symbols.now ns facts c.loop-object.marks c.requires (sym done ∙ c.loop-object.invariant.marks)

use Rattle.std.proofs.Common.{◌≡◌, ◌∙◌, true, List, sym, ap, subst}
use Rattle.wl_linking.specs.Object.{Object}
use Rattle.wl_symbols.specs.Link.{Link}
use Rattle.wl_symbols.specs.Live.{Live}
use Rattle.wl_symbols.specs.Units.{units_of}
use Rattle.wl_live.specs.Facts.{AreAllFacts}
use Rattle.wl_tests.proofs.MarkLaws.{marks_live, edges_within, steps_found}
use Rattle.wl_tests.proofs.search_steps.steps_to_live.Goals as goal

pub count_followed-followed-requires : goal.count_followed-followed-requires
count_followed-followed-requires c =
    let link : Link = c.args.symbols.now in
    let live : Live = c.args.live.now in
    let units : units_of c.args.files.now ≡ units_of link.objects = sym (ap (λ (l : Link). units_of l.objects) c.requires.fit) in
    let marks : c.deref.result.now ≡ live.marks = c.deref.ensures.value ∙ (c.in_ok-marks.ensures ∙ marks_live link live (units_of c.args.files.now) c.requires.live units) in
    edges_within link live c.in_ok-graph.graph.edges c.edges.result.now c.deref.result.now c.requires.live marks c.edges.ensures c.in_ok-graph.ensures.graph.from

pub returns : goal.returns
returns c = λ facts all.
    let link : Link = c.args.symbols.now in
    let live : Live = c.args.live.now in
    let units : units_of c.args.files.now ≡ units_of link.objects = sym (ap (λ (l : Link). units_of l.objects) c.requires.fit) in
    let told : c.in_ok-marks.marks.items ≡ live.marks = c.in_ok-marks.ensures ∙ marks_live link live (units_of c.args.files.now) c.requires.live units in
    let on : link.args.gc_sections ≡ true = ap (λ (l : Link). l.args.gc_sections) c.requires.fit ∙ c.if-not-args.false in
    let same : AreAllFacts link.objects facts = subst (λ (objects : List Object). AreAllFacts objects facts) (sym (ap (λ (l : Link). l.objects) c.requires.fit)) all in
    steps_found link live facts c.deref.result.now c.deref-2.result.now c.edges.result.now c.count_marks.result c.count_followed-followed.result c.in_ok-steps.steps on c.requires.live
    (c.deref.ensures.value ∙ told) (c.deref-2.ensures.value ∙ told) (c.edges.ensures ∙ c.in_ok-graph.ensures.table facts same)
    c.count_marks.ensures c.count_followed-followed.ensures c.in_ok-steps.ensures

use Rattle.std.proofs.Common.{◌≡◌, ◌∙◌, ap}
use Rattle.wl_symbols.specs.Link.{Link, link_of}
use Rattle.wl_symbols.specs.Input.{Input}
use Rattle.wl_plan.specs.Faults.{input_of}
use Rattle.wl_plan.proofs.LinkLaws.{features_by, files_err, files_ok, sound_by}
use Rattle.wl_plan.proofs.link.plan_known.Goals as goal

pub plan_kept-requires-clause-features : goal.plan_kept-requires-clause-features
plan_kept-requires-clause-features c =
    let link : Link = link_of c.args.files.now c.args.args.now in
    let live = c.args.known.live in
    let input : Input = c.new-input.result in
    let same : input ≡ input_of link live =
    c.new-input.ensures ∙ ap (λ (l : Link). input_of l live) c.requires.fit in
    features_by link live input c.args.known.features same c.requires.known.features

pub plan_kept-requires-clause-sound : goal.plan_kept-requires-clause-sound
plan_kept-requires-clause-sound c =
    let link : Link = link_of c.args.files.now c.args.args.now in
    let live = c.args.known.live in
    let input : Input = c.new-input.result in
    let same : input ≡ input_of link live =
    c.new-input.ensures ∙ ap (λ (l : Link). input_of l live) c.requires.fit in
    sound_by link live input same c.objects_are_whole.ensures c.requires.known.live
    c.requires.known.clear.kept

pub returns-clause-ok : goal.returns-clause-ok
returns-clause-ok c =
    let link : Link = link_of c.args.files.now c.args.args.now in
    let live = c.args.known.live in
    let input : Input = c.new-input.result in
    let same : input ≡ input_of link live =
    c.new-input.ensures ∙ ap (λ (l : Link). input_of l live) c.requires.fit in
    files_ok c.live_sets_are_one.ensures.one link live input c.plan_kept.result same
    c.requires.known.clear c.requires.known.live c.plan_kept.ensures.clear c.plan_kept.ensures.ok

pub returns-clause-err : goal.returns-clause-err
returns-clause-err c =
    let link : Link = link_of c.args.files.now c.args.args.now in
    let live = c.args.known.live in
    let input : Input = c.new-input.result in
    let same : input ≡ input_of link live =
    c.new-input.ensures ∙ ap (λ (l : Link). input_of l live) c.requires.fit in
    files_err link live input c.plan_kept.result same c.requires.known.clear
    c.requires.known.live c.plan_kept.ensures.err

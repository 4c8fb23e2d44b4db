use Rattle.std.proofs.Common.{◌≡◌, ◌∙◌, ap, arith, true, false, rules, replicate, ℕ}
use Rattle.wl_live.proofs.ReferenceLaws.{live_all, live_reached}
use Rattle.wl_live.proofs.marking.mark_units.Goals as goal

pub returns-then-not-args-clause-marks : goal.returns-then-not-args-clause-marks
returns-then-not-args-clause-marks g c =
    let off : c.args.args.now.gc_sections ≡ false = search rules in
    λ numbering are.
    live_all c.args.symbols.now c.args.numbers.now c.in_ok-marks.marks numbering c.requires.units (rw c.requires.args at off) (c.in_ok-marks.ensures ∙ ap (λ (n : ℕ). replicate n true) c.total.ensures) are

pub returns-clause-marks : goal.returns-clause-marks
returns-clause-marks g c =
    let on : c.args.args.now.gc_sections ≡ true = search rules in
    λ numbering are.
    live_reached c.numbers_are_one.ensures.one c.args.symbols.now c.args.numbers.now c.args.facts.now c.in_ok-marks-2.marks numbering c.requires.units c.requires.facts (rw c.requires.args at on) c.in_ok-marks-2.ensures.each c.in_ok-marks-2.ensures.marks are

pub returns-then-not-args-clause-steps : goal.returns-then-not-args-clause-steps
returns-then-not-args-clause-steps g c =
    let off : c.args.args.now.gc_sections ≡ false = search rules in
    let here : c.args.symbols.now.args.gc_sections ≡ false = rw c.requires.args at off in
    λ numbering. rw here (omega arith)

pub returns-clause-steps : goal.returns-clause-steps
returns-clause-steps g c =
    let on : c.args.args.now.gc_sections ≡ true = search rules in
    let here : c.args.symbols.now.args.gc_sections ≡ true = rw c.requires.args at on in
    λ numbering. rw here (c.in_ok-marks-2.ensures.steps numbering)

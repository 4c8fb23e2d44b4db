use Rattle.std.proofs.Common.{◌≡◌, ◌∙◌, ℕ, sym, ap, length, List, Bool, Vec, Global, subst}
use Rattle.std.proofs.lemmas.Result.{IfOk-weaker}
use Rattle.wl_linking.specs.Object.{Object}
use Rattle.wl_symbols.specs.Units.{units_of}
use Rattle.wl_symbols.specs.declared.units.LinkUnit.{LinkUnit}
use Rattle.wl_symbols.specs.declared.units.UnitCounts.{UnitCounts}
use Rattle.wl_why.specs.Text.{drop_lines, certificate_text}
use Rattle.wl_why.specs.Units.{all_units}
use Rattle.wl_why.specs.declared.certificate.Step.{Step}
use Rattle.wl_why.proofs.Numbering.{Numbering}
use Rattle.wl_why.proofs.TextLaws.{listed_marks, length-listed_marks, dropped_are, text_is}
use Rattle.wl_why.proofs.text.certificate_text.Goals as goal

pub push_drops-requires : goal.push_drops-requires
push_drops-requires c =
    let ns : List UnitCounts = units_of c.args.symbols.now.objects in
    let steps : List Step = c.as_slice-steps.result.now in
    let numbers : c.in_ok-numbers.numbers ≡ ns = c.in_ok-numbers.ensures ∙ ap units_of c.files.ensures in
    let marks : c.in_ok-marks.marks ≡ listed_marks ns steps = c.in_ok-marks.ensures ∙ ap (λ (n : List UnitCounts). listed_marks n steps) numbers in
    let units : c.deref.result.now ≡ all_units ns = c.deref.ensures.value ∙ (c.in_ok-units.ensures ∙ ap (λ (o : List Object). all_units (units_of o)) c.files-2.ensures) in
    ap length marks ∙ (length-listed_marks ns steps ∙ ap length (sym units))

pub returns : goal.returns
returns c =
    let numbering : Numbering = record { below = c.units_are_numbered.ensures.below; own = c.units_are_numbered.ensures.own; each = c.units_are_numbered.ensures.each; roots = c.units_are_numbered.ensures.roots } in
    let ns : List UnitCounts = units_of c.args.symbols.now.objects in
    let steps : List Step = c.as_slice-steps.result.now in
    let numbers : c.in_ok-numbers.numbers ≡ ns = c.in_ok-numbers.ensures ∙ ap units_of c.files.ensures in
    let marks : c.in_ok-marks.marks ≡ listed_marks ns steps = c.in_ok-marks.ensures ∙ ap (λ (n : List UnitCounts). listed_marks n steps) numbers in
    let units : c.deref.result.now ≡ all_units ns = c.deref.ensures.value ∙ (c.in_ok-units.ensures ∙ ap (λ (o : List Object). all_units (units_of o)) c.files-2.ensures) in
    let drops = ap (λ (us : List LinkUnit). drop_lines us c.in_ok-marks.marks) units ∙ (ap (λ (m : List Bool). drop_lines (all_units ns) m) marks ∙ dropped_are numbering ns steps) in
    IfOk-weaker {X = Vec ℕ Global} c.into_text.result (λ v. v.items ≡ c.push_drops.new.page) (λ v. v.items ≡ certificate_text c.args.symbols.now c.args.certificate.now)
    (λ v is.
    subst (λ (s : List Step). v.items ≡ certificate_text c.args.symbols.now s) c.as_slice-steps.ensures
    (text_is c.args.symbols.now steps _ _ _ _ _ (ap (λ a. a.gc_sections) c.args-2.ensures) c.new-page.ensures c.in_ok-push_steps.ensures drops (is ∙ c.in_ok-push_drops.ensures)))
    c.into_text.ensures

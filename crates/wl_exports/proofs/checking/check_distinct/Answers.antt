use Rattle.std.proofs.Common.{◌≡◌, ◌∙◌, true, false, not, List, ℕ, [], take, ap, sym, subst}
use Rattle.std.proofs.lemmas.Bool.{not-false, not-true}
use Rattle.wl_linking.specs.declared.error.LinkError.{LinkError}
use Rattle.wl_linking.specs.declared.error.LinkError.TheVariants.{DuplicateExport}
use Rattle.wl_module.specs.Exports.{Exported}
use Rattle.wl_exports.specs.steps.Checking.{IsRepeat}
use Rattle.wl_exports.specs.steps.Names.{has_export}
use Rattle.wl_exports.proofs.NameLaws.{holds_next}
use Rattle.wl_exports.proofs.FaultLaws.{distinct_next, distinct_all, repeat_at}
use Rattle.wl_exports.proofs.checking.check_distinct.Goals as goal

pub returns-then-not-is_free : goal.returns-then-not-is_free
returns-then-not-is_free c =
    let xs = c.args.exports.now in
    let i = c.loop-export.export-index in
    let x = c.export-item.result in
    let view = ap (λ (y : Exported). y.name) c.export.view_is in
    let is : x.name ≡ c.export.inside.name.now = cc in
    let free : not (has_export x.name (take i xs)) ≡ false =
    ap (λ (n : List ℕ). not (has_export n (take i xs))) is
    ∙ (sym (ap not (c.loop-export.invariant.names c.export.inside.name.now))
    ∙ (sym c.in_ok-is_free.ensures.free ∙ c.if-not-is_free.true)) in
    let e : c.in_ok-duplicate.field-0 ≡ DuplicateExport x.name =
    c.in_ok-duplicate.ensures ∙ ap (λ (n : List ℕ). DuplicateExport n) (sym is) in
    subst (λ (d : LinkError). IsRepeat xs d) (sym e)
    (repeat_at xs i x c.loop-export-test.true c.export-item.is (not-false (has_export x.name (take i xs)) free))

pub loop-export-preserved : goal.loop-export-preserved
loop-export-preserved c =
    let xs = c.args.exports.now in
    let i = c.loop-export.export-index in
    let x = c.export-item.result in
    let view = ap (λ (y : Exported). y.name) c.export.view_is in
    let is : x.name ≡ c.export.inside.name.now = cc in
    let free : not (has_export x.name (take i xs)) ≡ true =
    ap (λ (n : List ℕ). not (has_export n (take i xs))) is
    ∙ (sym (ap not (c.loop-export.invariant.names c.export.inside.name.now))
    ∙ (sym c.in_ok-is_free.ensures.free ∙ c.if-not-is_free.false)) in
    record {
      names = holds_next c.loop-export.taken c.take_name.new.taken [] xs i x c.export.inside.name.now
          c.loop-export-test.true c.export-item.is is c.in_ok-is_free.ensures.names c.loop-export.invariant.names;
      distinct = distinct_next xs i x c.loop-export-test.true c.export-item.is
          (not-true (has_export x.name (take i xs)) free) c.loop-export.invariant.distinct;
    }

pub returns : goal.returns
returns c =
    distinct_all c.args.exports.now c.loop-export.export-index c.loop-export-test.false
    c.loop-export.invariant.distinct

use Rattle.std.proofs.Common.{◌≡◌, ◌∙◌, sym, ap, not, true, false, Some}
use Rattle.std.proofs.lemmas.Bool.{not-true}
use Rattle.wl_custom.specs.Symbols.{Symbol, is_undefined, is_weak, is_function}
use Rattle.wl_symbols.specs.Entries.{symbol_in}
use Rattle.wl_bind.proofs.MismatchLaws.{no_function, own_fits}
use Rattle.wl_bind.proofs.signatures.TypeCheck.leads_to_other.Goals as goal
use Rattle.wl_bind.proofs.signatures.TypeCheck.leads_to_other.Goals.{then-not-is_function-via-then-not-is_function, then-not-is_function-via-else-not-is_function+then-not-is_weak, then-is_defined, else-is_defined}

never : {X : Type 0} → false ≡ true → X
never e = absurd cc

pub returns-then-not-is_function : goal.returns-then-not-is_function
returns-then-not-is_function c =
    let input = c.args.self.now.input.now in
    let object = c.args.object in
    let number = c.args.number in
    let s = c.args.symbol.now in
    let is : symbol_in input.link.objects object number ≡ Some s = c.requires in
    elim c.then-not-is_function.branch [
      | then-not-is_function-via-then-not-is_function w ↦
          sym (no_function input object number s is
          (ap (λ (t : Symbol). is_function t.kind) (sym c.symbol.view_is) ∙ (sym c.is_function.ensures ∙ w.if-not-is_function.true)))
      | then-not-is_function-via-else-not-is_function+then-not-is_weak w ↦ elim w.if-is_defined.branch [
        | then-is_defined w' ↦
            sym (own_fits input object number s is
            (not-true (is_undefined s) (sym w.is_defined.ensures ∙ w'.if-is_defined.true))
            (not-true (is_weak s) (ap not (sym w'.is_weak.ensures) ∙ (sym w'.value-is ∙ w.if-not-is_weak.true))))
        | else-is_defined w' ↦ never (sym w'.if-is_defined.false ∙ (sym w'.value-is ∙ w.if-not-is_weak.true))
      ]
    ]

use Rattle.std.proofs.Common.{◌≡◌, ◌∙◌, ℕ, List, Option, ◌∷◌, [], ◌++◌, ap, rules, sym, subst, arith}
use Rattle.std.specs.List.{AllByRecursion}
use Rattle.std.proofs.lemmas.List.FromFn.{map-range_with_len_more}
use Rattle.wl_linking.specs.Fitting.{IsWhole}
use Rattle.wl_linking.specs.Object.{Object}
use Rattle.wl_bind.specs.FunctionSpace.{function_space}
use Rattle.wl_bind.specs.IndexMaps.{symbol_functions}
use Rattle.wl_bind.specs.Parts.{ArePlacesOf}
use Rattle.wl_bind.specs.steps.Redirects.{redirect_of, redirects_of}
use Rattle.wl_bind.proofs.RedirectLaws.{IsGiven, symbol_places}
use Rattle.wl_bind.proofs.redirects.function_redirects.Goals as goal

pub loop-number-preserved : goal.loop-number-preserved
loop-number-preserved c =
    let f : ℕ → Option ℕ = redirect_of c.args.input.now.link c.args.function_rows.now c.args.object in
    c.in_ok-push.ensures.ok
    ∙ (ap (λ (x : Option ℕ). c.loop-number.list ++ x ∷ []) c.redirect.ensures
    ∙ (ap (λ (list : List (Option ℕ)). list ++ f c.loop-number.number ∷ []) c.loop-number.invariant
    ∙ sym (map-range_with_len_more f 0 c.loop-number.number c.loop-number.number (omega arith))))

pub returns : goal.returns
returns c =
    let given : IsGiven c.args.input.now c.args.function_rows.now = record {
      rows_are = c.requires.rows;
      room = c.requires.room;
      live = c.live.ensures.kept;
      whole = subst (λ (os : List Object). AllByRecursion IsWhole os)
          (c.as_slice.ensures.objects ∙ c.files.ensures.objects) c.as_slice.ensures.whole;
      laws = c.link_laws.ensures;
    } in
    let all : c.loop-number.list ≡ redirects_of c.args.input.now.link c.args.function_rows.now c.args.object c.args.file.now = search rules in
    subst (λ (list : List (Option ℕ)). ArePlacesOf (function_space c.args.input.now)
    (symbol_functions c.args.input.now c.args.object c.args.file.now) list) (sym all)
    (symbol_places c.args.input.now c.args.function_rows.now given c.args.object c.args.file.now)

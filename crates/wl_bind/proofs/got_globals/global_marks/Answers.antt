use Rattle.std.proofs.Common.{◌≡◌, ◌∙◌, ◌∷◌, [], ℕ, List, false, length, map, ap, sym, append-nil, append_assoc, rules}
use Rattle.std.specs.List.{list_any, range_with_len}
use Rattle.wl_custom.specs.Symbols.{Symbol}
use Rattle.wl_bind.specs.IndexMaps.{is_global_of}
use Rattle.wl_symbols.specs.Relocations.{object_relocations}
use Rattle.wl_symbols.specs.declared.relocated.Relocated.{Relocated}
use Rattle.wl_bind.proofs.GotGlobalLaws.{relocation_more}
use Rattle.wl_bind.proofs.MarkLaws.{none_marked}
use Rattle.wl_bind.proofs.got_globals.global_marks.Goals as goal

pub loop-relocated-init : goal.loop-relocated-init
loop-relocated-init c = (
  search rules,
  c.in_ok-marks.ensures.items_if_clones_equal (λ y e. e)
      ∙ (none_marked 0 (length c.symbols.result.now)
      ∙ ap (λ (ss : List Symbol). map (λ (k : ℕ). false) (range_with_len 0 (length ss)))
      c.symbols.ensures),
)

pub loop-relocated-preserved : goal.loop-relocated-preserved
loop-relocated-preserved c =
    let at = c.loop-relocated in
    let r = c.in-Some.relocated in (
      append_assoc at.yielded (r ∷ []) _ ∙ rw (← c.in-Some.ensures.steps) at.invariant.0,
      relocation_more (length c.args.file.now.symbols) at.yielded r at.marks.items
          c.mark_symbol.new.marks.items c.mark_symbol.ensures at.invariant.1,
    )

pub returns : goal.returns
returns c =
    let at = c.loop-relocated in
    let all : at.yielded ≡ object_relocations c.args.input.now.live c.args.object c.args.file.now =
    sym (append-nil at.yielded) ∙ rw c.in-None.ensures.steps.0 at at.invariant.0 in
    at.invariant.1
    ∙ ap (λ (rs : List Relocated). map (λ k. list_any (is_global_of k) rs)
    (range_with_len 0 (length c.args.file.now.symbols))) all

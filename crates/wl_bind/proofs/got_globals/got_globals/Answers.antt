use Rattle.std.proofs.Common.{◌≡◌, ◌∙◌, ℕ, Bool, List, None, Option, ap, arith, length, map, replicate, rules, subst, sym}
use Rattle.std.specs.List.{range_with_len}
use Rattle.std.proofs.lemmas.List.FromFn.{length-map-range_with_len}
use Rattle.wl_custom.specs.Symbols.{Symbol}
use Rattle.wl_bind.specs.GlobalSpace.{global_space}
use Rattle.wl_bind.specs.steps.GotGlobals.{mem_global_if, func_global_if}
use Rattle.wl_bind.specs.IndexMaps.{has_global, got_mem_globals, got_func_globals}
use Rattle.wl_bind.specs.Parts.{ArePlacesOf}
use Rattle.wl_bind.specs.Scan.{Scanned}
use Rattle.wl_bind.proofs.GotGlobalLaws.{symbol_there, symbol_more, mem_none, func_none}
use Rattle.wl_bind.proofs.got_globals.got_globals.Goals as goal

pub returns-then-is_empty-2-clause-mem : goal.returns-then-is_empty-2-clause-mem
returns-then-is_empty-2-clause-mem c =
    let input = c.args.numbering.now.input.now in
    let object = c.args.object in
    let o = c.args.file.now in
    subst (λ (gs : List (Option ℕ)). ArePlacesOf (global_space input) (got_mem_globals input object o) gs)
    (sym (c.in_ok-no_globals.ensures ∙ ap (λ (ss : List Symbol). replicate (length ss) None) c.symbols-count.ensures))
    (mem_none input object o c.scan.inside.got_mem
    (ap (λ (s : Scanned). s.got_mem) (c.scan.view_is ∙ c.requires.numbering.scan))
    (sym c.is_empty.ensures ∙ c.if-is_empty.true))

pub returns-then-is_empty-2-clause-func : goal.returns-then-is_empty-2-clause-func
returns-then-is_empty-2-clause-func c =
    let input = c.args.numbering.now.input.now in
    let object = c.args.object in
    let o = c.args.file.now in
    subst (λ (gs : List (Option ℕ)). ArePlacesOf (global_space input) (got_func_globals input object o) gs)
    (sym (c.in_ok-no_globals-2.ensures ∙ ap (λ (ss : List Symbol). replicate (length ss) None) c.symbols-count.ensures))
    (func_none input object o c.scan.inside.got_func
    (ap (λ (s : Scanned). s.got_func) (c.scan.view_is ∙ c.requires.numbering.scan))
    (sym c.is_empty-then-is_empty.ensures ∙ c.if-is_empty-2.true))

pub overflow_cast-symbol : goal.overflow_cast-symbol
overflow_cast-symbol c =
    let input = c.args.numbering.now.input.now in
    let object = c.args.object in
    let o = c.args.file.now in
    let are : c.deref-mark-items.result.now ≡ map (has_global input object o) (range_with_len 0 (length o.symbols)) =
    c.deref-mark-items.ensures.value ∙ c.in_ok-marks.ensures in
    let long = ap (λ (bs : List Bool). length bs) are in
    let count = length-map-range_with_len (has_global input object o) 0 (length o.symbols) in
    omega (arith, c.loop-number-test.true, long, count, c.stands_for_an_object.ensures.few.symbols)

pub got_mem_global-requires-clause-there : goal.got_mem_global-requires-clause-there
got_mem_global-requires-clause-there c =
    let input = c.args.numbering.now.input.now in
    let object = c.args.object in
    let o = c.args.file.now in
    let are : c.deref-mark-items.result.now ≡ map (has_global input object o) (range_with_len 0 (length o.symbols)) =
    c.deref-mark-items.ensures.value ∙ c.in_ok-marks.ensures in
    symbol_there input.link.objects object o (has_global input object o) c.loop-number.number
    c.deref-mark-items.result.now c.requires.here are c.loop-number-test.true

pub got_func_global-requires-clause-there : goal.got_func_global-requires-clause-there
got_func_global-requires-clause-there c =
    let input = c.args.numbering.now.input.now in
    let object = c.args.object in
    let o = c.args.file.now in
    let are : c.deref-mark-items.result.now ≡ map (has_global input object o) (range_with_len 0 (length o.symbols)) =
    c.deref-mark-items.ensures.value ∙ c.in_ok-marks.ensures in
    symbol_there input.link.objects object o (has_global input object o) c.loop-number.number
    c.deref-mark-items.result.now c.requires.here are c.loop-number-test.true

pub loop-number-preserved : goal.loop-number-preserved
loop-number-preserved c =
    let input = c.args.numbering.now.input.now in
    let object = c.args.object in
    let o = c.args.file.now in
    let at = c.loop-number in
    let marks = c.deref-mark-items.result.now in
    let are : c.deref-mark-items.result.now ≡ map (has_global input object o) (range_with_len 0 (length o.symbols)) =
    c.deref-mark-items.ensures.value ∙ c.in_ok-marks.ensures in
    record {
      mem = symbol_more (global_space input) (mem_global_if input object) (has_global input object o)
          (length o.symbols) at.number marks _ at.mem c.push.new.self c.got_mem_global.result are
          c.loop-number-test.true c.got_mem_global.ensures (search rules) c.in_ok-push.ensures.ok
          at.invariant.mem;
      func = symbol_more (global_space input) (func_global_if input object) (has_global input object o)
          (length o.symbols) at.number marks _ at.func c.push-in-loop-number.new.self
          c.got_func_global.result are c.loop-number-test.true c.got_func_global.ensures
          (search rules) c.in_ok-push-2.ensures.ok at.invariant.func;
    }

use Rattle.std.proofs.Common.{◌≡◌, ◌∙◌, rules, of_calls, true, false, sym, subst, Some, slice_get, ◌<◌, ap, arith, length}
use Rattle.std.specs.List.Sorted.{IsPartitionPoint}
use Rattle.std.proofs.lemmas.Bool.{false≢true, ltb-true, lt-ltb}
use Rattle.std.proofs.lemmas.Fn.{always_returns_same}
use Rattle.std.proofs.lemmas.Option.{same_Some, slice_get-get_or, slice_get_within}
use Rattle.wl_custom.specs.declared.relocations.WasmRelocation.{WasmRelocation}
use Rattle.wl_live.proofs.FaultLaws.{is_past, ends_rise, found_field, field_found}
use Rattle.wl_live.proofs.faults.has_field_in.Goals as goal

pub returns-in-Some : goal.returns-in-Some
returns-in-Some c =
    let rs = c.args.relocations.now in
    let place = c.partition_point-place.result in
    let point : IsPartitionPoint (λ y. is_past c.args.from y ≡ true) (λ y. is_past c.args.from y ≡ false) rs place =
    c.partition_point-place.ensures.partitioned (is_past c.args.from) (always_returns_same _ _ _ (λ a r f k. search (rules, of_calls))) (ends_rise rs c.args.from c.requires) in
    let r = c.in-Some.relocation.now in
    let at : slice_get rs place ≡ Some r = slice_get-get_or rs place r (ltb-true place (length rs) (sym c.in-Some.ensures.lookup.0)) ∙ ap (λ (x : WasmRelocation). Some x) (sym c.in-Some.ensures.lookup.1) in (
      λ on. found_field rs c.args.from c.args.to place c.in-Some.relocation.now point at (ltb-true _ _ on),
      λ h.
          let q = field_found rs c.args.from c.args.to place c.requires point h in
          lt-ltb _ _ (subst (λ (x : WasmRelocation). x.offset < c.args.to) (same_Some q.0 c.in-Some.relocation.now (sym q.1 ∙ at)) q.2),
    )

pub returns-in-None : goal.returns-in-None
returns-in-None c =
    let rs = c.args.relocations.now in
    let place = c.partition_point-place.result in
    let point : IsPartitionPoint (λ y. is_past c.args.from y ≡ true) (λ y. is_past c.args.from y ≡ false) rs place =
    c.partition_point-place.ensures.partitioned (is_past c.args.from) (always_returns_same _ _ _ (λ a r f k. search (rules, of_calls))) (ends_rise rs c.args.from c.requires) in (
      λ on. absurd (false≢true on),
      λ h. absurd (let q = field_found rs c.args.from c.args.to place c.requires point h in let within = slice_get_within rs place q.0 q.1 in omega (arith, c.in-None.ensures.lookup.3)),
    )

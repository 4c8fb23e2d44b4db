use Rattle.std.proofs.Common.{◌≡◌, ◌∙◌, ap, rules, filter}
use Rattle.std.specs.Option.{is_none}
use Rattle.std.proofs.lemmas.Fn.{filter_same}
use Rattle.std.proofs.lemmas.List.Elements.{filter_agree}
use Rattle.wl_symbols.specs.ImportSlots.{ImportSlot}
use Rattle.wl_bind.specs.GlobalBinding.{by_got, left_globals}
use Rattle.wl_bind.specs.steps.GlobalSlots.{is_host_by_lists}
use Rattle.wl_bind.specs.Scan.{Scanned, scan_of}
use Rattle.wl_bind.proofs.GlobalLaws.{left_by_lists}
use Rattle.wl_bind.proofs.global_slots.host_slots.Goals as goal

pub returns : goal.returns
returns c =
    let input = c.args.input.now in
    let slots = c.in_ok-slots.slots.items in
    let kept : c.retain.new.self.items ≡ filter (is_host_by_lists c.args.scan.now) slots =
    filter_same _ (is_host_by_lists c.args.scan.now) _ (λ x b f' k. search rules) _ _ c.retain.ensures.filtered in
    kept ∙ ap (λ (s : Scanned). filter (is_host_by_lists s) slots) c.requires
    ∙ ap (filter (is_host_by_lists (scan_of input))) c.in_ok-slots.ensures
    ∙ filter_agree (is_host_by_lists (scan_of input)) (λ (t : ImportSlot). is_none (by_got input t)) (left_by_lists input) (left_globals input)

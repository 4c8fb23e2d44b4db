use Rattle.std.proofs.Common.{◌∙◌, ◌≤◌, ap, arith, sym}
use Rattle.wl_plan.specs.Threads.{place_in_block}
use Rattle.wl_plan.proofs.GotLaws.{adds_got, adds_no_got, entry_in, entry_there, got_has, low_place}
use Rattle.wl_plan.proofs.threads.push_got.Goals as goal

pub mem_address-requires-clause-listed : goal.mem_address-requires-clause-listed
mem_address-requires-clause-listed c =
    entry_in c.args.sources.now.book.now.input.now c.args.place c.mem_definition.result c.in-Some.definition
    c.mem_definition.ensures c.in-Some.is

pub got_mem-global-requires : goal.got_mem-global-requires
got_mem-global-requires c =
    let s = c.args.sources.now in
    got_has s.book.now.input.now s.bindings.now.indices c.args.place c.requires.sources.bindings.indices c.requires.within

pub returns-in-None-clause-ok : goal.returns-in-None-clause-ok
returns-in-None-clause-ok c =
    absurd (entry_there c.args.sources.now.book.now.input.now c.args.place c.mem_definition.result c.mem_definition.ensures
    c.requires.within c.in-None.is)

pub returns-in-None-place_in_block-clause-ok : goal.returns-in-None-place_in_block-clause-ok
returns-in-None-place_in_block-clause-ok c =
    let input = c.args.sources.now.book.now.input.now in
    let g = c.args.sources.now.book.now.placing.now in
    adds_no_got input g c.args.place c.in-Some.definition c.args.fixups.now.items
    (sym c.mem_definition.ensures ∙ c.in-Some.is)
    (ap place_in_block (sym c.in_ok-mem_address.ensures.ok) ∙ (sym c.place_in_block.ensures ∙ c.in-None-place_in_block.is))

pub overflow_cast-offset : goal.overflow_cast-offset
overflow_cast-offset c =
    let input = c.args.sources.now.book.now.input.now in
    let g = c.args.sources.now.book.now.placing.now in
    let low = low_place input g c.args.place c.got_mem-global.result _ c.in-Some.definition c.requires.low
    (c.got_mem-global.ensures input c.requires.sources.bindings.indices)
    (sym c.mem_definition.ensures ∙ c.in-Some.is)
    (ap place_in_block (sym c.in_ok-mem_address.ensures.ok) ∙ (sym c.place_in_block.ensures ∙ c.in-Some-place_in_block.is)) in
    omega (arith, low)

pub returns-clause-ok : goal.returns-clause-ok
returns-clause-ok c =
    let input = c.args.sources.now.book.now.input.now in
    let g = c.args.sources.now.book.now.placing.now in
    let low : c.in-Some-place_in_block.offset ≤ 2147483647 =
    low_place input g c.args.place c.got_mem-global.result _ c.in-Some.definition c.requires.low
    (c.got_mem-global.ensures input c.requires.sources.bindings.indices)
    (sym c.mem_definition.ensures ∙ c.in-Some.is)
    (ap place_in_block (sym c.in_ok-mem_address.ensures.ok) ∙ (sym c.place_in_block.ensures ∙ c.in-Some-place_in_block.is)) in
    adds_got input g c.args.place _ c.in-Some.definition _ c.args.fixups.now.items c.push.new.self.items
    (sym c.mem_definition.ensures ∙ c.in-Some.is)
    (ap place_in_block (sym c.in_ok-mem_address.ensures.ok) ∙ (sym c.place_in_block.ensures ∙ c.in-Some-place_in_block.is))
    (c.got_mem-global.ensures input c.requires.sources.bindings.indices) (grind (arith, low)) c.in_ok-push.ensures.items

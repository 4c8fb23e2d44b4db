use Rattle.std.proofs.Common.{◌≡◌, length, ◌<◌, All, ℕ, None, subst, sym, ap, ◌∙◌, arith, string_bytes}
use Rattle.std.proofs.lemmas.List.{length-map}
use Rattle.std.specs.List.{filter_map}
use Rattle.std.specs.Option.{option_or}
use Rattle.wl_words.specs.Items.{AreArgItems, mode_of_item}
use Rattle.wl_words.specs.Modes.{KeepsMode}
use Rattle.wl_words.specs.Texts.{texts}
use Rattle.wl_words.specs.Args.{input_of}
use Rattle.wl_words.proofs.ItemLaws.{items_more, after_more, inputs_below}
use Rattle.wl_words.proofs.ModeLaws.{mode_step}
use Rattle.wl_words.proofs.AskLaws.{asks_more}
use Rattle.wl_words.proofs.args.WasmArgs.parse_items.Goals as goal

pub loop-word-preserved : goal.loop-word-preserved
loop-word-preserved c =
    let before = c.loop-word.invariant in
    let taken = c.in_ok-at.ensures.ok in
    let step = mode_step (texts c.args.words.now) c.loop-word.at taken.item c.in_ok-at.at c.loop-word.args.mode c.take_item.new.self.mode taken.stands taken.adds.mode before.fit in
    record {
      items = _;
      stand = items_more (texts c.args.words.now) 0 None before.items taken.item c.loop-word.at c.in_ok-at.at before.stand taken.stands (subst (λ (m : _). KeepsMode m (mode_of_item taken.item)) before.mode taken.keeps);
      asked = asks_more before.items taken.item c.loop-word.args c.take_item.new.self before.asked taken.adds;
      mode = step.0 ∙ ap (λ (m : _). option_or (mode_of_item taken.item) m) before.mode ∙ sym (after_more None before.items taken.item);
      fit = step.1;
      within = omega (arith, c.in_ok-at.ensures.next, length-map c.args.words.now string_bytes);
    }

pub returns-clause-ok : goal.returns-clause-ok
returns-clause-ok c =
    let end : c.loop-word.at ≡ length (texts c.args.words.now) = omega (arith, c.loop-word.invariant.within, c.in_default.ensures.end, length-map c.args.words.now string_bytes) in
    record {
      items = c.loop-word.invariant.items;
      spelled = subst (λ (n : ℕ). AreArgItems (texts c.args.words.now) 0 None c.loop-word.invariant.items n) end c.loop-word.invariant.stand;
      asked = c.loop-word.invariant.asked;
    }

pub returns-clause-within : goal.returns-clause-within
returns-clause-within c =
    let end : c.loop-word.at ≡ length c.args.words.now = omega (arith, c.loop-word.invariant.within, c.in_default.ensures.end, length-map c.args.words.now string_bytes) in
    let below : All (λ i. i < c.loop-word.at) (filter_map input_of c.loop-word.invariant.items) = inputs_below (texts c.args.words.now) 0 None c.loop-word.invariant.items c.loop-word.at c.loop-word.invariant.stand in
    rw (c.loop-word.invariant.asked.inputs, ← end) below

use Rattle.wl_symbols.proofs.OneNameLaws.{one_definition, one_made, never_both}
use Rattle.wl_symbols.proofs.slot_laws.slots_have_one_name.Goals as goal

pub returns : goal.returns
returns c = record {
  definition = λ link object kind o t slot a j b k g h. one_definition link object kind o t a j b k
      (record { laws = record { only = c.name_by_cases.ensures.only link; shared = c.name_by_cases.ensures.shared link }; here = slot.here; agree = slot.whole.object.fitting.slots; slot = slot.slot }) g h;
  made = λ link object kind o t slot m n g h. one_made link object kind o t m n
      (record { laws = record { only = c.name_by_cases.ensures.only link; shared = c.name_by_cases.ensures.shared link }; here = slot.here; agree = slot.whole.object.fitting.slots; slot = slot.slot }) g h;
  never_both = λ link object kind o t slot a j m g h. never_both link object kind o t a j m
      (record { laws = record { only = c.name_by_cases.ensures.only link; shared = c.name_by_cases.ensures.shared link }; here = slot.here; agree = slot.whole.object.fitting.slots; slot = slot.slot }) g h;
}

use Rattle.wl_plan.proofs.UniqueLaws.{LawsBelow, placing_one, entities_one, places_one, spaces_one, fixup_lists_one, body_parts_one}
use Rattle.wl_plan.proofs.laws.parts_are_one.Goals as goal

-- what the laws of lower crates say
below : goal.After-exports_are_one → LawsBelow
below c = record {
  forms = record {
    unsigned = c.shortest_form_is_one.ensures.unsigned;
    signed = c.shortest_form_is_one.ensures.signed;
    numbers = c.numbers_are_one.ensures.one;
    calls = c.init_calls_are_one.ensures;
    encoded = c.body_or_fault.ensures.one;
  };
  places = c.places_are_one.ensures;
  layouts = c.segments_have_layouts.ensures;
  functions = c.entries_stand_once.ensures.functions;
  globals = c.entries_stand_once.ensures.globals;
  types = c.entries_stand_once.ensures.types;
  names = record {
    features = c.features_are_one.ensures;
    exports = c.exports_are_one.ensures.exports;
  };
}

pub returns-clause-placings : goal.returns-clause-placings
returns-clause-placings c = placing_one (below c)

pub returns-clause-entities : goal.returns-clause-entities
returns-clause-entities c = entities_one (below c)

pub returns-clause-places : goal.returns-clause-places
returns-clause-places c = places_one (below c)

pub returns-clause-spaces : goal.returns-clause-spaces
returns-clause-spaces c = λ input g a b placed. spaces_one (below c) input g placed a b

pub returns-clause-fixups : goal.returns-clause-fixups
returns-clause-fixups c = λ input g a b placed. fixup_lists_one (below c) input g placed a b

pub returns-clause-bodies : goal.returns-clause-bodies
returns-clause-bodies c = body_parts_one (below c)

use Rattle.std.proofs.Common.{◌∙◌, refl, sym}
use Rattle.wl_symbols.specs.Entries.{Entry}
use Rattle.wl_symbols.specs.Adding.{firsts_in}
use Rattle.wl_symbols.proofs.AdditionLaws.{adds_symbol, meets_symbol}
use Rattle.wl_symbols.proofs.adding.add_symbol.Goals as goal

pub returns-in-None-clause-adds : goal.returns-in-None-clause-adds
returns-in-None-clause-adds g c =
    let e : Entry = record { name = c.symbol.inside.name.now; strength = c.strength_of.result; place = c.args.place } in
    adds_symbol (firsts_in c.args.names.now.names.firsts) (firsts_in c.add.new.names.names.firsts) c.args.place.object c.args.place.symbol c.args.symbol.now e (sym c.is_private.ensures ∙ c.if-is_private.false) (rw (c.strength_of.ensures, ← c.symbol.view_is) refl) (rw c.in-None.is at c.in_ok-add.ensures.adds)

pub returns-in-Some-clause-adds : goal.returns-in-Some-clause-adds
returns-in-Some-clause-adds g c =
    let e : Entry = record { name = c.symbol.inside.name.now; strength = c.strength_of.result; place = c.args.place } in
    meets_symbol (firsts_in c.args.names.now.names.firsts) (firsts_in c.add.new.names.names.firsts) c.args.place.object c.args.place.symbol c.args.symbol.now e _ (sym c.is_private.ensures ∙ c.if-is_private.false) (rw (c.strength_of.ensures, ← c.symbol.view_is) refl) (rw c.in-Some.is at c.in_ok-add.ensures.adds) refl refl

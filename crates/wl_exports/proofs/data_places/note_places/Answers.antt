use Rattle.std.proofs.Common.{arith, sym, get_or}
use Rattle.std.proofs.lemmas.Option.{slice_get-get_or, get_or_from_slice_get}
use Rattle.wl_bind.specs.declared.exported.DataSymbol.{DataSymbol}
use Rattle.wl_exports.specs.steps.DataPlaces.{place_of}
use Rattle.wl_exports.proofs.DataLaws.{told_none, told_more, told_all}
use Rattle.wl_exports.proofs.data_places.note_places.Goals as goal

pub loop-symbol-init : goal.loop-symbol-init
loop-symbol-init c = record {
  number = omega arith;
  noted = λ d. told_none c.args.symbols.now c.args.first d (place_of c.args.places.now d);
}

pub loop-symbol-preserved : goal.loop-symbol-preserved
loop-symbol-preserved c =
    let number = c.loop-symbol.invariant.number in
    let symbols = c.args.symbols.now in
    let i = c.loop-symbol.symbol-index in
    let x : DataSymbol = get_or c.args.symbols.now c.loop-symbol.symbol-index (record { object = 0; symbol = 0 }) in
    let at = slice_get-get_or symbols i (record { object = 0; symbol = 0 }) c.loop-symbol-test.true in
    record {
      number = omega (arith, number);
      noted = λ d. told_more symbols i c.args.first c.loop-symbol.index x d (place_of c.args.places.now d)
          (place_of c.loop-symbol.places d) (place_of c.insert.new.self d) c.loop-symbol-test.true
          (sym (get_or_from_slice_get symbols i x x at)) number (c.in_ok-insert.ensures.updates.0 d)
          (c.loop-symbol.invariant.noted d);
    }

pub returns : goal.returns
returns c = λ d. told_all c.args.symbols.now c.loop-symbol.symbol-index c.args.first d
    (place_of c.args.places.now d) (place_of c.loop-symbol.places d) c.loop-symbol-test.false
    (c.loop-symbol.invariant.noted d)

use Rattle.std.proofs.Common.{◌≡◌, ◌∙◌, ◌<◌, ℕ, true, length, sym, ap, subst, OnOk}
use Rattle.wl_custom.specs.Symbols.{Symbol as LinkedSymbol, is_defined_data}
use Rattle.wl_index.specs.declared.data_address.WasmDataAddress.{WasmDataAddress}
use Rattle.wl_places.specs.Addresses.{IsHigh}
use Rattle.wl_places.proofs.AddressLaws.{segment_within, data_found}
use Rattle.wl_places.proofs.addresses.AddressBook.of_defined.Goals as goal

pub start-requires-clause-here : goal.start-requires-clause-here
start-requires-clause-here c =
    let s : LinkedSymbol = c.args.symbol.now in
    let is : is_defined_data s ≡ true = sym c.is_defined_data.ensures ∙ c.if-not-is_defined_data.false in
    let number : c.symbol.inside.index ≡ s.index =
    ap (λ (x : LinkedSymbol). x.index) c.symbol.view_is in
    record {
      o = c.args.file.now;
      here = c.requires.here;
      within = subst (λ (i : ℕ). i < length c.args.file.now.segments) (sym number)
          (segment_within c.args.file.now c.requires.among.number s
          (c.whole_objects.ensures.fitting c.args.file.now c.stands_for_an_object.ensures.whole)
          c.requires.among.at is
          (sym c.is_absolute.ensures ∙ c.if-is_absolute.false));
    }

pub returns-clause-low : goal.returns-clause-low
returns-clause-low c =
    let s : LinkedSymbol = c.args.symbol.now in
    let is : is_defined_data s ≡ true = sym c.is_defined_data.ensures ∙ c.if-not-is_defined_data.false in
    subst (λ (a : WasmDataAddress). OnOk c.behind.result (IsHigh a → ⊥))
    (data_found c.args.self.now.placing.now c.args.object s c.start.result
    c.symbol.inside.index c.symbol.inside.offset is
    (sym c.is_absolute.ensures ∙ c.if-is_absolute.false)
    (ap (λ (x : LinkedSymbol). x.index) c.symbol.view_is)
    (ap (λ (x : LinkedSymbol). x.offset) c.symbol.view_is)
    c.start.ensures)
    c.behind.ensures.low

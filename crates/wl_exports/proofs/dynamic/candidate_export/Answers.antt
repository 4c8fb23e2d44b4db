use Rattle.std.proofs.Common.{◌≡◌, ◌∙◌, true, List, ℕ, sym, ap, subst, Option}
use Rattle.std.proofs.lemmas.Bool.{and_from}
use Rattle.std.specs.Option.{option_map}
use Rattle.wl_custom.specs.Symbols.{Symbol as LinkedSymbol, has_name}
use Rattle.wl_custom.specs.declared.symbols.WasmSymbolKind.{WasmSymbolKind}
use Rattle.wl_symbols.specs.Link.{Link}
use Rattle.wl_symbols.specs.Roots.{is_candidate}
use Rattle.wl_exports.specs.Exports.{ExportEntry, defined_entity, export_of}
use Rattle.wl_exports.specs.steps.Exports.{IsPlainIf, takes}
use Rattle.wl_exports.proofs.EntryLaws.{candidate_is}
use Rattle.wl_exports.proofs.ShownLaws.{shown_candidate}
use Rattle.wl_exports.proofs.dynamic.candidate_export.Goals as goal

pub returns-then-is_candidate : goal.returns-then-is_candidate
returns-then-is_candidate c = λ o here at.
    let input = c.args.sources.now.input.now in
    let s = c.args.symbol.now in
    let object = c.args.object in
    let number = c.args.number in
    let kinds = ap (λ (t : LinkedSymbol). t.kind) c.symbol.view_is in
    let texts = ap (λ (t : LinkedSymbol). t.name) c.symbol.view_is in
    let kind : s.kind ≡ c.symbol.inside.kind = cc in
    let name : c.symbol.inside.name.now ≡ s.name = cc in
    let wanted : takes c.args.wanted s.kind ≡ true =
    ap (λ (k : WasmSymbolKind). takes c.args.wanted k) kind ∙ (sym c.takes.ensures ∙ c.if-takes.true) in
    let has : has_name s ≡ true = sym c.has_name.ensures ∙ c.if-has_name.true in
    let candidate : is_candidate input.link object number s ≡ true =
    ap (λ (l : Link). is_candidate l object number s) (sym c.symbols-symbols.ensures)
    ∙ (sym c.is_candidate.ensures ∙ c.if-is_candidate.true) in
    let shown = shown_candidate c.live_units_are_closed.ensures.root input object number o s
    c.requires.sources.settled.kept c.requires.dynamic here at has candidate in
    let P : List ℕ → Type 0 = λ n. IsPlainIf input (option_map (export_of n) (defined_entity input object number o s))
    c.symbol_export.result in
    subst (λ (e : Option ExportEntry). IsPlainIf input e c.symbol_export.result)
    (sym (candidate_is input c.args.wanted object number o s wanted
    (and_from (has_name s) (is_candidate input.link object number s) has candidate)))
    (subst P name (c.symbol_export.ensures o shown))

use Rattle.wl_linking.proofs.RawNameLaws.{named_read}
use Rattle.wl_linking.proofs.raw_name.wasm_symbol_name_str.Goals as goal

pub returns : goal.returns
returns c =
    let found = rw c.name_range-start.ensures at c.in_ok-name.ensures.lookup.0 in
    rw c.ok.ensures.value (named_read (λ text. text.now) _ c.args.bytes.now c.in_ok-name.name.now c.args.symbol.now c.from_utf8.result (cc) found.0 found.1 found.2 c.from_utf8.ensures.cases)

use Rattle.std.proofs.Common.{◌≡◌, ◌++◌, codes, refl, rules}
use Rattle.std.proofs.Output.{has_written_append, has_written_of_eq}
use Rattle.std.proofs.lemmas.Str.{is_utf8-from_IsUtf8}
use Rattle.hex.specs.Hex.{encode_lower}
use Rattle.wl_linking.specs.RawNames.{shown_name}
use Rattle.wl_linking.proofs.RawNameLaws.{shown_raw}
use Rattle.wl_linking.proofs.raw_name.RawSymbolNameDisplay.fmt.Goals as goal

pub returns-in-Ok-clause-writes : goal.returns-in-Ok-clause-writes
returns-in-Ok-clause-writes g c = search (rules, is_utf8-from_IsUtf8)

pub returns-in_ok-write_str-in-Err-clause-writes : goal.returns-in_ok-write_str-in-Err-clause-writes
returns-in_ok-write_str-in-Err-clause-writes g c = λ plain ok.
    let bytes = c.self.inside.bytes.now in
    let sign = c.in_ok-write_str-in-Err.ensures.writes plain refl in
    let shown : codes "0x" ++ encode_lower bytes ≡ shown_name c.args.self.now = rw (← c.self.view_is) (shown_raw bytes c.in-Err.ensures.cases.0) in
    has_written_of_eq _ _ _ _ _ shown (has_written_append _ _ _ _ _ _ sign (c.write_hex.ensures sign.plain ok))

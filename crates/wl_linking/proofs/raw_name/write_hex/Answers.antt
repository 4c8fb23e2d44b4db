use Rattle.std.proofs.Common.{◌^◌, ◌-◌, ◌++◌, false, [], slice_index, refl, arith, rules}
use Rattle.std.proofs.Output.{has_written_append, has_written_of_eq, writes_in_calls_nil}
use Rattle.std.specs.Fmt.{HasWritten, digits, format_spec, padded_integral}
use Rattle.wl_linking.proofs.RawNameLaws.{byte_is, digits_of, written_all, written_more}
use Rattle.wl_linking.proofs.raw_name.write_hex.Goals as goal

pub loop-byte-init : goal.loop-byte-init
loop-byte-init g c = λ plain. ([], record { wrote = writes_in_calls_nil _ _; plain = plain }, refl)

pub loop-byte-preserved : goal.loop-byte-preserved
loop-byte-preserved g c = λ plain.
    let so_far = c.loop-byte.invariant plain in
    let byte = slice_index c.args.bytes.now c.loop-byte.byte-index in
    let wrote : HasWritten g.W.Write.write_str_gives c.loop-byte.f (padded_integral (format_spec 32 0 4 2 (2 ^ 64 - 1)) false [] (digits 16 false byte)) c.write.new.self = search rules in (
      so_far.0 ++ digits_of byte,
      has_written_append _ _ _ _ _ _ so_far.1 (has_written_of_eq _ _ _ _ _ (byte_is byte (omega (arith, c.type_inv.bytes c.loop-byte.byte-index))) wrote),
      written_more so_far.0 c.args.bytes.now c.loop-byte.byte-index c.loop-byte-test.true so_far.2,
    )

pub returns : goal.returns
returns g c = λ plain _.
    let so_far = c.loop-byte.invariant plain in
    has_written_of_eq _ _ _ _ _ (written_all so_far.0 c.args.bytes.now c.loop-byte.byte-index c.loop-byte-test.false so_far.2) so_far.1

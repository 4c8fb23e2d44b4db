use Rattle.std.proofs.Common.{◌≡◌, drop}
use Rattle.wl_words.specs.Args.{lost_in}
use Rattle.wl_words.proofs.args.WasmArgs.lost_replacement.Given as goal

abbrev pub invariant-loop-replacement : goal.invariant-loop-replacement
invariant-loop-replacement l = lost_in l.objects l.self.replacements ≡ lost_in l.objects (drop l.replacement-index l.self.replacements)

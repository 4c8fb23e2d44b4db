use Rattle.std.proofs.Common.{◌≡◌, ◌++◌, drop, map}
use Rattle.wl_words.specs.Texts.{texts}
use Rattle.wl_words.specs.Replacing.{replacing_name}
use Rattle.wl_words.specs.Args.{replacing_names}
use Rattle.wildplan.proofs.inputs.replacing_names.Given as goal

abbrev pub invariant-loop-replacement : goal.invariant-loop-replacement
invariant-loop-replacement l = l.names.items ++ map (replacing_name (texts l.words)) (drop l.replacement-index l.replacements) ≡ replacing_names (texts l.words) l.args

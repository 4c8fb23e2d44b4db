use Rattle.std.proofs.Common.{◌≡◌, ◌++◌, length, drop, slice_get}
use Rattle.std.specs.List.{filter_map}
use Rattle.wl_words.specs.Texts.{texts}
use Rattle.wl_words.specs.Args.{object_names}
use Rattle.wildplan.proofs.inputs.object_names.Given as goal

abbrev pub invariant-loop-word : goal.invariant-loop-word
invariant-loop-word l = record {
  named : l.names.items ++ filter_map (slice_get (texts l.words)) (drop l.word-index l.inputs) ≡ object_names (texts l.words) l.args;
  many : length l.names.items ≡ l.word-index;
}

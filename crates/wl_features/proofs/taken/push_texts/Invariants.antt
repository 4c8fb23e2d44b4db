use Rattle.std.proofs.Common.{◌≡◌, ◌++◌, map, take}
use Rattle.wl_words.specs.Texts.{texts}
use Rattle.wl_features.proofs.taken.push_texts.Given as goal

abbrev pub invariant-loop-text : goal.invariant-loop-text
invariant-loop-text l =
    map (λ n. n.now) l.names.items
    ≡ map (λ n. n.now) l.initial.names.items ++ texts (take l.text-index l.text-items)

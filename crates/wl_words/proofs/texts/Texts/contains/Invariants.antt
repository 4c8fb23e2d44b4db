use Rattle.std.proofs.Common.{◌≡◌, drop, bytes_eq}
use Rattle.std.specs.List.{list_any}
use Rattle.wl_words.specs.Texts.{texts}
use Rattle.wl_words.proofs.texts.Texts.contains.Given as goal

abbrev pub invariant-loop-item : goal.invariant-loop-item
invariant-loop-item l = list_any (λ t. bytes_eq t l.text) l.self ≡ list_any (λ t. bytes_eq t l.text) (texts (drop l.item-index l.item-items))

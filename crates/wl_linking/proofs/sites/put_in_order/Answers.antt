use Rattle.std.proofs.Common.{rules}
use Rattle.std.proofs.lemmas.List.Sorted.{IsNonDecreasingBy-from_sort_by_key, answers_always}
use Rattle.wl_linking.specs.Sites.{offset_of}
use Rattle.wl_linking.proofs.sites.put_in_order.Goals as goal

pub returns : goal.returns
returns c =
    rw (c.new.ensures, ← c.replace.ensures.value, ← c.into_vec-list.ensures) (record {
      ascending = IsNonDecreasingBy-from_sort_by_key offset_of _ c.in_ok-sort_by_key.ensures.sorted (λ a r q k. search rules);
      stable = c.in_ok-sort_by_key.ensures.stable offset_of (answers_always _ _ _ (λ f a r g h. search rules));
    })

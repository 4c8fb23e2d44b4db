-- What a chain reaches: the roots, what is referred to from there, and nothing else.
use Rattle.std.proofs.Common.{◌≡◌, ℕ, zero, suc, ◌+◌, ◌-◌, ◌<◌, List, [], ◌∷◌, ◌++◌, length, inl, inr, refl, ap, sym, ◌∙◌, arith, Some, slice_get, add-one, subst, get_or}
use Rattle.std.proofs.lemmas.Bool.{cases_lt}
use Rattle.std.proofs.lemmas.List.{length_push}
use Rattle.std.proofs.lemmas.Option.{slice_get_within, same_Some, slice_get-get_or}
use Rattle.wl_reach.specs.Search.{IsChain, IsReached}

pub slice_get-append_left : {X : Type 0} (xs ys : List X) (k : ℕ) → k < length xs → slice_get (xs ++ ys) k ≡ slice_get xs k
slice_get-append_left [] ys k lt = absurd (omega arith)
slice_get-append_left (x ∷ xs) ys zero lt = refl
slice_get-append_left (x ∷ xs) ys (suc k) lt = slice_get-append_left xs ys k (omega arith)

pub slice_get_push : {X : Type 0} (xs : List X) (y : X) → slice_get (xs ++ y ∷ []) (length xs) ≡ Some y
slice_get_push [] y = refl
slice_get_push (x ∷ xs) y = slice_get_push xs y

pub IsReached-root : {X : Type 0} (root : X → Type 0) (refers : X → X → Type 0) (x : X) → root x → IsReached root refers x
IsReached-root root refers x r = (
  x ∷ [],
  record {
    begins = (x, refl, r);
    linked = λ k y z here next. absurd (let within = slice_get_within (x ∷ []) (k + 1) z next in omega arith);
    ends = refl;
  },
)

pub IsChain-push : {X : Type 0} (root : X → Type 0) (refers : X → X → Type 0) (chain : List X) (x y : X) → IsChain root refers chain x → refers x y → IsChain root refers (chain ++ y ∷ []) y
IsChain-push root refers chain x y c e =
    let some : 0 < length chain = slice_get_within chain 0 c.begins.0 c.begins.1 in
    record {
      begins = (c.begins.0, slice_get-append_left chain (y ∷ []) 0 some ∙ c.begins.1, c.begins.2);
      linked = λ k a b here next.
          let within : k + 1 < length chain + 1 = rw length_push at (slice_get_within (chain ++ y ∷ []) (k + 1) b next) in
          let now : slice_get chain k ≡ Some a = sym (slice_get-append_left chain (y ∷ []) k (omega arith)) ∙ here in
          elim (cases_lt (k + 1) (length chain)) [
            | inl lt ↦ c.linked k a b now (sym (slice_get-append_left chain (y ∷ []) (k + 1) lt) ∙ next)
            | inr le ↦
                let at : k + 1 ≡ length chain = omega arith in
                let before : length chain - 1 ≡ k = omega arith in
                let last : a ≡ x = same_Some a x (sym now ∙ (ap (slice_get chain) (sym before) ∙ c.ends)) in
                let new : y ≡ b = same_Some y b (sym (slice_get_push chain y) ∙ (ap (slice_get (chain ++ y ∷ [])) (sym at) ∙ next)) in
                rw (last, ← new) e
          ];
      ends = let at : length (chain ++ y ∷ []) - 1 ≡ length chain = omega (arith, length_push chain y) in ap (slice_get (chain ++ y ∷ [])) at ∙ slice_get_push chain y;
    }

pub IsReached-step : {X : Type 0} (root : X → Type 0) (refers : X → X → Type 0) (x y : X) → IsReached root refers x → refers x y → IsReached root refers y
IsReached-step root refers x y r e = (r.0 ++ y ∷ [], IsChain-push root refers r.0 x y r.1 e)

pub IsChain-closed : {X : Type 0} (root : X → Type 0) (refers : X → X → Type 0) (P : X → Type 0) → ((x : X) → root x → P x) → ((x y : X) → P x → refers x y → P y) → (chain : List X) (last : X) → IsChain root refers chain last → (k : ℕ) (x : X) → slice_get chain k ≡ Some x → P x
IsChain-closed root refers P base step chain last c zero x e =
    let same : c.begins.0 ≡ x = same_Some c.begins.0 x (sym c.begins.1 ∙ e) in
    subst P same (base c.begins.0 c.begins.2)
IsChain-closed root refers P base step chain last c (suc k) x e =
    let next : slice_get chain (k + 1) ≡ Some x = rw add-one e in
    let within : k + 1 < length chain = slice_get_within chain (k + 1) x next in
    let here : slice_get chain k ≡ Some (get_or chain k x) = slice_get-get_or chain k x (omega arith) in
    step (get_or chain k x) x (IsChain-closed root refers P base step chain last c k (get_or chain k x) here) (c.linked k (get_or chain k x) x here next)

-- what holds of the roots, and of all that is referred to from where it holds, holds of all that is reached
pub IsReached-closed : {X : Type 0} (root : X → Type 0) (refers : X → X → Type 0) (P : X → Type 0) → ((x : X) → root x → P x) → ((x y : X) → P x → refers x y → P y) → (x : X) → IsReached root refers x → P x
IsReached-closed root refers P base step x r = IsChain-closed root refers P base step r.0 x r.1 (length r.0 - 1) x r.1.ends

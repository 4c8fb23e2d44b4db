-- Fixups of other functions and segments leave bytes as they are.
use Rattle.std.proofs.Common.{◌≡◌, ◌≢◌, ◌∙◌, ℕ, zero, suc, ◌<◌, ◌≤◌, true, false, cond, List, [], ◌∷◌, length, take, drop, refl, sym, arith}
use Rattle.std.specs.List.{AllWithin}
use Rattle.std.proofs.lemmas.Bool.Decides.{nat_tests}
use Rattle.wl_output.specs.declared.fixups.Fixup.{Fixup}
use Rattle.wl_run.specs.Sites.{is_at, site_rank, fixup_rank}
use Rattle.wl_run.specs.Filled.{with_fixup, filled}
use Rattle.wl_run.specs.declared.sites.Site.{Site}

-- a fixup that lies there has its rank
pub same_rank : (site : Site) (f : Fixup) → is_at site f ≡ true → fixup_rank f ≡ site_rank site
same_rank site f at = grind (arith, nat_tests)

pub not_at : (site : Site) (f : Fixup) → fixup_rank f ≢ site_rank site → is_at site f ≡ false
not_at site f ne = grind (arith, nat_tests, same_rank site f)

-- one that doesn't lie there is passed over
pub passed : (site : Site) (f : Fixup) (fs : List Fixup) (bytes : List ℕ) → fixup_rank f ≢ site_rank site
    → filled site (f ∷ fs) bytes ≡ filled site fs bytes
passed site f fs bytes ne = rw (not_at site f ne) refl

-- those at the front that come before it are
pub front_passed : (site : Site) (fs : List Fixup) (i : ℕ) → AllWithin (λ (f : Fixup). fixup_rank f < site_rank site) fs 0 i → i ≤ length fs
    → (bytes : List ℕ) → filled site (drop i fs) bytes ≡ filled site fs bytes
front_passed site fs zero before le bytes = refl
front_passed site [] (suc i) before le bytes = refl
front_passed site (f ∷ fs) (suc i) before le bytes =
    let here : fixup_rank f < site_rank site = before 0 f (omega arith) (omega arith) in
    front_passed site fs i (λ k d from to. before (suc k) d (omega arith) (omega arith)) (omega arith) bytes
    ∙ sym (passed site f fs bytes (omega arith))

-- those at the back that come after it are
pub all_passed : (site : Site) (fs : List Fixup) → AllWithin (λ (f : Fixup). site_rank site < fixup_rank f) fs 0 (length fs)
    → (bytes : List ℕ) → filled site fs bytes ≡ bytes
all_passed site [] after bytes = refl
all_passed site (f ∷ fs) after bytes =
    let here : site_rank site < fixup_rank f = after 0 f (omega arith) (omega arith) in
    passed site f fs bytes (omega arith)
    ∙ all_passed site fs (λ k d from to. after (suc k) d (omega arith) (omega arith)) bytes

pub back_passed : (site : Site) (fs : List Fixup) (i : ℕ) → AllWithin (λ (f : Fixup). site_rank site < fixup_rank f) fs i (length fs)
    → (bytes : List ℕ) → filled site (take i fs) bytes ≡ filled site fs bytes
back_passed site fs zero after bytes = sym (all_passed site fs after bytes)
back_passed site [] (suc i) after bytes = refl
back_passed site (f ∷ fs) (suc i) after bytes =
    back_passed site fs i (λ k d from to. after (suc k) d (omega arith) (omega arith)) (cond (is_at site f) (with_fixup f bytes) bytes)

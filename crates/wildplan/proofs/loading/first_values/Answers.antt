use Rattle.std.proofs.Common.{◌≡◌, ℕ, ◌+◌, suc, [], ◌∷◌, ◌++◌, subst, sym, arith}
use Rattle.std.specs.List.{AllZip}
use Rattle.std.proofs.Common.{List, take, drop}
use Rattle.wl_numeric.specs.declared.value.Value.{Value}
use Rattle.wildplan.specs.Loading.{StartsWith, IsFirstUnread}
use Rattle.wildplan.proofs.LoadingLaws.{values_more, unread_more, unread_here, init_fault}
use Rattle.wildplan.proofs.loading.first_values.Goals as goal

pub returns-in_default-clause-fault : goal.returns-in_default-clause-fault
returns-in_default-clause-fault c =
    init_fault c.args.globals.now c.loop-i.i c.init_error.result
    (unread_here c.args.globals.now c.loop-i.i c.index-globals-i.result c.loop-i-test.true c.index-globals-i.is c.in_default.ensures c.loop-i.invariant.behind) c.init_error.ensures

pub loop-i-preserved : goal.loop-i-preserved
loop-i-preserved c =
    let gs = c.args.globals.now in
    let i = c.loop-i.i in
    let g = c.index-globals-i.result in
    let next : suc i ≡ i + 1 = omega arith in
    record {
      values = subst (λ (vs : List Value). AllZip StartsWith (take (i + 1) gs) vs) (sym c.in_ok-push.ensures.items)
          (subst (λ (k : ℕ). AllZip StartsWith (take k gs) (c.loop-i.values.items ++ c.in-Some.value ∷ [])) next
          (values_more gs c.loop-i.values.items i g c.in-Some.value c.loop-i-test.true c.index-globals-i.is c.in-Some.ensures c.loop-i.invariant.values));
      behind = λ n unread.
          let last : i + suc n ≡ i + 1 + n = omega arith in
          subst (λ (k : ℕ). IsFirstUnread gs k) last
          (unread_more gs i g c.loop-i-test.true c.index-globals-i.is (c.in-Some.value, c.in-Some.ensures) c.loop-i.invariant.behind n
          (subst (λ (k : ℕ). IsFirstUnread (drop k gs) n) (sym next) unread));
    }

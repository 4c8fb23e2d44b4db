use Rattle.std.proofs.Common.{◌≡◌, ◌≤◌, ◌+◌, ◌-◌, ◌∙◌, true, not, [], ◌∷◌, ◌++◌, length, replicate, sym, ap, is_ok, arith}
use Rattle.std.proofs.lemmas.List.{length-append}
use Rattle.wl_symbols.specs.Index.{padded}
use Rattle.wl_symbols.proofs.IndexLaws.{padded_more}
use Rattle.wl_symbols.proofs.exchanging.make_room.Goals as goal

pub loop-alloc-preserved : goal.loop-alloc-preserved
loop-alloc-preserved c =
    let i = c.loop-alloc.invariant in
    let old = c.loop-alloc.objects.items in
    let first = c.args.objects.now.items in
    let ok : is_ok c.push.result ≡ true = c.is_err.ensures.negation ∙ ap not c.if-is_err.false in
    let put = rw (ok, c.empty.ensures) at c.push.ensures.items in
    let grown : length c.push.new.self.items ≡ length old + 1 = ap length put ∙ length-append old ([] ∷ []) in
    let held : length first ≤ length old = omega arith in
    record {
      padded = put ∙ (padded_more first old (length old) held i.padded ∙ ap (λ n. padded n first) (sym grown));
      known = i.known;
      more = omega (arith, grown);
      within = omega (arith, grown);
    }

pub returns-clause-padded : goal.returns-clause-padded
returns-clause-padded c =
    let i = c.loop-alloc.invariant in
    let same : length c.loop-alloc.objects.items - length c.args.objects.now.items ≡ c.args.object + 1 - length c.args.objects.now.items = omega arith in
    i.padded ∙ ap (λ n. c.args.objects.now.items ++ replicate n []) same

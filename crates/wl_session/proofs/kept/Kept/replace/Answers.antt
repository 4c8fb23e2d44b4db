use Rattle.std.proofs.Common.{◌≡◌, ◌<◌, List, length, set, ap, subst, sym, arith}
use Rattle.wl_lists.proofs.Beside.{zip_length}
use Rattle.wl_linking.specs.Object.{Object}
use Rattle.wl_live.specs.Facts.{AreFacts}
use Rattle.wl_session.specs.Known.{IsKnown}
use Rattle.wl_session.proofs.KnownLaws.{where_ok}
use Rattle.wl_session.proofs.kept.Kept.replace.Goals as goal

pub replace_known-known-requires : goal.replace_known-known-requires
replace_known-known-requires c =
    let many : length c.self.inside.files ≡ length c.self.inside.facts.items = zip_length AreFacts c.self.inside.files c.self.inside.facts.items c.self.invariant.facts_are in
    let seen : length c.self.inside.files ≡ length c.args.self.now = ap length c.self.view_is in
    omega (arith, many, seen, c.requires)

pub invariant_of-self : goal.invariant_of-self
invariant_of-self c =
    let files = c.self.inside.files in
    let names = c.replace_known-known.new.names in
    let facts = c.replace_known-known.new.known.items in
    let seen : length files ≡ length c.args.self.now = ap length c.self.view_is in
    let within : c.args.object < length files = omega (arith, seen, c.requires) in
    let ok = where_ok c.replace_known-known.result ((objects : List Object) → IsKnown objects c.self.inside.names c.self.inside.facts.items → c.args.object < length objects → IsKnown (set objects c.args.object c.args.file) names facts) c.if-is_ok.ensures.value c.replace_known-known.ensures.ok in
    subst (λ (fs : List Object). IsKnown fs names facts) (sym c.replace-unused.ensures.replaced) (ok files c.self.invariant within)

use Rattle.std.proofs.Common.{arith, refl, sym, ◌∙◌}
use Rattle.wl_linking.proofs.SiteLaws.{places_more, no_site}
use Rattle.wl_linking.proofs.sites.find_sites.Goals as goal

pub returns-in_default : goal.returns-in_default
returns-in_default c =
    (refl, no_site c.args.pieces.now c.args.relocations.now c.loop-relocation.relocation-index c.loop-relocation.unit _ c.loop-relocation.sites.items c.field_form-form.result c.requires.pieces (omega arith) c.loop-relocation.invariant c.field_form-form.ensures (sym c.find_site.ensures ∙ c.in_default.is))

pub loop-relocation-preserved : goal.loop-relocation-preserved
loop-relocation-preserved c =
    rw c.in_ok-push.ensures.items (places_more c.args.pieces.now c.args.relocations.now c.loop-relocation.relocation-index c.loop-relocation.unit _ c.loop-relocation.sites.items c.in-Some.site c.field_form-form.result c.requires.order (omega arith) c.loop-relocation.invariant c.field_form-form.ensures (sym c.find_site.ensures ∙ c.in-Some.is))

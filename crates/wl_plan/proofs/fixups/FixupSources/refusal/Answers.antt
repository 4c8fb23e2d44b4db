use Rattle.std.proofs.Common.{◌∙◌, ap, rules, w64}
use Rattle.std.specs.Prelude.{ℤ, FitsSigned}
use Rattle.std.proofs.lemmas.Int.{to_z-of_z}
use Rattle.wl_custom.specs.RelocationTypes.{taking_of}
use Rattle.wl_linking.specs.declared.error.LinkError.TheVariants.{RelocationRange}
use Rattle.wl_plan.specs.Threads.{address_named, bases_of}
use Rattle.wl_plan.proofs.FixupLaws.{number_is}
use Rattle.wl_plan.proofs.fixups.FixupSources.refusal.Goals as goal

pub returns-in-Range : goal.returns-in-Range
returns-in-Range c = λ base takes.
    let s = c.args.self.now in
    let r = c.args.relocated.now in
    let fits : FitsSigned w64 c.number_taken.result = search rules in
    rw c.in-Range.is (ap (λ (z : ℤ). RelocationRange r.object r.relocation.offset z)
    (to_z-of_z w64 c.number_taken.result fits
    ∙ (c.number_taken.ensures
    ∙ number_is (taking_of r.relocation.ty) base (bases_of s.book.now.placing.now)
    (address_named s.book.now.input.now s.book.now.placing.now r) r.relocation.addend takes)))

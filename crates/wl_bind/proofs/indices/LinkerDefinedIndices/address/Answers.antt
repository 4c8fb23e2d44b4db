use Rattle.std.proofs.Common.{◌≡◌, ℕ, sym, subst, Option, None, Some, position}
use Rattle.wl_bind.specs.MadeIndices.{IsMadeIndex}
use Rattle.wl_bind.specs.Sameness.{same_made}
use Rattle.wl_bind.proofs.IndexLaws.{address_absent, address_there}
use Rattle.wl_bind.proofs.indices.LinkerDefinedIndices.address.Goals as goal

pub returns-in_err-place : goal.returns-in_err-place
returns-in_err-place c = λ input are is.
    let list = c.as_slice.ensures in
    let told = c.in_err-place.ensures in
    let at : position (λ a. same_made a c.args.made) c.args.self.now.exported.addresses.keys ≡ None = cc in
    let P : Option ℕ → Type 0 = λ index. IsMadeIndex input c.args.made index in
    subst P (sym c.from_residual.ensures) (address_absent input c.args.self.now c.args.made are is at)

pub returns : goal.returns
returns c = λ input are is.
    let list = c.as_slice.ensures in
    let told = c.in_ok-place.ensures in
    let at : position (λ a. same_made a c.args.made) c.args.self.now.exported.addresses.keys ≡ Some c.in_ok-place.place = cc in
    address_there input c.args.self.now c.args.made c.in_ok-place.place c.entry_at.result are is at c.entry_at.ensures

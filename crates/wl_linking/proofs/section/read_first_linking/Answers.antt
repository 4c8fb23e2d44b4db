use Rattle.std.proofs.Common.{ap, inr}
use Rattle.wl_module.specs.Sections.{Section}
use Rattle.wl_custom.specs.Linking.{IsLinking, LinkingFault}
use Rattle.wl_linking.specs.Sections.{base_of, LinkingItems, LinkingItemsFault}
use Rattle.wl_custom.proofs.Exact.{answer_follows}
use Rattle.wl_linking.proofs.section.read_first_linking.Goals as goal

pub returns : goal.returns
returns c =
    let s = c.args.section.now in
    let base = ap (λ (x : Section). base_of x) c.section.view_is in
    let payload = ap (λ (x : Section). x.payload) c.section.view_is in
    answer_follows (λ l. IsLinking (base_of s) l s.payload) (λ l. LinkingItems c.args.before.now s l s.payload) (λ e. LinkingFault (base_of s) e s.payload) (λ e. LinkingItemsFault c.args.before.now s e s.payload)
    (λ l h. (c.if-before.false, h)) (λ e f. inr (c.if-before.false, f)) c.read_linking.result (rw (base, payload) at c.read_linking.ensures)

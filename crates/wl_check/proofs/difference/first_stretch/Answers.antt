use Rattle.std.proofs.Common.{◌≡◌, ◌+◌, ℕ, suc, Option, None, Some, take, sym, ap, subst, ◌∙◌, arith}
use Rattle.memchr.specs.Find.{IsFirstByte, is_byte}
use Rattle.wl_check.specs.Texts.{newline}
use Rattle.wl_check.proofs.DifferenceLaws.{none_stretch, some_stretch}
use Rattle.wl_check.proofs.difference.first_stretch.Goals as goal

pub returns-in-None : goal.returns-in-None
returns-in-None c =
    let text = c.args.text.now in
    sym (none_stretch text (subst (λ (r : Option ℕ). IsFirstByte (is_byte newline) text r) c.in-None.is c.memchr.ensures))

pub returns-in-Some : goal.returns-in-Some
returns-in-Some c =
    let text = c.args.text.now in
    let h = subst (λ (r : Option ℕ). IsFirstByte (is_byte newline) text r) c.in-Some.is c.memchr.ensures in
    let next : c.in-Some.at + 1 ≡ suc c.in-Some.at = omega arith in
    c.split_at.ensures.front ∙ ap (λ (n : ℕ). take n text) next ∙ sym (some_stretch text c.in-Some.at h.0.high h.0.before h.1)

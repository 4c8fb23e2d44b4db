use Rattle.std.proofs.Common.{ℕ, ◌<◌, ◌≤◌, ◌^◌, Some, None, SomeIff, inl, inr, IfSome, IfNone, Option}
use Rattle.std.specs.Int.{next_multiple_of}
use Rattle.std.proofs.lemmas.Bool.{cases_lt}
use Rattle.wl_data.specs.Spans.{IsLeastAligned}
use Rattle.wl_data.proofs.Multiples.{least_found, least_is}
use Rattle.wl_data.proofs.align.align_up.Goals as goal

some_least : (o : Option ℕ) (a e : ℕ) → 0 < a → SomeIff o ((0 < a) × (next_multiple_of e a < 2 ^ 32)) (next_multiple_of e a) → IfSome o (IsLeastAligned a e)
some_least None a e p s = tt
some_least (Some x) a e p s = rw s.1 (least_found a e p)

none_least : (o : Option ℕ) (a e : ℕ) → 0 < a → SomeIff o ((0 < a) × (next_multiple_of e a < 2 ^ 32)) (next_multiple_of e a) → IfNone o ((place : ℕ) → IsLeastAligned a e place → 2 ^ 32 ≤ place)
none_least None a e p s = λ place l.
    let same = least_is a e place p l in
    elim (cases_lt place (2 ^ 32)) [ inl lt ↦ absurd (s (p, rw (← same) lt)) | inr ge ↦ ge ]
none_least (Some x) a e p s = tt

pub returns-clause-least : goal.returns-clause-least
returns-clause-least c = some_least c.checked_next_multiple_of.result c.args.alignment c.args.end c.requires c.checked_next_multiple_of.ensures

pub returns-clause-none : goal.returns-clause-none
returns-clause-none c = none_least c.checked_next_multiple_of.result c.args.alignment c.args.end c.requires c.checked_next_multiple_of.ensures

use Rattle.std.proofs.Common.{◌≡◌, ◌∙◌, ◌+◌, set, refl}
use Rattle.wl_symbols.specs.Index.{padded}
use Rattle.wl_symbols.proofs.IndexLaws.{push_follows, replace_follows, on_ok}
use Rattle.wl_symbols.proofs.BearerLaws.{of_object}
use Rattle.wl_symbols.proofs.index.NameIndex.set_object.Goals as goal

pub invariant_of-self : goal.invariant_of-self
invariant_of-self c =
    c.exchange.ensures.indexed c.self.invariant (rw c.in_ok-entries.ensures (of_object c.args.object 0 c.args.file.now.symbols))

pub returns-clause-pushed : goal.returns-clause-pushed
returns-clause-pushed c =
    on_ok c.exchange.result (c.exchange.new.objects.items ≡ set (padded (c.args.object + 1) c.self.inside.objects.items) c.args.object c.in_ok-entries.entries) _
    (λ put. push_follows c.args.self.now c.exchange.new.objects.items c.args.object c.args.file.now (put ∙ rw (c.in_ok-entries.ensures, c.self.view_is) refl)) c.exchange.ensures.ok

pub returns-clause-replaced : goal.returns-clause-replaced
returns-clause-replaced c =
    on_ok c.exchange.result (c.exchange.new.objects.items ≡ set (padded (c.args.object + 1) c.self.inside.objects.items) c.args.object c.in_ok-entries.entries) _
    (λ put. replace_follows c.args.self.now c.exchange.new.objects.items c.args.object c.args.file.now (put ∙ rw (c.in_ok-entries.ensures, c.self.view_is) refl)) c.exchange.ensures.ok

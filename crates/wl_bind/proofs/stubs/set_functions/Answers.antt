use Rattle.std.proofs.Common.{◌≡◌, ◌∷◌, length, rules}
use Rattle.wl_bind.specs.Later.{with_functions}
use Rattle.wl_bind.specs.Stepped.{stepped}
use Rattle.wl_bind.proofs.SteppedLaws.{one_taken, none_taken}
use Rattle.wl_bind.proofs.stubs.set_functions.Goals as goal

pub loop-object-preserved : goal.loop-object-preserved
loop-object-preserved c =
    let at = c.loop-object in
    let steps = c.in-Some.ensures.steps in
    let first : at.object-iterator.iter.rest.items ≡ c.in-Some.list ∷ c.next.new.self.iter.rest.items = search rules in
    one_taken with_functions at.object-iterator.iter.rest.items c.next.new.self.iter.rest.items at.object-iterator.count c.next.new.self.count c.in-Some.object
    c.in-Some.list at.rows c.set_functions_at.new.rows (stepped with_functions 0 c.args.functions.items c.args.rows.now) first steps.1 steps.2
    c.set_functions_at.ensures at.invariant

pub returns : goal.returns
returns c =
    let at = c.loop-object in
    let none : length at.object-iterator.iter.rest.items ≡ 0 = search rules in
    none_taken with_functions at.object-iterator.iter.rest.items at.object-iterator.count at.rows
    (stepped with_functions 0 c.args.functions.items c.args.rows.now) none at.invariant

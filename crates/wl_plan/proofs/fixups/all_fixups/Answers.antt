use Rattle.std.proofs.Common.{◌≡◌, ◌∙◌, ◌∷◌, [], List, sym, subst, append-nil, append_assoc}
use Rattle.std.specs.List.{AllZip}
use Rattle.std.proofs.lemmas.Result.{err_from_is_err_and}
use Rattle.wl_linking.specs.Steps.{Clear}
use Rattle.wl_symbols.specs.KeptRelocations.{relocations_left}
use Rattle.wl_symbols.specs.Relocations.{relocations}
use Rattle.wl_symbols.specs.declared.relocated.Relocated.{Relocated}
use Rattle.wl_plan.specs.steps.Fixups.{IsRefusedAt}
use Rattle.wl_plan.specs.Fixups.{IsFixup}
use Rattle.wl_plan.specs.steps.Positions.{AreMoved}
use Rattle.wl_plan.proofs.FixupListLaws.{all_more, next_is_kept, none_refused, one_refused, zip_more}
use Rattle.wl_plan.proofs.fixups.all_fixups.Goals as goal

pub fixup-requires-clause-kept : goal.fixup-requires-clause-kept
fixup-requires-clause-kept c =
    let at = c.loop-relocated in
    next_is_kept (relocations c.args.sources.now.book.now.input.now) at.yielded _
    (relocations_left c.next.new.self) c.in-Some.relocated at.invariant.all c.in-Some.ensures.steps

pub fixup-requires-clause-moved : goal.fixup-requires-clause-moved
fixup-requires-clause-moved c =
    let s = c.args.sources.now in
    let input = s.book.now.input.now in
    let g = s.book.now.placing.now in
    let at = c.loop-relocated in
    let r = c.in-Some.relocated in
    let more = relocations_left c.next.new.self in
    let kept = next_is_kept (relocations input) at.yielded _ more r at.invariant.all c.in-Some.ensures.steps in
    c.next_position-position.ensures.at g more
    (subst (λ (rs : List Relocated). AreMoved input g rs at.moved.now) c.in-Some.ensures.steps at.invariant.moved)
    (c.requires.positions.others r kept)

pub returns-in_err-fixup-clause-err : goal.returns-in_err-fixup-clause-err
returns-in_err-fixup-clause-err c =
    let p = err_from_is_err_and c.from_residual-in_err-fixup.result c.from_residual-in_err-fixup.ensures.1 in
    let s = c.args.sources.now in
    let at = c.loop-relocated in
    let r = c.in-Some.relocated in
    let kept = next_is_kept (relocations s.book.now.input.now) at.yielded _ (relocations_left c.next.new.self) r
    at.invariant.all c.in-Some.ensures.steps in
    rw (p.1, p.2) (one_refused s r c.in_err-fixup.field-0.0 kept c.in_err-fixup.ensures.err)

pub loop-relocated-preserved : goal.loop-relocated-preserved
loop-relocated-preserved c =
    let s = c.args.sources.now in
    let at = c.loop-relocated in
    let r = c.in-Some.relocated in
    record {
      all = append_assoc at.yielded (r ∷ []) _ ∙ rw (← c.in-Some.ensures.steps) at.invariant.all;
      so_far = zip_more (IsFixup s.book.now.input.now s.book.now.placing.now) at.yielded r at.fixups.items
          c.push.new.self.items c.in_ok-fixup.field-0 at.invariant.so_far c.in_ok-fixup.ensures.ok
          c.in_ok-push.ensures.items;
      clear = all_more (λ (x : Relocated). Clear (IsRefusedAt s x)) at.yielded r at.invariant.clear
          c.in_ok-fixup.ensures.clear;
      moved = c.next_position-position.ensures.left s.book.now.placing.now (relocations_left c.next.new.self)
          (subst (λ (rs : List Relocated). AreMoved s.book.now.input.now s.book.now.placing.now rs at.moved.now)
          c.in-Some.ensures.steps at.invariant.moved);
    }

pub returns-clause-ok : goal.returns-clause-ok
returns-clause-ok c =
    let s = c.args.sources.now in
    let at = c.loop-relocated in
    let seen : at.yielded ≡ relocations s.book.now.input.now =
    sym (append-nil at.yielded) ∙ rw c.in-None.ensures.steps.0 at at.invariant.all in
    let made : AllZip (IsFixup s.book.now.input.now s.book.now.placing.now) (relocations s.book.now.input.now) at.fixups.items =
    subst (λ (rs : List Relocated). AllZip (IsFixup s.book.now.input.now s.book.now.placing.now) rs at.fixups.items) seen
    at.invariant.so_far in
    rw c.new.ensures made

pub returns-clause-clear : goal.returns-clause-clear
returns-clause-clear c =
    let s = c.args.sources.now in
    let at = c.loop-relocated in
    let seen : at.yielded ≡ relocations s.book.now.input.now =
    sym (append-nil at.yielded) ∙ rw c.in-None.ensures.steps.0 at at.invariant.all in
    none_refused s at.yielded seen at.invariant.clear

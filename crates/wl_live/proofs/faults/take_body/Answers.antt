use Rattle.std.proofs.Common.{◌≡◌, ◌∙◌, ap, sym, arith, rules, length, append-nil, inl, []}
use Rattle.wl_module.specs.Bodies.{Body}
use Rattle.wl_ops.specs.Numbers.{AreTold, NumbersFault}
use Rattle.wl_live.specs.Faults.{HasBodyFault}
use Rattle.wl_live.proofs.FaultLaws.{number-le, body_fault-from, told_fault}
use Rattle.wl_live.proofs.faults.take_body.Goals as goal

pub numbers_fault-requires : goal.numbers_fault-requires
numbers_fault-requires c =
    let same : c.deref.result.now ≡ c.args.body.now.bytes = c.deref.ensures.value ∙ ap (λ (b : Body). b.bytes) c.body.view_is in
    let told : AreTold c.in-Ok.numbers.items c.args.body.now.bytes = rw same at c.in-Ok.ensures.reads.sound in
    λ n m.
    let listed = rw c.deref-in-Ok-2.ensures.value at m in
    omega (arith, number-le c.in-Ok.numbers.items 0 (length c.args.body.now.bytes) n (c.numbers_are_one.ensures.within c.args.body.now.bytes c.in-Ok.numbers.items told.0) listed)

pub returns-in_ok-push_segments-in-Ok-clause-segments : goal.returns-in_ok-push_segments-in-Ok-clause-segments
returns-in_ok-push_segments-in-Ok-clause-segments c =
    let same : c.deref.result.now ≡ c.args.body.now.bytes = c.deref.ensures.value ∙ ap (λ (b : Body). b.bytes) c.body.view_is in
    let told : AreTold c.in-Ok.numbers.items c.args.body.now.bytes = rw same at c.in-Ok.ensures.reads.sound in
    (c.in-Ok.numbers.items, told.0, rw c.deref-in-Ok.ensures.value at c.in_ok-push_segments-in-Ok.ensures)

pub returns-in_ok-push_segments-in-Ok-clause-fault : goal.returns-in_ok-push_segments-in-Ok-clause-fault
returns-in_ok-push_segments-in-Ok-clause-fault c =
    let same : c.deref.result.now ≡ c.args.body.now.bytes = c.deref.ensures.value ∙ ap (λ (b : Body). b.bytes) c.body.view_is in
    let told : AreTold c.in-Ok.numbers.items c.args.body.now.bytes = rw same at c.in-Ok.ensures.reads.sound in
    body_fault-from c.numbers_are_one.ensures.one c.args.file.now c.args.body.now c.in-Ok.numbers.items c.numbers_fault.result told (rw c.deref-in-Ok-2.ensures.value at c.numbers_fault.ensures)

pub returns-in-Err-Malformed : goal.returns-in-Err-Malformed
returns-in-Err-Malformed c =
    let same : c.deref.result.now ≡ c.args.body.now.bytes = c.deref.ensures.value ∙ ap (λ (b : Body). b.bytes) c.body.view_is in
    let fault : NumbersFault c.in-Err-Malformed.field-0 c.args.body.now.bytes = rw same at (told_fault NumbersFault c.deref.result.now c.in-Err-Malformed.field-0 (search rules) c.in-Err-Malformed.ensures.reads.fault) in
    record {
      segments = ([], c.numbers_are_one.ensures.none c.args.body.now.bytes c.in-Err-Malformed.field-0 fault, sym (append-nil c.args.segments.now.items));
      fault = let wrong : HasBodyFault c.args.file.now c.args.body.now c.in-Err-Malformed.field-0 = inl fault in rw c.in-Err-Malformed.field-0-is at wrong;
    }

pub returns-in-Err-Unsupported : goal.returns-in-Err-Unsupported
returns-in-Err-Unsupported c =
    let same : c.deref.result.now ≡ c.args.body.now.bytes = c.deref.ensures.value ∙ ap (λ (b : Body). b.bytes) c.body.view_is in
    let fault : NumbersFault c.in-Err-Unsupported.field-0 c.args.body.now.bytes = rw same at (told_fault NumbersFault c.deref.result.now c.in-Err-Unsupported.field-0 (search rules) c.in-Err-Unsupported.ensures.reads.fault) in
    record {
      segments = ([], c.numbers_are_one.ensures.none c.args.body.now.bytes c.in-Err-Unsupported.field-0 fault, sym (append-nil c.args.segments.now.items));
      fault = let wrong : HasBodyFault c.args.file.now c.args.body.now c.in-Err-Unsupported.field-0 = inl fault in rw c.in-Err-Unsupported.field-0-is at wrong;
    }

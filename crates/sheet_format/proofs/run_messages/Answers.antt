-- `sheet_format::run_messages` meets its contract: the messages that were passed led to a machine at rest, from which those that are left give what the whole sheet gives.
use Prim.Native.Nat.{◌+◌, ◌-◌, ◌<◌}
use Rattle.state.proofs.Laws.{refused_no, refused_yes}
use mathlib.Core.Path.{◌≡◌}
use Rattle.layout.proofs.Stands.{octets_of}
use Rattle.records.proofs.Views.{num_is, num_none}
use Rattle.requests.proofs.Shown.{asked_inside, asked_never, asked_shows}
use Rattle.requests.proofs.Views.{sheet_parts}
use Rattle.sheet_format.proofs.Passing.{begun_few, next, passed_again, passed_start, sheet_ended, sheet_refused}
use mathlib.Core.Path.{◌∙◌}
use native.Mathlib.Omega.{arith}
use Rattle.records.proofs.Views.{never}
use Rattle.sheet_format.proofs.run_messages.Goals as goal

pub returns-in_default : goal.returns-in_default
returns-in_default c = never (num_none c.read_u16.ensures c.in_default.is) (sheet_parts _ c.requires.checked.read).counted

pub loop-init : goal.loop-init
loop-init c = let z : c.in-Some.count - 0 ≡ c.in-Some.count = omega arith in rw z (passed_start _ _ _ (octets_of c.args.sheet.now (λ i _. omega (arith, c.shared_slice_known-2-1.given i))) c.requires (num_is c.read_u16.ensures c.in-Some.is))

pub shape_of-text-in_default-read_request : goal.shape_of-text-in_default-read_request
shape_of-text-in_default-read_request c =
    let passed = c.loop.invariant in
    passed.text_size

pub shape_of-list-in_default-read_request : goal.shape_of-list-in_default-read_request
shape_of-list-in_default-read_request c =
    let passed = c.loop.invariant in
    passed.list_size

pub shape_of-work-in_default-read_request : goal.shape_of-work-in_default-read_request
shape_of-work-in_default-read_request c =
    let passed = c.loop.invariant in
    passed.work_size

pub returns-in_default-read_request : goal.returns-in_default-read_request
returns-in_default-read_request c =
    let asked = next c.loop.invariant (omega arith) in
    asked_never _ _ c.read_request.ensures c.in_default-read_request.is asked.reads

pub run_message-n-requires : goal.run_message-n-requires
run_message-n-requires c = asked_inside _ _ c.read_request.ensures c.in-Some-read_request.is

pub shape_of-text-then-is_refused : goal.shape_of-text-then-is_refused
shape_of-text-then-is_refused c =
    let passed = c.loop.invariant in
    c.run_message-n.auto.text ∙ passed.text_size

pub shape_of-list-then-is_refused : goal.shape_of-list-then-is_refused
shape_of-list-then-is_refused c =
    let passed = c.loop.invariant in
    c.run_message-n.auto.list ∙ passed.list_size

pub shape_of-work-then-is_refused : goal.shape_of-work-then-is_refused
shape_of-work-then-is_refused c =
    let passed = c.loop.invariant in
    c.run_message-n.auto.work ∙ passed.work_size

pub returns-then-is_refused : goal.returns-then-is_refused
returns-then-is_refused c =
    let passed = c.loop.invariant in
    let asked = next c.loop.invariant (omega arith) in
    sheet_refused passed (omega arith) (asked_shows _ _ c.read_request.ensures c.in-Some-read_request.is asked.reads).1 c.run_message-n.ensures (refused_yes c.is_refused.ensures c.if-is_refused.true)

pub overflow_add-begun : goal.overflow_add-begun
overflow_add-begun c =
    let passed = c.loop.invariant in
    let asked = next c.loop.invariant (omega arith) in
    omega (arith, begun_few passed (omega arith) (asked_shows _ _ c.read_request.ensures c.in-Some-read_request.is asked.reads).1 c.run_message-n.ensures (refused_no c.is_refused.ensures c.if-is_refused.false))

pub loop-preserved : goal.loop-preserved
loop-preserved c =
    let passed = c.loop.invariant in
    let lt : 0 < c.in-Some.count - c.loop.counter = omega arith in
    let asked = next c.loop.invariant lt in
    let m : c.in-Some.count - (c.loop.counter + 1) ≡ c.in-Some.count - c.loop.counter - 1 = omega arith in
    rw m (passed_again passed lt (asked_shows _ _ c.read_request.ensures c.in-Some-read_request.is asked.reads).1 c.run_message-n.ensures (refused_no c.is_refused.ensures c.if-is_refused.false) c.run_message-n.auto.text c.run_message-n.auto.list c.run_message-n.auto.work (asked_shows _ _ c.read_request.ensures c.in-Some-read_request.is asked.reads).0)

pub shape_of-text : goal.shape_of-text
shape_of-text c =
    let passed = c.loop.invariant in
    passed.text_size

pub shape_of-list : goal.shape_of-list
shape_of-list c =
    let passed = c.loop.invariant in
    passed.list_size

pub shape_of-work : goal.shape_of-work
shape_of-work c =
    let passed = c.loop.invariant in
    passed.work_size

pub returns : goal.returns
returns c =
    let passed = c.loop.invariant in
    sheet_ended passed (omega (arith, c.loop-test.false))

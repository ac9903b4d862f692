-- `resolver::scope::value::find_local` meets its contract: each turn takes the first of the named arguments that are left.
use Rattle.resolver.proofs.Single.Named.{seek_end, seek_here, seek_later, seek_never, seek_room, seek_start}
use mathlib.Core.Path.{◌∙◌, refl, sym}
use native.Mathlib.Nat.{sub-add-eq, sub-zero}
use native.Mathlib.Omega.{arith}
use Rattle.resolver.proofs.scope.value.find_local.Goals as goal

pub loop-init : goal.loop-init
loop-init c = rw (sub-zero c.args.count) (λ a w low f ns h k. seek_start a _ h k)

pub returns-in_default : goal.returns-in_default
returns-in_default c = λ a w low f ns h k. seek_never (c.loop.invariant a w low f ns h k) (omega (arith, c.loop-test.true)) c.read_named.ensures c.in_default.is

pub slice_bounds-same_bytes-count : goal.slice_bounds-same_bytes-count
slice_bounds-same_bytes-count c =
    let ins = c.read_named.ensures.inside _ c.in-Some.is in
    let j = ins in omega arith

pub slice_bounds-same_bytes-start : goal.slice_bounds-same_bytes-start
slice_bounds-same_bytes-start c =
    let ins = c.read_named.ensures.inside _ c.in-Some.is in
    let j = ins in omega arith

pub slice_bounds-same_bytes-end : goal.slice_bounds-same_bytes-end
slice_bounds-same_bytes-end c =
    let ins = c.read_named.ensures.inside _ c.in-Some.is in
    let j = ins in omega arith

pub returns-then-same_bytes : goal.returns-then-same_bytes
returns-then-same_bytes c = λ a w low f ns h k. seek_here (c.loop.invariant a w low f ns h k) (omega (arith, c.loop-test.true)) c.read_named.ensures c.in-Some.is (sym c.same_bytes.ensures ∙ c.if-same_bytes.true) c.literal_at.ensures refl

pub returns-then-end-k : goal.returns-then-end-k
returns-then-end-k c = λ a w low f ns h k. let y = seek_room (c.loop.invariant a w low f ns h k) (omega (arith, c.loop-test.true)) c.read_named.ensures c.in-Some.is c.taken-k.ensures in let z = c.if-end-k.true in absurd (omega arith)

pub loop-preserved : goal.loop-preserved
loop-preserved c = rw (sub-add-eq c.args.count c.loop.counter 1) (λ a w low f ns h k. seek_later (c.loop.invariant a w low f ns h k) (omega (arith, c.loop-test.true)) c.read_named.ensures c.in-Some.is c.taken-k.ensures (sym c.same_bytes.ensures ∙ c.if-same_bytes.false))

pub returns : goal.returns
returns c = λ a w low f ns h k. seek_end (c.loop.invariant a w low f ns h k) (omega (arith, c.loop-test.false)) refl

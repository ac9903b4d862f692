-- `resolver::scope::call::merge_named` meets its contract: each turn merges the first of the named arguments that are left.
use Rattle.resolver.proofs.Single.Calls.{merging_end, merging_long, merging_never, merging_next, merging_room}
use Rattle.resolver.proofs.Single.Merges.{long_is}
use mathlib.Core.Path.{◌∙◌, refl}
use native.Mathlib.Nat.{sub-add-eq, sub-zero}
use native.Mathlib.Omega.{arith}
use Rattle.resolver.proofs.scope.call.merge_named.Goals as goal

pub loop-init : goal.loop-init
loop-init c = rw (sub-zero c.args.count) (λ x ns f low e h n. record { rest = ns; so_far = x; left = h; texts = n; here = e; same = refl })

pub returns-in_default : goal.returns-in_default
returns-in_default c = λ x ns f low e h n. merging_never (c.loop.invariant x ns f low e h n) (omega (arith, c.loop-test.true)) c.read_named.ensures c.in_default.is

pub returns-in_err-o : goal.returns-in_err-o
returns-in_err-o c = λ x ns f low e h n. long_is _ c.from_residual.ensures.0 ∙ merging_long (c.loop.invariant x ns f low e h n) (omega (arith, c.loop-test.true)) c.read_named.ensures c.in-Some.is c.merge_one.ensures c.in_err-o.was

pub returns-then-end-k : goal.returns-then-end-k
returns-then-end-k c = λ x ns f low e h n. let y = merging_room (c.loop.invariant x ns f low e h n) (omega (arith, c.loop-test.true)) c.read_named.ensures c.in-Some.is c.merge_one.ensures c.taken-k.ensures in let z = c.if-end-k.true in absurd (omega arith)

pub loop-preserved : goal.loop-preserved
loop-preserved c = rw (sub-add-eq c.args.count c.loop.counter 1) (λ x ns f low e h n. merging_next (c.loop.invariant x ns f low e h n) (omega (arith, c.loop-test.true)) c.read_named.ensures c.in-Some.is c.merge_one.ensures c.taken-k.ensures c.in_ok-o.was)

pub returns : goal.returns
returns c = λ x ns f low e h n. merging_end (c.loop.invariant x ns f low e h n) (omega (arith, c.loop-test.false))

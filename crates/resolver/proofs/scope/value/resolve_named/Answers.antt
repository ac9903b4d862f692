-- `resolver::scope::value::resolve_named` meets its contract: each turn resolves the first of the named arguments that are left.
use Rattle.resolver.proofs.Single.Values.{named_digits_as, named_end, named_string_as, named_unread}
use lib.ListN.{length}
use mathlib.Core.Path.{◌∙◌, ap, refl}
use native.Mathlib.Nat.{sub-add-eq, sub-zero}
use native.Mathlib.Omega.{arith}
use Rattle.resolver.proofs.scope.value.resolve_named.Goals as goal
use Rattle.resolver.proofs.scope.value.resolve_named.Goals.{then-n-eq1, else-n-eq1}

pub loop-init : goal.loop-init
loop-init c = rw (sub-zero c.args.count) (refl, λ w r h. h)

pub shape_of-work-in_default : goal.shape_of-work-in_default
shape_of-work-in_default c = c.loop.invariant.0

pub returns-in_default : goal.returns-in_default
returns-in_default c = c.loop.invariant.1 _ _ (named_unread _ _ _ _ _ (omega (arith, c.loop-test.true)) c.read_named.ensures c.in_default.is)

pub loop-preserved : goal.loop-preserved
loop-preserved c = rw (sub-add-eq c.args.count c.loop.counter 1) (
  elim c.if-n-eq1.branch [ then-n-eq1 y ↦ ap length y.work-is ∙ y.literal_string.ensures.size ∙ c.loop.invariant.0 | else-n-eq1 y ↦ ap length y.work-is ∙ c.loop.invariant.0 ],
  λ w r h. c.loop.invariant.1 w r (elim c.if-n-eq1.branch [
    | then-n-eq1 y ↦ named_string_as _ _ _ _ _ (omega (arith, c.loop-test.true)) c.read_named.ensures c.in-Some.is y.if-n-eq1.true y.literal_string.ensures y.work-is y.st-is h
    | else-n-eq1 y ↦ named_digits_as _ _ _ _ _ (omega (arith, c.loop-test.true)) c.read_named.ensures c.in-Some.is y.if-n-eq1.false y.work-is y.st-is h
  ]),
)

pub shape_of-work : goal.shape_of-work
shape_of-work c = c.loop.invariant.0

pub returns : goal.returns
returns c = c.loop.invariant.1 _ _ (named_end _ _ _ _ _ (omega (arith, c.loop-test.false)))

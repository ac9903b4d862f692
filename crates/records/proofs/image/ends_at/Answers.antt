-- `records::image::ends_at` meets its contract.
use Prim.Native.Nat.{◌+◌}
use Rattle.records.proofs.Laws.{fails, next_got, passes}
use mathlib.Core.Path.{◌≡◌}
use native.Mathlib.Omega.{arith}
use Rattle.records.proofs.image.ends_at.Goals as goal

pub returns-then-e-at : goal.returns-then-e-at
returns-then-e-at c = let h : c.args.e ≡ c.args.at + c.args.n = omega arith in passes _ h (next_got c.args.e c.args.e)

pub returns-else-e-at : goal.returns-else-e-at
returns-else-e-at c = let h : c.args.e ≡ c.args.at + c.args.n → ⊥ = λ q. c.if-e-at.false (omega arith) in fails _ h

pub returns-else-at-e : goal.returns-else-at-e
returns-else-at-e c = let h : c.args.e ≡ c.args.at + c.args.n → ⊥ = λ q. omega arith in fails _ h

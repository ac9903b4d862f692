-- What the code answers of two byte strings.
use Rattle.std.specs.Prelude.{ℕ, Bool, true, false, List}
use Rattle.order.specs.Order.{before}
use Rattle.std.specs.declared.cmp.Ordering.{Ordering}
use Rattle.std.specs.declared.cmp.Ordering.TheVariants.{Less, Equal, Greater}

-- less, where the first is before the second; greater, where the second is before the first; else equal
unfoldable pub order_if : Bool → Bool → Ordering
order_if true t = Less
order_if false true = Greater
order_if false false = Equal

unfoldable pub order_of : List ℕ → List ℕ → Ordering
order_of a b = order_if (before a b) (before b a)

-- `plural_table::make_table` meets its contract: each byte is that of the printed table.
use Prim.Native.Nat.{ℕ, ◌<◌}
use Rattle.plural.proofs.Table.{table_right}
use Rattle.plural.specs.Table.{printed}
use Rattle.std.proofs.Common.{rules, tests}
use lib.ListN.{get_or, length}
use lib.Seq.{ext_get_or}
use mathlib.Core.Path.{◌≡◌, ◌∙◌, sym}
use native.Mathlib.Omega.{arith}
use Rattle.plural_table.proofs.make_table.Goals as goal

pub returns : goal.returns
returns c =
    let each : (k : ℕ) → k < 1608 → get_or c.from_fn.result k 0 ≡ get_or printed k 0 = λ k m. (let call = (c.from_fn.ensures.items.at k 0 m).2 in search (rules, tests)) in
    ext_get_or 0 c.from_fn.result printed (c.from_fn.ensures.items.long ∙ sym table_right.size) (λ (k : ℕ) (m : k < length c.from_fn.result). each k (omega (arith, c.from_fn.ensures.items.long)))

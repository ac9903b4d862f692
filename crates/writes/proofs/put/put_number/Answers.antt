-- `writes::put::put_number` meets its contract: the number's text is the front of its bytes.
use Prim.Native.Nat.{◌-◌, ℕ}
use Rattle.decimals.proofs.Writing.{text_held}
use Rattle.writes.specs.Written.{written}
use lib.ListN.{length, length-take, take}
use mathlib.Core.List.{List}
use mathlib.Core.Path.{◌∙◌, ◌≡◌, ap}
use native.Mathlib.Omega.{arith}
use Rattle.writes.proofs.put.put_number.Goals as goal

pub slice_bounds-put-end : goal.slice_bounds-put-end
slice_bounds-put-end c =
    let size = length-take c.number_text-t.result.len c.number_text-t.result.bytes in
    let same = ap length (text_held _ c.number_text-t.ensures).0 in
    let p = size in let q = same in omega (arith, (text_held _ c.number_text-t.ensures).1)

pub returns : goal.returns
returns c =
    let z : c.number_text-t.result.len - 0 ≡ c.number_text-t.result.len = omega arith in
    c.put.ensures ∙ ap (λ (b : List ℕ). written b c.args.text.now c.args.work.now c.args.st.now) (ap (λ (k : ℕ). take k c.number_text-t.result.bytes) z ∙ (text_held _ c.number_text-t.ensures).0)

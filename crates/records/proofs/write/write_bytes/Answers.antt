-- `records::write::write_bytes` meets its contract: byte by byte, where all of them fit.
use Prim.Native.Nat.{ℕ, ◌+◌}
use Rattle.records.proofs.Laws.{there}
use Rattle.records.proofs.Writing.{fits_paste, stays}
use lib.ListN.{get_or, length, length-set, set}
use lib.Seq.{paste, paste-suc, paste-zero}
use mathlib.Core.List.{List}
use mathlib.Core.Path.{◌∙◌, ◌≡◌, ap, refl, sym}
use native.Mathlib.Numerals.{add-one}
use native.Mathlib.Omega.{arith}
use Rattle.records.proofs.write.write_bytes.Goals as goal

pub loop-i-init : goal.loop-i-init
loop-i-init c = (refl, paste-zero c.args.d.now c.args.at c.args.src.now)

pub loop-i-preserved : goal.loop-i-preserved
loop-i-preserved c =
    let room = there c.args.d.now c.args.at (length c.args.src.now) c.has_bytes.ensures c.if-has_bytes.true in (
      simp length-set c.loop-i.invariant.0,
      ap (λ (l : List ℕ). set l (c.args.at + c.loop-i.i) (get_or c.args.src.now c.loop-i.i 0)) c.loop-i.invariant.1
          ∙ paste-suc c.args.d.now c.args.at c.args.src.now c.loop-i.i 0 (let h = room in omega arith) c.loop-i-test.true
          ∙ ap (λ (k : ℕ). paste c.args.d.now c.args.at c.args.src.now k) (sym (add-one c.loop-i.i)),
    )

pub returns-after-loop-i : goal.returns-after-loop-i
returns-after-loop-i c =
    let room = there c.args.d.now c.args.at (length c.args.src.now) c.has_bytes.ensures c.if-has_bytes.true in
    let e : c.loop-i.i ≡ length c.args.src.now = omega arith in
    c.loop-i.invariant.1 ∙ ap (λ (k : ℕ). paste c.args.d.now c.args.at c.args.src.now k) e ∙ sym (fits_paste c.args.d.now c.args.at c.args.src.now room)

pub returns-else-has_bytes : goal.returns-else-has_bytes
returns-else-has_bytes c = stays c.args.d.now c.args.at c.args.src.now c.has_bytes.ensures c.if-has_bytes.false

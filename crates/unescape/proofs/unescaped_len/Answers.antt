-- `unescape::unescaped_len` meets its contract: what is counted, with the length of what is left, gives the same as the whole.
use Rattle.unescape.proofs.Reading.{count_turn, length_unescape}
use mathlib.Core.Path.{refl}
use native.Mathlib.Omega.{arith}
use Rattle.unescape.proofs.unescaped_len.Goals as goal

pub overflow_add-n : goal.overflow_add-n
overflow_add-n c =
    let turn = count_turn _ _ _ c.in-Some.ensures.cases.0 c.front_piece-p.ensures c.len-n.ensures refl c.loop-b.invariant in
    omega (arith, length_unescape c.args.s.now)

pub loop-b-preserved : goal.loop-b-preserved
loop-b-preserved c = count_turn _ _ _ c.in-Some.ensures.cases.0 c.front_piece-p.ensures c.len-n.ensures c.more.ensures c.loop-b.invariant

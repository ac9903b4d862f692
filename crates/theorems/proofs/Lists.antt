-- A list whose length a u32 can state is found again by its header.
use mathlib.Core.Path.{◌≡◌, ap, sym, ◌∙◌}
use mathlib.Core.List.{List, ◌∷◌, ◌++◌, append_assoc}
use Prim.Native.Nat.{ℕ, ◌+◌, ◌≤◌}
use native.Mathlib.Omega.{arith}
use lib.ListN.{length, take, drop, length-append}
use lib.Seq.{take_at, take-append_seam}
use Rattle.records.specs.Bytes.{be, to_be}
use Rattle.records.specs.Encode.{enc_all, enc_whole}
use Rattle.records.specs.Errors.{Error, enc_error, enc_errors}
use Rattle.layout.proofs.Numbers.{length_to_be, be_to_be}
use Rattle.growth.specs.Items.{at_front}
use Rattle.resolution.specs.Effect.{Bytes}
use Rattle.theorems.specs.Finished.{list_of}

-- a list at the front of a buffer is found again by its header
pub list_of_front : (es : List Error) (l : Bytes) → length (enc_errors es) ≤ 4294967295 → list_of (at_front (enc_errors es) l) ≡ enc_errors es
unfolding list_of at_front enc_errors enc_whole
list_of_front es l h =
    let body : Bytes = 1 ∷ enc_all enc_error es in
    let n : ℕ = 4 + length body in
    let all : Bytes = to_be 4 n ++ body in
    let rest : Bytes = drop (length all) l in
    let size : length all ≡ n = omega (arith, length-append (to_be 4 n) body, length_to_be 4 n) in
    let front : take 4 (all ++ rest) ≡ to_be 4 n = ap (take 4) (append_assoc (to_be 4 n) body rest) ∙ take_at (to_be 4 n) (body ++ rest) 4 (length_to_be 4 n) in
    let told : be (take 4 (all ++ rest)) ≡ length all = ap be front ∙ be_to_be 4 n (omega arith) ∙ sym size in
    ap (λ (j : ℕ). take j (all ++ rest)) told ∙ take-append_seam all rest

-- Names and values within the limits have, sorted, a valid image.
use mathlib.Core.Path.{◌≡◌}
use mathlib.Core.List.{List, [], ◌∷◌, ◌++◌}
use Prim.Native.Nat.{ℕ, ◌+◌, ◌≤◌}
use native.Mathlib.Omega.{arith}
use lib.ListN.{length, length-append}
use Rattle.records.specs.Bytes.{to_be}
use Rattle.records.specs.Images.{Argument, max_image}
use Rattle.records.specs.Encode.{enc_str, enc_all, enc_counted, enc_whole, enc_argument, enc_named_argument, enc_arguments_image}
use Rattle.records.specs.Valid.{Fits, ValidArgumentsImage}
use Rattle.layout.proofs.Numbers.{length_to_be}
use Rattle.order.specs.Sameness.{Allowed}
use Rattle.order.proofs.Sorted.{sorted, sorted_bytes, sorted_valid}

-- an image has seven bytes and those of its arguments
image_length : (l : List (List ℕ × Argument)) → length (enc_arguments_image l) ≡ 7 + length (enc_all enc_named_argument l)
unfolding enc_arguments_image enc_whole enc_counted
image_length l =
    let b : List ℕ = 1 ∷ to_be 2 (length l) ++ enc_all enc_named_argument l in
    let p = length-append (to_be 4 (4 + length b)) b in
    let q = length-append (to_be 2 (length l)) (enc_all enc_named_argument l) in
    omega (arith, p, q, length_to_be 4 (4 + length b), length_to_be 2 (length l))

-- an argument has a byte at least
image_count : (l : List (List ℕ × Argument)) → length l ≤ length (enc_all enc_named_argument l)
unfolding enc_all enc_named_argument enc_str
image_count [] = omega arith
image_count (a ∷ l) =
    let p = length-append (enc_named_argument a) (enc_all enc_named_argument l) in
    let q = length-append (enc_str a.0) (enc_argument a.1) in
    let r = length-append (to_be 2 (length a.0)) a.0 in
    omega (arith, p, q, r, length_to_be 2 (length a.0), image_count l)

-- what is no longer than an image may be has no more arguments than two bytes count
image_fits : (n m : ℕ) → n ≤ m → 7 + m ≤ max_image → Fits 2 n
unfolding max_image
image_fits n m h k = omega arith

-- sorted, they may stand in an image
pub sorted_allowed : (l : List (List ℕ × Argument)) → Allowed l → ValidArgumentsImage (sorted l)
unfolding ValidArgumentsImage
sorted_allowed l h =
    let b : length (enc_arguments_image (sorted l)) ≡ length (enc_arguments_image l) = omega (arith, image_length l, image_length (sorted l), sorted_bytes l) in
    let k : 7 + length (enc_all enc_named_argument (sorted l)) ≤ max_image = omega (arith, image_length (sorted l), b, h.fits) in
    ((sorted_valid l h.valid, image_fits (length (sorted l)) (length (enc_all enc_named_argument (sorted l))) (image_count (sorted l)) k), rw b h.fits)

-- What single bytes of a store's header say: document 01, "Store: u32 used length (itself included), version byte 1, locale byte (0 en, 1 da, 2 ru,
-- 3 cy), isolating Flag". A byte that a short slice has not counts as 0.
use Rattle.std.specs.Prelude.{Bool, ◌&&◌, List, ℕ, eqb, ltb, get_or}

unfoldable pub locale_byte : List ℕ → ℕ
locale_byte s = get_or s 5 0

-- the placeables of a pattern of n elements are isolated: the Flag is 1, and there are several elements
unfoldable pub isolated : List ℕ → ℕ → Bool
isolated s n = ltb 1 n && eqb (get_or s 6 0) 1

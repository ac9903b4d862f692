-- Isolation marks in a text: how many there are, and when they are paired. A text is a list of bytes, in which a mark is three, or a list of Unicode
-- scalars, in which it is one.
use Rattle.std.specs.Prelude.{◌≡◌, List, [], ◌∷◌, Bool, true, false, ◌&&◌, ℕ, ◌+◌, ◌≤◌, take, eqb}
use Rattle.layout.specs.Utf8.{Coded}
use Rattle.resolution.specs.Effect.{Bytes}
use Rattle.resolution.specs.Resolve.{fsi, pdi}

-- whether a mark stands at the front of a text
unfoldable pub begins : List ℕ → List ℕ → Bool
begins [] t = true
begins (x ∷ m) [] = false
begins (x ∷ m) (y ∷ t) = eqb x y && begins m t

-- 1 where something is so
unfoldable pub once : Bool → ℕ
once true = 1
once false = 0

-- at how many places of a text a mark stands
unfoldable pub count_in : List ℕ → List ℕ → ℕ
count_in m [] = 0
count_in m (y ∷ t) = once (begins m (y ∷ t)) + count_in m t

-- "contains": neither mark stands anywhere in the text
pub record Unmarked (opening closing t : List ℕ) : Type 0 where
  pub no_opening : count_in opening t ≡ 0
  pub no_closing : count_in closing t ≡ 0

-- "paired: no prefix has more closing than opening marks, and the whole has as many of each"
pub record Paired (opening closing t : List ℕ) : Type 0 where
  pub prefix : (n : ℕ) → count_in closing (take n t) ≤ count_in opening (take n t)
  pub whole : count_in closing t ≡ count_in opening t

-- by bytes: U+2068 is E2 81 A8, and U+2069 is E2 81 A9
abbrev pub UnmarkedBytes : Bytes → Type 0
UnmarkedBytes t = Unmarked fsi pdi t

abbrev pub PairedBytes : Bytes → Type 0
PairedBytes t = Paired fsi pdi t

-- by the Unicode scalars that a text's bytes are: the text is the encoding of some scalars, and P holds of every list of scalars that it encodes
pub record OfScalars (P : List ℕ → Type 0) (t : Bytes) : Type 0 where
  pub are : Coded t
  pub hold : (k : Coded t) → P k.scalars

-- so of U+2068 and U+2069 themselves
abbrev pub UnmarkedScalars : Bytes → Type 0
UnmarkedScalars t = OfScalars (λ cs. Unmarked (0x2068 ∷ []) (0x2069 ∷ []) cs) t

abbrev pub PairedScalars : Bytes → Type 0
PairedScalars t = OfScalars (λ cs. Paired (0x2068 ∷ []) (0x2069 ∷ []) cs) t

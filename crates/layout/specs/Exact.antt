-- A decoder that reads exactly what an encoder writes.
use Rattle.std.specs.Prelude.{◌≡◌, List, [], ◌∷◌, ℕ, ◌-◌, ◌≤◌, ◌<◌, length}
use Rattle.records.specs.Got.{got, Parser}
use Rattle.records.specs.Bytes.{part}

-- from at up to e stand the bytes bs
pub record Stands (s : List ℕ) (at e : ℕ) (bs : List ℕ) : Type 0 where
  pub on : at ≤ e
  pub within : e ≤ length s
  pub bytes : part s at (e - at) ≡ bs

-- every element is a byte
abbrev pub Octets : List ℕ → Type 0
Octets [] = Unit {0}
Octets (x ∷ s) = (x < 256) × Octets s

-- In bytes, p reads a up to e exactly where a is valid and its encoding, which is bytes, stands there.
pub record Exact {A : Type 0} (p : Parser A) (enc : A → List ℕ) (Ok : A → Type 0) : Type 0 where
  pub sound : {s : List ℕ} {at e : ℕ} {a : A} → Octets s → at ≤ length s → p s at ≡ got a e → Ok a × Stands s at e (enc a)
  pub octets : (a : A) → Ok a → Octets (enc a)
  pub complete : {s : List ℕ} {at e : ℕ} {a : A} → Ok a → Stands s at e (enc a) → p s at ≡ got a e

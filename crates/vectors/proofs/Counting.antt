-- One count that is raised or read, or none.
use Rattle.std.proofs.Common.{◌≡◌, ℕ, ◌+◌, ◌%◌, ◌^◌, ◌<◌, ◌≤◌, List, length, get_or, set, refl, le-ltb, lt-ltb}
use Rattle.vectors.specs.Lendings.{counted_at, counted_if, count_at, count_if}

module _ (c : List ℕ) (place : ℕ) where
  pub counted_in : (by : ℕ) → place < length c → set c place ((get_or c place 0 + by) % 2 ^ 64) ≡ counted_at c place by
  unfolding counted_at counted_if
  counted_in by h = rw (lt-ltb place (length c) h) refl

  pub counted_out : (by : ℕ) → length c ≤ place → c ≡ counted_at c place by
  unfolding counted_at counted_if
  counted_out by h = rw (le-ltb place (length c) h) refl

  pub count_in_law : place < length c → get_or c place 0 ≡ count_at c place
  unfolding count_at count_if
  count_in_law h = rw (lt-ltb place (length c) h) refl

  pub count_out : length c ≤ place → 0 ≡ count_at c place
  unfolding count_at count_if
  count_out h = rw (le-ltb place (length c) h) refl

-- Steps of a new bundle: each refusal, in its order, and the nine bytes of an empty store.
use mathlib.Core.Path.{◌≡◌, refl}
use mathlib.Core.List.{List, [], ◌∷◌, ◌++◌}
use Prim.Native.Nat.{ℕ, zero, suc, ◌≤◌, ◌<◌}
use native.Mathlib.Omega.{arith}
use lib.ListN.{length, drop}
use lib.Dec.{eqb}
use borrow.Author.Tests.{le-leb, lt-leb}
use Rattle.records.specs.Bytes.{to_be}
use Rattle.records.specs.Encode.{enc_all, enc_counted, enc_flag, enc_whole, enc_store}
use Rattle.records.specs.Images.{max_locale}
use Rattle.growth.specs.Items.{at_front}
use Rattle.std.specs.Prelude.{Ok, Err}
use Rattle.refusals.specs.declared.Refusal.TheVariants as refusal
use Rattle.refusals.specs.Numbers.{number_of}
use Rattle.bundle.specs.Additions.{refuse, succeed, or_refuse, new_bundle}
use Rattle.bundle.specs.Gives.{answer_of, gave}

-- a new bundle's bytes
abbrev pub new_bytes : ℕ → ℕ → List ℕ
new_bytes locale isolating = 0 ∷ 0 ∷ 0 ∷ 9 ∷ 1 ∷ locale ∷ isolating ∷ 0 ∷ 0 ∷ []

flag_byte : (b : ℕ) → b ≤ 1 → enc_flag (eqb b 1) ≡ b ∷ []
unfolding enc_flag
flag_byte zero h = refl
flag_byte (suc zero) h = refl
flag_byte (suc (suc b)) h = absurd (omega arith)

new_is : (locale isolating : ℕ) → isolating ≤ 1 → enc_store (record { locale = locale; isolating = eqb isolating 1; items = [] }) ≡ new_bytes locale isolating
unfolding enc_store enc_whole enc_counted enc_all to_be new_bytes
new_is locale isolating h = rw (flag_byte isolating h)

module _ (s : List ℕ) (locale isolating : ℕ) where
  pub new_1 : length s < 9 → gave (Err refusal.ShortSlice) s [] ≡ new_bundle s locale isolating
  unfolding gave answer_of number_of new_bundle or_refuse refuse
  new_1 h = rw (lt-leb 9 (length s) h)

  module _ (l9 : 9 ≤ length s) where
    pub new_2 : 3 < locale → gave (Err refusal.NoLocale) s [] ≡ new_bundle s locale isolating
    unfolding gave answer_of number_of new_bundle or_refuse refuse max_locale
    new_2 h = rw (le-leb 9 (length s) l9, lt-leb locale 3 h)

    pub new_3 : locale ≤ 3 → 1 < isolating → gave (Err refusal.NoFlag) s [] ≡ new_bundle s locale isolating
    unfolding gave answer_of number_of new_bundle or_refuse refuse max_locale
    new_3 h k = rw (le-leb 9 (length s) l9, le-leb locale 3 h, lt-leb isolating 1 k)

    pub new_done : locale ≤ 3 → isolating ≤ 1 → gave (Ok 0) (new_bytes locale isolating ++ drop 9 s) [] ≡ new_bundle s locale isolating
    unfolding gave answer_of new_bundle or_refuse succeed max_locale at_front new_bytes
    new_done h k = rw (le-leb 9 (length s) l9, le-leb locale 3 h, le-leb isolating 1 k, new_is locale isolating k)

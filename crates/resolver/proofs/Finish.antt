-- What the buffers hold in the end.
use mathlib.Core.Path.{◌≡◌, refl, ap, sym, subst, ◌∙◌}
use mathlib.Core.Bool.{false}
use mathlib.Core.List.{List, ◌++◌}
use Prim.Native.Nat.{ℕ, ◌+◌, ◌-◌, ◌≤◌, ◌<◌, ◌%◌, min}
use native.Mathlib.Nat.{mod-eq_of_lt}
use native.Mathlib.Omega.{arith}
use lib.Dec.{eqb}
use lib.ListN.{length, take, drop, replicate, take-append-drop, length-drop}
use lib.Seq.{drop-drop, length-take-le}
use borrow.Author.Tests.{eq-eqb, ne_eqb}
use Rattle.records.specs.Bytes.{part, to_be}
use Rattle.records.specs.Encode.{enc_all}
use Rattle.records.specs.Errors.{Error, enc_error, enc_errors}
use Rattle.buffers.specs.Relations.Append.{over}
use Rattle.texts.specs.Relations.Report.{header, headed}
use Rattle.buffers.proofs.Place.{drop_over}
use Rattle.texts.proofs.Recording.{headed_done, headed_errors}
use Rattle.growth.specs.Items.{at_front}
use Rattle.resolution.specs.Effect.{Bytes}
use Rattle.resolution.specs.Exec.{Ran}
use Rattle.resolution.specs.Format.{Answer, finished, refused_running, Formatted, zeros, ended}
use Rattle.state.specs.declared.Progress.{Progress}
use Rattle.state.specs.Setters.{max_unfound}
use Rattle.resolver.proofs.Single.Puts.{errors_length}
use Rattle.state.specs.Progress.{refused_of}
use Rattle.std.specs.Prelude.{Ok, Err}
use Rattle.resolver.specs.declared.format.Failure.{Failure}
use Rattle.resolver.specs.Formats.{answer_of, gave}
use Rattle.resolver.specs.Relations.Runs.{stopped, stopped_of, RanAs, ran_as, refused_as, closed_if, closed}
use Rattle.resolver.proofs.Whole.{buffers}

header_size : (n : ℕ) → length (header n) ≡ 5
unfolding header to_be
header_size n = refl

-- a header leaves what stands behind it
header_drop : (d : List ℕ) (k : ℕ) → 5 + k ≤ length d → 5 + k < 4294967296 → drop (5 + k) (headed d (5 + k)) ≡ drop (5 + k) d
header_drop d k h g = ap (drop (5 + k)) (headed_done d (5 + k) (omega arith) g) ∙ sym (drop-drop k 5 _) ∙ ap (drop k) five ∙ drop-drop k 5 d
  where
    size : length (header (5 + k)) ≡ 5
    size = header_size (5 + k)

    five : drop 5 (over d 0 (header (5 + k))) ≡ drop 5 d
    five = subst (λ (i : ℕ). drop (0 + i) (over d 0 (header (5 + k))) ≡ drop (0 + i) d) size (drop_over d 0 (header (5 + k)) (omega arith))

front_is : (x y b : List ℕ) (n : ℕ) → n ≡ length b → take n y ≡ b → drop n y ≡ drop n x → y ≡ at_front b x
unfolding at_front
front_is x y b n e p q = sym (take-append-drop n y) ∙ ap (λ (l : List ℕ). l ++ drop n y) p ∙ ap (λ (l : List ℕ). b ++ l) (q ∙ ap (λ (i : ℕ). drop i x) e)

-- the list in the end: header and records, and behind them what stood there
list_is : (es : List Error) (l l₁ : Bytes) (n : ℕ) → n ≡ length (enc_errors es) → n ≤ 4294967295 → n ≤ length l₁ → part l₁ 5 (n - 5) ≡ enc_all enc_error es → drop n l₁ ≡ drop n l → headed l₁ n ≡ at_front (enc_errors es) l
list_is es l l₁ n e big room records rest =
    let k = errors_length es in
    let m : n ≡ 5 + length (enc_all enc_error es) = omega arith in
    let j : n - 5 ≡ length (enc_all enc_error es) = omega arith in
    front_is l (headed l₁ n) (enc_errors es) n e
    (subst (λ (i : ℕ). take i (headed l₁ i) ≡ enc_errors es) (sym m) (headed_errors l₁ es (omega arith) (omega arith) (subst (λ (i : ℕ). part l₁ 5 i ≡ enc_all enc_error es) j records)))
    (subst (λ (i : ℕ). drop i (headed l₁ i) ≡ drop i l₁) (sym m) (header_drop l₁ (length (enc_all enc_error es)) (omega arith) (omega arith)) ∙ rest)

zeroed : (a b : Bytes) → length a ≡ length b → zeros a ≡ zeros b
unfolding zeros
zeroed a b e = ap (λ (k : ℕ). replicate k 0) e

-- an answer and three buffers, each known
same_formatted : {a a' : Answer} {t t' i i' k k' : Bytes} → a ≡ a' → t ≡ t' → i ≡ i' → k ≡ k' → ◌≡◌ {A = Formatted} (record { answer = a; buffers = buffers t i k }) (record { answer = a'; buffers = buffers t' i' k' })
same_formatted ea et ei ek = rw (ea, et, ei, ek) refl

module _ (x l w : Bytes) (p : Progress) (x₁ l₁ w₁ : Bytes) (sc : Progress) (n : ℕ) (lx : length x₁ ≡ length x) (ll : length l₁ ≡ length l) (lw : length w₁ ≡ length w) where
  -- what the buffers hold in the end is what the run's outcome says
  pub closes : (o : Ran) → RanAs o x l p x₁ l₁ w₁ sc n → closed sc n (buffers x₁ l₁ w₁) ≡ stopped (ended o (buffers x l w))
  unfolding closed closed_if stopped stopped_of ended
  closes o (ran_as m eq r bs g) =
      let tl : length m.written ≡ sc.text_at = ap length r.written ∙ length-take-le sc.text_at x₁ r.text_in in
      let hi = r.header_in in
      let li = r.list_in in
      let lp : length (part l₁ 5 (sc.list_at - 5)) ≡ sc.list_at - 5 = length-take-le (sc.list_at - 5) (drop 5 l₁) (let y = length-drop 5 l₁ in omega arith) in
      let en : sc.list_at ≡ length (enc_errors m.errors) = omega (arith, errors_length m.errors, ap length r.listed, lp) in
      let answer : finished sc.text_at sc.errors n sc.unfound sc.high ≡ finished (length m.written) (length m.errors) m.begun (min m.unfounds max_unfound) m.high = rw (tl, r.errors, bs, r.unfounds, r.high) refl in
      rw (eq-eqb (refused_of sc) 0 r.go, eq) (same_formatted answer (front_is x x₁ m.written sc.text_at (sym tl) (sym r.written) g.text_rest) (list_is m.errors l l₁ sc.list_at en r.list_u32 li (sym r.listed) g.list_rest) (zeroed w₁ w lw))
  closes o (refused_as c eq z few en) =
      let nz : eqb (refused_of sc) 0 ≡ false = ne_eqb (refused_of sc) 0 (λ k. z (sym en ∙ k)) in
      rw (nz, eq) (same_formatted (ap refused_running (ap (λ (k : ℕ). k % 256) en ∙ mod-eq_of_lt few)) (zeroed x₁ x lx) (zeroed l₁ l ll) (zeroed w₁ w lw))

-- the two ways in which the code ends
module _ (sc : Progress) (n : ℕ) (x₁ l₁ w₁ : Bytes) {x₂ l₂ w₂ : Bytes} where
  pub closed_cleared : (f : Failure) → (refused_of sc ≡ 0 → ⊥) → answer_of (Err f) ≡ refused_running (refused_of sc % 256) → x₂ ≡ replicate (length x₁) 0 → l₂ ≡ replicate (length l₁) 0
      → w₂ ≡ replicate (length w₁) 0 → gave (Err f) x₂ l₂ w₂ ≡ closed sc n (buffers x₁ l₁ w₁)
  unfolding gave closed closed_if zeros
  closed_cleared f z a ex el ew = rw (ne_eqb (refused_of sc) 0 z) (same_formatted a ex el ew)

  pub closed_finished : {u : ℕ} → refused_of sc ≡ 0 → x₂ ≡ x₁ → l₂ ≡ headed l₁ sc.list_at → w₂ ≡ replicate (length w₁) 0 → u ≡ sc.unfound
      → gave (Ok (record { text = sc.text_at; errors = sc.errors; begun = n; unfound = u; work = sc.high })) x₂ l₂ w₂ ≡ closed sc n (buffers x₁ l₁ w₁)
  unfolding gave answer_of closed closed_if zeros
  closed_finished e ex el ew eu = rw (eq-eqb (refused_of sc) 0 e) (same_formatted (ap (λ (j : ℕ). finished sc.text_at sc.errors n j sc.high) eu) ex el ew)

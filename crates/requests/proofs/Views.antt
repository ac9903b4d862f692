-- Views: what is known where a request, or a sheet image, was read.
use mathlib.Core.Path.{◌≡◌, ap, sym, subst, ◌∙◌}
use mathlib.Core.List.{List, [], ◌∷◌}
use mathlib.Core.Option.{Option}
use Prim.Native.Nat.{ℕ, zero, suc, ◌+◌, ◌≤◌, ◌<◌}
use native.Mathlib.Omega.{arith}
use lib.ListN.{length}
use Rattle.records.specs.Got.{got, Parser}
use Rattle.records.specs.Bytes.{bytes_at, number_at}
use Rattle.records.specs.Decode.{many, optional_at, id_at}
use Rattle.records.specs.Images.{one_at, max_image}
use Rattle.records.proofs.Laws.{after_elim, test_elim, got_elim, number_inv, byte_inv}
use Rattle.records.proofs.Views.{as_elim, one_elim, whole_elim}
use Rattle.layout.specs.Exact.{Octets}
use Rattle.layout.proofs.Steps.{number_exact}
use Rattle.requests.specs.Image.{Request, min_arguments, arguments_bytes_at, request_at, sheet_at, sheet_of}
use Rattle.requests.proofs.Limits.{length_limits}

-- the bytes of an arguments image: as many as the first four state
pub arguments_bytes_elim : {C : Type 0} (s : List ℕ) (at : ℕ) {b : List ℕ} {e : ℕ} → arguments_bytes_at s at ≡ got b e
    → ((n p : ℕ) → number_at 4 s at ≡ got n p → min_arguments ≤ n → n ≤ max_image → bytes_at n s at ≡ got b e → C) → C
unfolding arguments_bytes_at
arguments_bytes_elim s at h c =
    after_elim (number_at 4 s at) _ h (λ n p hn h.
    test_elim _ _ h (λ t h. let l = length_limits n t in c n p hn l.0 l.1 h))

-- a request: its Id, its attribute, its image
pub request_elim : {C : Type 0} (s : List ℕ) (at : ℕ) {r : Request} {e : ℕ} → request_at s at ≡ got r e
    → ((i : List ℕ) (p : ℕ) (a : Option (List ℕ)) (q : ℕ) (b : List ℕ) → id_at s at ≡ got i p → optional_at id_at s p ≡ got a q → arguments_bytes_at s q ≡ got b e
    → r ≡ record { id = i; attribute = a; image = b } → C) → C
unfolding request_at
request_elim s at h c =
    after_elim (id_at s at) _ h (λ i p hi h.
    after_elim (optional_at id_at s p) _ h (λ a q ha h.
    as_elim _ _ h (λ b hb w. c i p a q b hi ha hb w)))

-- as many as were asked for
many_length : {A : Type 0} (p : Parser A) (s : List ℕ) (n at : ℕ) {l : List A} {e : ℕ} → many [] ◌∷◌ n p s at ≡ got l e → length l ≡ n
unfolding many
many_length p s zero at h = got_elim h (λ x _. ap length (sym x))
many_length p s (suc n) at h =
    after_elim (p s at) _ h (λ a i _ h.
    as_elim _ _ h (λ k hk w. ap length w ∙ ap suc (many_length p s n i hk)))

-- a sheet image: its count stands at 5, its requests at 7, and they end where the slice ends
pub record Parts (s : List ℕ) (rs : List Request) (e : ℕ) : Type 0 where
  pub count : ℕ
  pub counted : number_at 2 s 5 ≡ got count 7
  pub requests : many [] ◌∷◌ count request_at s 7 ≡ got rs e
  pub all : length rs ≡ count
  pub end : e ≡ length s

pub sheet_parts : (s : List ℕ) {rs : List Request} {e : ℕ} → sheet_of s ≡ got rs e → Parts s rs e
unfolding sheet_of sheet_at
sheet_parts s {rs} {e} h =
    whole_elim sheet_at s h (λ h end.
    after_elim (number_at 4 s 0) _ h (λ n p hn h.
    test_elim _ _ h (λ _ h.
    after_elim (one_at s p) _ h (λ v q hv h.
    after_elim (number_at 2 s q) _ h (λ k r hk h.
    after_elim (many [] ◌∷◌ k request_at s r) _ h (λ m f hm h.
    test_elim _ _ h (λ _ h. got_elim h (λ x y.
    one_elim s p hv (λ hb _.
    let ep : p ≡ 4 = (number_inv s 4 0 hn).1 in
    let eq : q ≡ 5 = (byte_inv s p hb).2 ∙ ap (λ (j : ℕ). j + 1) ep in
    let er : r ≡ 7 = (number_inv s 2 q hk).1 ∙ ap (λ (j : ℕ). j + 2) eq in
    record {
      count = k;
      counted = subst (λ (j : ℕ). number_at 2 s j ≡ got k 7) eq (hk ∙ ap (λ (j : ℕ). got k j) er);
      requests = subst (λ (j : ℕ). many [] ◌∷◌ k request_at s j ≡ got rs e) er (hm ∙ ap (λ (j : List Request). got j f) x ∙ ap (λ (j : ℕ). got rs j) y);
      all = ap length (sym x) ∙ many_length request_at s k r hm;
      end = end;
    })))))))))

-- in bytes, a count is one that two bytes can write
pub count_small : (s : List ℕ) (at : ℕ) {k e : ℕ} → Octets s → number_at 2 s at ≡ got k e → k < 65536
count_small s at os h =
    let l = (number_inv s 2 at h).0 in
    ((number_exact 2).sound os (omega arith) h).0

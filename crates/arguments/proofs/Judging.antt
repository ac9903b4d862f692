-- An arguments image is judged: the head, the arguments, and nothing left over; then their order.
use Rattle.records.specs.Relations.Answer.{Next}
use Rattle.std.specs.Prelude.{Option, Some, None, Result, Ok, Err, is_ok}
use mathlib.Core.Path.{◌≡◌, refl, ap, sym, subst, ◌∙◌}
use Rattle.std.specs.Option.{ok_or}
use Rattle.std.specs.Result.{IsErrAnd}
use Rattle.refusals.proofs.Passed.{passed_for}
use mathlib.Core.List.{List, [], ◌∷◌}
use mathlib.Core.Bool.{Bool, true, false, false≢true}
use Prim.Native.Nat.{ℕ, ◌+◌}
use native.Mathlib.Omega.{arith}
use lib.ListN.{length}
use lib.Dec.{eqb}
use borrow.Author.Tests.{eq-eqb, ne_eqb}
use Rattle.records.specs.declared.Head.{Head}
use Rattle.arguments.specs.declared.image.Checked.{Checked}
use Rattle.records.specs.Got.{Got, got, bad, after, test}
use Rattle.records.specs.Relations.Answer.{next_of}
use Rattle.records.specs.Relations.Head.{head_at, head_of}
use Rattle.records.specs.Bytes.{number_at, span_at, str_at}
use Rattle.records.specs.Decode.{many}
use Rattle.records.specs.Images.{Argument, one_at, argument_at, arguments_at, arguments_of, whole_of}
use Rattle.records.proofs.Laws.{after_elim, test_elim, got_elim, number_inv, byte_inv, bytes_out}
use Rattle.records.proofs.Views.{one_elim, next_is, next_none}
use Rattle.records.proofs.ImageHead.{head_some, head_is, image_bad, image_stop, image_end}
use Rattle.order.specs.Accepted.{in_order, Judged, accepted, refused_for, judged_if, judge_read, judge}
use Rattle.order.proofs.Accepted.{refused_with}
use Rattle.refusals.specs.declared.Refusal.{Refusal}
use Rattle.refusals.specs.declared.Refusal.TheVariants as refusal
use Rattle.refusals.specs.Numbers.{number_of}
use Rattle.arguments.specs.Relations.Checked.{refusal_of, answer_of, in_order_or, outcome_of, run_from}
use Rattle.arguments.specs.Relations.Places.{Notes, PlacesOf, Noted}
use Rattle.arguments.proofs.Views.{arguments_image_elim}
use Rattle.arguments.proofs.Running.{end_of, run_ends, run_reads, risen, risen_all}

-- no refusal has the number 0
number_some : (r : Refusal) → number_of r ≡ 0 → ⊥
unfolding number_of
number_some refusal.ShortSlice h = omega arith
number_some refusal.NoLocale h = omega arith
number_some refusal.NoFlag h = omega arith
number_some refusal.MalformedStore h = omega arith
number_some refusal.MalformedResource h = omega arith
number_some refusal.FullStore h = omega arith
number_some refusal.ShortList h = omega arith
number_some refusal.NoId h = omega arith
number_some refusal.NoCode h = omega arith
number_some refusal.HeldId h = omega arith
number_some refusal.NoMessage h = omega arith
number_some refusal.NoPattern h = omega arith
number_some refusal.MalformedArguments h = omega arith
number_some refusal.ShortText h = omega arith
number_some refusal.ShortWorkspace h = omega arith
number_some refusal.ManyDigits h = omega arith
number_some refusal.MalformedSheet h = omega arith
number_some refusal.UnorderedArguments h = omega arith

-- what is said of the bytes, and of the places, where r was checked
abbrev pub Answered : List ℕ → Option Checked → List ℕ → Type 0
Answered s r places = (answer_of (outcome_of r) ≡ refusal_of (judge s)) × (is_ok (outcome_of r) ≡ true → Noted s places)

module _ (s : List ℕ) where
  -- 13
  malformed : arguments_of s ≡ bad → 13 ≡ refusal_of (judge s)
  unfolding judge judge_read refusal_of
  malformed h = rw h

  pub unchecked : arguments_of s ≡ bad → {r : Option Checked} → r ≡ None → (places : List ℕ) → Answered s r places
  unfolding answer_of outcome_of number_of
  unchecked h e places = rw e (malformed h, λ w. absurd (false≢true w))

  no_image : None ≡ next_of (arguments_at s 0) → arguments_of s ≡ bad
  unfolding arguments_of whole_of after
  no_image h = rw (next_none h refl)

  image_longer : {l : List (List ℕ × Argument)} {e : ℕ} → arguments_at s 0 ≡ got l e → (e ≡ length s → ⊥) → arguments_of s ≡ bad
  unfolding arguments_of whole_of after test
  image_longer {e = e} h k = rw (h, ne_eqb e (length s) k)

  image_whole : {l : List (List ℕ × Argument)} {e : ℕ} → arguments_at s 0 ≡ got l e → e ≡ length s → arguments_of s ≡ got l e
  unfolding arguments_of whole_of after test
  image_whole {e = e} h k = rw (h, eq-eqb e (length s) k)

  -- nothing stands at the end of the bytes
  nothing_behind : str_at s (length s) ≡ bad
  unfolding str_at span_at number_at after
  nothing_behind = rw (bytes_out s (length s) 2 (omega arith))

  -- the count stands at 5, the arguments at 7
  head_count : {n k f : ℕ} → head_at s 0 ≡ got (n, k) f → (number_at 2 s 5 ≡ got k 7) × (f ≡ 7)
  unfolding head_at
  head_count {n} {k} {f} h =
      after_elim (number_at 4 s 0) _ h (λ m p hm h.
      test_elim _ _ h (λ _ h.
      after_elim (one_at s p) _ h (λ v q hv h.
      after_elim (number_at 2 s q) _ h (λ c r hc h.
      got_elim h (λ x y.
      one_elim s p hv (λ hb _.
      let ep : p ≡ 4 = (number_inv s 4 0 hm).1 in
      let eq : q ≡ 5 = (byte_inv s p hb).2 ∙ ap (λ (j : ℕ). j + 1) ep in
      let er : r ≡ 7 = (number_inv s 2 q hc).1 ∙ ap (λ (j : ℕ). j + 2) eq in
      let ec : c ≡ k = ap (λ (j : ℕ × ℕ). j.1) x in
      (subst (λ (j : ℕ). number_at 2 s j ≡ got k 7) eq (hc ∙ ap (λ (j : ℕ). got j r) ec ∙ ap (λ (j : ℕ). got k j) er), sym y ∙ er)))))))

  module _ {h : Option Head} (hs : h ≡ head_of (head_at s 0)) where
    pub headless : h ≡ None → arguments_of s ≡ bad
    unfolding arguments_at
    headless e = no_image (image_bad argument_at s 0 hs e)

    module _ {n k f : ℕ} (he : h ≡ head_some n k f) {r : Option Checked} (rs : r ≡ run_from k s f (length s) true) where
      ends : end_of r ≡ next_of (many [] ◌∷◌ k argument_at s f)
      ends = ap end_of rs ∙ run_ends k s f (length s) true

      pub stopped : r ≡ None → arguments_of s ≡ bad
      unfolding arguments_at end_of
      stopped e = no_image (image_stop argument_at s 0 hs he ends (ap end_of e))

      -- the places that were noted are those of the image
      judged_noted : {c : Checked} → r ≡ Some c → (places : List ℕ) → Notes s f k places r → Noted s places
      unfolding Notes Noted
      judged_noted {c} rc places nt m hm =
          let hc = head_count (head_is (head_at s 0) hs he) in
          let km : m ≡ k = same m (sym hm ∙ hc.0) in
          subst (λ (i : ℕ). PlacesOf s 7 i places) (sym km) (subst (λ (i : ℕ). PlacesOf s i k places) hc.1 (subst (Notes s f k places) rc nt))
        where
          same : (m : ℕ) → got m 7 ≡ got k 7 → m ≡ k
          same m q = cc

      module _ {c : Checked} (rc : r ≡ Some c) {x : Next} (es : x ≡ next_of (test (eqb c.at (0 + n)) (got c.at c.at))) where
        image_ends : x ≡ next_of (arguments_at s 0)
        unfolding arguments_at end_of
        image_ends = image_end argument_at s 0 hs he ends (ap end_of rc) es

        pub ends_elsewhere : x ≡ None → arguments_of s ≡ bad
        ends_elsewhere e = no_image (sym e ∙ image_ends)

        module _ {e : ℕ} (xe : x ≡ Some e) where
          pub longer : (e ≡ length s → ⊥) → arguments_of s ≡ bad
          longer ne = next_is image_ends xe (λ l hl. image_longer hl ne)

          -- what is said of the whole image
          judged_whole : {C : Type 0} → e ≡ length s → ((l : List (List ℕ × Argument)) → arguments_of s ≡ got l e → c.fine ≡ in_order l → C) → C
          unfolding judge
          judged_whole ee u = next_is image_ends xe (λ l hl.
              let whole : arguments_of s ≡ got l e = image_whole hl ee in
              let hc = head_count (head_is (head_at s 0) hs he) in
              arguments_image_elim s whole (λ m hm ha.
              let km : m ≡ k = same m (sym hm ∙ hc.0) in
              let all : many [] ◌∷◌ k argument_at s f ≡ got l e = subst (λ (i : ℕ). many [] ◌∷◌ i argument_at s f ≡ got l e) km (subst (λ (i : ℕ). many [] ◌∷◌ m argument_at s i ≡ got l e) (sym hc.1) ha) in
              let y = run_reads k s f (length s) true all in
              u l whole (fines y.0 _ (sym rc ∙ rs ∙ y.1) ∙ ap (λ (g : Got (List ℕ)). risen g l) nothing_behind ∙ risen_all l)))
            where
              same : (m : ℕ) → got m 7 ≡ got k 7 → m ≡ k
              same m q = cc

              fines : (i : ℕ) (b : Bool) {j : ℕ} → Some c ≡ Some (record { at = j; last = i; fine = b }) → c.fine ≡ b
              fines i b q = cc

          judged_read : e ≡ length s → answer_of (in_order_or c.fine) ≡ refusal_of (judge s)
          unfolding judge judge_read answer_of in_order_or number_of judged_if refusal_of
          judged_read ee = judged_whole ee (λ l hl fo. rw (hl, fo) (by l (in_order l)))
            where
              by : (l : List (List ℕ × Argument)) (t : Bool) → answer_of (in_order_or t) ≡ refusal_of (judged_if t l)
              by l true = refl
              by l false = refl

          pub judged_all : e ≡ length s → (places : List ℕ) → Notes s f k places r → Answered s (Some c) places
          unfolding outcome_of
          judged_all ee places nt = (judged_read ee, λ _. judged_noted rc places nt)

-- what is said of the bytes, and of the places, by an answer
abbrev pub Said : List ℕ → List ℕ → Result (Unit {0}) Refusal → Type 0
Said s places q = (answer_of q ≡ refusal_of (judge s)) × (is_ok q ≡ true → Noted s places)

-- the answer, from what was checked
module _ (s : List ℕ) (r : Option Checked) (places : List ℕ) (h : Answered s r places) where
  pub said_unchecked : (q : Result (Unit {0}) Refusal) {e : Refusal} → r ≡ None → Err e ≡ ok_or r refusal.MalformedArguments → IsErrAnd q (λ y. y ≡ e) → Said s places q
  unfolding outcome_of
  said_unchecked q n w k = subst (Said s places) (ap outcome_of n ∙ sym (passed_for q n w k)) h

  pub said_checked : {c : Checked} → r ≡ Some c → Said s places (in_order_or c.fine)
  unfolding outcome_of
  said_checked n = subst (Said s places) (ap outcome_of n) h

-- what the answer says of the image: its refusal, or that it is accepted
module _ (image : List ℕ) {a : Result (Unit {0}) Refusal} (is : answer_of a ≡ refusal_of (judge image)) where
  pub judged_refused : {r : Refusal} → a ≡ Err r → judge image ≡ refused_for (number_of r)
  unfolding answer_of refusal_of
  judged_refused {r} h = go (judge image) (ap answer_of (sym h) ∙ is)
    where
      go : (g : Judged) → number_of r ≡ refusal_of g → g ≡ refused_for (number_of r)
      go (accepted l) q = absurd (number_some r q)
      go (refused_for m) q = ap refused_for (sym q)

  pub judged_fine : {u : Unit {0}} → a ≡ Ok u → (l : List (List ℕ × Argument)) × (judge image ≡ accepted l)
  unfolding answer_of refusal_of
  judged_fine h = go (judge image) refl (sym is ∙ ap answer_of h)
    where
      go : (g : Judged) → judge image ≡ g → refusal_of g ≡ 0 → (l : List (List ℕ × Argument)) × (judge image ≡ accepted l)
      go (accepted l) h q = (l, h)
      go (refused_for m) h q = absurd (refused_with (λ (i : ℕ). i ≡ 0 → ⊥) (λ k. omega arith) (λ k. omega arith) image m h q)

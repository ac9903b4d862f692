-- The search for the first variant that passes a test, one variant at a time.
use Rattle.std.specs.Prelude as rust
use Rattle.records.specs.Relations.Answer.{Next}
use Rattle.std.specs.Prelude.{Some, None}
use mathlib.Core.Path.{◌≡◌, refl, ap, sym, subst, ◌∙◌}
use mathlib.Core.List.{List}
use mathlib.Core.Bool.{Bool, true, false}
use mathlib.Core.Option.{Option, none, some}
use Prim.Native.Nat.{◌+◌, ℕ, zero, suc, ◌-◌, ◌≤◌, ◌<◌}
use native.Mathlib.Omega.{arith}
use lib.ListN.{length}
use borrow.Author.Tests.{eq-eqb, ne_eqb}
use Rattle.records.specs.Got.{Got, got, bad, after}
use Rattle.records.specs.Bytes.{byte_at, number_at, span_at, str_at, part}
use Rattle.walks.specs.Outline.{sized_at}
use Rattle.records.proofs.Laws.{span_in, after_elim, got_elim}
use Rattle.records.specs.Optional.{or_else, option_of}
use Rattle.variants.specs.Outline.{Outline, outline, outline_at, and_those, outlines, counted, variants_at}
use Rattle.variants.specs.Choice.{first_of, is_default}
use Rattle.variants.specs.Relations.Sought.{place_of, pattern_place, one_read, pattern_at_place, outline_in, Reads, reads, reads_none}
use Rattle.variants.specs.declared.Span.{Span}

-- what the code reads of a variant, part by part
module _ (s : List ℕ) (at : ℕ) where
  pub no_kind : byte_at s at ≡ bad → Reads s at rust.None
  unfolding outline_at after
  no_kind h = reads_none refl (rw h)

  module _ {kind p : ℕ} (hk : byte_at s at ≡ got kind p) where
    pub no_key : span_at s p ≡ bad → Reads s at rust.None
    unfolding outline_at after str_at
    no_key h = reads_none refl (rw (hk, h))

    module _ {from to : ℕ} (hs : span_at s p ≡ got from to) where
      pub no_flag : byte_at s to ≡ bad → Reads s at rust.None
      unfolding outline_at after str_at
      no_flag h = reads_none refl (rw (hk, hs, h))

      module _ {flag q : ℕ} (hf : byte_at s to ≡ got flag q) where
        pub no_pattern_end : sized_at 4 s q ≡ bad → Reads s at rust.None
        unfolding outline_at after str_at
        no_pattern_end h = reads_none refl (rw (hk, hs, hf, h))

        -- the outline of a variant that can be read
        pub outline_is : {bs : List ℕ} {e : ℕ} → sized_at 4 s q ≡ got bs e → outline_at s at ≡ got (outline at kind (part s from (to - from)) flag q) e
        unfolding outline_at after str_at
        outline_is h = rw (hk, hs, hf, h)

        pub whole_read : {bs : List ℕ} {e : ℕ} → sized_at 4 s q ≡ got bs e → Reads s at (rust.Some (record { kind = kind; from = from; to = to; flag = flag; pattern = q; end = e }))
        whole_read {bs} {e} h = reads (record { kind = kind; from = from; to = to; flag = flag; pattern = q; end = e }) refl (outline_is h) (span_in s p hs).0 (span_in s p hs).1

-- what `?` passes on where a part is malformed
pub not_read : {s : List ℕ} {at : ℕ} {r : rust.Option Span} → r ≡ rust.None → Reads s at rust.None → Reads s at r
not_read {s} {at} e h = subst (λ (o : rust.Option Span). Reads s at o) (sym e) h

read_one : {v w : Span} → rust.Some v ≡ rust.Some w → v ≡ w
read_one h = cc

-- what was read, by the code's answer
pub read_is : {s : List ℕ} {at : ℕ} {r : rust.Option Span} {v : Span} → Reads s at r → r ≡ rust.Some v → (outline_at s at ≡ got (outline_in s at v) v.end) × (v.from ≤ v.to) × (v.to ≤ length s)
read_is {s} {at} {r} {v} (reads w er h lo hi) e =
    subst (λ (x : Span). (outline_at s at ≡ got (outline_in s at x) x.end) × (x.from ≤ x.to) × (x.to ≤ length s)) (read_one (sym er ∙ e)) (h, lo, hi)
read_is (reads_none er h) e = let z : ◌≡◌ {A = ℕ} 0 1 = cc in absurd (omega arith)

pub read_bad : {s : List ℕ} {at : ℕ} {r : rust.Option Span} → Reads s at r → r ≡ rust.None → outline_at s at ≡ bad
read_bad (reads w er h lo hi) e = let z : ◌≡◌ {A = ℕ} 0 1 = cc in absurd (omega arith)
read_bad (reads_none er h) e = h

some_one : {x y : Outline} → some x ≡ some y → x ≡ y
some_one h = cc

-- the position of what was found, or none
pub place_none : {r : Next} {o : Option Outline} → r ≡ None → o ≡ none → r ≡ place_of o
unfolding place_of
place_none h e = h ∙ sym (ap place_of e)

pub place_some : {o : Option Outline} {x : Outline} → o ≡ some x → Some x.place ≡ place_of o
unfolding place_of
place_some e = sym (ap place_of e)

-- where the pattern of the variant at a place stands
pub no_pattern : {s : List ℕ} {at : ℕ} {r : rust.Option Span} → Reads s at r → r ≡ rust.None → None ≡ pattern_at_place s at
unfolding pattern_at_place one_read pattern_place
no_pattern h e = rw (read_bad h e)

pub its_pattern : {s : List ℕ} {at : ℕ} {r : rust.Option Span} {v : Span} → Reads s at r → r ≡ rust.Some v → Some v.pattern ≡ pattern_at_place s at
unfolding pattern_at_place one_read pattern_place
its_pattern h e = rw (read_is h e).0

pub pattern_lost : {o : Option Outline} → o ≡ none → None ≡ pattern_place o
unfolding pattern_place
pattern_lost e = sym (ap pattern_place e)

-- a default Flag
pub flag_set : (o : Outline) → o.flag ≡ 1 → is_default o ≡ true
unfolding is_default
flag_set o e = eq-eqb o.flag 1 e

pub flag_unset : (o : Outline) → (o.flag ≡ 1 → ⊥) → is_default o ≡ false
unfolding is_default
flag_unset o e = ne_eqb o.flag 1 e

module _ (s : List ℕ) (test : Outline → Bool) where
  -- the first among those of n variants at a position
  abbrev pub First : ℕ → ℕ → Option Outline
  First n at = first_of test (outlines n s at)

  -- the first among all
  abbrev pub FirstAt : ℕ → Option Outline
  FirstAt at = first_of test (variants_at s at)

  pub first_start : (at : ℕ) {n c : ℕ} → number_at 2 s at ≡ got n c → FirstAt at ≡ First n c
  unfolding variants_at counted
  first_start at h = rw h

  pub first_no_start : (at : ℕ) → number_at 2 s at ≡ bad → FirstAt at ≡ none
  unfolding variants_at counted first_of
  first_no_start at h = rw h

  pub first_end : (n at : ℕ) → n ≤ 0 → First n at ≡ none
  unfolding outlines first_of
  first_end zero at z = refl
  first_end (suc n) at z = absurd (omega arith)

  pub first_lost : (n at : ℕ) → outline_at s at ≡ bad → First n at ≡ none
  unfolding outlines first_of and_those
  first_lost zero at h = refl
  first_lost (suc n) at h = rw h

  first_step : (n at : ℕ) → 0 < n → {o : Outline} {e : ℕ} → outline_at s at ≡ got o e → First n at ≡ or_else (option_of (test o) o) (First (n - 1) e)
  unfolding outlines first_of and_those
  first_step zero at z h = absurd (omega arith)
  first_step (suc n) at z {o} {e} h =
      let m : n ≡ suc n - 1 = omega arith in
      ap (λ (g : Got Outline). first_of test (and_those g (outlines n s))) h ∙ ap (λ (k : ℕ). or_else (option_of (test o) o) (First k e)) m

  module _ (n at : ℕ) (z : 0 < n) {o : Outline} {e : ℕ} (h : outline_at s at ≡ got o e) where
    pub first_here : test o ≡ true → First n at ≡ some o
    unfolding or_else option_of
    first_here t = first_step n at z h ∙ rw t

    pub first_next : test o ≡ false → First n at ≡ First (n - 1) e
    unfolding or_else option_of
    first_next t = first_step n at z h ∙ rw t

  -- the same, where k of a count of variants are passed
  module _ (count k at : ℕ) where
    pub all_passed : count ≤ k → First (count - k) at ≡ none
    all_passed z = first_end (count - k) at (omega arith)

    module _ (z : k < count) {o : Outline} {e : ℕ} (h : outline_at s at ≡ got o e) where
      pub turn_here : test o ≡ true → First (count - k) at ≡ some o
      turn_here t = first_here (count - k) at (omega arith) h t

      pub turn_next : test o ≡ false → First (count - k) at ≡ First (count - (k + 1)) e
      turn_next t = let m : count - (k + 1) ≡ count - k - 1 = omega arith in rw m (first_next (count - k) at (omega arith) h t)

  pub none_passed : (count at : ℕ) → First count at ≡ First (count - 0) at
  none_passed count at = let m : count - 0 ≡ count = omega arith in rw m refl

  -- what is found is read where it stands
  place_is : (at : ℕ) {o : Outline} {e : ℕ} → outline_at s at ≡ got o e → o.place ≡ at
  unfolding outline_at
  place_is at h =
      after_elim (byte_at s at) _ h (λ _ p _ h.
      after_elim (str_at s p) _ h (λ _ q _ h.
      after_elim (byte_at s q) _ h (λ _ b _ h.
      after_elim (sized_at 4 s b) _ h (λ _ _ _ h. got_elim h (λ eo _. ap (λ (x : Outline). x.place) (sym eo))))))

  abbrev ReadThere : Outline → Type 0
  ReadThere o = (e : ℕ) × (outline_at s o.place ≡ got o e)

  stands : (n at : ℕ) {o : Outline} → First n at ≡ some o → ReadThere o
  stands zero at h = let z : none ≡ some _ = sym (first_end zero at (omega arith)) ∙ h in let y : ◌≡◌ {A = ℕ} 0 1 = cc in absurd (omega arith)
  stands (suc n) at {o} h = go (λ e. stands n e) (outline_at s at) refl
    where
      there : ((e : ℕ) → First n e ≡ some o → ReadThere o) → (x : Outline) (e : ℕ) → outline_at s at ≡ got x e → (t : Bool) → test x ≡ t → ReadThere o
      there more x e hx true t =
          let eo : x ≡ o = some_one (sym (first_here (suc n) at (omega arith) hx t) ∙ h) in
          (e, subst (λ (y : Outline). outline_at s y.place ≡ got y e) eo (ap (outline_at s) (place_is at hx) ∙ hx))
      there more x e hx false t =
          let m : n ≡ suc n - 1 = omega arith in
          more e (ap (λ (k : ℕ). First k e) m ∙ sym (first_next (suc n) at (omega arith) hx t) ∙ h)

      go : ((e : ℕ) → First n e ≡ some o → ReadThere o) → (g : Got Outline) → outline_at s at ≡ g → ReadThere o
      go more (got x e) hx = there more x e hx (test x) refl
      go more bad hx = let z : none ≡ some o = sym (first_lost (suc n) at hx) ∙ h in let y : ◌≡◌ {A = ℕ} 0 1 = cc in absurd (omega arith)

  found_there : (at : ℕ) {o : Outline} → FirstAt at ≡ some o → (e : ℕ) × (outline_at s o.place ≡ got o e)
  found_there at {o} h = go (number_at 2 s at) refl
    where
      go : (g : Got ℕ) → number_at 2 s at ≡ g → (e : ℕ) × (outline_at s o.place ≡ got o e)
      go (got n c) e = stands n c (sym (first_start at e) ∙ h)
      go bad e = let z : none ≡ some o = sym (first_no_start at e) ∙ h in let y : ◌≡◌ {A = ℕ} 0 1 = cc in absurd (omega arith)

  -- the pattern of what is found, by the place at which it is read
  pub pattern_there : (at : ℕ) {p : ℕ} {r : Next} → r ≡ place_of (FirstAt at) → r ≡ Some p → pattern_at_place s p ≡ pattern_place (FirstAt at)
  unfolding pattern_at_place one_read place_of
  pattern_there at {p} {r} h e = go (FirstAt at) refl
    where
      go : (o : Option Outline) → FirstAt at ≡ o → pattern_place (one_read (outline_at s p)) ≡ pattern_place (FirstAt at)
      go none eo = let z : Some p ≡ None = sym e ∙ h ∙ ap place_of eo in let y : ◌≡◌ {A = ℕ} 0 1 = cc in absurd (omega arith)
      go (some x) eo =
          let z : Some p ≡ Some x.place = sym e ∙ h ∙ ap place_of eo in
          let ep : p ≡ x.place = cc in
          let w = found_there at eo in
          ap (λ (k : ℕ). pattern_place (one_read (outline_at s k))) ep ∙ ap (λ (g : Got Outline). pattern_place (one_read g)) w.1 ∙ sym (ap pattern_place eo)

  pub pattern_none : (at : ℕ) {r : Next} → r ≡ place_of (FirstAt at) → r ≡ None → FirstAt at ≡ none
  unfolding place_of
  pattern_none at {r} h e = go (FirstAt at) refl
    where
      go : (o : Option Outline) → FirstAt at ≡ o → FirstAt at ≡ none
      go none eo = eo
      go (some x) eo = let z : None ≡ Some x.place = sym e ∙ h ∙ ap place_of eo in let y : ◌≡◌ {A = ℕ} 0 1 = cc in absurd (omega arith)

  -- by what is found, or else by another search
  pub by_default : (at : ℕ) (x : Option Outline) → FirstAt at ≡ none → pattern_place x ≡ pattern_place (or_else (FirstAt at) x)
  unfolding or_else
  by_default at x e = sym (ap (λ (o : Option Outline). pattern_place (or_else o x)) e)

  pub by_key : (at : ℕ) (x : Option Outline) {p : ℕ} {r : Next} → r ≡ place_of (FirstAt at) → r ≡ Some p → pattern_place (FirstAt at) ≡ pattern_place (or_else (FirstAt at) x)
  unfolding place_of or_else
  by_key at x {p} h e = go (FirstAt at) refl
    where
      go : (o : Option Outline) → FirstAt at ≡ o → pattern_place (FirstAt at) ≡ pattern_place (or_else (FirstAt at) x)
      go none eo = let z : Some p ≡ None = sym e ∙ h ∙ ap place_of eo in let y : ◌≡◌ {A = ℕ} 0 1 = cc in absurd (omega arith)
      go (some y) eo = rw eo

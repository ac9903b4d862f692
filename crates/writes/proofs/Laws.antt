-- Laws of one write and of one error more, by what each test of the definitions says.
use Rattle.state.specs.Progress.{refused_of}
use Rattle.refusals.specs.declared.Refusal.TheVariants as refusal
use mathlib.Core.Path.{◌≡◌, refl, ap, sym, ◌∙◌}
use mathlib.Core.List.{List, [], ◌∷◌}
use mathlib.Core.Bool.{Bool, true, false}
use mathlib.Core.Option.{none}
use Prim.Native.Nat.{ℕ, ◌+◌, ◌-◌, ◌≤◌, ◌<◌, min, max}
use native.Mathlib.Omega.{arith}
use lib.ListN.{length}
use lib.Dec.{leb}
use borrow.Author.Tests.{le-leb, lt-leb, leb-true, leb-false, eq-eqb, ne_eqb}
use Rattle.records.specs.Errors.{Error, Referred, reference}
use Rattle.decimals.specs.Bytes.{given}
use Rattle.buffers.specs.Relations.Append.{over, attempt, appended, Wrote, full}
use Rattle.std.specs.Prelude.{Ok}
use Rattle.texts.specs.Relations.Report.{recorded}
use Rattle.state.specs.declared.Progress.{Progress}
use Rattle.state.specs.Setters.{refuse_s, text_s, list_s, front_s, max_unfound, up_to}
use Rattle.writes.specs.Written.{text_after, work_after, list_after, has_room, to_text, to_work, to_list, written_aside, written_if, written, written_all, written_where, listed_if, listed, listed_missing}

-- the state after a write, by what it answered
pub text_at : {a : Wrote} {e : ℕ} (s : Progress) → a ≡ Ok e → text_s e s ≡ text_after a s
unfolding text_after
text_at s q = rw q

pub text_full : {a : Wrote} {r : Progress} (s : Progress) → a ≡ full → r ≡ refuse_s refusal.ShortText s → r ≡ text_after a s
unfolding text_after
text_full s q h = rw q h

pub work_at : (s : Progress) (n e : ℕ) {h : ℕ} → h ≡ max s.high (e + (n - s.back)) → front_s e h s ≡ work_after n (Ok e) s
unfolding work_after
work_at s n e q = rw q

pub list_at : {a : Wrote} {e n : ℕ} (s : Progress) → a ≡ Ok e → n ≡ min (s.errors + 1) max_unfound → list_s e n s ≡ list_after a s
unfolding list_after up_to
list_at s q h = rw (q, h)

pub list_full : {a : Wrote} {r : Progress} (s : Progress) → a ≡ full → r ≡ refuse_s refusal.ShortList s → r ≡ list_after a s
unfolding list_after
list_full s q h = rw q h

-- whether there is room in the workspace
module _ (s : Progress) (n size : ℕ) where
  pub room_from : s.front + n ≤ s.back → leb s.back size ≡ has_room s n size
  unfolding has_room
  room_from h = rw (le-leb _ _ h)

  pub room_none : s.back < s.front + n → false ≡ has_room s n size
  unfolding has_room
  room_none h = rw (lt-leb _ _ h)

  pub room_is : has_room s n size ≡ true → (s.front + n ≤ s.back) × (s.back ≤ size)
  unfolding has_room
  room_is h = go (leb (s.front + n) s.back) refl (leb s.back size) refl
    where
      never : false ≡ true → ⊥
      never e = let z : ◌≡◌ {A = ℕ} 0 1 = cc in omega arith

      go : (p : Bool) → leb (s.front + n) s.back ≡ p → (q : Bool) → leb s.back size ≡ q → (s.front + n ≤ s.back) × (s.back ≤ size)
      go true e true f = (leb-true _ _ e, leb-true _ _ f)
      go true e false f = absurd (never (sym (rw (e, f)) ∙ h))
      go false e q f = absurd (never (sym (rw e) ∙ h))

  -- where there is none, though the front and the back are positions of the workspace
  pub room_short : has_room s n size ≡ false → s.front ≤ s.back → s.back ≤ size → s.back < s.front + n
  unfolding has_room
  room_short h f g = go (leb (s.front + n) s.back) refl
    where
      never : true ≡ false → ⊥
      never e = let z : ◌≡◌ {A = ℕ} 0 1 = cc in omega arith

      go : (p : Bool) → leb (s.front + n) s.back ≡ p → s.back < s.front + n
      go true e = absurd (never (sym (rw (e, le-leb _ _ g)) ∙ h))
      go false e = leb-false _ _ e

-- bytes to the workspace
module _ (b w : List ℕ) (s : Progress) {r : Progress} where
  pub work_in : {n : ℕ} {w' : List ℕ} → n ≡ length b → has_room s n (length w) ≡ true → w' ≡ over w s.front b → r ≡ work_after (length w) (Ok (s.front + n)) s → (w', r) ≡ to_work b w s
  unfolding to_work attempt
  work_in ne h e q = let g : has_room s (length b) (length w) ≡ true = sym (ap (λ (k : ℕ). has_room s k (length w)) ne) ∙ h in rw (g, e, q, ne)

  pub work_out : {n : ℕ} → n ≡ length b → has_room s n (length w) ≡ false → r ≡ refuse_s refusal.ShortWorkspace s → (w, r) ≡ to_work b w s
  unfolding to_work attempt work_after
  work_out ne h q = let g : has_room s (length b) (length w) ≡ false = sym (ap (λ (k : ℕ). has_room s k (length w)) ne) ∙ h in rw (g, q)

-- a write, by where it goes
module _ (b t w : List ℕ) (s : Progress) where
  pub written_over : ((refused_of s) ≡ 0 → ⊥) → (t, w, s) ≡ written b t w s
  unfolding written written_if
  written_over h = rw (ne_eqb _ _ h)

  to_where : (on : Bool) → (refused_of s) ≡ 0 → s.aside ≡ on → written_aside on b t w s ≡ written b t w s
  unfolding written written_if
  to_where on z a = ap (λ (x : Bool). written_aside x b t w s) (sym a) ∙ ap (λ (x : Bool). written_if x b t w s) (sym (eq-eqb _ _ z))

  pub written_aside_law : {w' : List ℕ} {r : Progress} → (refused_of s) ≡ 0 → s.aside ≡ true → (w', r) ≡ to_work b w s → (t, w', r) ≡ written b t w s
  unfolding written_aside
  written_aside_law z a e = ap (λ (p : List ℕ × Progress). (t, p.0, p.1)) e ∙ to_where true z a

  pub written_text : {a : Wrote} {t' : List ℕ} {r : Progress} → (refused_of s) ≡ 0 → s.aside ≡ false → (a, t') ≡ appended t s.text_at b → r ≡ text_after a s → (t', w, r) ≡ written b t w s
  unfolding written_aside to_text
  written_text {t' = t'} z a e q = ap (λ (x : Progress). (t', w, x)) q ∙ ap (λ (p : Wrote × List ℕ). (p.1, w, text_after p.0 s)) e ∙ to_where false z a

-- a write of bytes that are some others
pub written_of : (b c t w : List ℕ) (s : Progress) {p : List ℕ × List ℕ × Progress} → p ≡ written b t w s → b ≡ c → p ≡ written c t w s
written_of b c t w s e h = e ∙ ap (λ (d : List ℕ). written d t w s) h

-- three writes, one after the other
pub written_three : (a b d t w : List ℕ) (s : Progress) {t₁ w₁ t₂ w₂ t₃ w₃ : List ℕ} {s₁ s₂ s₃ : Progress} → (t₁, w₁, s₁) ≡ written a t w s → (t₂, w₂, s₂) ≡ written b t₁ w₁ s₁ → (t₃, w₃, s₃) ≡ written d t₂ w₂ s₂
    → (t₃, w₃, s₃) ≡ written_all (a ∷ b ∷ d ∷ []) (t, w, s)
unfolding written_all
written_three a b d t w s e f g =
    g
    ∙ ap (λ (p : List ℕ × List ℕ × Progress). written d p.0 p.1 p.2) (f ∙ ap (λ (p : List ℕ × List ℕ × Progress). written b p.0 p.1 p.2) e)

-- bytes written only where a condition holds
module _ (b t w : List ℕ) (s : Progress) {on : Bool} where
  pub where_on : {t' w' : List ℕ} {r : Progress} → on ≡ true → (t', w', r) ≡ written b t w s → (t', w', r) ≡ written_where on b t w s
  unfolding written_where
  where_on h e = rw h e

  pub where_off : on ≡ false → (t, w, s) ≡ written_where on b t w s
  unfolding written_where
  where_off h = rw h

-- an error
module _ (e : Error) (l : List ℕ) (s : Progress) where
  pub listed_over : ((refused_of s) ≡ 0 → ⊥) → (l, s) ≡ listed e l s
  unfolding listed listed_if
  listed_over h = rw (ne_eqb _ _ h)

  pub listed_next : {a : Wrote} {l' : List ℕ} {r : Progress} → (refused_of s) ≡ 0 → (a, l') ≡ recorded l s.list_at e → r ≡ list_after a s → (l', r) ≡ listed e l s
  unfolding listed listed_if to_list
  listed_next {l' = l'} z h q = rw (eq-eqb _ _ z) (ap (λ (x : Progress). (l', x)) q ∙ ap (λ (p : Wrote × List ℕ). (p.1, list_after p.0 s)) h)

-- a missing variable
module _ (i l : List ℕ) (s : Progress) where
  pub missing_within : s.local ≡ true → (l, s) ≡ listed_missing i l s
  unfolding listed_missing
  missing_within h = ap (λ (x : Bool). given x (l, s) (listed (reference Referred.variable i none) l s)) (sym h)

  pub missing_outside : {p : List ℕ × Progress} → s.local ≡ false → p ≡ listed (reference Referred.variable i none) l s → p ≡ listed_missing i l s
  unfolding listed_missing
  missing_outside h e = e ∙ ap (λ (x : Bool). given x (l, s) (listed (reference Referred.variable i none) l s)) (sym h)

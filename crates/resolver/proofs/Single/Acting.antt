-- What one write and one error more do in a world: the action that the definition has for each. The callers of the writers cite these.
use Rattle.state.specs.Progress.{refused_of}
use mathlib.Core.Path.{◌≡◌, refl, ap, sym, subst, ◌∙◌}
use mathlib.Core.List.{List, [], ◌∷◌, ◌++◌}
use mathlib.Core.Bool.{Bool, true, false}
use mathlib.Core.Option.{Option, none}
use Prim.Native.Nat.{ℕ, ◌+◌, ◌≤◌}
use lib.ListN.{length}
use lib.Dec.{leb, eqb}
use borrow.Author.Tests.{leb-true, leb-false, eqb-true, eqb-false}
use Rattle.numbers.specs.Value.{Value, value_text}
use Rattle.records.specs.Errors.{Error, Referred, no_value, reference, enc_error, too_many_placeables}
use Rattle.buffers.proofs.Place.{paste_over, appended_fits, appended_full}
use Rattle.resolver.proofs.Attributes.{Short, short_none}
use Rattle.texts.specs.Relations.Report.{plain_of, recorded}
use Rattle.texts.specs.declared.errors.Plain.{Plain}
use Rattle.texts.specs.declared.errors.Plain.TheVariants as plain
use Rattle.state.specs.declared.Progress.{Progress}
use Rattle.values.specs.declared.Value as CodeValue
use Rattle.state.specs.Setters.{begun_s}
use Rattle.writes.specs.Written.{text_after, work_after, list_after, has_room, written, written_all, written_where, listed, listed_missing}
use Rattle.writes.proofs.Laws.{room_is, room_short, work_in, work_out, written_over, written_aside_law, written_text, listed_over, listed_next, missing_within, missing_outside}
use Rattle.resolution.specs.Effect.{report, emit, write}
use Rattle.resolution.specs.Resolve.{fsi, pdi, mark}
use Rattle.resolver.specs.Relations.Meets.{world, Kept, Acts, Holds, bytes_of}
use Rattle.resolver.specs.Relations.Leaves.{MissingAt, TooMany}
use Rattle.resolver.proofs.Single.Laws.{kept_same, acts_ret}
use Rattle.resolver.proofs.Single.Puts.{acts_over, acts_join, put_text_law, put_text_full, put_work_law, put_work_full}
use Rattle.resolver.proofs.Single.Steps.{acts_as}
use Rattle.resolver.proofs.Single.Buffers.{record_kept, record_listed, plain_short, no_value_short, reference_short, bytes_held}
use Rattle.resolver.proofs.Single.Variables.{missing_silent, missing_listed}

-- A write, on any state: what `written` leaves is what the action does in every live world.
module _ (b x w : List ℕ) (st : Progress) (i l t : List ℕ) where
  abbrev After : List ℕ × List ℕ × Progress → Type 0
  After p = Acts (write b) (world i x l w t st) (world i p.0 l p.1 t p.2)

  aside : (refused_of st) ≡ 0 → st.aside ≡ true → (q : Bool) → has_room st (length b) (length w) ≡ q → After (written b x w st)
  unfolding work_after
  aside z a true h =
      let r = room_is st (length b) (length w) h in
      subst After (written_aside_law b x w st z a (work_in b w st refl h refl refl)) (put_work_law i x l w t st b z a r.0 r.1 (sym (paste_over w st.front b)) refl)
  aside z a false h = subst After (written_aside_law b x w st z a (work_out b w st refl h refl)) (put_work_full i x l w t st b z a (room_short st (length b) (length w) h) refl)

  direct : (refused_of st) ≡ 0 → st.aside ≡ false → (q : Bool) → leb (st.text_at + length b) (length x) ≡ q → After (written b x w st)
  unfolding text_after
  direct z a true h =
      let r = leb-true _ _ h in
      subst After (written_text b x w st z a (appended_fits x st.text_at b r refl refl) refl) (put_text_law i x l w t st b z a r (sym (paste_over x st.text_at b)))
  direct z a false h =
      let r = leb-false _ _ h in
      subst After (written_text b x w st z a (appended_full x st.text_at b r) refl) (put_text_full i x l w t st b z a r refl)

  written_after : After (written b x w st)
  written_after = go (eqb (refused_of st) 0) refl st.aside refl
    where
      go : (p : Bool) → eqb (refused_of st) 0 ≡ p → (q : Bool) → st.aside ≡ q → After (written b x w st)
      go true e true a = aside (eqb-true _ _ e) a (has_room st (length b) (length w)) refl
      go true e false a = direct (eqb-true _ _ e) a (leb (st.text_at + length b) (length x)) refl
      go false e q a = subst After (written_over b x w st (eqb-false _ _ e)) (acts_over (write b) (world i x l w t st) (eqb-false _ _ e))

pub written_acts : (b : List ℕ) {x w x' w' : List ℕ} {st r : Progress} → (x', w', r) ≡ written b x w st → (i l t : List ℕ) → Acts (write b) (world i x l w t st) (world i x' l w' t r)
written_acts b {x} {w} {st = st} e i l t = subst (After b x w st i l t) (sym e) (written_after b x w st i l t)

-- the same, of bytes that are some others
pub written_as : (b c : List ℕ) {x w x' w' : List ℕ} {st r : Progress} → (x', w', r) ≡ written b x w st → b ≡ c → (i l t : List ℕ) → Acts (write c) (world i x l w t st) (world i x' l w' t r)
written_as b c e h i l t = acts_as (ap write (sym h)) (written_acts b e i l t)

-- three writes are one
pub braced_acts : (a b d : List ℕ) {x w x' w' : List ℕ} {st r : Progress} → (x', w', r) ≡ written_all (a ∷ b ∷ d ∷ []) (x, w, st) → (i l t : List ℕ) → Acts (write (a ++ (b ++ d))) (world i x l w t st) (world i x' l w' t r)
unfolding written_all
braced_acts a b d e i l t = acts_join a (b ++ d) (written_acts a refl i l t) (acts_join b d (written_acts b refl i l t) (written_acts d e i l t))

-- what is written only where a condition holds
where_acts : (on : Bool) (b : List ℕ) {x w x' w' : List ℕ} {st r : Progress} → (x', w', r) ≡ written_where on b x w st → (i l t : List ℕ) → Acts (mark on b) (world i x l w t st) (world i x' l w' t r)
unfolding written_where mark
where_acts true b e i l t = written_acts b e i l t
where_acts false b {x} {w} {st = st} e i l t = subst (λ (p : List ℕ × List ℕ × Progress). Acts (mark false b) (world i x l w t st) (world i p.0 l p.1 t p.2)) (sym e) (acts_ret tt (world i x l w t st))

pub fsi_acts : (on : Bool) {x w x' w' : List ℕ} {st r : Progress} → (x', w', r) ≡ written_where on (0xe2 ∷ 0x81 ∷ 0xa8 ∷ []) x w st → (i l t : List ℕ) → Acts (mark on fsi) (world i x l w t st) (world i x' l w' t r)
unfolding fsi
fsi_acts on e = where_acts on (0xe2 ∷ 0x81 ∷ 0xa8 ∷ []) e

pub pdi_acts : (on : Bool) {x w x' w' : List ℕ} {st r : Progress} → (x', w', r) ≡ written_where on (0xe2 ∷ 0x81 ∷ 0xa9 ∷ []) x w st → (i l t : List ℕ) → Acts (mark on pdi) (world i x l w t st) (world i x' l w' t r)
unfolding pdi
pdi_acts on e = where_acts on (0xe2 ∷ 0x81 ∷ 0xa9 ∷ []) e

-- the text of a value
pub value_acts : (i a : List ℕ) {x w x' w' : List ℕ} (c : CodeValue.Value) {st r : Progress} → (x', w', r) ≡ written (bytes_of i a w c) x w st
    → ((l t : List ℕ) → Kept (world i x l w t st) (world i x' l w' t r)) × ((v : Value) → Holds i a w st.back c v → (l t : List ℕ) → Acts (write (value_text v)) (world i x l w t st) (world i x' l w' t r))
value_acts i a {w = w} c {st} e = ((λ l t. (written_acts (bytes_of i a w c) e i l t).kept), λ v h l t. written_as (bytes_of i a w c) (value_text v) e (bytes_held i a w st.back h) i l t)

-- An error, on any state: what `listed` leaves is what the action does in every live world, if the error has a record.
module _ (er : Error) (l : List ℕ) (st : Progress) (i x w t : List ℕ) where
  abbrev Keeps : List ℕ × Progress → Type 0
  Keeps p = Kept (world i x l w t st) (world i x p.0 w t p.1)

  abbrev Lists : List ℕ × Progress → Type 0
  Lists p = Acts (emit (report er)) (world i x l w t st) (world i x p.0 w t p.1)

  next : (refused_of st) ≡ 0 → ((recorded l st.list_at er).1, list_after (recorded l st.list_at er).0 st) ≡ listed er l st
  next z = listed_next er l st z refl refl

  kept_after : Keeps (listed er l st)
  kept_after = go (eqb (refused_of st) 0) refl
    where
      go : (p : Bool) → eqb (refused_of st) 0 ≡ p → Keeps (listed er l st)
      go true e = subst Keeps (next (eqb-true _ _ e)) (record_kept i x l w t st er (eqb-true _ _ e) refl refl)
      go false e = subst Keeps (listed_over er l st (eqb-false _ _ e)) (kept_same _)

  listed_after : length (enc_error er) ≤ 65537 → Lists (listed er l st)
  listed_after h = go (eqb (refused_of st) 0) refl
    where
      go : (p : Bool) → eqb (refused_of st) 0 ≡ p → Lists (listed er l st)
      go true e = subst Lists (next (eqb-true _ _ e)) (record_listed i x l w t st er (eqb-true _ _ e) refl refl h)
      go false e = subst Lists (listed_over er l st (eqb-false _ _ e)) (acts_over (emit (report er)) (world i x l w t st) (eqb-false _ _ e))

module _ (er : Error) {l l' : List ℕ} {st r : Progress} (e : (l', r) ≡ listed er l st) where
  pub listed_kept : (i x w t : List ℕ) → Kept (world i x l w t st) (world i x l' w t r)
  listed_kept i x w t = subst (Keeps er l st i x w t) (sym e) (kept_after er l st i x w t)

  pub listed_acts : length (enc_error er) ≤ 65537 → (i x w t : List ℕ) → Acts (emit (report er)) (world i x l w t st) (world i x l' w t r)
  listed_acts h i x w t = subst (Lists er l st i x w t) (sym e) (listed_after er l st i x w t h)

-- the errors that the writers list
pub plain_acts : (k : Plain) {l l' : List ℕ} {st r : Progress} → (l', r) ≡ listed (plain_of k) l st → (i x w t : List ℕ) → Acts (emit (report (plain_of k))) (world i x l w t st) (world i x l' w t r)
plain_acts k e = listed_acts (plain_of k) e (plain_short k)

pub no_value_acts : (n : List ℕ) {l l' : List ℕ} {st r : Progress} → (l', r) ≡ listed (no_value n) l st
    → ((i x w t : List ℕ) → Kept (world i x l w t st) (world i x l' w t r)) × (length n ≤ 255 → (i x w t : List ℕ) → Acts (emit (report (no_value n))) (world i x l w t st) (world i x l' w t r))
no_value_acts n e = (listed_kept (no_value n) e, λ h. listed_acts (no_value n) e (no_value_short n h))

pub reference_acts : (k : Referred) (n : List ℕ) (o : Option (List ℕ)) {l l' : List ℕ} {st r : Progress} → (l', r) ≡ listed (reference k n o) l st
    → ((i x w t : List ℕ) → Kept (world i x l w t st) (world i x l' w t r)) × (length n ≤ 255 → Short o → (i x w t : List ℕ) → Acts (emit (report (reference k n o))) (world i x l w t st) (world i x l' w t r))
reference_acts k n o e = (listed_kept (reference k n o) e, λ h g. listed_acts (reference k n o) e (reference_short k n o h g))

-- the same record, its attribute under another name
pub listed_as : (k : Referred) (n : List ℕ) {o q : Option (List ℕ)} (l : List ℕ) {l' : List ℕ} (st : Progress) {r : Progress} → o ≡ q → (l', r) ≡ listed (reference k n o) l st → (l', r) ≡ listed (reference k n q) l st
listed_as k n l st h e = e ∙ ap (λ (x : Option (List ℕ)). listed (reference k n x) l st) h

pub bare_acts : (k : Referred) (n : List ℕ) {l l' : List ℕ} {st r : Progress} → (l', r) ≡ listed (reference k n none) l st
    → ((i x w t : List ℕ) → Kept (world i x l w t st) (world i x l' w t r)) × (length n ≤ 255 → (i x w t : List ℕ) → Acts (emit (report (reference k n none))) (world i x l w t st) (world i x l' w t r))
bare_acts k n e = let f = reference_acts k n none e in (f.0, λ h. f.1 h short_none)

pub too_many_acts : {l l' : List ℕ} {st r : Progress} → (l', r) ≡ listed too_many_placeables l (begun_s 101 true st) → TooMany l st l' r
unfolding plain_of
too_many_acts e = record { acts = listed_acts too_many_placeables e (plain_short plain.TooManyPlaceables) }

-- a missing variable
pub missing_acts : {n l l' : List ℕ} {st r : Progress} → (l', r) ≡ listed_missing n l st → MissingAt l st n l' r
missing_acts {n} {l} {st = st} e = subst (λ (p : List ℕ × Progress). MissingAt l st n p.0 p.1) (sym e) (go st.local refl)
  where
    go : (q : Bool) → st.local ≡ q → MissingAt l st n (listed_missing n l st).0 (listed_missing n l st).1
    go true h = subst (λ (p : List ℕ × Progress). MissingAt l st n p.0 p.1) (missing_within n l st h) (missing_silent h)
    go false h =
        let f = bare_acts Referred.variable n {l = l} {st = st} refl in
        subst (λ (p : List ℕ × Progress). MissingAt l st n p.0 p.1) (missing_outside n l st h refl) (missing_listed h f.0 f.1)

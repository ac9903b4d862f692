-- Laws of error records in a list.
use mathlib.Core.Path.{◌≡◌, refl, ap, sym, subst, ◌∙◌}
use mathlib.Core.List.{List, [], ◌∷◌, ◌++◌, append_assoc, append-nil}
use mathlib.Core.Bool.{Bool, true, false, ◌&&◌}
use mathlib.Core.Option.{Option, some, none}
use Prim.Native.Nat.{ℕ, ◌+◌, ◌≤◌, ◌<◌}
use native.Mathlib.Omega.{arith}
use lib.ListN.{length, take, drop, set, length-append}
use lib.Seq.{take-append-add, drop_at, length-take-le, take-add}
use lib.Dec.{leb, ltb}
use borrow.Author.Tests.{le-leb, lt-leb, lt-ltb, le-ltb, leb-true, leb-false, ltb-true, ltb-false}
use Rattle.records.specs.Bytes.{to_be, part}
use Rattle.records.specs.Images as images
use Rattle.records.specs.Encode.{enc_str, enc_optional, enc_kind, enc_all, enc_whole}
use Rattle.records.specs.Errors.{Referred, Error, overriding, reference, no_value, enc_referred, enc_record, enc_error, enc_errors, list_header}
use Rattle.decimals.specs.Bytes.{given}
use Rattle.buffers.specs.Relations.Append.{over, attempt, Wrote, full}
use Rattle.texts.specs.Relations.Report.{plain_of, room_for, attribute_len, recorded, header, headed}
use Rattle.texts.specs.declared.errors.Plain.{Plain}
use Rattle.texts.specs.declared.errors.Plain.TheVariants as plain
use Rattle.std.specs.Prelude.{Ok}
use Rattle.records.specs.Relations.Write.{over_fit}
use Rattle.records.proofs.Writing.{fits_over, length_fit}
use Rattle.buffers.proofs.Place.{set_over, then_over, then_set, length_over, take_over, attempt_at, attempt_no}

pub length_u16 : (n : ℕ) → length (to_be 2 n) ≡ 2
unfolding to_be
length_u16 n = refl

pub length_u32 : (n : ℕ) → length (to_be 4 n) ≡ 4
unfolding to_be
length_u32 n = refl

pub length_str : (t : List ℕ) → length (enc_str t) ≡ 2 + length t
unfolding enc_str
length_str t = length-append (to_be 2 (length t)) t ∙ ap (λ (k : ℕ). k + length t) (length_u16 (length t))

-- is there room
and_true : (x : Bool) {y : Bool} → x && y ≡ true → (x ≡ true) × (y ≡ true)
and_true true h = (refl, h)
and_true false h = let z : ◌≡◌ {A = ℕ} 0 1 = cc in absurd (omega arith)

module _ (size at n : ℕ) where
  pub room_too_long : 65537 < n → room_for size at n ≡ false
  unfolding room_for
  room_too_long h = rw (lt-leb _ _ h)

  pub room_by_size : n ≤ 65537 → at + n ≤ 4294967295 → room_for size at n ≡ leb (at + n) size
  unfolding room_for
  room_by_size h g = rw (le-leb _ _ h, le-leb _ _ g)

  pub room_true : {r : Bool} → r ≡ room_for size at n → r ≡ true → (n ≤ 65537) × (at + n ≤ 4294967295) × (at + n ≤ size)
  unfolding room_for
  room_true h e =
      let a = and_true (leb n 65537) (sym h ∙ e) in
      let b = and_true (leb (at + n) 4294967295) a.1 in
      (leb-true _ _ a.0, leb-true _ _ b.0, leb-true _ _ b.1)

-- the answers
module _ (d : List ℕ) (at : ℕ) (e : Error) where
  pub recorded_fits : {out : List ℕ} (n : ℕ) {r : Bool} → r ≡ room_for (length d) at n → r ≡ true → n ≡ length (enc_error e) → out ≡ over d at (enc_error e) → (Ok (at + n), out) ≡ recorded d at e
  unfolding recorded attempt
  recorded_fits n h t l o =
      let f : room_for (length d) at (length (enc_error e)) ≡ true = rw (← l) (sym h ∙ t) in
      rw (f, l, o)

  pub recorded_full : (n : ℕ) {r : Bool} → r ≡ room_for (length d) at n → r ≡ false → n ≡ length (enc_error e) → (full, d) ≡ recorded d at e
  unfolding recorded attempt
  recorded_full n h t l =
      let f : room_for (length d) at (length (enc_error e)) ≡ false = rw (← l) (sym h ∙ t) in
      rw f

  pub recorded_long : 65537 < length (enc_error e) → (full, d) ≡ recorded d at e
  unfolding recorded attempt
  recorded_long h = rw (room_too_long (length d) at (length (enc_error e)) h)

  -- what the answer says
  pub recorded_at : {r : Wrote} {out : List ℕ} {p : ℕ} → (r, out) ≡ recorded d at e → r ≡ Ok p → (at + length (enc_error e) ≤ length d) × (at + length (enc_error e) ≤ 4294967295) × (p ≡ at + length (enc_error e)) × (out ≡ over d at (enc_error e))
  unfolding recorded
  recorded_at h q =
      let w = attempt_at d at (enc_error e) _ h q in
      let f = room_true (length d) at (length (enc_error e)) refl w.0 in
      (f.2, f.1, w.1, w.2)

  pub recorded_no : {r : Wrote} {out : List ℕ} → (r, out) ≡ recorded d at e → r ≡ full → (room_for (length d) at (length (enc_error e)) ≡ false) × (out ≡ d)
  unfolding recorded
  recorded_no h q = attempt_no d at (enc_error e) _ h q

-- what is written, piece by piece
length_head : (n tag : ℕ) → length (to_be 2 n ++ (tag ∷ [])) ≡ 3
unfolding to_be
length_head n tag = refl

module _ (d : List ℕ) (at n : ℕ) where
  pub head_written : {e : List ℕ} (tag : ℕ) → at + 3 ≤ length d → e ≡ over_fit d at (to_be 2 n) → set e (at + 2) tag ≡ over d at (to_be 2 n ++ (tag ∷ []))
  head_written tag h q =
      let l = length_u16 n in
      then_set d at (to_be 2 n) tag (q ∙ fits_over d at (to_be 2 n) (omega arith)) (omega arith) (omega arith)

  module _ (tag kind : ℕ) (t : List ℕ) (h : at + (6 + length t) ≤ length d) {e : List ℕ} (p : e ≡ over d at (to_be 2 n ++ (tag ∷ []))) where
    kind_written : set e (at + 3) kind ≡ over d at (to_be 2 n ++ (tag ∷ []) ++ (kind ∷ []))
    kind_written = let m = length_head n tag in then_set d at (to_be 2 n ++ (tag ∷ [])) kind p (omega arith) (omega arith)

    pub named_written : {f : List ℕ} → f ≡ over (set e (at + 3) kind) (at + 4) (enc_str t) → f ≡ over d at (to_be 2 n ++ (tag ∷ kind ∷ enc_str t))
    named_written q =
        let m : length (to_be 2 n ++ (tag ∷ []) ++ (kind ∷ [])) ≡ 4 = length-append (to_be 2 n ++ (tag ∷ [])) (kind ∷ []) ∙ ap (λ (k : ℕ). k + 1) (length_head n tag) in
        let s = length_str t in
        q ∙ then_over d at (to_be 2 n ++ (tag ∷ []) ++ (kind ∷ [])) (enc_str t) kind_written (omega arith) (omega arith) ∙ ap (over d at) (simp append_assoc)

pub str_written : (d : List ℕ) (at : ℕ) (t : List ℕ) {e f : List ℕ} → at + (2 + length t) ≤ length d → e ≡ over_fit d at (to_be 2 (length t)) → f ≡ over_fit e (at + 2) t → f ≡ over d at (enc_str t)
unfolding enc_str
str_written d at t {e} h p q =
    let l = length_u16 (length t) in
    let k : length e ≡ length d = ap length p ∙ length_fit d at (to_be 2 (length t)) in
    q ∙ fits_over e (at + 2) t (omega arith) ∙ then_over d at (to_be 2 (length t)) t (p ∙ fits_over d at (to_be 2 (length t)) (omega arith)) (omega arith) (omega arith)

-- a name past a record's tag
pub name_written : (d : List ℕ) (at n tag : ℕ) (t : List ℕ) {e f : List ℕ} → at + (5 + length t) ≤ length d → e ≡ over d at (to_be 2 n ++ (tag ∷ [])) → f ≡ over e (at + 3) (enc_str t) → f ≡ over d at (to_be 2 n ++ (tag ∷ []) ++ enc_str t)
name_written d at n tag t h p q =
    let l = length_head n tag in
    let s = length_str t in
    q ∙ then_over d at (to_be 2 n ++ (tag ∷ [])) (enc_str t) p (omega arith) (omega arith)

pub length_named : (n tag kind : ℕ) (t : List ℕ) → length (to_be 2 n ++ (tag ∷ kind ∷ enc_str t)) ≡ 6 + length t
length_named n tag kind t = let a = length-append (to_be 2 n) (tag ∷ kind ∷ enc_str t) in let b = length_u16 n in let c = length_str t in omega arith

-- the bytes of each record, and their number
pub plain_length : (k : Plain) → 3 ≡ length (enc_error (plain_of k))
unfolding enc_error enc_record to_be plain_of
plain_length plain.MissingDefault = refl
plain_length plain.Cyclic = refl
plain_length plain.TooManyPlaceables = refl

record_length : (b : List ℕ) → length (enc_record b) ≡ 2 + length b
unfolding enc_record
record_length b = length-append (to_be 2 (length b)) b ∙ ap (λ (k : ℕ). k + length b) (length_u16 (length b))

record_is : (b : List ℕ) (n : ℕ) → n ≡ length b → to_be 2 n ++ b ≡ enc_record b
unfolding enc_record
record_is b n e = rw e

module _ (i : List ℕ) where
  pub overriding_length : (k : images.Kind) → 6 + length i ≡ length (enc_error (overriding k i))
  unfolding enc_error
  overriding_length k = let a = record_length (1 ∷ enc_kind k ∷ enc_str i) in let b = length_str i in omega arith

  pub overriding_is : (k : images.Kind) {x : ℕ} → x ≡ enc_kind k → to_be 2 (4 + length i) ++ (1 ∷ x ∷ enc_str i) ≡ enc_error (overriding k i)
  unfolding enc_error
  overriding_is k e = let b = length_str i in rw e (record_is (1 ∷ enc_kind k ∷ enc_str i) (4 + length i) (omega arith))

  pub no_value_length : 5 + length i ≡ length (enc_error (no_value i))
  unfolding enc_error
  no_value_length = let a = record_length (3 ∷ enc_str i) in let b = length_str i in omega arith

  pub no_value_is : to_be 2 (3 + length i) ++ (3 ∷ []) ++ enc_str i ≡ enc_error (no_value i)
  unfolding enc_error
  no_value_is = let b = length_str i in append_assoc (to_be 2 (3 + length i)) (3 ∷ []) (enc_str i) ∙ record_is (3 ∷ enc_str i) (3 + length i) (omega arith)

  module _ (k : Referred) where
    bare_size : length (2 ∷ enc_referred k ∷ enc_str i ++ enc_optional enc_str none) ≡ 5 + length i
    unfolding enc_optional
    bare_size = let a = length-append (enc_str i) (0 ∷ []) in let b = length_str i in omega arith

    pub bare_length : 7 + length i ≡ length (enc_error (reference k i none))
    unfolding enc_error
    bare_length = let a = record_length (2 ∷ enc_referred k ∷ enc_str i ++ enc_optional enc_str none) in let b = bare_size in omega arith

    module _ (a : List ℕ) where
      attribute_size : length (2 ∷ enc_referred k ∷ enc_str i ++ enc_optional enc_str (some a)) ≡ 7 + length i + length a
      unfolding enc_optional
      attribute_size = let x = length-append (enc_str i) (1 ∷ enc_str a) in let b = length_str i in let c = length_str a in omega arith

      pub attribute_length : 9 + length i + length a ≡ length (enc_error (reference k i (some a)))
      unfolding enc_error
      attribute_length = let x = record_length (2 ∷ enc_referred k ∷ enc_str i ++ enc_optional enc_str (some a)) in let b = attribute_size in omega arith

-- an attribute with its Flag, and how many bytes it takes
pub attribute_short : (a : List ℕ) → length a ≤ 65535 → attribute_len (some a) ≡ 3 + length a
unfolding attribute_len
attribute_short a h = rw (le-ltb 65535 (length a) h)

pub attribute_long : (a : List ℕ) → 65535 < length a → attribute_len (some a) ≡ 65538
unfolding attribute_len
attribute_long a h = rw (lt-ltb 65535 (length a) h)

pub attribute_most : (o : Option (List ℕ)) → attribute_len o ≤ 65538
unfolding attribute_len
attribute_most (some a) = go (ltb 65535 (length a)) refl where
  go : (x : Bool) → ltb 65535 (length a) ≡ x → given x 65538 (3 + length a) ≤ 65538
  go true e = omega arith
  go false e = let l : length a ≤ 65535 = ltb-false _ _ e in omega arith
attribute_most none = omega arith

attribute_fits : (a : List ℕ) → attribute_len (some a) ≤ 65537 → length a ≤ 65535
attribute_fits a h = go (ltb 65535 (length a)) refl where
  go : (x : Bool) → ltb 65535 (length a) ≡ x → length a ≤ 65535
  go true e = let l = attribute_long a (ltb-true _ _ e) in absurd (omega arith)
  go false e = ltb-false _ _ e

attribute_there : (a : List ℕ) → length (enc_optional enc_str (some a)) ≡ 3 + length a
unfolding enc_optional
attribute_there a = let s = length_str a in omega arith

attribute_none : attribute_len none ≡ length (enc_optional enc_str none)
unfolding attribute_len enc_optional
attribute_none = refl

attribute_is : (o : Option (List ℕ)) → attribute_len o ≤ 65537 → attribute_len o ≡ length (enc_optional enc_str o)
attribute_is (some a) h = attribute_short a (attribute_fits a h) ∙ sym (attribute_there a)
attribute_is none h = attribute_none

-- an attribute written, with its Flag
module _ (d : List ℕ) (at : ℕ) where
  module _ (a : List ℕ) (h : at + attribute_len (some a) ≤ length d) (g : attribute_len (some a) ≤ 65537) where
    pub attribute_room : (at + (3 + length a) ≤ length d) × (length a ≤ 65535)
    attribute_room =
        let l = attribute_fits a g in
        let s = attribute_short a l in
        (omega arith, l)

    pub attribute_written : {f : List ℕ} → f ≡ over (set d at 1) (at + 1) (enc_str a) → f ≡ over d at (enc_optional enc_str (some a))
    unfolding enc_optional
    attribute_written q =
        let r = attribute_room in
        let s = length_str a in
        q ∙ then_over d at (1 ∷ []) (enc_str a) (set_over d at 1 (omega arith)) refl (omega arith)

  pub attribute_absent : at + attribute_len none ≤ length d → at + 1 ≤ length d
  unfolding attribute_len
  attribute_absent h = h

  pub absent_written : at + attribute_len none ≤ length d → set d at 0 ≡ over d at (enc_optional enc_str none)
  unfolding enc_optional
  absent_written h = let l = attribute_absent h in set_over d at 0 (omega arith)

-- the bytes of a Reference record, and their number
module _ (k : Referred) (i : List ℕ) (o : Option (List ℕ)) where
  reference_rest : length (2 ∷ enc_referred k ∷ enc_str i ++ enc_optional enc_str o) ≡ 4 + length i + length (enc_optional enc_str o)
  reference_rest = let a = length-append (enc_str i) (enc_optional enc_str o) in let b = length_str i in omega arith

  pub reference_length : length (enc_error (reference k i o)) ≡ 6 + length i + length (enc_optional enc_str o)
  unfolding enc_error
  reference_length = let a = record_length (2 ∷ enc_referred k ∷ enc_str i ++ enc_optional enc_str o) in let b = reference_rest in omega arith

  pub reference_long : 65535 < length i → 65537 < length (enc_error (reference k i o))
  reference_long h = let a = reference_length in omega arith

  reference_is : (m : ℕ) {x : ℕ} → x ≡ enc_referred k → m ≡ length (enc_optional enc_str o) → to_be 2 (4 + length i + m) ++ (2 ∷ x ∷ enc_str i) ++ enc_optional enc_str o ≡ enc_error (reference k i o)
  unfolding enc_error
  reference_is m {x} e q =
      let r = reference_rest in
      rw (e, append_assoc (to_be 2 (4 + length i + m)) (2 ∷ enc_referred k ∷ enc_str i) (enc_optional enc_str o)) (record_is (2 ∷ enc_referred k ∷ enc_str i ++ enc_optional enc_str o) (4 + length i + m) (omega arith))

  reference_written : (d : List ℕ) (at m : ℕ) {x : ℕ} {e f : List ℕ} → at + (6 + length i + m) ≤ length d → x ≡ enc_referred k → m ≡ length (enc_optional enc_str o)
      → e ≡ over d at (to_be 2 (4 + length i + m) ++ (2 ∷ x ∷ enc_str i)) → f ≡ over e (at + (6 + length i)) (enc_optional enc_str o) → f ≡ over d at (enc_error (reference k i o))
  reference_written d at m {x} h ex em p q =
      let l = length_named (4 + length i + m) 2 x i in
      q ∙ then_over d at (to_be 2 (4 + length i + m) ++ (2 ∷ x ∷ enc_str i)) (enc_optional enc_str o) p (omega arith) (omega arith) ∙ ap (over d at) (reference_is m ex em)

attribute_past : (k : Referred) (i : List ℕ) (o : Option (List ℕ)) → 65537 < attribute_len o → 65537 < length (enc_error (reference k i o))
unfolding attribute_len
attribute_past k i (some a) l = go (ltb 65535 (length a)) refl l where
  go : (x : Bool) → ltb 65535 (length a) ≡ x → 65537 < given x 65538 (3 + length a) → 65537 < length (enc_error (reference k i (some a)))
  go true e l = let s = reference_length k i (some a) in let u = attribute_there a in let v : 65535 < length a = ltb-true _ _ e in omega arith
  go false e l = let s = reference_length k i (some a) in let u = attribute_there a in omega arith
attribute_past k i none l = absurd (omega arith)

-- a Reference record that fits, and one that does not
module _ (d : List ℕ) (at : ℕ) (k : Referred) (i : List ℕ) (o : Option (List ℕ)) {m : ℕ} {r : Bool} (h : r ≡ room_for (length d) at (6 + length i + m)) (em : m ≡ attribute_len o) where
  pub reference_fits : {x : ℕ} {e f : List ℕ} → r ≡ true → x ≡ enc_referred k → e ≡ over d at (to_be 2 (4 + length i + m) ++ (2 ∷ x ∷ enc_str i))
      → f ≡ over e (at + (6 + length i)) (enc_optional enc_str o) → (Ok (at + (6 + length i + m)), f) ≡ recorded d at (reference k i o)
  reference_fits t ex p q =
      let room = room_true (length d) at (6 + length i + m) h t in
      let n : m ≡ length (enc_optional enc_str o) = em ∙ attribute_is o (omega arith) in
      let s = reference_length k i o in
      recorded_fits d at (reference k i o) (6 + length i + m) h t (omega arith) (reference_written k i o d at m room.2 ex n p q)

  pub reference_full : r ≡ false → (full, d) ≡ recorded d at (reference k i o)
  reference_full t = go (leb (attribute_len o) 65537) refl where
    go : (x : Bool) → leb (attribute_len o) 65537 ≡ x → (full, d) ≡ recorded d at (reference k i o)
    go true e =
        let n : m ≡ length (enc_optional enc_str o) = em ∙ attribute_is o (leb-true _ _ e) in
        let s = reference_length k i o in
        recorded_full d at (reference k i o) (6 + length i + m) h t (omega arith)
    go false e = recorded_long d at (reference k i o) (attribute_past k i o (leb-false _ _ e))

-- what stands past a front that was written, and past bytes that were
over_front : (d a b : List ℕ) → length a ≡ 5 → part d 5 (length b) ≡ b → take (5 + length b) (over d 0 a) ≡ a ++ b
unfolding over
over_front d a b l p =
    let e : take (length a + length b) (a ++ drop (0 + length a) d) ≡ a ++ take (length b) (drop (0 + length a) d) = take-append-add a (drop (0 + length a) d) (length b) in
    let f : 0 + length a ≡ 5 = omega arith in
    let g : take (5 + length b) (a ++ drop (0 + length a) d) ≡ a ++ take (length b) (drop (0 + length a) d) = subst (λ (k : ℕ). take (k + length b) (a ++ drop (0 + length a) d) ≡ a ++ take (length b) (drop (0 + length a) d)) l e in
    g ∙ ap (λ (k : ℕ). a ++ take (length b) (drop k d)) f ∙ ap (λ (x : List ℕ). a ++ x) p

over_past : (d : List ℕ) (at : ℕ) (a b : List ℕ) → at + length a + length b ≤ length d → part d at (length a) ≡ a → part (over d (at + length a) b) at (length (a ++ b)) ≡ a ++ b
over_past d at a b h p =
    let c : take (at + length a) d ≡ take at d ++ a = take-add at (length a) d ∙ ap (λ (x : List ℕ). take at d ++ x) p in
    let f : take (at + length a + length b) (over d (at + length a) b) ≡ take at d ++ (a ++ b) = take_over d (at + length a) b (omega arith) ∙ ap (λ (x : List ℕ). x ++ b) c ∙ append_assoc (take at d) a b in
    let l : at + length a + length b ≡ at + length (a ++ b) = omega (arith, length-append a b) in
    let g : take (at + length (a ++ b)) (over d (at + length a) b) ≡ take at d ++ (a ++ b) = rw l at f in
    let s : length (over d (at + length a) b) ≡ length d = length_over d (at + length a) b h in
    sym (drop_at (take at (over d (at + length a) b)) _ at (length-take-le at (over d (at + length a) b) (omega arith)))
    ∙ ap (drop at) (sym (take-add at (length (a ++ b)) (over d (at + length a) b)) ∙ g)
    ∙ drop_at (take at d) (a ++ b) at (length-take-le at d (omega arith))

-- the list's header
length_header : (w : ℕ) → length (header w) ≡ 5
unfolding header to_be
length_header w = refl

module _ (d : List ℕ) (w : ℕ) where
  pub headed_done : 5 ≤ length d → w < 4294967296 → headed d w ≡ over d 0 (header w)
  unfolding headed list_header
  headed_done h g = rw (le-leb _ _ h, lt-ltb _ _ g)

  pub headed_short : length d < 5 → headed d w ≡ d
  unfolding headed list_header
  headed_short h = rw (lt-leb _ _ h)

  pub headed_long : 5 ≤ length d → 4294967296 ≤ w → headed d w ≡ d
  unfolding headed list_header
  headed_long h g = rw (le-leb _ _ h, le-ltb _ _ g)

  pub header_written : {e : List ℕ} → 5 ≤ length d → e ≡ over_fit d 0 (to_be 4 w) → set e 4 1 ≡ over d 0 (header w)
  unfolding header
  header_written h q =
      let l = length_u32 w in
      then_set d 0 (to_be 4 w) 1 (q ∙ fits_over d 0 (to_be 4 w) (omega arith)) (omega arith) (omega arith)

-- A header over records is the error list.
headed_whole : (d b : List ℕ) → 5 + length b ≤ length d → 5 + length b < 4294967296 → part d 5 (length b) ≡ b → take (5 + length b) (headed d (5 + length b)) ≡ enc_whole (1 ∷ b)
unfolding enc_whole header
headed_whole d b h g p =
    let l : length (to_be 4 (5 + length b) ++ (1 ∷ [])) ≡ 5 = length_header (5 + length b) in
    let a : take (5 + length b) (headed d (5 + length b)) ≡ take (5 + length b) (over d 0 (to_be 4 (5 + length b) ++ (1 ∷ []))) = ap (take (5 + length b)) (headed_done d (5 + length b) (omega arith) g) in
    let c : take (5 + length b) (over d 0 (to_be 4 (5 + length b) ++ (1 ∷ []))) ≡ to_be 4 (5 + length b) ++ (1 ∷ []) ++ b = over_front d (to_be 4 (5 + length b) ++ (1 ∷ [])) b l p in
    let e : 4 + length (1 ∷ b) ≡ 5 + length b = omega arith in
    a ∙ c ∙ append_assoc (to_be 4 (5 + length b)) (1 ∷ []) b ∙ rw e

pub headed_errors : (d : List ℕ) (es : List Error) → 5 + length (enc_all enc_error es) ≤ length d → 5 + length (enc_all enc_error es) < 4294967296 → part d 5 (length (enc_all enc_error es)) ≡ enc_all enc_error es → take (5 + length (enc_all enc_error es)) (headed d (5 + length (enc_all enc_error es))) ≡ enc_errors es
unfolding enc_errors
headed_errors d es h g p = headed_whole d (enc_all enc_error es) h g p

-- A record appended to records: those of one error more.
enc_all_snoc : (es : List Error) (e : Error) → enc_all enc_error (es ++ (e ∷ [])) ≡ enc_all enc_error es ++ enc_error e
unfolding enc_all
enc_all_snoc [] e = append-nil (enc_error e)
enc_all_snoc (x ∷ es) e = ap (λ (l : List ℕ). enc_error x ++ l) (enc_all_snoc es e) ∙ sym (append_assoc (enc_error x) (enc_all enc_error es) (enc_error e))

pub record_listed : (d : List ℕ) (es : List Error) (e : Error) → 5 + length (enc_all enc_error es) + length (enc_error e) ≤ length d → part d 5 (length (enc_all enc_error es)) ≡ enc_all enc_error es
    → part (over d (5 + length (enc_all enc_error es)) (enc_error e)) 5 (length (enc_all enc_error (es ++ (e ∷ [])))) ≡ enc_all enc_error (es ++ (e ∷ []))
record_listed d es e h p = rw (enc_all_snoc es e) (over_past d 5 (enc_all enc_error es) (enc_error e) h p)

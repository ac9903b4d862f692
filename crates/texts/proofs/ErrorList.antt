-- The errors of a list are read back from its bytes, and only from those.
use mathlib.Core.Path.{◌≡◌, refl, ap, sym, subst, ◌∙◌}
use mathlib.Core.List.{List, [], ◌∷◌, ◌++◌, append_assoc}
use mathlib.Core.Logic.{◌↔◌}
use mathlib.Core.Option.{Option, some, none}
use Prim.Native.Nat.{ℕ, zero, suc, ◌+◌, ◌-◌, ◌≤◌, ◌<◌}
use native.Mathlib.Omega.{arith}
use lib.ListN.{length, take, length-append}
use lib.Seq.{take-length}
use lib.Dec.{leb}
use borrow.Author.Tests.{eq-eqb, ne_eqb, leb-true}
use Rattle.records.specs.Got.{Got, got, bad, after, test, pick}
use Rattle.records.specs.Bytes.{to_be, part, bytes_at, span_at, str_at}
use Rattle.records.specs.Decode.{optional_at}
use Rattle.records.specs.Encode.{enc_str, enc_optional, enc_kind, enc_all, enc_whole}
use Rattle.records.specs.Images.{Kind, kind_at}
use Rattle.records.specs.Errors.{Referred, Error, overriding, reference, no_value, missing_default, cyclic, too_many_placeables, enc_referred, enc_record, enc_error, enc_errors}
use Rattle.records.specs.Valid.{All}
use Rattle.records.proofs.Laws.{bytes_in}
use Rattle.layout.specs.Exact.{Stands, Octets}
use Rattle.layout.proofs.Stands.{append_nil, length_part, stands_length, stands_of, stands_none, none_ends, bytes_are, join, split}
use Rattle.layout.proofs.Steps.{after_elim, took, test_took, tag_took, last_took, byte_took, gives, tagged, ahead, number_exact, byte_complete, byte_ahead, ends}
use Rattle.texts.specs.Relations.Report.{header, headed}
use Rattle.texts.specs.ErrorList.{referred_at, overriding_at, reference_at, no_value_at, plain_at, tagged_at, record_at, records_at, list_with, value_of, error_of, errors_of, Recordable, Listable, Brief}
use Rattle.texts.proofs.Recording.{length_u16, length_u32, overriding_length, no_value_length, bare_length, attribute_length, headed_errors}

-- the bytes of a record behind its length
unfoldable rest_of : Error → List ℕ
rest_of (overriding k i) = 1 ∷ enc_kind k ∷ enc_str i
rest_of (reference k i a) = 2 ∷ enc_referred k ∷ enc_str i ++ enc_optional enc_str a
rest_of (no_value i) = 3 ∷ enc_str i
rest_of missing_default = 4 ∷ []
rest_of cyclic = 5 ∷ []
rest_of too_many_placeables = 6 ∷ []

-- a record's bytes are the length of its rest, and its rest
record_is : (e : Error) → enc_error e ≡ to_be 2 (length (rest_of e)) ++ rest_of e
unfolding enc_error enc_record rest_of
record_is (overriding k i) = refl
record_is (reference k i a) = refl
record_is (no_value i) = refl
record_is missing_default = refl
record_is cyclic = refl
record_is too_many_placeables = refl

record_size : (e : Error) → length (enc_error e) ≡ 2 + length (rest_of e)
record_size e = ap length (record_is e) ∙ length-append (to_be 2 (length (rest_of e))) (rest_of e) ∙ ap (λ (k : ℕ). k + length (rest_of e)) (length_u16 (length (rest_of e)))

-- the Ids of an error whose record has a length have one too
unfoldable Short : Error → Type 0
Short (overriding k i) = length i < 65536
Short (reference k i none) = length i < 65536
Short (reference k i (some a)) = (length i < 65536) × (length a < 65536)
Short (no_value i) = length i < 65536
Short missing_default = Unit {0}
Short cyclic = Unit {0}
Short too_many_placeables = Unit {0}

short : (e : Error) → Recordable e → Short e
unfolding Short
short (overriding k i) h = let l = overriding_length i k in omega arith
short (reference k i none) h = let l = bare_length i k in omega arith
short (reference k i (some a)) h = let l = attribute_length i k a in (omega arith, omega arith)
short (no_value i) h = let l = no_value_length i in omega arith
short missing_default h = tt
short cyclic h = tt
short too_many_placeables h = tt

-- an error with Ids as document 01 has them is recordable
pub recordable : (e : Error) → Brief e → Recordable e
unfolding Brief rest_of
recordable (overriding k i) h = let l = overriding_length i k in omega arith
recordable (reference k i none) h = let l = bare_length i k in omega arith
recordable (reference k i (some a)) h = let l = attribute_length i k a in omega arith
recordable (no_value i) h = let l = no_value_length i in omega arith
recordable missing_default h = let l = record_size missing_default in omega arith
recordable cyclic h = let l = record_size cyclic in omega arith
recordable too_many_placeables h = let l = record_size too_many_placeables in omega arith

-- a list stands in itself
all_stands : (s : List ℕ) → Stands s 0 (length s) s
all_stands s =
    let m : 0 + length s ≡ length s = omega arith in
    subst (λ (j : ℕ). Stands s 0 j s) m (stands_of s [] (omega arith) (sym (append_nil s)))

-- What was encoded is read: where the bytes stand, from the parts of a record up.
str_read : {s : List ℕ} {at f : ℕ} (t : List ℕ) → length t < 65536 → Stands s at f (enc_str t) → str_at s at ≡ got t f
unfolding str_at span_at enc_str after
str_read {s} {at} {f} t q h = split (to_be 2 (length t)) h (λ p u v.
    let w = v.within in
    let m : p + length t ≡ f = stands_length v in
    rw ((number_exact 2).complete q u, bytes_in s p (length t) (omega arith), m, v.bytes))

module _ {s : List ℕ} {at f : ℕ} where
  overriding_read : (k : Kind) (i : List ℕ) → length i < 65536 → Stands s at f (enc_kind k ∷ enc_str i) → overriding_at s at ≡ got (overriding k i) f
  unfolding overriding_at kind_at after pick test enc_kind
  overriding_read Kind.message i q h = split (1 ∷ []) h (λ p u v. rw (byte_complete u, str_read i q v))
  overriding_read Kind.term i q h = split (2 ∷ []) h (λ p u v. rw (byte_complete u, str_read i q v))

  no_value_read : (i : List ℕ) → length i < 65536 → Stands s at f (enc_str i) → no_value_at s at ≡ got (no_value i) f
  unfolding no_value_at after
  no_value_read i q h = rw (str_read i q h)

  referred_read : (k : Referred) → Stands s at f (enc_referred k ∷ []) → referred_at s at ≡ got k f
  unfolding referred_at after pick test enc_referred
  referred_read Referred.message h = rw (byte_complete h)
  referred_read Referred.term h = rw (byte_complete h)
  referred_read Referred.function h = rw (byte_complete h)
  referred_read Referred.variable h = rw (byte_complete h)

  attribute_read : (k : Referred) (i : List ℕ) (a : Option (List ℕ)) → Short (reference k i a) → Stands s at f (enc_optional enc_str a) → optional_at str_at s at ≡ got a f
  unfolding optional_at after pick test enc_optional Short
  attribute_read k i none q h = rw (byte_complete h)
  attribute_read k i (some a) q h = split (1 ∷ []) h (λ p u v. rw (byte_complete u, str_read a q.1 v))

id_short : (k : Referred) (i : List ℕ) (a : Option (List ℕ)) → Short (reference k i a) → length i < 65536
unfolding Short
id_short k i none q = q
id_short k i (some a) q = q.0

reference_read : {s : List ℕ} {at f : ℕ} (k : Referred) (i : List ℕ) (a : Option (List ℕ)) → Short (reference k i a) → Stands s at f (enc_referred k ∷ enc_str i ++ enc_optional enc_str a)
    → reference_at s at ≡ got (reference k i a) f
unfolding reference_at after
reference_read k i a q h =
    split (enc_referred k ∷ []) h (λ p u v.
    split (enc_str i) v (λ e w x. rw (referred_read k u, str_read i (id_short k i a q) w, attribute_read k i a q x)))

tagged_read : {s : List ℕ} {at f : ℕ} (e : Error) → Short e → Stands s at f (rest_of e) → tagged_at s at ≡ got e f
unfolding rest_of tagged_at pick plain_at test Short
tagged_read (overriding k i) q h = byte_ahead _ h (λ p u v. overriding_read k i q v)
tagged_read (reference k i a) q h = byte_ahead _ h (λ p u v. reference_read k i a q v)
tagged_read (no_value i) q h = byte_ahead _ h (λ p u v. no_value_read i q v)
tagged_read missing_default q h = byte_ahead _ h (λ p u v. ap (got missing_default) (none_ends v))
tagged_read cyclic q h = byte_ahead _ h (λ p u v. ap (got cyclic) (none_ends v))
tagged_read too_many_placeables q h = byte_ahead _ h (λ p u v. ap (got too_many_placeables) (none_ends v))

record_read : {s : List ℕ} {at f : ℕ} (e : Error) → Recordable e → Stands s at f (enc_error e) → record_at s at ≡ got e f
unfolding record_at after
record_read e q h =
    let z = record_size e in
    ahead (number_exact 2) _ (omega arith) (bytes_are (record_is e) h) (λ p u v. rw (tagged_read e (short e q) v) (ends (sym (stands_length v)) refl))

records_read : (n : ℕ) {s : List ℕ} {at : ℕ} (es : List Error) → All Recordable es → length es ≤ n → Stands s at (length s) (enc_all enc_error es) → records_at n s at ≡ got es (length s)
unfolding records_at enc_all after pick test
records_read zero {s} {at} [] ok l h = let e = none_ends h in rw (eq-eqb at (length s) e) (ap (got []) e)
records_read (suc n) {s} {at} [] ok l h = let e = none_ends h in rw (eq-eqb at (length s) e) (ap (got []) e)
records_read zero (e ∷ es) ok l h = absurd (omega arith)
records_read (suc n) {s} {at} (e ∷ es) ok l h =
    split (enc_error e) h (λ p u v.
    let z = record_size e in
    let m = stands_length u in
    let w = u.within in
    let ne : at ≡ length s → ⊥ = λ q. omega arith in
    rw (ne_eqb at (length s) ne, record_read e ok.0 u, records_read n es ok.1 (omega arith) v))

-- there are no more records than bytes
few : (es : List Error) → length es ≤ length (enc_all enc_error es)
unfolding enc_all
few [] = omega arith
few (e ∷ es) = let z = record_size e in let a = length-append (enc_error e) (enc_all enc_error es) in let i = few es in omega arith

-- a list's bytes are its header and its records
pub list_size : (es : List Error) → length (enc_errors es) ≡ 5 + length (enc_all enc_error es)
unfolding enc_errors enc_whole
list_size es =
    let a = length-append (to_be 4 (4 + length (1 ∷ enc_all enc_error es))) (1 ∷ enc_all enc_error es) in
    let b = length_u32 (4 + length (1 ∷ enc_all enc_error es)) in
    omega arith

pub list_is : (es : List Error) → header (5 + length (enc_all enc_error es)) ++ enc_all enc_error es ≡ enc_errors es
unfolding enc_errors enc_whole header
list_is es =
    let e : 4 + length (1 ∷ enc_all enc_error es) ≡ 5 + length (enc_all enc_error es) = omega arith in
    append_assoc (to_be 4 (5 + length (enc_all enc_error es))) (1 ∷ []) (enc_all enc_error es) ∙ rw e

list_read : {s : List ℕ} (es : List Error) → Listable es → length s ≡ length (enc_errors es) → Stands s 0 (length s) (enc_errors es) → list_with s 0 ≡ got es (length s)
unfolding list_with after test enc_errors enc_whole
list_read {s} es ok m h =
    let z = list_size es in
    let w = few es in
    let n : 4 + length (1 ∷ enc_all enc_error es) ≡ length s = omega arith in
    split (to_be 4 (4 + length (1 ∷ enc_all enc_error es))) h (λ p u v.
    split (1 ∷ []) v (λ q x y.
    rw ((number_exact 4).complete (omega arith) u, eq-eqb _ _ n, byte_complete x) (records_read (length s) es ok.0 (omega arith) y)))

-- an error is read back from the bytes of its record
pub error_read : (e : Error) → Recordable e → error_of (enc_error e) ≡ some e
unfolding error_of value_of after test
error_read e q = rw (record_read e q (all_stands (enc_error e)), eq-eqb (length (enc_error e)) (length (enc_error e)) refl)

-- the errors of a list are read back from its bytes
pub errors_read : (es : List Error) → Listable es → errors_of (enc_errors es) ≡ some es
unfolding errors_of value_of
errors_read es ok = rw (list_read es ok refl (all_stands (enc_errors es)))

-- the same, of the header and the records
pub header_read : (es : List Error) → Listable es → errors_of (header (5 + length (enc_all enc_error es)) ++ enc_all enc_error es) ≡ some es
header_read es ok = ap errors_of (list_is es) ∙ errors_read es ok

-- and of what `put_header` leaves at the front of a buffer in which the records stand
pub headed_read : (d : List ℕ) (es : List Error) → Listable es → 5 + length (enc_all enc_error es) ≤ length d → part d 5 (length (enc_all enc_error es)) ≡ enc_all enc_error es
    → errors_of (take (5 + length (enc_all enc_error es)) (headed d (5 + length (enc_all enc_error es)))) ≡ some es
headed_read d es ok h p = let z = list_size es in let l = ok.1 in ap errors_of (headed_errors d es h (omega arith) p) ∙ errors_read es ok

-- What is read was encoded: the bytes stand there, from the parts of a record up.
same : {A : Type 0} {a b : A} {e f : ℕ} → got a e ≡ got b f → (a ≡ b) × (e ≡ f)
same h = ((cc), (cc))

module _ {s : List ℕ} (oct : Octets s) where
  str_stands : {at e : ℕ} {t : List ℕ} → at ≤ length s → str_at s at ≡ got t e → Stands s at e (enc_str t)
  unfolding str_at span_at bytes_at enc_str
  str_stands {at} {e} {t} l h =
      after_elim _ _ h (λ p f g r.
      took (number_exact 2) oct l g (λ n q fits st g.
      after_elim _ _ g (λ bs i b w.
      test_took (leb (q + n) (length s)) b (λ c b.
      let m : q + n ≤ length s = leb-true _ _ c in
      let x = same w in
      let y = same b in
      let z = same r in
      let x0 : q ≡ p = x.0 in
      let x1 : i ≡ f = x.1 in
      let y1 : q + n ≡ i = y.1 in
      let z1 : f ≡ e = z.1 in
      let k : q + n - q ≡ n = omega arith in
      let j : f - p ≡ n = omega arith in
      let u : part s q n ≡ t = ap (λ (i : ℕ). part s i n) x0 ∙ ap (part s p) (sym j) ∙ z.0 in
      let v : n ≡ length t = sym (length_part s q n m) ∙ ap length u in
      let o : q + n ≡ e = omega arith in
      let d : Stands s q (q + n) (part s q n) = record { on = omega arith; within = m; bytes = ap (part s q) k } in
      let a : Stands s q e t = subst (λ (i : ℕ). Stands s q i t) o (bytes_are u d) in
      let b : Stands s at q (to_be 2 (length t)) = subst (λ (i : ℕ). Stands s at q (to_be 2 i)) v st in
      join b a))))

  kind_stands : {at e : ℕ} {k : Kind} → kind_at s at ≡ got k e → Stands s at e (enc_kind k ∷ [])
  unfolding kind_at enc_kind
  kind_stands {at} h =
      let Q : Kind → ℕ → Type 0 = λ k j. Stands s at j (enc_kind k ∷ []) in
      byte_took h (λ x p b h.
      tag_took x 1 h (λ q h. gives h Q (bytes_are (ap (λ (j : ℕ). j ∷ []) q) b)) (λ h.
      last_took x 2 h (λ q h. gives h Q (bytes_are (ap (λ (j : ℕ). j ∷ []) q) b))))

  referred_stands : {at e : ℕ} {k : Referred} → referred_at s at ≡ got k e → Stands s at e (enc_referred k ∷ [])
  unfolding referred_at enc_referred
  referred_stands {at} h =
      let Q : Referred → ℕ → Type 0 = λ k j. Stands s at j (enc_referred k ∷ []) in
      byte_took h (λ x p b h.
      tag_took x 1 h (λ q h. gives h Q (bytes_are (ap (λ (j : ℕ). j ∷ []) q) b)) (λ h.
      tag_took x 2 h (λ q h. gives h Q (bytes_are (ap (λ (j : ℕ). j ∷ []) q) b)) (λ h.
      tag_took x 3 h (λ q h. gives h Q (bytes_are (ap (λ (j : ℕ). j ∷ []) q) b)) (λ h.
      last_took x 4 h (λ q h. gives h Q (bytes_are (ap (λ (j : ℕ). j ∷ []) q) b))))))

  attribute_stands : {at e : ℕ} {a : Option (List ℕ)} → optional_at str_at s at ≡ got a e → Stands s at e (enc_optional enc_str a)
  unfolding optional_at enc_optional
  attribute_stands {at} h =
      let Q : Option (List ℕ) → ℕ → Type 0 = λ a j. Stands s at j (enc_optional enc_str a) in
      byte_took h (λ x p b h.
      tag_took x 0 h (λ q h. gives h Q (bytes_are (ap (λ (j : ℕ). j ∷ []) q) b)) (λ h.
      last_took x 1 h (λ q h. after_elim _ _ h (λ t i g h. gives h Q (tagged q b (str_stands b.within g))))))

  tagged_stands : {at f : ℕ} {e : Error} → tagged_at s at ≡ got e f → Stands s at f (rest_of e)
  unfolding tagged_at overriding_at reference_at no_value_at plain_at rest_of
  tagged_stands {at} h =
      let Q : Error → ℕ → Type 0 = λ e j. Stands s at j (rest_of e) in
      byte_took h (λ t p b h.
      tag_took t 1 h (λ q h.
      after_elim _ _ h (λ k i g h.
      let u = kind_stands g in
      after_elim _ _ h (λ t j g h. gives h Q (tagged q b (join u (str_stands u.within g)))))) (λ h.
      tag_took t 2 h (λ q h.
      after_elim _ _ h (λ k i g h.
      let u = referred_stands g in
      after_elim _ _ h (λ t j g h.
      let v = str_stands u.within g in
      after_elim _ _ h (λ a o g h. gives h Q (tagged q b (join u (join v (attribute_stands g)))))))) (λ h.
      tag_took t 3 h (λ q h. after_elim _ _ h (λ i j g h. gives h Q (tagged q b (str_stands b.within g)))) (λ h.
      tag_took t 4 h (λ q h. gives h Q (bytes_are (ap (λ (j : ℕ). j ∷ []) q) b)) (λ h.
      tag_took t 5 h (λ q h. gives h Q (bytes_are (ap (λ (j : ℕ). j ∷ []) q) b)) (λ h.
      last_took t 6 h (λ q h. gives h Q (bytes_are (ap (λ (j : ℕ). j ∷ []) q) b))))))))

  record_stands : {at f : ℕ} {e : Error} → at ≤ length s → record_at s at ≡ got e f → Recordable e × Stands s at f (enc_error e)
  unfolding record_at
  record_stands {at} l h =
      took (number_exact 2) oct l h (λ n p fits st h.
      after_elim _ _ h (λ x i g h.
      last_took i (p + n) h (λ q r.
      let y = tagged_stands g in
      let z = stands_length y in
      let k : n ≡ length (rest_of x) = omega arith in
      let w = record_size x in
      let u : Stands s at p (to_be 2 (length (rest_of x))) = subst (λ (j : ℕ). Stands s at p (to_be 2 j)) k st in
      gives r (λ x j. Recordable x × Stands s at j (enc_error x)) (omega arith, bytes_are (sym (record_is x)) (join u y)))))

  records_stand : (n : ℕ) {at f : ℕ} {es : List Error} → at ≤ length s → records_at n s at ≡ got es f → All Recordable es × (f ≡ length s) × Stands s at f (enc_all enc_error es)
  unfolding records_at enc_all
  records_stand zero {at} l h =
      last_took at (length s) h (λ q r. gives r (λ es j. All Recordable es × (j ≡ length s) × Stands s at j (enc_all enc_error es)) (tt, q, stands_none s at l))
  records_stand (suc n) {at} l h =
      let Q : List Error → ℕ → Type 0 = λ es j. All Recordable es × (j ≡ length s) × Stands s at j (enc_all enc_error es) in
      tag_took at (length s) h (λ q r. gives r Q (tt, q, stands_none s at l)) (λ h.
      after_elim _ _ h (λ x p g h.
      let y = record_stands l g in
      after_elim _ _ h (λ xs i k r.
      let z = records_stand n y.1.within k in
      gives r Q ((y.0, z.0), z.1, join y.1 z.2))))

  list_stands : {f : ℕ} {es : List Error} → list_with s 0 ≡ got es f → Listable es × Stands s 0 (length s) (enc_errors es)
  unfolding list_with enc_errors enc_whole
  list_stands {f} {es} h =
      took (number_exact 4) oct (omega arith) h (λ n p fits st h.
      last_took n (length s) h (λ q h.
      byte_took h (λ v i b h.
      last_took v 1 h (λ o h.
      let y = records_stand (length s) b.within h in
      let a : Stands s p f (1 ∷ enc_all enc_error es) = tagged o b y.2 in
      let c : Stands s p (length s) (1 ∷ enc_all enc_error es) = subst (λ (j : ℕ). Stands s p j (1 ∷ enc_all enc_error es)) y.1 a in
      let l = stands_length c in
      let m = stands_length st in
      let t = length_u32 n in
      let k : n ≡ 4 + length (1 ∷ enc_all enc_error es) = omega arith in
      let u : Stands s 0 p (to_be 4 (4 + length (1 ∷ enc_all enc_error es))) = subst (λ (j : ℕ). Stands s 0 p (to_be 4 j)) k st in
      let w = join u c in
      let z = stands_length w in
      ((y.0, omega arith), w)))))

value_got : {A Z : Type 0} (g : Got A) {x : A} → value_of g ≡ some x → ((e : ℕ) → g ≡ got x e → Z) → Z
unfolding value_of
value_got (got y e) h c = c e (cc)
value_got bad h c = let z : ◌≡◌ {A = ℕ} 0 1 = cc in absurd (omega arith)

-- bytes from which errors are read are those of the list of these errors
pub errors_written : (s : List ℕ) (es : List Error) → Octets s → errors_of s ≡ some es → Listable es × (s ≡ enc_errors es)
unfolding errors_of
errors_written s es oct h = value_got (list_with s 0) h (λ e g.
    let y = list_stands oct g in
    let n : length s - 0 ≡ length s = omega arith in
    (y.0, sym (take-length s) ∙ ap (part s 0) (sym n) ∙ y.1.bytes))

-- both
pub errors_exactly : (s : List ℕ) (es : List Error) → Octets s → (errors_of s ≡ some es) ↔ (Listable es × (s ≡ enc_errors es))
errors_exactly s es oct = (errors_written s es oct, λ h. ap errors_of h.1 ∙ errors_read es h.0)

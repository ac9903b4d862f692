-- A byte string decodes to a list of requests exactly when it is that list's encoding and the list is valid.
use mathlib.Core.Path.{◌≡◌, ap, sym, subst, ◌∙◌}
use mathlib.Core.Bool.{true}
use mathlib.Core.List.{List, [], ◌∷◌}
use mathlib.Core.Option.{Option, some, none}
use mathlib.Core.Logic.{◌↔◌}
use Prim.Native.Nat.{ℕ, ◌+◌, ◌-◌, ◌≤◌}
use native.Mathlib.Omega.{arith}
use lib.ListN.{length, take, drop}
use lib.Seq.{take-take}
use Rattle.records.specs.Got.{got}
use Rattle.records.specs.Bytes.{be, part, bytes_at, number_at}
use Rattle.records.specs.Encode.{enc_str, enc_optional}
use Rattle.records.specs.Valid.{Fits, ValidId, IfAny, All}
use Rattle.records.proofs.Laws.{number_in, bytes_in, bytes_inv, got_elim, after_is}
use Rattle.rules.specs.Rules.{is_id}
use Rattle.layout.specs.Exact.{Stands, Octets, Exact}
use Rattle.layout.proofs.Stands.{octets_part, length_part, stands_length, join}
use Rattle.layout.proofs.Octets.{octets_append}
use Rattle.layout.proofs.Steps.{Read, took, gives, ahead, as_last, passes}
use Rattle.layout.proofs.Patterns.{id_exact, optional_exact}
use Rattle.layout.proofs.Images.{image_exact, whole_sound, whole_complete}
use Rattle.layout.proofs.Theorems.{at_injective}
use Rattle.requests.specs.Image.{Request, max_sheet, min_arguments, arguments_bytes_at, request_at, sheet_at, sheet_of}
use Rattle.requests.specs.Encode.{enc_request, enc_sheet}
use Rattle.requests.specs.Valid.{ValidArgumentsBytes, ValidRequest, ValidSheet}
use Rattle.requests.proofs.Limits.{length_ok, length_ok_law}
use Rattle.requests.proofs.Views.{arguments_bytes_elim}

-- the bytes of an arguments image
bytes_sound : {s : List ℕ} {at e : ℕ} {b : List ℕ} → Octets s → arguments_bytes_at s at ≡ got b e → ValidArgumentsBytes b × Stands s at e b
unfolding ValidArgumentsBytes min_arguments
bytes_sound {s} {at} {e} {b} oct h =
    arguments_bytes_elim s at h (λ n p hn few many hb.
    let i = bytes_inv s at n hb in
    let w : at + n ≤ length s = i.0 in
    let y : e ≡ at + n = i.2 in
    let m : e - at ≡ n = omega arith in
    let l : length b ≡ n = ap length i.1 ∙ length_part s at n w in
    let x : part b 0 4 ≡ part s at 4 = ap (take 4) i.1 ∙ take-take 4 n (drop at s) (omega arith) in
    let v : be (part s at 4) ≡ n = got_elim (sym (number_in s at 4 (omega arith)) ∙ hn) (λ u _. u) in (
      (subst Octets (sym i.1) (octets_part s at n oct), omega arith, omega arith, ap be x ∙ v ∙ sym l),
      record { on = omega arith; within = omega arith; bytes = ap (λ (j : ℕ). part s at j) m ∙ sym i.1 },
    ))

bytes_complete : {s : List ℕ} {at e : ℕ} {b : List ℕ} → ValidArgumentsBytes b → Stands s at e b → arguments_bytes_at s at ≡ got b e
unfolding arguments_bytes_at ValidArgumentsBytes min_arguments
bytes_complete {s} {at} {e} {b} ok h =
    let few : 7 ≤ length b = ok.1 in
    let w : e ≤ length s = h.within in
    let l : at + length b ≡ e = stands_length h in
    let m : e - at ≡ length b = omega arith in
    let y : part s at (length b) ≡ b = ap (λ (j : ℕ). part s at j) (sym m) ∙ h.bytes in
    let x : part s at 4 ≡ part b 0 4 = sym (take-take 4 (length b) (drop at s) (omega arith)) ∙ ap (take 4) y in
    let v : be (part s at 4) ≡ length b = ap be x ∙ ok.3 in
    let n : number_at 4 s at ≡ got (length b) (at + 4) = number_in s at 4 (omega arith) ∙ ap (λ (j : ℕ). got j (at + 4)) v in
    let t : bytes_at (length b) s at ≡ got b e = bytes_in s at (length b) (omega arith) ∙ ap (λ (j : List ℕ). got j (at + length b)) y ∙ ap (λ (j : ℕ). got b j) l in
    after_is (number_at 4 s at) _ n ∙ passes (length_ok (length b)) (length_ok_law (length b) few ok.2) t

pub arguments_bytes_exact : Exact arguments_bytes_at (λ b. b) ValidArgumentsBytes
unfolding ValidArgumentsBytes
arguments_bytes_exact = record { sound = λ oct l h. bytes_sound oct h; octets = λ b ok. ok.0; complete = bytes_complete }

pub request_exact : Exact request_at enc_request ValidRequest
unfolding request_at enc_request ValidRequest
request_exact = record {
  sound = λ {s} {at} oct l h.
      took id_exact oct l h (λ i p okI stI h.
      took (optional_exact id_exact) oct stI.within h (λ a q okA stA h.
      took arguments_bytes_exact oct stA.within h (λ b e okB stB h.
      gives h (Read enc_request ValidRequest s at) ((okI, okA, okB), join stI (join stA stB)))));
  octets = λ r ok.
      octets_append (enc_str r.id) _ (id_exact.octets r.id ok.0)
      (octets_append (enc_optional enc_str r.attribute) _ ((optional_exact id_exact).octets r.attribute ok.1) (arguments_bytes_exact.octets r.image ok.2));
  complete = λ {a = r} ok h.
      ahead id_exact _ ok.0 h (λ p u t.
      ahead (optional_exact id_exact) _ ok.1 t (λ q v w.
      as_last arguments_bytes_exact (λ b. record { id = r.id; attribute = r.attribute; image = b }) ok.2 w));
}

sheet_fits : Fits 4 max_sheet
unfolding max_sheet
sheet_fits = omega arith

pub sheet_exact : Exact sheet_at enc_sheet ValidSheet
unfolding sheet_at enc_sheet ValidSheet
sheet_exact = image_exact sheet_fits request_exact

-- what is read is valid, and the slice is its encoding
pub sheet_sound : {s : List ℕ} {e : ℕ} {rs : List Request} → Octets s → sheet_of s ≡ got rs e → ValidSheet rs × (s ≡ enc_sheet rs) × (e ≡ length s)
unfolding sheet_of
sheet_sound oct h = whole_sound sheet_exact oct h

-- what is valid is read back from its encoding
pub sheet_complete : {rs : List Request} → ValidSheet rs → sheet_of (enc_sheet rs) ≡ got rs (length (enc_sheet rs))
unfolding sheet_of
sheet_complete ok = whole_complete sheet_exact ok

-- in one: bytes decode to rs exactly when rs is valid and they are its encoding
pub sheet_exactly : (s : List ℕ) (rs : List Request) → (Octets s × (sheet_of s ≡ got rs (length s))) ↔ (ValidSheet rs × (s ≡ enc_sheet rs))
sheet_exactly s rs = (
  λ h. let y = sheet_sound h.0 h.1 in (y.0, y.1),
  λ y. let ok : ValidSheet rs = y.0 in
      subst (λ (l : List ℕ). Octets l × (sheet_of l ≡ got rs (length l))) (sym y.1) (sheet_exact.octets rs ok, sheet_complete ok),
)

pub sheet_injective : {q r : List Request} → ValidSheet q → ValidSheet r → enc_sheet q ≡ enc_sheet r → q ≡ r
sheet_injective = at_injective sheet_exact

pub sheet_one_image : {s t : List ℕ} {e f : ℕ} {rs : List Request} → Octets s → Octets t → sheet_of s ≡ got rs e → sheet_of t ≡ got rs f → s ≡ t
sheet_one_image a b h k = (sheet_sound a h).1 ∙ sym (sheet_sound b k).1

pub sheet_same : {s t : List ℕ} {e f : ℕ} {q r : List Request} → sheet_of s ≡ got q e → sheet_of t ≡ got r f → s ≡ t → q ≡ r
sheet_same h k p = cc

-- what a request that was read has: Ids, and bytes
pub record RequestOk (r : Request) : Type 0 where
  pub id : is_id r.id ≡ true
  pub attribute : IfAny (λ a. is_id a ≡ true) r.attribute
  pub octets : Octets r.image

all_if : {A : Type 0} {P Q : A → Type 0} → ((a : A) → P a → Q a) → (l : List A) → All P l → All Q l
all_if f [] h = tt
all_if f (a ∷ l) h = (f a h.0, all_if f l h.1)

attribute_ok : (o : Option (List ℕ)) → IfAny ValidId o → IfAny (λ a. is_id a ≡ true) o
attribute_ok none h = tt
attribute_ok (some a) h = h.1

pub request_ok : (r : Request) → ValidRequest r → RequestOk r
unfolding ValidRequest ValidArgumentsBytes
request_ok r h = record { id = h.0.1; attribute = attribute_ok r.attribute h.1; octets = h.2.0 }

pub requests_ok : (s : List ℕ) {e : ℕ} (rs : List Request) → Octets s → sheet_of s ≡ got rs e → All RequestOk rs
unfolding ValidSheet
requests_ok s rs oct h = all_if request_ok rs (sheet_sound oct h).0.0.0

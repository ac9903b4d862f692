-- Laws of the joining of machines, and machines that end alike: those that show the same text, records and numbers.
use mathlib.Core.Path.{◌≡◌, ap, ap₂, sym, ◌∙◌}
use mathlib.Core.List.{List, [], ◌∷◌, ◌++◌, append_assoc}
use Prim.Native.Nat.{ℕ, ◌+◌, ◌≤◌, max}
use native.Mathlib.Omega.{arith}
use lib.ListN.{length, take, drop, length-append}
use lib.Seq.{take-append_seam, drop_at}
use Rattle.records.specs.Bytes.{to_be}
use Rattle.records.specs.Encode.{enc_all, enc_whole}
use Rattle.records.specs.Errors.{Error, enc_error, enc_errors}
use Rattle.layout.proofs.Numbers.{length_to_be}
use Rattle.growth.specs.Items.{at_front}
use Rattle.resolution.specs.Effect.{Bytes}
use Rattle.resolution.specs.Exec.{Machine, ran, start}
use Rattle.resolution.specs.Format.{finished, Buffers, Formatted, zeros, ended}
use Rattle.theorems.specs.Finished.{list_of, Says}
use Rattle.theorems.proofs.Lists.{list_of_front}
use Rattle.sheet_theorems.specs.ClaimsJoining.{beside}
use Rattle.sheet_theorems.proofs.Above.{records_append, is_beside, from_start}
use Rattle.sheet_theorems.proofs.Parts.{machine_says}

pub beside_assoc : (a b c : Machine) → beside (beside a b) c ≡ beside a (beside b c)
unfolding beside
beside_assoc a b c =
    let h : max (max a.high b.high) c.high ≡ max a.high (max b.high c.high) = omega arith in
    let k : a.begun + b.begun + c.begun ≡ a.begun + (b.begun + c.begun) = omega arith in
    let x : a.expanded + b.expanded + c.expanded ≡ a.expanded + (b.expanded + c.expanded) = omega arith in
    let u : a.unfounds + b.unfounds + c.unfounds ≡ a.unfounds + (b.unfounds + c.unfounds) = omega arith in
    λ i. record {
      written = append_assoc a.written b.written c.written i;
      errors = append_assoc a.errors b.errors c.errors i;
      nest = c.nest;
      used = c.used;
      high = h i;
      begun = k i;
      expanded = x i;
      unfounds = u i;
    }

pub start_beside : (m : Machine) → beside start m ≡ m
unfolding beside start
start_beside m =
    let h : max 0 m.high ≡ m.high = omega arith in
    let k : 0 + m.begun ≡ m.begun = omega arith in
    let x : 0 + m.expanded ≡ m.expanded = omega arith in
    let u : 0 + m.unfounds ≡ m.unfounds = omega arith in
    λ i. record { written = m.written; errors = m.errors; nest = m.nest; used = m.used; high = h i; begun = k i; expanded = x i; unfounds = u i }

pub beside_start : (n : Machine) → n.nest ≡ 0 → n.used ≡ 0 → n ≡ beside n start
beside_start n z u = is_beside n start n (from_start n z u)

-- the same text, records and numbers
pub record Alike (m n : Machine) : Type 0 where
  pub written : m.written ≡ n.written
  pub records : enc_all enc_error m.errors ≡ enc_all enc_error n.errors
  pub count : length m.errors ≡ length n.errors
  pub begun : m.begun ≡ n.begun
  pub unfounds : m.unfounds ≡ n.unfounds
  pub high : m.high ≡ n.high

pub alike_self : (m n : Machine) → m ≡ n → Alike m n
alike_self m n q = record {
  written = ap (λ (x : Machine). x.written) q;
  records = ap (λ (x : Machine). enc_all enc_error x.errors) q;
  count = ap (λ (x : Machine). length x.errors) q;
  begun = ap (λ (x : Machine). x.begun) q;
  unfounds = ap (λ (x : Machine). x.unfounds) q;
  high = ap (λ (x : Machine). x.high) q;
}

pub alike_then : (a b c : Machine) → Alike a b → Alike b c → Alike a c
alike_then a b c p q = record {
  written = p.written ∙ q.written;
  records = p.records ∙ q.records;
  count = p.count ∙ q.count;
  begun = p.begun ∙ q.begun;
  unfounds = p.unfounds ∙ q.unfounds;
  high = p.high ∙ q.high;
}

pub alike_beside : (a a' b b' : Machine) → Alike a a' → Alike b b' → Alike (beside a b) (beside a' b')
unfolding beside
alike_beside a a' b b' p q = record {
  written = ap₂ ◌++◌ p.written q.written;
  records = records_append a.errors b.errors ∙ ap₂ ◌++◌ p.records q.records ∙ sym (records_append a'.errors b'.errors);
  count = omega (arith, length-append a.errors b.errors, length-append a'.errors b'.errors, p.count, q.count);
  begun = ap₂ ◌+◌ p.begun q.begun;
  unfounds = ap₂ ◌+◌ p.unfounds q.unfounds;
  high = ap₂ max p.high q.high;
}

pub alike_list : (m n : Machine) → Alike m n → enc_errors m.errors ≡ enc_errors n.errors
unfolding enc_errors
alike_list m n p = ap (λ (x : Bytes). enc_whole (1 ∷ x)) p.records

-- machines alike end alike
pub alike_ended : (m n : Machine) (b : Buffers) → Alike m n → ended (ran m) b ≡ ended (ran n) b
unfolding ended
alike_ended m n b p =
    let t = ap length p.written in
    let x = ap (λ (w : Bytes). at_front w b.text) p.written in
    let l = ap (λ (w : Bytes). at_front w b.list) (alike_list m n p) in
    λ i. record { answer = finished (t i) (p.count i) (p.begun i) (p.unfounds i) (p.high i); buffers = record { text = x i; list = l i; work = zeros b.work } }

-- the records of a list, behind its header
records_of : (l : List Error) → drop 5 (enc_errors l) ≡ enc_all enc_error l
unfolding enc_errors enc_whole
records_of l =
    let n : ℕ = 4 + length (1 ∷ enc_all enc_error l) in
    let head : Bytes = to_be 4 n ++ (1 ∷ []) in
    ap (drop 5) (sym (append_assoc (to_be 4 n) (1 ∷ []) (enc_all enc_error l)))
    ∙ drop_at head (enc_all enc_error l) 5 (omega (arith, length-append (to_be 4 n) (1 ∷ []), length_to_be 4 n))

-- machines that end alike are alike, where a u32 states the lengths of their lists
pub ended_alike : (m n : Machine) (b : Buffers) → length (enc_errors m.errors) ≤ 4294967295 → length (enc_errors n.errors) ≤ 4294967295
    → ended (ran m) b ≡ ended (ran n) b → Alike m n
unfolding ended at_front
ended_alike m n b h k q =
    let y : Says m (length n.written) (length n.errors) n.begun n.unfounds n.high = machine_says m b _ _ _ _ _ (ap (λ (x : Formatted). x.answer) q) in
    let text : m.written ++ drop (length m.written) b.text ≡ n.written ++ drop (length n.written) b.text = ap (λ (x : Formatted). x.buffers.text) q in
    let list : enc_errors m.errors ≡ enc_errors n.errors = sym (list_of_front m.errors b.list h) ∙ ap (λ (x : Formatted). list_of x.buffers.list) q ∙ list_of_front n.errors b.list k in
    record {
      written = sym (take-append_seam m.written _) ∙ ap (take (length m.written)) text ∙ ap (λ (j : ℕ). take j (n.written ++ drop (length n.written) b.text)) (sym y.text) ∙ take-append_seam n.written _;
      records = sym (records_of m.errors) ∙ ap (drop 5) list ∙ records_of n.errors;
      count = sym y.errors;
      begun = sym y.begun;
      unfounds = sym y.unfound;
      high = sym y.work;
    }

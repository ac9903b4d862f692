-- A byte string decodes to a tree exactly when it is that tree's encoding and the tree is valid: patterns, entries, resource images, stores,
-- arguments images. So equal bytes mean equal trees, and each valid tree has one image.
use mathlib.Core.Path.{◌≡◌, ap, sym, subst, ◌∙◌}
use mathlib.Core.List.{List, [], ◌++◌}
use mathlib.Core.Logic.{◌↔◌}
use Prim.Native.Nat.{ℕ, zero, suc, ◌+◌, ◌-◌, ◌≤◌}
use native.Mathlib.Omega.{arith}
use lib.ListN.{length, take}
use Rattle.records.specs.Got.{got, Parser}
use Rattle.records.specs.Bytes.{part}
use Rattle.records.specs.Tree.{Pattern, Expression, Inline}
use Rattle.records.specs.Decode.{pattern_at, expression, inline, expr_at, inline_at, entry_pattern_at}
use Rattle.records.specs.Images.{Entry, Store, Argument, kind_at, entry_at, resource_at, resource_of, store_of, arguments_of}
use Rattle.records.specs.Encode.{enc_pattern, enc_expression, enc_inline, enc_entry, enc_resource, enc_store, enc_arguments_image}
use Rattle.records.specs.Valid.{ValidPattern, ValidExpression, ValidInline, ValidEntryPattern, ValidEntry, ValidResource, ValidStore, ValidArgumentsImage}
use Rattle.layout.specs.Exact.{Stands, Octets, Exact}
use Rattle.layout.proofs.Stands.{stands_inside, stands_front}
use Rattle.layout.proofs.Steps.{nothing, after_elim, number_inside, byte_inside}
use Rattle.layout.proofs.Patterns as patterns
use Rattle.layout.proofs.Images as images

-- What one exact decoder gives, at a position.
module _ {A : Type 0} {p : Parser A} {enc : A → List ℕ} {Ok : A → Type 0} (x : Exact p enc Ok) where
  -- what was read is valid, and its encoding stands there
  pub at_sound : {s : List ℕ} {at e : ℕ} {a : A} → Octets s → at ≤ length s → p s at ≡ got a e
      → Ok a × (part s at (e - at) ≡ enc a) × (at ≤ e) × (e ≤ length s)
  at_sound oct l h = let y = x.sound oct l h in (y.0, y.1.bytes, y.1.on, y.1.within)

  -- what is valid is read from its encoding, whatever stands before and after it
  pub at_complete : {a : A} (before rest : List ℕ) → Ok a → p (before ++ (enc a ++ rest)) (length before) ≡ got a (length before + length (enc a))
  at_complete {a} before rest ok = x.complete ok (stands_inside before (enc a) rest)

  -- valid trees with equal encodings are equal
  pub at_injective : {a b : A} → Ok a → Ok b → enc a ≡ enc b → a ≡ b
  at_injective {a} {b} okA okB q =
      let h : Stands (enc a ++ []) 0 (length (enc a)) (enc a) = stands_front (enc a) [] in
      let u : p (enc a ++ []) 0 ≡ got a (length (enc a)) = x.complete okA h in
      let v : p (enc a ++ []) 0 ≡ got b (length (enc a)) = x.complete okB (subst (λ (l : List ℕ). Stands (enc a ++ []) 0 (length (enc a)) l) q h) in
      cc

-- Patterns and expressions that nest at most d deep
pub pattern_exact : (d : ℕ) → Exact (pattern_at (expression d)) enc_pattern (ValidPattern d)
unfolding ValidPattern
pattern_exact d = patterns.pattern_exact (patterns.deep_exact d).of_expression

pub expression_exact : (d : ℕ) → Exact (expression d) enc_expression (ValidExpression d)
expression_exact d = (patterns.deep_exact d).of_expression

pub inline_exact : (d : ℕ) → Exact (inline d) enc_inline (ValidInline d)
inline_exact d = (patterns.deep_exact d).of_inline

pub entry_pattern_exact : Exact entry_pattern_at enc_pattern ValidEntryPattern
entry_pattern_exact = patterns.entry_pattern_exact

-- Entries, and images inside of something
pub entry_exact : Exact entry_at enc_entry ValidEntry
entry_exact = images.entry_exact

pub resource_exact : Exact resource_at enc_resource ValidResource
resource_exact = images.resource_exact

-- What they say of a position, also of one that lies past the slice: there nothing is read.
pub pattern_sound : (d : ℕ) (s : List ℕ) (at : ℕ) {e : ℕ} {a : Pattern} → Octets s → pattern_at (expression d) s at ≡ got a e
    → ValidPattern d a × (part s at (e - at) ≡ enc_pattern a) × (at ≤ e) × (e ≤ length s)
unfolding pattern_at
pattern_sound d s at oct h = at_sound (pattern_exact d) oct (number_inside 4 s at _ h) h

pub expression_sound : (d : ℕ) (s : List ℕ) (at : ℕ) {e : ℕ} {a : Expression} → Octets s → expression d s at ≡ got a e
    → ValidExpression d a × (part s at (e - at) ≡ enc_expression a) × (at ≤ e) × (e ≤ length s)
unfolding expression expr_at
expression_sound zero s at oct h = nothing h
expression_sound (suc d) s at oct h = at_sound (expression_exact (suc d)) oct (byte_inside s at _ h) h

pub inline_sound : (d : ℕ) (s : List ℕ) (at : ℕ) {e : ℕ} {a : Inline} → Octets s → inline d s at ≡ got a e
    → ValidInline d a × (part s at (e - at) ≡ enc_inline a) × (at ≤ e) × (e ≤ length s)
unfolding inline inline_at
inline_sound zero s at oct h = nothing h
inline_sound (suc d) s at oct h = at_sound (inline_exact (suc d)) oct (byte_inside s at _ h) h

pub entry_sound : (s : List ℕ) (at : ℕ) {e : ℕ} {a : Entry} → Octets s → entry_at s at ≡ got a e
    → ValidEntry a × (part s at (e - at) ≡ enc_entry a) × (at ≤ e) × (e ≤ length s)
unfolding entry_at kind_at
entry_sound s at oct h = at_sound entry_exact oct (after_elim _ _ h (λ k p g r. byte_inside s at _ g)) h

-- Resource images
pub resource_sound : {s : List ℕ} {e : ℕ} {r : List Entry} → Octets s → resource_of s ≡ got r e → ValidResource r × (s ≡ enc_resource r) × (e ≡ length s)
unfolding resource_of
resource_sound oct h = images.whole_sound images.resource_exact oct h

pub resource_complete : {r : List Entry} → ValidResource r → resource_of (enc_resource r) ≡ got r (length (enc_resource r))
unfolding resource_of
resource_complete ok = images.whole_complete images.resource_exact ok

-- in one: bytes decode to r exactly when r is valid and they are its encoding
pub resource_exactly : (s : List ℕ) (r : List Entry) → (Octets s × (resource_of s ≡ got r (length s))) ↔ (ValidResource r × (s ≡ enc_resource r))
resource_exactly s r = (
  λ h. let y = resource_sound h.0 h.1 in (y.0, y.1),
  λ y. let ok : ValidResource r = y.0 in
      subst (λ (l : List ℕ). Octets l × (resource_of l ≡ got r (length l))) (sym y.1) ((images.resource_exact).octets r ok, resource_complete ok),
)

pub resource_injective : {q r : List Entry} → ValidResource q → ValidResource r → enc_resource q ≡ enc_resource r → q ≡ r
resource_injective = at_injective images.resource_exact

pub resource_one_image : {s t : List ℕ} {e f : ℕ} {r : List Entry} → Octets s → Octets t → resource_of s ≡ got r e → resource_of t ≡ got r f → s ≡ t
resource_one_image a b h k = (resource_sound a h).1 ∙ sym (resource_sound b k).1

-- Arguments images
pub arguments_sound : {s : List ℕ} {e : ℕ} {l : List (List ℕ × Argument)} → Octets s → arguments_of s ≡ got l e → ValidArgumentsImage l × (s ≡ enc_arguments_image l) × (e ≡ length s)
unfolding arguments_of
arguments_sound oct h = images.whole_sound images.arguments_exact oct h

pub arguments_complete : {l : List (List ℕ × Argument)} → ValidArgumentsImage l → arguments_of (enc_arguments_image l) ≡ got l (length (enc_arguments_image l))
unfolding arguments_of
arguments_complete ok = images.whole_complete images.arguments_exact ok

pub arguments_exactly : (s : List ℕ) (l : List (List ℕ × Argument)) → (Octets s × (arguments_of s ≡ got l (length s))) ↔ (ValidArgumentsImage l × (s ≡ enc_arguments_image l))
arguments_exactly s l = (
  λ h. let y = arguments_sound h.0 h.1 in (y.0, y.1),
  λ y. let ok : ValidArgumentsImage l = y.0 in
      subst (λ (t : List ℕ). Octets t × (arguments_of t ≡ got l (length t))) (sym y.1) ((images.arguments_exact).octets l ok, arguments_complete ok),
)

pub arguments_injective : {k l : List (List ℕ × Argument)} → ValidArgumentsImage k → ValidArgumentsImage l → enc_arguments_image k ≡ enc_arguments_image l → k ≡ l
arguments_injective = at_injective images.arguments_exact

pub arguments_one_image : {s t : List ℕ} {e f : ℕ} {l : List (List ℕ × Argument)} → Octets s → Octets t → arguments_of s ≡ got l e → arguments_of t ≡ got l f → s ≡ t
arguments_one_image a b h k = (arguments_sound a h).1 ∙ sym (arguments_sound b k).1

-- Stores: "The slice may be longer"
pub store_sound : (s : List ℕ) {e : ℕ} {v : Store} → Octets s → store_of s ≡ got v e → ValidStore v × (take e s ≡ enc_store v) × (e ≤ length s)
store_sound s {e} oct h =
    let y = images.store_sound oct h in
    let z : e ≡ e - 0 = omega arith in
    (y.0, ap (λ (j : ℕ). take j s) z ∙ y.1.bytes, y.1.within)

pub store_complete : {v : Store} (rest : List ℕ) → ValidStore v → store_of (enc_store v ++ rest) ≡ got v (length (enc_store v))
store_complete {v} rest ok = images.store_complete v ok (stands_front (enc_store v) rest)

-- a valid store's encoding is bytes
pub store_octets : (v : Store) → ValidStore v → Octets (enc_store v)
store_octets v ok = images.store_octets v ok

-- in one
pub store_exactly : (s : List ℕ) (e : ℕ) (v : Store) → Octets s → (store_of s ≡ got v e) ↔ (ValidStore v × (take e s ≡ enc_store v) × (e ≤ length s))
store_exactly s e v oct = (
  λ h. store_sound s oct h,
  λ y. let z : e - 0 ≡ e = omega arith in
      let w : e ≤ length s = y.2 in
      images.store_complete v y.0 (record { on = omega arith; within = w; bytes = ap (λ (j : ℕ). take j s) z ∙ y.1 }),
)

pub store_injective : {v w : Store} → ValidStore v → ValidStore w → enc_store v ≡ enc_store w → v ≡ w
store_injective {v} {w} a b q =
    let h : store_of (enc_store v ++ []) ≡ got v (length (enc_store v)) = store_complete [] a in
    let k : store_of (enc_store w ++ []) ≡ got w (length (enc_store w)) = store_complete [] b in
    cc

-- the used bytes are the store's one image
pub store_one_image : (s t : List ℕ) {e f : ℕ} {v : Store} → Octets s → Octets t → store_of s ≡ got v e → store_of t ≡ got v f → take e s ≡ take f t
store_one_image s t a b h k = (store_sound s a h).1 ∙ sym (store_sound t b k).1

-- Equal bytes mean equal trees.
pub resource_same : {s t : List ℕ} {e f : ℕ} {q r : List Entry} → resource_of s ≡ got q e → resource_of t ≡ got r f → s ≡ t → q ≡ r
resource_same h k p = cc

pub arguments_same : {s t : List ℕ} {e f : ℕ} {q r : List (List ℕ × Argument)} → arguments_of s ≡ got q e → arguments_of t ≡ got r f → s ≡ t → q ≡ r
arguments_same h k p = cc

-- the used bytes alone decide what a store holds
pub store_same : (s t : List ℕ) {e f : ℕ} {v w : Store} → Octets s → Octets t → store_of s ≡ got v e → store_of t ≡ got w f → take e s ≡ take f t → v ≡ w
store_same s t a b h k p =
    let x = store_sound s a h in
    let y = store_sound t b k in
    store_injective x.0 y.0 (sym x.1 ∙ p ∙ y.1)

-- "Equal patterns means equal bytes": the bytes that valid patterns hold decide them
pub pattern_injective : (d : ℕ) {p q : Pattern} → ValidPattern d p → ValidPattern d q → enc_pattern p ≡ enc_pattern q → p ≡ q
pattern_injective d = at_injective (pattern_exact d)

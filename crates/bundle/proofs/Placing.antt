-- Steps to the place of an item: a store and an image that are read, their sizes, and what each test says.
use Rattle.std.specs.Prelude.{Result, Ok, Err}
use mathlib.Core.Path.{◌≡◌, refl, ap, sym, subst, ◌∙◌}
use mathlib.Core.Bool.{true, false}
use mathlib.Core.List.{List, [], ◌∷◌}
use Prim.Native.Nat.{ℕ, zero, suc, ◌+◌, ◌-◌}
use native.Mathlib.Omega.{arith}
use lib.ListN.{length}
use lib.Dec.{leb}
use Rattle.records.specs.Got.{got, bad, Parser}
use Rattle.records.specs.Bytes.{number_at}
use Rattle.rules.specs.Rules.{is_id}
use Rattle.records.specs.Decode.{many}
use Rattle.records.specs.Encode.{enc_function}
use Rattle.records.specs.Images.{Entry, Store, is_some, store_of, resource_of}
use Rattle.records.proofs.Views.{both, never, many_cons, many_nil}
use Rattle.entries.specs.Lookup.{find_in}
use Rattle.entries.proofs.Lengths.{short_id}
use Rattle.entries.proofs.Open.{store_parts}
use Rattle.growth.specs.Items.{with_item, has_room, written_if, file_item}
use Rattle.growth.proofs.Items.{filed_is, short_written, function_length}
use Rattle.bundle.specs.declared.Place.{Place}
use Rattle.refusals.specs.declared.Refusal.{Refusal}
use Rattle.refusals.specs.declared.Refusal.TheVariants as refusal
use Rattle.bundle.specs.Relations.Places.{ResourcePlace, resource_4, resource_5, resource_6, is_resource_at, FunctionPlace, function_4, function_8, function_9, function_10, function_6, is_function_at}

many_length : {A : Type 0} (p : Parser A) (s : List ℕ) (n at : ℕ) {l : List A} {f : ℕ} → many [] ◌∷◌ n p s at ≡ got l f → n ≡ length l
many_length p s zero at h = many_nil [] ◌∷◌ p s zero at (omega arith) h (λ el _. sym (ap length el))
many_length p s (suc n) at {l} {f} h =
    many_cons [] ◌∷◌ p s (suc n) at (omega arith) h (λ a e l' _ hl el.
    let m : suc n - 1 ≡ n = omega arith in
    let ih = many_length p s n e (subst (λ (j : ℕ). many [] ◌∷◌ j p s e ≡ got l' f) m hl) in
    let el' : length l ≡ suc (length l') = ap length el in
    omega arith)

pub count_is : (s : List ℕ) {n e : ℕ} {st : Store} {f : ℕ} → number_at 2 s 7 ≡ got n e → store_of s ≡ got st f → n ≡ length st.items
count_is s h hs = store_parts s hs (λ k _ _ hk _ hm _ _. both h hk (λ en _. en ∙ many_length _ s k 9 hm))

pub count_bad : (s : List ℕ) {C : Type 0} {st : Store} {f : ℕ} → number_at 2 s 7 ≡ bad → store_of s ≡ got st f → C
count_bad s h hs = store_parts s hs (λ k _ _ hk _ _ _ _. never h hk)

-- the place of a resource, test by test
module _ (s image : List ℕ) where
  pub place_4 : store_of s ≡ bad → {r : Result Place Refusal} → r ≡ Err refusal.MalformedStore → ResourcePlace s image r
  place_4 h w = resource_4 h w

  module _ {st : Store} {u : ℕ} (hs : store_of s ≡ got st u) where
    pub place_5 : resource_of image ≡ bad → {r : Result Place Refusal} → r ≡ Err refusal.MalformedResource → ResourcePlace s image r
    place_5 h w = resource_5 st u hs h w

    module _ {es : List Entry} {e : ℕ} (hr : resource_of image ≡ got es e) where
      pub place_6 : has_room (length s) u (length st.items) (1 + length image) ≡ false → {r : Result Place Refusal} → r ≡ Err refusal.FullStore → ResourcePlace s image r
      place_6 h w = resource_6 st u es e hs hr h w

      pub place_at : {n : ℕ} → n ≡ length st.items → has_room (length s) u (length st.items) (1 + length image) ≡ true → ResourcePlace s image (Ok (record { used = u; count = n }))
      place_at q h = is_resource_at st u es e hs hr h (ap (λ (k : ℕ). Ok (record { used = u; count = k })) q)

-- the place of a function
module _ (s id : List ℕ) (code : ℕ) where
  pub named_4 : store_of s ≡ bad → {r : Result Place Refusal} → r ≡ Err refusal.MalformedStore → FunctionPlace s id code r
  named_4 h w = function_4 h w

  module _ {st : Store} {u : ℕ} (hs : store_of s ≡ got st u) where
    pub named_8 : is_id id ≡ false → {r : Result Place Refusal} → r ≡ Err refusal.NoId → FunctionPlace s id code r
    named_8 h w = function_8 st u hs h w

    module _ (hi : is_id id ≡ true) where
      pub named_9 : (code ≡ 1 → ⊥) → {r : Result Place Refusal} → r ≡ Err refusal.NoCode → FunctionPlace s id code r
      named_9 h w = function_9 st u hs hi h w

      module _ (hc : code ≡ 1) where
        pub named_10 : is_some (find_in st.items id) ≡ true → {r : Result Place Refusal} → r ≡ Err refusal.HeldId → FunctionPlace s id code r
        named_10 h w = function_10 st u hs hi hc h w

        module _ (hf : is_some (find_in st.items id) ≡ false) where
          pub named_6 : has_room (length s) u (length st.items) (9 + length id) ≡ false → {r : Result Place Refusal} → r ≡ Err refusal.FullStore → FunctionPlace s id code r
          named_6 h w = function_6 st u hs hi hc hf h w

          pub named_at_law : {n : ℕ} → n ≡ length st.items → has_room (length s) u (length st.items) (9 + length id) ≡ true → FunctionPlace s id code (Ok (record { used = u; count = n }))
          named_at_law q h = is_function_at st u hs hi hc hf h (ap (λ (k : ℕ). Ok (record { used = u; count = k })) q)

-- a place is no refusal
pub not_refused : {r : Result Place Refusal} {p : Place} {e : Refusal} → r ≡ Ok p → r ≡ Err e → ⊥
not_refused h w = let z : ◌≡◌ {A = ℕ} 0 1 = cc in omega arith

same_place : {r : Result Place Refusal} {p q : Place} → r ≡ Ok p → r ≡ Ok q → p ≡ q
same_place h w = cc

-- what is known of a place that was found
pub resource_placed : {C : Type 0} {s image : List ℕ} {r : Result Place Refusal} {p : Place} → ResourcePlace s image r → r ≡ Ok p
    → ((st : Store) (es : List Entry) (e : ℕ) → store_of s ≡ got st p.used → resource_of image ≡ got es e → p.count ≡ length st.items
    → has_room (length s) p.used (length st.items) (1 + length image) ≡ true → C) → C
resource_placed (resource_4 _ h) q c = absurd (not_refused q h)
resource_placed (resource_5 _ _ _ _ h) q c = absurd (not_refused q h)
resource_placed (resource_6 _ _ _ _ _ _ _ h) q c = absurd (not_refused q h)
resource_placed {s = s} (is_resource_at st v es e hs hr room h) q c =
    let w = same_place q h in
    let eu = ap (λ (x : Place). x.used) w in
    let ek = ap (λ (x : Place). x.count) w in
    c st es e (rw eu hs) hr ek (rw eu room)

pub function_placed : {C : Type 0} {s id : List ℕ} {code : ℕ} {r : Result Place Refusal} {p : Place} → FunctionPlace s id code r → r ≡ Ok p
    → ((st : Store) → store_of s ≡ got st p.used → is_id id ≡ true → code ≡ 1 → is_some (find_in st.items id) ≡ false → p.count ≡ length st.items
    → has_room (length s) p.used (length st.items) (9 + length id) ≡ true → C) → C
function_placed (function_4 _ h) q c = absurd (not_refused q h)
function_placed (function_8 _ _ _ _ h) q c = absurd (not_refused q h)
function_placed (function_9 _ _ _ _ _ h) q c = absurd (not_refused q h)
function_placed (function_10 _ _ _ _ _ _ h) q c = absurd (not_refused q h)
function_placed (function_6 _ _ _ _ _ _ _ h) q c = absurd (not_refused q h)
function_placed {s = s} (is_function_at st v hs hi hc hf room h) q c =
    let w = same_place q h in
    let eu = ap (λ (x : Place). x.used) w in
    let ek = ap (λ (x : Place). x.count) w in
    c st (rw eu hs) hi hc hf ek (rw eu room)

-- an item is filed at its place
module _ (s item : List ℕ) {u k n : ℕ} (e : length item ≡ n) {st : Store} (hs : store_of s ≡ got st u) (ek : k ≡ length st.items) (room : has_room (length s) u (length st.items) n ≡ true) where
  filed_at : file_item s u k item ≡ with_item s u k item
  filed_at = store_parts s hs (λ _ _ _ _ _ _ lo _. filed_is s u k item lo e (ap (λ (j : ℕ). has_room (length s) u j n) ek ∙ room))

pub resource_item : (s image : List ℕ) (mode : ℕ) {r : Result Place Refusal} {p : Place} → ResourcePlace s image r → r ≡ Ok p → file_item s p.used p.count (mode ∷ image) ≡ with_item s p.used p.count (mode ∷ image)
resource_item s image mode p q = resource_placed p q (λ st es e hs _ ek room. filed_at s (mode ∷ image) (omega arith) hs ek room)

pub function_item : (s id : List ℕ) {code : ℕ} {r : Result Place Refusal} {p : Place} → FunctionPlace s id code r → r ≡ Ok p
    → written_if (leb (length id) 255) s (file_item s p.used p.count (3 ∷ enc_function id)) ≡ with_item s p.used p.count (3 ∷ enc_function id)
function_item s id p q =
    function_placed p q (λ st hs hi _ _ ek room.
    sym (short_written (length id) s _ (short_id id hi) refl) ∙ filed_at s (3 ∷ enc_function id) (function_length id) hs ek room)

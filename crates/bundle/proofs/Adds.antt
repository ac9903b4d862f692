-- Steps of the additions: each refusal, and what a success leaves.
use mathlib.Core.Path.{◌≡◌, sym, ap, ◌∙◌}
use mathlib.Core.Bool.{true, false}
use mathlib.Core.List.{List, [], ◌∷◌}
use Prim.Native.Nat.{ℕ, ◌+◌, ◌≤◌, ◌<◌}
use lib.ListN.{length}
use lib.Dec.{leb}
use borrow.Author.Tests.{eq-eqb, ne_eqb, le-leb, lt-leb}
use Rattle.records.specs.Got.{got, bad}
use Rattle.rules.specs.Rules.{is_id}
use Rattle.records.specs.Encode.{enc_function}
use Rattle.records.specs.Errors.{enc_errors}
use Rattle.records.specs.Images.{Entry, Store, is_some, store_of, resource_of}
use Rattle.entries.specs.Lookup.{find_in}
use Rattle.entries.specs.Repeats.{repeats}
use Rattle.entries.specs.Relations.Marked.{marked}
use Rattle.growth.specs.Items.{at_front, with_item, has_room, written_if, file_item}
use Rattle.buffers.specs.Relations.Append.{Wrote, full}
use Rattle.buffers.specs.declared.NoRoom.{NoRoom}
use Rattle.std.specs.Prelude.{Result, Ok, Err}
use Rattle.listing.specs.Relations.Lists.{Lists, lists_all, lists_short}
use Rattle.bundle.specs.declared.Place.{Place}
use Rattle.refusals.specs.declared.Refusal.{Refusal}
use Rattle.refusals.specs.declared.Refusal.TheVariants as refusal
use Rattle.refusals.specs.Numbers.{number_of}
use Rattle.bundle.specs.Additions.{refuse, succeed, or_refuse, listed, add_plain_to, add_resource, add_overriding_to, add_resource_overriding, add_function_to, add_function}
use Rattle.bundle.specs.Gives.{answer_of, gave}
use Rattle.bundle.specs.Relations.Places as places
use Rattle.bundle.specs.Relations.Places.{ResourcePlace, FunctionPlace}
use Rattle.bundle.proofs.Placing.{not_refused, resource_placed, function_placed, resource_item, function_item}

-- a plain addition, by its answers
module _ (s image l : List ℕ) where
  pub plain_4 : store_of s ≡ bad → gave (Err refusal.MalformedStore) s l ≡ add_resource s image l
  unfolding gave answer_of number_of add_resource add_plain_to refuse
  plain_4 h = rw h

  module _ {st : Store} {u : ℕ} (hs : store_of s ≡ got st u) where
    pub plain_5 : resource_of image ≡ bad → gave (Err refusal.MalformedResource) s l ≡ add_resource s image l
    unfolding gave answer_of number_of add_resource add_plain_to refuse
    plain_5 h = rw (hs, h)

    module _ {es : List Entry} {e : ℕ} (hr : resource_of image ≡ got es e) where
      pub plain_6 : has_room (length s) u (length st.items) (1 + length image) ≡ false → gave (Err refusal.FullStore) s l ≡ add_resource s image l
      unfolding gave answer_of number_of add_resource add_plain_to refuse or_refuse
      plain_6 h = rw (hs, hr, h)

      module _ (room : has_room (length s) u (length st.items) (1 + length image) ≡ true) where
        pub plain_7 : length l < length (enc_errors (repeats (find_in st.items) es)) → gave (Err refusal.ShortList) s l ≡ add_resource s image l
        unfolding gave answer_of number_of add_resource add_plain_to refuse or_refuse listed
        plain_7 h = rw (hs, hr, room, lt-leb (length (enc_errors (repeats (find_in st.items) es))) (length l) h)

        pub plain_done : {n : ℕ} {s' l' : List ℕ} → length (enc_errors (repeats (find_in st.items) es)) ≤ length l → n ≡ length (repeats (find_in st.items) es)
            → s' ≡ with_item s u (length st.items) (1 ∷ image) → l' ≡ at_front (enc_errors (repeats (find_in st.items) es)) l → gave (Ok n) s' l' ≡ add_resource s image l
        unfolding gave answer_of number_of add_resource add_plain_to or_refuse listed succeed
        plain_done h en es' el = rw (hs, hr, room, le-leb (length (enc_errors (repeats (find_in st.items) es))) (length l) h, en, es', el)

-- an overriding addition
module _ (s image : List ℕ) where
  pub over_4 : store_of s ≡ bad → gave (Err refusal.MalformedStore) s [] ≡ add_resource_overriding s image
  unfolding gave answer_of number_of add_resource_overriding add_overriding_to refuse
  over_4 h = rw h

  module _ {st : Store} {u : ℕ} (hs : store_of s ≡ got st u) where
    pub over_5 : resource_of image ≡ bad → gave (Err refusal.MalformedResource) s [] ≡ add_resource_overriding s image
    unfolding gave answer_of number_of add_resource_overriding add_overriding_to refuse
    over_5 h = rw (hs, h)

    module _ {es : List Entry} {e : ℕ} (hr : resource_of image ≡ got es e) where
      pub over_6 : has_room (length s) u (length st.items) (1 + length image) ≡ false → gave (Err refusal.FullStore) s [] ≡ add_resource_overriding s image
      unfolding gave answer_of number_of add_resource_overriding add_overriding_to refuse or_refuse
      over_6 h = rw (hs, hr, h)

      pub over_done : {s' : List ℕ} → has_room (length s) u (length st.items) (1 + length image) ≡ true → s' ≡ with_item s u (length st.items) (2 ∷ image) → gave (Ok 0) s' [] ≡ add_resource_overriding s image
      unfolding gave answer_of number_of add_resource_overriding add_overriding_to or_refuse succeed
      over_done h es' = rw (hs, hr, h, es')

-- a function
module _ (s id : List ℕ) (code : ℕ) where
  pub function_4 : store_of s ≡ bad → gave (Err refusal.MalformedStore) s [] ≡ add_function s id code
  unfolding gave answer_of number_of add_function add_function_to refuse
  function_4 h = rw h

  module _ {st : Store} {u : ℕ} (hs : store_of s ≡ got st u) where
    pub function_8 : is_id id ≡ false → gave (Err refusal.NoId) s [] ≡ add_function s id code
    unfolding gave answer_of number_of add_function add_function_to refuse or_refuse
    function_8 h = rw (hs, h)

    module _ (hi : is_id id ≡ true) where
      pub function_9 : (code ≡ 1 → ⊥) → gave (Err refusal.NoCode) s [] ≡ add_function s id code
      unfolding gave answer_of number_of add_function add_function_to refuse or_refuse
      function_9 h = rw (hs, hi, ne_eqb code 1 h)

      module _ (hc : code ≡ 1) where
        pub function_10 : is_some (find_in st.items id) ≡ true → gave (Err refusal.HeldId) s [] ≡ add_function s id code
        unfolding gave answer_of number_of add_function add_function_to refuse or_refuse
        function_10 h = rw (hs, hi, eq-eqb code 1 hc, h)

        module _ (hf : is_some (find_in st.items id) ≡ false) where
          pub function_6 : has_room (length s) u (length st.items) (9 + length id) ≡ false → gave (Err refusal.FullStore) s [] ≡ add_function s id code
          unfolding gave answer_of number_of add_function add_function_to refuse or_refuse
          function_6 h = rw (hs, hi, eq-eqb code 1 hc, hf, h)

          pub function_done : {s' : List ℕ} → has_room (length s) u (length st.items) (9 + length id) ≡ true → s' ≡ with_item s u (length st.items) (3 ∷ enc_function id) → gave (Ok 0) s' [] ≡ add_function s id code
          unfolding gave answer_of number_of add_function add_function_to or_refuse succeed
          function_done h es' = rw (hs, hi, eq-eqb code 1 hc, hf, h, es')

-- by the place of the item: a refusal
known_refusal : {r : Result Place Refusal} {m n : Refusal} {q : Result ℕ Refusal} → r ≡ Err m → r ≡ Err n → q ≡ Err n → q ≡ Err m
known_refusal h e w = cc

pub plain_no_place : (s image l : List ℕ) {r : Result Place Refusal} {n : Refusal} {q : Result ℕ Refusal} → ResourcePlace s image r → r ≡ Err n → q ≡ Err n → gave q s l ≡ add_resource s image l
plain_no_place s image l (places.resource_4 hs h) e w = rw (known_refusal h e w) (plain_4 s image l hs)
plain_no_place s image l (places.resource_5 st u hs hr h) e w = rw (known_refusal h e w) (plain_5 s image l hs hr)
plain_no_place s image l (places.resource_6 st u es f hs hr room h) e w = rw (known_refusal h e w) (plain_6 s image l hs hr room)
plain_no_place s image l (places.is_resource_at st u es f hs hr room h) e w = absurd (not_refused h e)

pub over_no_place : (s image : List ℕ) {r : Result Place Refusal} {n : Refusal} {q : Result ℕ Refusal} → ResourcePlace s image r → r ≡ Err n → q ≡ Err n → gave q s [] ≡ add_resource_overriding s image
over_no_place s image (places.resource_4 hs h) e w = rw (known_refusal h e w) (over_4 s image hs)
over_no_place s image (places.resource_5 st u hs hr h) e w = rw (known_refusal h e w) (over_5 s image hs hr)
over_no_place s image (places.resource_6 st u es f hs hr room h) e w = rw (known_refusal h e w) (over_6 s image hs hr room)
over_no_place s image (places.is_resource_at st u es f hs hr room h) e w = absurd (not_refused h e)

pub function_no_place : (s id : List ℕ) (code : ℕ) {r : Result Place Refusal} {n : Refusal} {q : Result ℕ Refusal} → FunctionPlace s id code r → r ≡ Err n → q ≡ Err n → gave q s [] ≡ add_function s id code
function_no_place s id code (places.function_4 hs h) e w = rw (known_refusal h e w) (function_4 s id code hs)
function_no_place s id code (places.function_8 st u hs hi h) e w = rw (known_refusal h e w) (function_8 s id code hs hi)
function_no_place s id code (places.function_9 st u hs hi hc h) e w = rw (known_refusal h e w) (function_9 s id code hs hi hc)
function_no_place s id code (places.function_10 st u hs hi hc hf h) e w = rw (known_refusal h e w) (function_10 s id code hs hi hc hf)
function_no_place s id code (places.function_6 st u hs hi hc hf room h) e w = rw (known_refusal h e w) (function_6 s id code hs hi hc hf room)
function_no_place s id code (places.is_function_at st u hs hi hc hf room h) e w = absurd (not_refused h e)

-- by the place of the item: a success
pub over_filed : (s image : List ℕ) {r : Result Place Refusal} {p : Place} {s' : List ℕ} → ResourcePlace s image r → r ≡ Ok p → s' ≡ file_item s p.used p.count (2 ∷ image)
    → gave (Ok 0) s' [] ≡ add_resource_overriding s image
over_filed s image {p = x} p q w =
    resource_placed p q (λ st es e hs hr ek room. over_done s image hs hr room (w ∙ resource_item s image 2 p q ∙ ap (λ (j : ℕ). with_item s x.used j (2 ∷ image)) ek))

pub function_filed : (s id : List ℕ) (code : ℕ) {r : Result Place Refusal} {p : Place} {s' : List ℕ} → FunctionPlace s id code r → r ≡ Ok p → s' ≡ written_if (leb (length id) 255) s (file_item s p.used p.count (3 ∷ enc_function id))
    → gave (Ok 0) s' [] ≡ add_function s id code
function_filed s id code {p = x} p q w =
    function_placed p q (λ st hs hi hc hf ek room. function_done s id code hs hi hc hf room (w ∙ function_item s id p q ∙ ap (λ (j : ℕ). with_item s x.used j (3 ∷ enc_function id)) ek))

module _ (s image l marks : List ℕ) {r : Result Place Refusal} {x : Place} (p : ResourcePlace s image r) (q : r ≡ Ok x)
    (m : (st : Store) (v : ℕ) (es : List Entry) (f : ℕ) → store_of s ≡ got st v → resource_of image ≡ got es f → marked marks 0 es ≡ repeats (find_in st.items) es)
    {w : Wrote} {l' : List ℕ} (y : (es : List Entry) (f : ℕ) → resource_of image ≡ got es f → Lists (marked marks 0 es) l w l') where
  listing : {C : Type 0} → ((st : Store) (es : List Entry) (e : ℕ) → store_of s ≡ got st x.used → resource_of image ≡ got es e → x.count ≡ length st.items
      → has_room (length s) x.used (length st.items) (1 + length image) ≡ true → Lists (repeats (find_in st.items) es) l w l' → C) → C
  listing c = resource_placed p q (λ st es e hs hr ek room. c st es e hs hr ek room (rw (← m st x.used es e hs hr) (y es e hr)))

  pub plain_short : {b : NoRoom} → w ≡ Err b → gave (Err refusal.ShortList) s l' ≡ add_resource s image l
  plain_short {b} h = listing (λ st es e hs hr ek room z. go st es e hs hr room z)
    where
      go : (st : Store) (es : List Entry) (e : ℕ) → store_of s ≡ got st x.used → resource_of image ≡ got es e → has_room (length s) x.used (length st.items) (1 + length image) ≡ true
          → Lists (repeats (find_in st.items) es) l w l' → gave (Err refusal.ShortList) s l' ≡ add_resource s image l
      go st es e hs hr room (lists_all k _ _) = let z : ◌≡◌ {A = Wrote} (Err b) (Ok (length (repeats (find_in st.items) es))) = sym h ∙ k in cc
      go st es e hs hr room (lists_short _ n o) = rw o (plain_7 s image l hs hr room n)

  pub plain_filed : {n : ℕ} {s' : List ℕ} → w ≡ Ok n → s' ≡ file_item s x.used x.count (1 ∷ image) → gave (Ok n) s' l' ≡ add_resource s image l
  plain_filed {n} {s'} h i = listing (λ st es e hs hr ek room z. go st es e hs hr ek room z)
    where
      go : (st : Store) (es : List Entry) (e : ℕ) → store_of s ≡ got st x.used → resource_of image ≡ got es e → x.count ≡ length st.items → has_room (length s) x.used (length st.items) (1 + length image) ≡ true
          → Lists (repeats (find_in st.items) es) l w l' → gave (Ok n) s' l' ≡ add_resource s image l
      go st es e hs hr ek room (lists_all k o b) =
          let z : ◌≡◌ {A = Wrote} (Ok n) (Ok (length (repeats (find_in st.items) es))) = sym h ∙ k in
          plain_done s image l hs hr room o (cc) (i ∙ resource_item s image 1 p q ∙ ap (λ (j : ℕ). with_item s x.used j (1 ∷ image)) ek) b
      go st es e hs hr ek room (lists_short k _ _) = let z : ◌≡◌ {A = Wrote} (Ok n) full = sym h ∙ k in cc

-- Entries, items, stores and images: the decoders read exactly what the encoders write of valid trees.
use mathlib.Core.Path.{◌≡◌, refl, ap, sym, subst, ◌∙◌}
use mathlib.Core.Bool.{Bool}
use mathlib.Core.List.{List, [], ◌∷◌, ◌++◌}
use Prim.Native.Nat.{ℕ, ◌+◌, ◌-◌, ◌≤◌, ◌<◌}
use native.Mathlib.Omega.{arith}
use lib.ListN.{length, length-append}
use lib.Seq.{take_all}
use lib.Dec.{eqb, ltb, leb}
use borrow.Author.Tests.{leb-true, ltb-true, le-leb, lt-ltb}
use Rattle.records.specs.Got.{Got, got, Parser, after, test, pick}
use Rattle.records.specs.Bytes.{to_be, number_at}
use Rattle.rules.specs.Rules.{is_utf8}
use Rattle.records.specs.Decode.{many}
use Rattle.records.specs.Images.{Kind, Item, Store, Argument, max_image, max_store, max_items, max_locale, one_at, kind_at, attribute_at, attributes_at, complete, entry_at, resource_at, function_at, item_at, locale_at, store_of, whole_of, argument_number_at, argument_value_at, argument_at, arguments_at}
use Rattle.decimals.specs.Decimal.{scale_limit, digits_limit}
use Rattle.records.specs.Encode.{enc_str, enc_flag, enc_optional, enc_all, enc_counted, enc_pattern, enc_kind, enc_attribute, enc_entry, enc_whole, enc_resource, enc_function, enc_item, enc_store, enc_argument, enc_named_argument, enc_arguments_image}
use Rattle.records.specs.Valid.{Fits, ValidId, Counted, ValidAttribute, ValidEntry, ValidResource, ValidItem, ValidStore, ValidArgument, ValidNamedArgument, ValidArgumentsImage}
use Rattle.layout.specs.Exact.{Stands, Octets, Exact}
use Rattle.layout.proofs.Stands.{stands_length, stands_front, append_nil, bytes_are, join}
use Rattle.layout.proofs.Octets.{octets_append, octets_to_be, utf8_octets}
use Rattle.layout.proofs.Numbers.{length_to_be}
use Rattle.layout.proofs.Steps.{Read, took, byte_took, test_took, tag_took, last_took, gives, tagged, ahead, at_last, as_last, byte_complete, byte_ahead, passes, ends, number_exact, ruled_exact, many_exact}
use Rattle.layout.proofs.Patterns.{flag_exact, optional_exact, id_exact, list_chain, with_id, entry_pattern_exact}

-- the byte 1
one_exact : Exact one_at (λ v. 1 ∷ []) (λ v. v ≡ 1)
unfolding one_at after test
one_exact = record {
  sound = λ {s} {at} oct l h. byte_took h (λ x e b h. last_took x 1 h (λ q h. gives h (Read (λ v. 1 ∷ []) (λ v. v ≡ 1) s at) (q, bytes_are (ap (λ (j : ℕ). j ∷ []) q) b)));
  octets = λ v ok. omega arith;
  complete = λ ok h. rw (byte_complete h, ok);
}

kind_sound : {s : List ℕ} {at e : ℕ} {k : Kind} → kind_at s at ≡ got k e → Unit {0} × Stands s at e (enc_kind k ∷ [])
unfolding kind_at enc_kind
kind_sound {s} {at} h = byte_took h (λ x e b h.
    tag_took x 1 h (λ q h. gives h (Read (λ k. enc_kind k ∷ []) (λ k. Unit {0}) s at) (tt, bytes_are (ap (λ (j : ℕ). j ∷ []) q) b)) (λ h.
    last_took x 2 h (λ q h. gives h (Read (λ k. enc_kind k ∷ []) (λ k. Unit {0}) s at) (tt, bytes_are (ap (λ (j : ℕ). j ∷ []) q) b))))

kind_complete : {s : List ℕ} {at e : ℕ} (k : Kind) → Stands s at e (enc_kind k ∷ []) → kind_at s at ≡ got k e
unfolding kind_at enc_kind after pick test
kind_complete Kind.message h = rw (byte_complete h)
kind_complete Kind.term h = rw (byte_complete h)

kind_octets : (k : Kind) → Octets (enc_kind k ∷ [])
unfolding enc_kind
kind_octets Kind.message = omega arith
kind_octets Kind.term = omega arith

kind_exact : Exact kind_at (λ k. enc_kind k ∷ []) (λ k. Unit {0})
kind_exact = record { sound = λ oct l h. kind_sound h; octets = λ k ok. kind_octets k; complete = λ {a = k} ok h. kind_complete k h }

attribute_exact : Exact attribute_at enc_attribute ValidAttribute
unfolding attribute_at enc_attribute ValidAttribute
attribute_exact = with_id entry_pattern_exact

-- a count of two bytes, and as many
module _ {A : Type 0} {p : Parser A} {enc : A → List ℕ} {Ok : A → Type 0} (x : Exact p enc Ok) where
  counted_exact : Exact (λ s at. after (number_at 2 s at) (λ k e. many [] ◌∷◌ k p s e)) (enc_counted enc) (Counted Ok)
  unfolding enc_counted after
  counted_exact = record {
    sound = λ {s} {at} oct l h.
        took (number_exact 2) oct l h (λ k q okK stK h.
        let i = (many_exact (list_chain enc Ok) x k).sound oct stK.within h in
        ((i.0.0, subst (Fits 2) (sym i.0.1) okK), rw i.0.1 (join stK i.1)));
    octets = λ l ok. octets_append (to_be 2 (length l)) _ (octets_to_be 2 (length l)) ((many_exact (list_chain enc Ok) x (length l)).octets l (ok.0, refl));
    complete = λ {a = l} ok h. ahead (number_exact 2) _ ok.1 h (λ e u r. (many_exact (list_chain enc Ok) x (length l)).complete (ok.0, refl) r);
  }

attributes_exact : Exact attributes_at (enc_counted enc_attribute) (Counted ValidAttribute)
unfolding attributes_at
attributes_exact = counted_exact attribute_exact

pub entry_exact : Exact entry_at enc_entry ValidEntry
unfolding entry_at enc_entry ValidEntry
entry_exact = record {
  sound = λ {s} {at} oct l h.
      took kind_exact oct l h (λ k p okK stK h.
      took id_exact oct stK.within h (λ n q okN stN h.
      took (optional_exact entry_pattern_exact) oct stN.within h (λ v r okV stV h.
      took attributes_exact oct stV.within h (λ m e okA stA h.
      test_took (complete k v m) h (λ t h.
      gives h (Read enc_entry ValidEntry s at) ((okN, okV, okA, t), join stK (join stN (join stV stA))))))));
  octets = λ y ok. (
    (kind_octets y.kind).0,
    octets_append (enc_str y.id) _ (id_exact.octets y.id ok.0)
        (octets_append (enc_optional enc_pattern y.value) _ ((optional_exact entry_pattern_exact).octets y.value ok.1) (attributes_exact.octets y.attributes ok.2)),
  );
  complete = λ {a = y} ok h.
      ahead kind_exact _ {a = y.kind} tt h (λ p u r.
      ahead id_exact _ ok.0 r (λ q u r.
      ahead (optional_exact entry_pattern_exact) _ ok.1 r (λ i u r.
      at_last attributes_exact _ ok.2 r (passes (complete y.kind y.value y.attributes) ok.3 refl))));
}

-- "u32 whole length" and the rest
length_whole : (b : List ℕ) → length (enc_whole b) ≡ 4 + length b
unfolding enc_whole
length_whole b = rw (length-append, length_to_be)

whole_octets : (b : List ℕ) → Octets b → Octets (enc_whole b)
unfolding enc_whole
whole_octets b h = octets_append (to_be 4 (4 + length b)) b (octets_to_be 4 (4 + length b)) h

whole_stands : {s : List ℕ} {at p e n : ℕ} {b : List ℕ} → Stands s at p (to_be 4 n) → Stands s p e b → e ≡ at + n → (length (enc_whole b) ≡ n) × Stands s at e (enc_whole b)
unfolding enc_whole
whole_stands {n = n} {b = b} h k q =
    let m : 4 + length b ≡ n = omega (arith, stands_length h, stands_length k, length_to_be 4 n) in
    (length_whole b ∙ m, rw m (join h k))

-- where a whole stands: its length, and where it ends
whole_ahead : {B : Type 0} (k : ℕ → ℕ → Got B) {s : List ℕ} {at e : ℕ} {b : List ℕ} {v : B} → Stands s at e (enc_whole b) → Fits 4 (length (enc_whole b))
    → ((p : ℕ) → Stands s p e b → e ≡ at + length (enc_whole b) → k (length (enc_whole b)) p ≡ got v e) → after (number_at 4 s at) k ≡ got v e
unfolding enc_whole
whole_ahead k {s} {at} {e} {b} {v} h f c =
    let m : length (enc_whole b) ≡ 4 + length b = length_whole b in
    let q : e ≡ at + length (enc_whole b) = sym (stands_length h) in
    ahead (number_exact 4) k {a = length (enc_whole b)} f (bytes_are (ap (λ (j : ℕ). to_be 4 j ++ b) (sym m)) h) (λ p u r. c p r q)

-- what is at most a number that fits, fits
within_fits : {n m : ℕ} → Fits 4 m → n ≤ m → Fits 4 n
within_fits f h = omega arith

image_fits : Fits 4 max_image
unfolding max_image
image_fits = omega arith

store_fits : {n : ℕ} → n ≤ max_store → Fits 4 n
unfolding max_store
store_fits h = omega arith

-- an image of at most so many bytes: whole length, version, count, and as many
module _ {A : Type 0} (most : ℕ) (p : Parser A) where
  abbrev pub image_at : Parser (List A)
  image_at s at =
      after (number_at 4 s at) (λ n i.
      test (leb n most)
      (after (one_at s i) (λ v q.
      after (number_at 2 s q) (λ k r.
      after (many [] ◌∷◌ k p s r) (λ l e.
      test (eqb e (at + n)) (got l e))))))

module _ {A : Type 0} (enc : A → List ℕ) where
  abbrev pub enc_image : List A → List ℕ
  enc_image l = enc_whole (1 ∷ enc_counted enc l)

  abbrev pub ImageOk : ℕ → (A → Type 0) → List A → Type 0
  ImageOk most Ok l = Counted Ok l × (length (enc_image l) ≤ most)

module _ {A : Type 0} {p : Parser A} {enc : A → List ℕ} {Ok : A → Type 0} {most : ℕ} (fits : Fits 4 most) (x : Exact p enc Ok) where
  pub image_exact : Exact (image_at most p) (enc_image enc) (ImageOk enc most Ok)
  unfolding enc_counted
  image_exact = record {
    sound = λ {s} {at} oct l h.
        took (number_exact 4) oct l h (λ n p okN stN h.
        test_took (leb n most) h (λ t h.
        took one_exact oct stN.within h (λ v q okV stV h.
        took (number_exact 2) oct stV.within h (λ k r okK stK h.
        took (many_exact (list_chain enc Ok) x k) oct stK.within h (λ m e okM stM h.
        last_took e (at + n) h (λ w h.
        let c : length m ≡ k = okM.1 in
        let i : (length (enc_image enc m) ≡ n) × Stands s at e (enc_image enc m) = whole_stands stN (rw c (join stV (join stK stM))) w in
        let bound : n ≤ most = leb-true n most t in
        gives h (Read (enc_image enc) (ImageOk enc most Ok) s at) (((okM.0, subst (Fits 2) (sym c) okK), rw i.0 bound), i.1)))))));
    octets = λ l ok. whole_octets (1 ∷ enc_counted enc l) (omega arith, (counted_exact x).octets l ok.0);
    complete = λ {a = l} ok h. whole_ahead _ h (within_fits fits ok.1) (λ p r q.
        passes (leb (length (enc_image enc l)) most) (le-leb (length (enc_image enc l)) most ok.1)
        (ahead one_exact _ {a = 1} refl r (λ i u r.
        ahead (number_exact 2) _ ok.0.1 r (λ j u r.
        at_last (many_exact (list_chain enc Ok) x (length l)) _ (ok.0.0, refl) r (ends q refl)))));
  }

pub resource_exact : Exact resource_at enc_resource ValidResource
unfolding resource_at enc_resource ValidResource
resource_exact = image_exact image_fits entry_exact

-- a function record
function_fits : (i : List ℕ) → Fits 2 (length i) → Fits 4 (length (enc_function i))
unfolding enc_function enc_str
function_fits i h = rw (length_whole (1 ∷ 1 ∷ to_be 2 (length i) ++ i), length-append, length_to_be) (omega arith)

function_exact : Exact function_at enc_function ValidId
unfolding function_at enc_function
function_exact = record {
  sound = λ {s} {at} oct l h.
      took (number_exact 4) oct l h (λ n p okN stN h.
      took one_exact oct stN.within h (λ v q okV stV h.
      took one_exact oct stV.within h (λ c r ok_c stC h.
      took id_exact oct stC.within h (λ i e okI stI h.
      last_took e (at + n) h (λ w h.
      gives h (Read enc_function ValidId s at) (okI, (whole_stands stN (join stV (join stC stI)) w).1))))));
  octets = λ i ok. whole_octets (1 ∷ 1 ∷ enc_str i) (omega arith, (omega arith, id_exact.octets i ok));
  complete = λ {a = i} ok h. whole_ahead _ h (function_fits i ok.0) (λ p r q.
      ahead one_exact _ {a = 1} refl r (λ j u r.
      ahead one_exact _ {a = 1} refl r (λ k u r.
      at_last id_exact _ ok r (ends q refl))));
}

item_sound : {s : List ℕ} {at e : ℕ} {i : Item} → Octets s → item_at s at ≡ got i e → ValidItem i × Stands s at e (enc_item i)
unfolding item_at enc_item ValidItem
item_sound {s} {at} oct h =
    byte_took h (λ m p b h.
    tag_took m 1 h (λ q h. took resource_exact oct b.within h (λ a e ok st h. gives h (Read enc_item ValidItem s at) (ok, tagged q b st))) (λ h.
    tag_took m 2 h (λ q h. took resource_exact oct b.within h (λ a e ok st h. gives h (Read enc_item ValidItem s at) (ok, tagged q b st))) (λ h.
    last_took m 3 h (λ q h. took function_exact oct b.within h (λ a e ok st h. gives h (Read enc_item ValidItem s at) (ok, tagged q b st))))))

item_complete : {s : List ℕ} {at e : ℕ} (i : Item) → ValidItem i → Stands s at e (enc_item i) → item_at s at ≡ got i e
unfolding item_at enc_item ValidItem pick test
item_complete (Item.plain l) ok h = byte_ahead _ h (λ p b r. as_last resource_exact Item.plain ok r)
item_complete (Item.overriding l) ok h = byte_ahead _ h (λ p b r. as_last resource_exact Item.overriding ok r)
item_complete (Item.function i) ok h = byte_ahead _ h (λ p b r. as_last function_exact Item.function ok r)

item_octets : (i : Item) → ValidItem i → Octets (enc_item i)
unfolding enc_item ValidItem
item_octets (Item.plain l) ok = (omega arith, resource_exact.octets l ok)
item_octets (Item.overriding l) ok = (omega arith, resource_exact.octets l ok)
item_octets (Item.function i) ok = (omega arith, function_exact.octets i ok)

pub item_exact : Exact item_at enc_item ValidItem
item_exact = record { sound = λ oct l h. item_sound oct h; octets = item_octets; complete = λ {a = i} ok h. item_complete i ok h }

locale_small : {l : ℕ} → l ≤ max_locale → l < 256
unfolding max_locale
locale_small h = omega arith

scale_small : {k : ℕ} → k ≤ scale_limit → k < 256
scale_small h = omega arith

locale_exact : Exact locale_at (λ l. l ∷ []) (λ l. l ≤ max_locale)
unfolding locale_at after
locale_exact = record {
  sound = λ {s} {at} oct l h. byte_took h (λ x e b h. test_took (leb x max_locale) h (λ t h. gives h (Read (λ l. l ∷ []) (λ l. l ≤ max_locale) s at) (leb-true x max_locale t, b)));
  octets = λ x ok. (locale_small ok, tt);
  complete = λ {a = x} ok h. rw (byte_complete h) (passes (leb x max_locale) (le-leb x max_locale ok) refl);
}

-- a store, at the front of its slice
pub store_sound : {s : List ℕ} {e : ℕ} {v : Store} → Octets s → store_of s ≡ got v e → ValidStore v × Stands s 0 e (enc_store v)
unfolding store_of enc_store ValidStore enc_counted
store_sound {s} oct h =
    took (number_exact 4) oct (omega arith) h (λ n p okN stN h.
    test_took (leb n max_store) h (λ t h.
    took one_exact oct stN.within h (λ v q okV stV h.
    took locale_exact oct stV.within h (λ l r okL stL h.
    took flag_exact oct stL.within h (λ f i okF stF h.
    took (number_exact 2) oct stF.within h (λ k j okK stK h.
    test_took (leb k max_items) h (λ y h.
    took (many_exact (list_chain enc_item ValidItem) item_exact k) oct stK.within h (λ is e okM stM h.
    last_took e n h (λ w h.
    let c : length is ≡ k = okM.1 in
    let z : (length (enc_whole (1 ∷ l ∷ enc_flag f ++ (to_be 2 (length is) ++ enc_all enc_item is))) ≡ n) × Stands s 0 e (enc_whole (1 ∷ l ∷ enc_flag f ++ (to_be 2 (length is) ++ enc_all enc_item is))) =
    whole_stands stN (rw c (join stV (join stL (join stF (join stK stM))))) (omega arith) in
    gives h (Read enc_store ValidStore s 0) ((okL, okM.0, rw c (leb-true k max_items y), rw z.0 (leb-true n max_store t)), z.1))))))))))

items_fit : {n : ℕ} → n ≤ max_items → Fits 2 n
unfolding max_items
items_fit h = omega arith

pub store_complete : {s : List ℕ} {e : ℕ} (v : Store) → ValidStore v → Stands s 0 e (enc_store v) → store_of s ≡ got v e
unfolding store_of enc_store ValidStore enc_counted
store_complete {e = e} v ok h = whole_ahead _ h (store_fits ok.3) (λ p r q.
    let w : e ≡ length (enc_store v) = omega arith in
    passes (leb (length (enc_store v)) max_store) (le-leb (length (enc_store v)) max_store ok.3)
    (ahead one_exact _ {a = 1} refl r (λ i u r.
    ahead locale_exact _ {a = v.locale} ok.0 r (λ i u r.
    ahead flag_exact _ {a = v.isolating} tt r (λ i u r.
    ahead (number_exact 2) _ (items_fit ok.2) r (λ i u r.
    passes (leb (length v.items) max_items) (le-leb (length v.items) max_items ok.2)
    (at_last (many_exact (list_chain enc_item ValidItem) item_exact (length v.items)) _ (ok.1, refl) r (ends w refl))))))))

pub store_octets : (v : Store) → ValidStore v → Octets (enc_store v)
unfolding enc_store ValidStore
store_octets v ok = whole_octets _ (
  omega arith,
  (locale_small ok.0, octets_append (enc_flag v.isolating) _ (flag_exact.octets v.isolating tt) ((counted_exact item_exact).octets v.items (ok.1, items_fit ok.2))),
)

-- arguments
digits_fit : {d : ℕ} → d < digits_limit → Fits 8 d
digits_fit h = omega arith

argument_number_sound : {s : List ℕ} {at e : ℕ} {v : Argument} {b : ℕ} → Octets s → Stands s b at (2 ∷ []) → argument_number_at s at ≡ got v e → ValidArgument v × Stands s b e (enc_argument v)
unfolding argument_number_at enc_argument ValidArgument
argument_number_sound {s} {b = b} oct tag h =
    took flag_exact oct tag.within h (λ f p okF stF h.
    took (number_exact 8) oct stF.within h (λ d q ok_d stD h.
    test_took (ltb d digits_limit) h (λ t h.
    byte_took h (λ k e stK h.
    test_took (leb k scale_limit) h (λ y h.
    gives h (Read enc_argument ValidArgument s b) ((ltb-true d digits_limit t, leb-true k scale_limit y), tagged refl tag (join stF (join stD stK))))))))

argument_number_complete : {s : List ℕ} {at e : ℕ} (f : Bool) (d k : ℕ) → d < digits_limit → k ≤ scale_limit → Stands s at e (enc_flag f ++ (to_be 8 d ++ (k ∷ [])))
    → argument_number_at s at ≡ got (Argument.number f d k) e
unfolding argument_number_at after
argument_number_complete f d k ok_d okK h =
    ahead flag_exact _ {a = f} tt h (λ p u r.
    ahead (number_exact 8) _ (digits_fit ok_d) r (λ q u r.
    passes (ltb d digits_limit) (lt-ltb d digits_limit ok_d) (rw (byte_complete r) (passes (leb k scale_limit) (le-leb k scale_limit okK) refl))))

argument_sound : {s : List ℕ} {at e : ℕ} {v : Argument} → Octets s → argument_value_at s at ≡ got v e → ValidArgument v × Stands s at e (enc_argument v)
unfolding argument_value_at enc_argument ValidArgument
argument_sound {s} {at} oct h =
    byte_took h (λ t p b h.
    tag_took t 1 h (λ q h. took (ruled_exact is_utf8 utf8_octets) oct b.within h (λ a e ok st h. gives h (Read enc_argument ValidArgument s at) (ok, tagged q b st))) (λ h.
    tag_took t 2 h (λ q h. argument_number_sound oct (bytes_are (ap (λ (j : ℕ). j ∷ []) q) b) h) (λ h.
    last_took t 3 h (λ q h. gives h (Read enc_argument ValidArgument s at) (tt, bytes_are (ap (λ (j : ℕ). j ∷ []) q) b)))))

argument_complete : {s : List ℕ} {at e : ℕ} (v : Argument) → ValidArgument v → Stands s at e (enc_argument v) → argument_value_at s at ≡ got v e
unfolding argument_value_at enc_argument ValidArgument pick test after
argument_complete (Argument.string t) ok h = byte_ahead _ h (λ p b r. as_last (ruled_exact is_utf8 utf8_octets) Argument.string ok r)
argument_complete (Argument.number f d k) ok h = byte_ahead _ h (λ p b r. argument_number_complete f d k ok.0 ok.1 r)
argument_complete Argument.nothing ok h = rw (byte_complete h)

argument_octets : (v : Argument) → ValidArgument v → Octets (enc_argument v)
unfolding enc_argument ValidArgument
argument_octets (Argument.string t) ok = (omega arith, (ruled_exact is_utf8 utf8_octets).octets t ok)
argument_octets (Argument.number f d k) ok =
    (omega arith, octets_append (enc_flag f) _ (flag_exact.octets f tt) (octets_append (to_be 8 d) _ (octets_to_be 8 d) (scale_small ok.1, tt)))
argument_octets Argument.nothing ok = omega arith

argument_exact : Exact argument_value_at enc_argument ValidArgument
argument_exact = record { sound = λ oct l h. argument_sound oct h; octets = argument_octets; complete = λ {a = v} ok h. argument_complete v ok h }

named_argument_exact : Exact argument_at enc_named_argument ValidNamedArgument
unfolding argument_at enc_named_argument ValidNamedArgument
named_argument_exact = with_id argument_exact

pub arguments_exact : Exact arguments_at enc_arguments_image ValidArgumentsImage
unfolding arguments_at enc_arguments_image ValidArgumentsImage
arguments_exact = image_exact image_fits named_argument_exact

-- an image that is all of its slice
module _ {A : Type 0} {p : Parser A} {enc : A → List ℕ} {Ok : A → Type 0} (x : Exact p enc Ok) where
  pub whole_sound : {s : List ℕ} {e : ℕ} {a : A} → Octets s → whole_of p s ≡ got a e → Ok a × (s ≡ enc a) × (e ≡ length s)
  unfolding whole_of
  whole_sound {s} oct h =
      took x oct (omega arith) h (λ a e ok st h.
      last_took e (length s) h (λ q h.
      let l : length s ≤ e - 0 = omega arith in
      gives h (λ z j. Ok z × (s ≡ enc z) × (j ≡ length s)) (ok, sym (take_all (e - 0) s l) ∙ st.bytes, q)))

  pub whole_complete : {a : A} → Ok a → whole_of p (enc a) ≡ got a (length (enc a))
  unfolding whole_of
  whole_complete {a} ok =
      let st : Stands (enc a) 0 (length (enc a)) (enc a) = subst (λ (l : List ℕ). Stands l 0 (length (enc a)) (enc a)) (append_nil (enc a)) (stands_front (enc a) []) in
      at_last x _ ok st (ends {e = length (enc a)} refl refl)

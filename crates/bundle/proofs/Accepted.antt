-- "An accepted one has put its item after the others, a refused one has changed nothing."
use mathlib.Core.Path.{◌≡◌, refl, ap, sym, subst, ◌∙◌}
use mathlib.Core.List.{List, [], ◌∷◌, ◌++◌}
use mathlib.Core.Bool.{Bool, true, false, not}
use Prim.Native.Nat.{ℕ, ◌+◌, ◌≤◌}
use native.Mathlib.Omega.{arith}
use lib.ListN.{length, drop, length-append, length-drop}
use lib.Dec.{leb, eqb}
use borrow.Author.Tests.{leb-true}
use Rattle.records.specs.Got.{Got, got, bad}
use Rattle.records.specs.Bytes.{to_be}
use Rattle.decimals.specs.Bytes.{run}
use Rattle.rules.specs.Rules.{id_step, is_id}
use Rattle.records.specs.Images.{Entry, Item, Store, is_some, max_store, max_items, max_locale, store_of, resource_of}
use Rattle.records.specs.Encode.{enc_str, enc_whole, enc_function, enc_item, enc_all, enc_store}
use Rattle.records.specs.Errors.{Error, enc_errors}
use Rattle.records.specs.Valid.{ValidItem, ValidStore}
use Rattle.layout.specs.Exact.{Octets}
use Rattle.layout.proofs.Numbers.{length_to_be}
use Rattle.layout.proofs.Octets.{octets_append, and_right}
use Rattle.layout.proofs.Theorems.{resource_sound, store_complete, store_octets}
use Rattle.entries.specs.Lookup.{find_in}
use Rattle.bundle.specs.Additions.{done, refused, Added, refuse, succeed, or_refuse, listed, add_plain_to, add_resource, add_overriding_to, add_resource_overriding, add_function_to, add_function, new_bundle}
use Rattle.growth.specs.Items.{at_front, with_item, has_room}
use Rattle.entries.specs.Repeats.{repeats}
use Rattle.bundle.specs.Growth.{Grown, Accepted, AcceptedResource, Founded}
use Rattle.bundle.proofs.Grown.{store_length, octets_drop, grown}

not_done : (r n : ℕ) → refused r ≡ done n → ⊥
not_done r n h = let z : ◌≡◌ {A = ℕ} 0 1 = cc in omega arith

not_refused : (r n : ℕ) → done n ≡ refused r → ⊥
not_refused r n h = let z : ◌≡◌ {A = ℕ} 0 1 = cc in omega arith

-- a test that an accepted addition has passed
passed : (c : Bool) (r : ℕ) (s l : List ℕ) (a : Added) (n : ℕ) → (or_refuse c r s l a).answer ≡ done n → (c ≡ true) × (or_refuse c r s l a ≡ a)
unfolding or_refuse refuse
passed true r s l a n h = (refl, refl)
passed false r s l a n h = absurd (not_done r n h)

-- a refusal at a test, or after it
stopped : (c : Bool) (r : ℕ) (s l : List ℕ) (a : Added) → ((k : ℕ) → a.answer ≡ refused k → a ≡ refuse k s l) → (k : ℕ)
    → (or_refuse c r s l a).answer ≡ refused k → or_refuse c r s l a ≡ refuse k s l
unfolding or_refuse refuse
stopped true r s l a f k h = f k h
stopped false r s l a f k h = let q : r ≡ k = cc in rw q

-- the item's bytes, in a slice that has room for them
accept : (s : List ℕ) → Octets s → (v : Store) (used : ℕ) → store_of s ≡ got v used → (x : Item) → ValidItem x → (b : List ℕ) → enc_item x ≡ b → (k : ℕ)
    → length b ≡ k → has_room (length s) used (length v.items) k ≡ true → Accepted s (with_item s used (length v.items) b) x
accept s oct v used h x ok b e k q room = record {
  store = v;
  used = used;
  stored = h;
  grown = subst (λ (l : List ℕ). Grown s (with_item s used (length v.items) l) v used x) e (grown s oct v used h x ok (rw (e, q) room));
}

id_valid : (i : List ℕ) → is_id i ≡ true → ValidItem (Item.function i)
unfolding is_id ValidItem
id_valid i h = let l : length i ≤ 255 = leb-true _ _ (and_right (eqb (run id_step 0 i) 1) (leb (length i) 255) h) in (omega arith, h)

function_length : (i : List ℕ) → length (3 ∷ enc_function i) ≡ 9 + length i
unfolding enc_function enc_whole enc_str
function_length i =
    let b : List ℕ = to_be 2 (length i) ++ i in
    omega (arith, length-append (to_be 4 (4 + length (1 ∷ 1 ∷ b))) (1 ∷ 1 ∷ b), length_to_be 4 (4 + length (1 ∷ 1 ∷ b)), length-append (to_be 2 (length i)) i, length_to_be 2 (length i))

module _ (s image : List ℕ) (octets : Octets s) (bytes : Octets image) where
  plain : (l : List ℕ) (v : Store) (used : ℕ) (es : List Entry) (e : ℕ) → store_of s ≡ got v used → resource_of image ≡ got es e → (n : ℕ)
      → (add_plain_to s image l (got v used) (got es e)).answer ≡ done n
      → AcceptedResource s image (add_plain_to s image l (got v used) (got es e)).slice Item.plain
  unfolding add_plain_to listed succeed ValidItem enc_item
  plain l v used es e p q n h =
      let room : Bool = has_room (length s) used (length v.items) (1 + length image) in
      let errors : List Error = repeats (find_in v.items) es in
      let s' : List ℕ = with_item s used (length v.items) (1 ∷ image) in
      let fits : Bool = leb (length (enc_errors errors)) (length l) in
      let end : Added = succeed (length errors) s' (at_front (enc_errors errors) l) in
      let a = passed room 6 s l (listed s l errors s') n h in
      let b = passed fits 7 s l end n (ap (λ (x : Added). x.answer) (sym a.1) ∙ h) in
      let y = resource_sound bytes q in
      record {
        entries = es;
        end = e;
        read = q;
        accepted = rw (a.1 ∙ b.1) (accept s octets v used p (Item.plain es) y.0 (1 ∷ image) (ap (λ (t : List ℕ). 1 ∷ t) (sym y.1)) (1 + length image) (omega arith) a.0);
      }

  overrides : (v : Store) (used : ℕ) (es : List Entry) (e : ℕ) → store_of s ≡ got v used → resource_of image ≡ got es e → (n : ℕ)
      → (add_overriding_to s image (got v used) (got es e)).answer ≡ done n
      → AcceptedResource s image (add_overriding_to s image (got v used) (got es e)).slice Item.overriding
  unfolding add_overriding_to succeed ValidItem enc_item
  overrides v used es e p q n h =
      let room : Bool = has_room (length s) used (length v.items) (1 + length image) in
      let a = passed room 6 s [] (succeed 0 (with_item s used (length v.items) (2 ∷ image)) []) n h in
      let y = resource_sound bytes q in
      record {
        entries = es;
        end = e;
        read = q;
        accepted = rw a.1 (accept s octets v used p (Item.overriding es) y.0 (2 ∷ image) (ap (λ (t : List ℕ). 2 ∷ t) (sym y.1)) (1 + length image) (omega arith) a.0);
      }

  -- an accepted plain resource stands behind the other items
  pub resource_accepted : (l : List ℕ) (n : ℕ) → (add_resource s image l).answer ≡ done n
      → AcceptedResource s image (add_resource s image l).slice Item.plain
  unfolding add_resource add_plain_to refuse
  resource_accepted l n = go (store_of s) (resource_of image) refl refl
    where
      go : (g : Got Store) (r : Got (List Entry)) → store_of s ≡ g → resource_of image ≡ r → (add_plain_to s image l g r).answer ≡ done n
          → AcceptedResource s image (add_plain_to s image l g r).slice Item.plain
      go bad r p q h = absurd (not_done 4 n h)
      go (got v used) bad p q h = absurd (not_done 5 n h)
      go (got v used) (got es e) p q h = plain l v used es e p q n h

  -- an accepted overriding resource stands behind the other items
  pub overriding_accepted : (n : ℕ) → (add_resource_overriding s image).answer ≡ done n
      → AcceptedResource s image (add_resource_overriding s image).slice Item.overriding
  unfolding add_resource_overriding add_overriding_to refuse
  overriding_accepted n = go (store_of s) (resource_of image) refl refl
    where
      go : (g : Got Store) (r : Got (List Entry)) → store_of s ≡ g → resource_of image ≡ r → (add_overriding_to s image g r).answer ≡ done n
          → AcceptedResource s image (add_overriding_to s image g r).slice Item.overriding
      go bad r p q h = absurd (not_done 4 n h)
      go (got v used) bad p q h = absurd (not_done 5 n h)
      go (got v used) (got es e) p q h = overrides v used es e p q n h

module _ (s id : List ℕ) (octets : Octets s) (code : ℕ) where
  named : (v : Store) (used : ℕ) → store_of s ≡ got v used → (n : ℕ) → (add_function_to s id code (got v used)).answer ≡ done n
      → Accepted s (add_function_to s id code (got v used)).slice (Item.function id)
  unfolding add_function_to succeed enc_item
  named v used p n h =
      let end : Added = succeed 0 (with_item s used (length v.items) (3 ∷ enc_function id)) [] in
      let last : Added = or_refuse (has_room (length s) used (length v.items) (9 + length id)) 6 s [] end in
      let free : Added = or_refuse (not (is_some (find_in v.items id))) 10 s [] last in
      let known : Added = or_refuse (eqb code 1) 9 s [] free in
      let a = passed (is_id id) 8 s [] known n h in
      let b = passed (eqb code 1) 9 s [] free n (ap (λ (x : Added). x.answer) (sym a.1) ∙ h) in
      let c = passed (not (is_some (find_in v.items id))) 10 s [] last n (ap (λ (x : Added). x.answer) (sym (a.1 ∙ b.1)) ∙ h) in
      let d = passed (has_room (length s) used (length v.items) (9 + length id)) 6 s [] end n (ap (λ (x : Added). x.answer) (sym (a.1 ∙ b.1 ∙ c.1)) ∙ h) in
      rw (a.1 ∙ b.1 ∙ c.1 ∙ d.1) (accept s octets v used p (Item.function id) (id_valid id a.0) (3 ∷ enc_function id) refl (9 + length id) (function_length id) d.0)

  -- an accepted function stands behind the other items
  pub function_accepted : (n : ℕ) → (add_function s id code).answer ≡ done n → Accepted s (add_function s id code).slice (Item.function id)
  unfolding add_function add_function_to refuse
  function_accepted n = go (store_of s) refl
    where
      go : (g : Got Store) → store_of s ≡ g → (add_function_to s id code g).answer ≡ done n
          → Accepted s (add_function_to s id code g).slice (Item.function id)
      go bad p h = absurd (not_done 4 n h)
      go (got v used) p h = named v used p n h

-- a refusal that is met at once, and an end that is none
refuses : (r k : ℕ) (s l : List ℕ) → (refuse r s l).answer ≡ refused k → refuse r s l ≡ refuse k s l
unfolding refuse
refuses r k s l h = let q : r ≡ k = cc in rw q

succeeds : (n : ℕ) (s s' l l' : List ℕ) (k : ℕ) → (succeed n s' l').answer ≡ refused k → succeed n s' l' ≡ refuse k s l
unfolding succeed
succeeds n s s' l l' k h = absurd (not_refused k n h)

founded : (s : List ℕ) → Octets s → (locale isolating : ℕ) → 9 ≤ length s → locale ≤ max_locale
    → Founded s (at_front (enc_store (record { locale = locale; isolating = eqb isolating 1; items = [] })) s) locale isolating
unfolding at_front ValidStore max_store max_items enc_all
founded s oct locale isolating room l =
    let v : Store = record { locale = locale; isolating = eqb isolating 1; items = [] } in
    let n : length (enc_store v) ≡ 9 = store_length v in
    let ok : ValidStore v = (l, tt, omega arith, omega arith) in
    let r : List ℕ = drop (length (enc_store v)) s in
    record {
      reads = store_complete r ok ∙ ap (got v) n;
      size = omega (arith, length-append (enc_store v) r, length-drop (length (enc_store v)) s, n);
      octets = octets_append (enc_store v) r (store_octets v ok) (octets_drop (length (enc_store v)) s oct);
    }

-- a refused addition has changed neither the slice nor the list
pub resource_refused : (s image l : List ℕ) (k : ℕ) → (add_resource s image l).answer ≡ refused k → add_resource s image l ≡ refuse k s l
unfolding add_resource add_plain_to listed
resource_refused s image l k = go (store_of s) (resource_of image)
  where
    go : (g : Got Store) (r : Got (List Entry)) → (add_plain_to s image l g r).answer ≡ refused k → add_plain_to s image l g r ≡ refuse k s l
    go bad r h = refuses 4 k s l h
    go (got v used) bad h = refuses 5 k s l h
    go (got v used) (got es e) h = stopped _ 6 s l _ (λ j g. stopped _ 7 s l _ (λ i f. succeeds _ s _ l _ i f) j g) k h

pub overriding_refused : (s image : List ℕ) (k : ℕ) → (add_resource_overriding s image).answer ≡ refused k
    → add_resource_overriding s image ≡ refuse k s []
unfolding add_resource_overriding add_overriding_to
overriding_refused s image k = go (store_of s) (resource_of image)
  where
    go : (g : Got Store) (r : Got (List Entry)) → (add_overriding_to s image g r).answer ≡ refused k → add_overriding_to s image g r ≡ refuse k s []
    go bad r h = refuses 4 k s [] h
    go (got v used) bad h = refuses 5 k s [] h
    go (got v used) (got es e) h = stopped _ 6 s [] _ (λ i f. succeeds _ s _ [] _ i f) k h

pub function_refused : (s id : List ℕ) (code k : ℕ) → (add_function s id code).answer ≡ refused k → add_function s id code ≡ refuse k s []
unfolding add_function add_function_to
function_refused s id code k = go (store_of s)
  where
    go : (g : Got Store) → (add_function_to s id code g).answer ≡ refused k → add_function_to s id code g ≡ refuse k s []
    go bad h = refuses 4 k s [] h
    go (got v used) h = stopped _ 8 s [] _ (λ k₁ h₁. stopped _ 9 s [] _ (λ k₂ h₂. stopped _ 10 s [] _ (λ k₃ h₃. stopped _ 6 s [] _ (λ k₄ h₄. succeeds _ s _ [] _ k₄ h₄) k₃ h₃) k₂ h₂) k₁ h₁) k h

-- an accepted new bundle is a store with no item
pub new_accepted : (s : List ℕ) → Octets s → (locale isolating n : ℕ) → (new_bundle s locale isolating).answer ≡ done n
    → Founded s (new_bundle s locale isolating).slice locale isolating
unfolding new_bundle succeed
new_accepted s oct locale isolating n h =
    let v : Store = record { locale = locale; isolating = eqb isolating 1; items = [] } in
    let end : Added = succeed 0 (at_front (enc_store v) s) [] in
    let flag : Added = or_refuse (leb isolating 1) 3 s [] end in
    let place : Added = or_refuse (leb locale max_locale) 2 s [] flag in
    let a = passed (leb 9 (length s)) 1 s [] place n h in
    let b = passed (leb locale max_locale) 2 s [] flag n (ap (λ (x : Added). x.answer) (sym a.1) ∙ h) in
    let c = passed (leb isolating 1) 3 s [] end n (ap (λ (x : Added). x.answer) (sym (a.1 ∙ b.1)) ∙ h) in
    rw (a.1 ∙ b.1 ∙ c.1) (founded s oct locale isolating (leb-true 9 (length s) a.0) (leb-true locale max_locale b.0))

-- a refused one has changed nothing
pub new_refused : (s : List ℕ) (locale isolating k : ℕ) → (new_bundle s locale isolating).answer ≡ refused k
    → new_bundle s locale isolating ≡ refuse k s []
unfolding new_bundle
new_refused s locale isolating k h = stopped _ 1 s [] _ (λ k₁ h₁. stopped _ 2 s [] _ (λ k₂ h₂. stopped _ 3 s [] _ (λ k₃ h₃. succeeds _ s _ [] _ k₃ h₃) k₂ h₂) k₁ h₁) k h

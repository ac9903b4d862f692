-- The accepted images that hold one set of names and values are one, and every set within the limits has one.
use mathlib.Core.Path.{◌≡◌, ap, sym, subst, ◌∙◌}
use mathlib.Core.List.{List}
use mathlib.Core.Bool.{true}
use Prim.Native.Nat.{ℕ}
use Rattle.decimals.proofs.Tests.{and_true}
use Rattle.records.specs.Images.{Argument}
use Rattle.records.specs.Encode.{enc_arguments_image}
use Rattle.records.specs.Valid.{ValidArgumentsImage}
use Rattle.layout.specs.Exact.{Octets}
use Rattle.layout.proofs.Images.{arguments_exact}
use Rattle.layout.proofs.Theorems.{arguments_sound, arguments_complete}
use Rattle.order.specs.Accepted.{accepted, judge, ascending, all_least, in_order}
use Rattle.order.specs.Sameness.{SameValue, In, Accepted, Gives, Values, Holds, OneImage, values_in, AnImage}
use Rattle.order.proofs.Accepted.{accepted_one, accepted_read, read_accepted}
use Rattle.order.proofs.Ascending.{least_each, ascending_same}
use Rattle.order.proofs.Least.{least_of, least_one, least_same}
use Rattle.order.proofs.Sorted.{sorted, sorted_has, sorted_only, sorted_in_order}
use Rattle.order.proofs.Allowed.{sorted_allowed}

-- an accepted image's names ascend and its values are least
ordered : (image : List ℕ) (l : List (List ℕ × Argument)) → judge image ≡ accepted l → (ascending l ≡ true) × (all_least l ≡ true)
unfolding in_order
ordered image l h = and_true (ascending l) (all_least l) (accepted_read image l h).2

-- what one accepted image gives, another that holds the same set gives too
module _ (S : Values) (s t : List ℕ) (l k : List (List ℕ × Argument)) (js : judge s ≡ accepted l) (jt : judge t ≡ accepted k) where
  shared : Holds S s → Holds S t → (a : List ℕ × Argument) → In a l → In a k
  unfolding Gives
  shared hs ht a i =
      let o = hs.only a.0 a.1 (l, js, i) in
      let r = ht.all a.0 o.0 o.1 in
      let e : r.1.0 ≡ k = accepted_one r.1.0 k (sym r.1.1 ∙ jt) in
      let j : In (a.0, r.0) k = subst (λ (m : List (List ℕ × Argument)). In (a.0, r.0) m) e r.1.2 in
      let p : a.1 ≡ least_of o.0 = least_one o.0 a.1 (least_each i (ordered s l js).1) o.2 in
      let q : r.0 ≡ least_of o.0 = least_one o.0 r.0 (least_each j (ordered t k jt).1) r.2 in
      subst (λ (w : Argument). In (a.0, w) k) (q ∙ sym p) j

-- an accepted image is the encoding of what it holds
encoded : (image : List ℕ) (l : List (List ℕ × Argument)) → Octets image → judge image ≡ accepted l → image ≡ enc_arguments_image l
encoded image l o h = (arguments_sound o (accepted_read image l h).1).1

-- two accepted images with the same names and values are the same bytes
pub one_image : OneImage
unfolding OneImage Accepted
one_image S s t os ot first second hs ht =
    let l : List (List ℕ × Argument) = first.0 in
    let k : List (List ℕ × Argument) = second.0 in
    let js : judge s ≡ accepted l = first.1 in
    let jt : judge t ≡ accepted k = second.1 in
    let e : l ≡ k = ascending_same l k (ordered s l js).0 (ordered t k jt).0 (shared S s t l k js jt hs ht) (shared S t s k l jt js ht hs) in
    encoded s l os js ∙ ap enc_arguments_image e ∙ sym (encoded t k ot jt)

-- the image of the sorted list holds what the list has, in whatever order it stands
sorted_holds : (l : List (List ℕ × Argument)) (image : List ℕ) → judge image ≡ accepted (sorted l) → Holds (values_in l) image
unfolding values_in Gives
sorted_holds l image h = record {
  all = λ n v i. (least_of v, (sorted l, h, sorted_has n v i), least_same v);
  only = λ n w g.
      let e : g.0 ≡ sorted l = accepted_one g.0 (sorted l) (sym g.1 ∙ h) in
      let r = sorted_only n w l (subst (λ (m : List (List ℕ × Argument)). In (n, w) m) e g.2) in
      (r.0, r.1, subst (λ (u : Argument). SameValue r.0 u) (sym r.2) (least_same r.0));
}

-- every set of names and values within the limits has an accepted image
pub an_image : AnImage
unfolding AnImage Accepted
an_image l h =
    let v : ValidArgumentsImage (sorted l) = sorted_allowed l h in
    let j : judge (enc_arguments_image (sorted l)) ≡ accepted (sorted l) = read_accepted (enc_arguments_image (sorted l)) (sorted l) _ (arguments_complete v) (sorted_in_order l h.once) in
    (enc_arguments_image (sorted l), arguments_exact.octets (sorted l) v, (sorted l, j), sorted_holds l (enc_arguments_image (sorted l)) j)

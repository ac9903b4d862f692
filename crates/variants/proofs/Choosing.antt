-- Where a decoder reads the variants, what is chosen by their outlines is what the definition of resolution chooses.
use Rattle.records.specs.Relations.Answer.{Next}
use Rattle.std.specs.Prelude.{Some, None}
use mathlib.Core.Path.{◌≡◌, refl, ap, sym, subst, ◌∙◌}
use mathlib.Core.List.{List}
use mathlib.Core.Bool.{Bool, true, false}
use mathlib.Core.Option.{Option, none, some}
use Prim.Native.Nat.{ℕ, zero, suc, ◌-◌, ◌≤◌}
use native.Mathlib.Omega.{arith}
use lib.ListN.{length}
use lib.Dec.{eqb}
use Rattle.decimals.specs.Relations.Shown.{shown, told}
use Rattle.numbers.specs.Number.{Number}
use Rattle.numbers.specs.Value.{Value, numeric}
use Rattle.literals.specs.Literal.{is_number}
use Rattle.records.specs.Got.{got, after}
use Rattle.records.specs.Bytes.{part, byte_at, number_at, span_at}
use Rattle.walks.specs.Outline.{sized_at}
use Rattle.records.specs.Tree.{Key, Pattern, Variants, no_variant, or, Variant, variant}
use Rattle.records.specs.Decode.{many, literal_number_at, key_at, pattern_at, variant_at, expression}
use Rattle.records.proofs.Laws.{number_inv, bytes_in}
use Rattle.records.proofs.Local.{local_pattern, local_expression}
use Rattle.records.proofs.Views.{many_cons, many_nil, id_elim, ruled_elim, key_elim, flag_elim, pattern_elim, variant_elim}
use Rattle.records.specs.Optional.{or_else}
use Rattle.resolution.specs.Resolve.{matches, next as after_next, this_or, first_by, has_key, is_default, chosen}
use Rattle.variants.specs.Outline.{Outline, outline, outline_at, variants_at}
use Rattle.variants.specs.Choice.{first_of, key_matches, is_default as default-flag, chosen_at}
use Rattle.variants.specs.Relations.Sought.{pattern_place}
use Rattle.variants.specs.Relations.Pick.{Pick, picked, no_pick, PickAt, nth_of, pattern_of}
use Rattle.variants.proofs.Firsts.{First, FirstAt, first_start, first_end, first_here, first_next, outline_is}
use Rattle.variants.proofs.Keys.{or_false, shown_matches}

-- the key that a kind and a Str from a to e are
data Stands (s : List ℕ) (tag a e : ℕ) (k : Key) : Type 0 where
  stands_name : tag ≡ 1 → k ≡ Key.name (part s a (e - a)) → Stands s tag a e k
  stands_number : tag ≡ 2 → is_number (part s a (e - a)) ≡ true → k ≡ Key.number (part s a (e - a)) → Stands s tag a e k

module _ {C : Type 0} (s : List ℕ) where
  key_reads : (at : ℕ) {k : Key} {e : ℕ} → key_at s at ≡ got k e → ((tag b a : ℕ) → byte_at s at ≡ got tag b → span_at s b ≡ got a e → Stands s tag a e k → C) → C
  unfolding literal_number_at
  key_reads at h c =
      key_elim s at h
      (λ b t hb ht ek. id_elim s b ht (λ a hs et _. c 1 b a hb hs (stands_name refl (ek ∙ ap Key.name et))))
      (λ b t hb ht ek. ruled_elim is_number s b ht (λ a hs et ok. c 2 b a hb hs (stands_number refl (ap is_number (sym et) ∙ ok) (ek ∙ ap Key.number et))))

  -- a pattern is passed by the length that it begins with
  pattern_bytes_law : (d at : ℕ) {y : Pattern} {f : ℕ} → pattern_at (expression d) s at ≡ got y f → ((bs : List ℕ) → sized_at 4 s at ≡ got bs f → C) → C
  unfolding sized_at after
  pattern_bytes_law d at {y} {f} h c =
      pattern_elim (expression d) s at h (λ n b k j es hn _ _ _ ef _.
      let i = number_inv s 4 at hn in let i0 = i.0 in
      let l = local_pattern (local_expression d) in
      let le : f ≤ length s = l.inside s at (omega arith) h in
      c (part s b n) (rw hn (bytes_in s b n (omega arith) ∙ ap (got (part s b n)) (sym ef))))

-- an outline of what a decoder reads: a key that matches the same values, the same Flag, and the pattern
record Mirrors (s : List ℕ) (d : ℕ) (v : Variant) (o : Outline) (f : ℕ) : Type 0 where
  key : (locale : ℕ) (w : Value) → key_matches locale w o ≡ has_key locale w v
  flag : default-flag o ≡ is_default v
  pattern : pattern_at (expression d) s o.pattern ≡ got (pattern_of v) f

key_mirrors : (s : List ℕ) (at tag a e x q : ℕ) (k : Key) (y : Pattern) → Stands s tag a e k → (locale : ℕ) (w : Value) → key_matches locale w (outline at tag (part s a (e - a)) x q) ≡ has_key locale w (variant k (eqb x 1) y)
unfolding key_matches has_key
key_mirrors s at tag a e x q k y (stands_name et ek) locale w = rw (et, ek) (or_false (matches locale (Key.name (part s a (e - a))) w))
key_mirrors s at tag a e x q k y (stands_number et ok ek) locale w = rw (et, ek, ok)

flag_mirrors : (at tag : ℕ) (key : List ℕ) (x q : ℕ) (k : Key) (y : Pattern) → default-flag (outline at tag key x q) ≡ is_default (variant k (eqb x 1) y)
unfolding default-flag is_default
flag_mirrors at tag key x q k y = refl

mirrors_as : (s : List ℕ) (d : ℕ) {v w : Variant} (o : Outline) (f : ℕ) → w ≡ v → Mirrors s d w o f → Mirrors s d v o f
mirrors_as s d o f e m = subst (λ (x : Variant). Mirrors s d x o f) e m

variant_mirrors : {C : Type 0} (s : List ℕ) (d at : ℕ) {v : Variant} {f : ℕ} → variant_at (expression d) s at ≡ got v f → ((o : Outline) → outline_at s at ≡ got o f → Mirrors s d v o f → C) → C
unfolding pattern_of
variant_mirrors {C} s d at {v} {f} h c =
    variant_elim (expression d) s at h (λ k e flag q y hk hd hy ev.
    key_reads s at hk (λ tag b a hb hs st.
    pattern_bytes_law s d q hy (λ bs hp.
    let done : (x : ℕ) → byte_at s e ≡ got x q → flag ≡ eqb x 1 → C =
    λ x hx ed. c (outline at tag (part s a (e - a)) x q) (outline_is s at hb hs hx hp)
    (mirrors_as s d (outline at tag (part s a (e - a)) x q) f (sym (ev ∙ ap (λ (t : Bool). variant k t y) ed))
    (record { key = key_mirrors s at tag a e x q k y st; flag = flag_mirrors at tag (part s a (e - a)) x q k y; pattern = hy })) in
    flag_elim s e hd (λ hx ed. done 0 hx ed) (λ hx ed. done 1 hx ed))))

-- the first that passes a test, by its outline
module _ (s : List ℕ) (d : ℕ) (test : Variant → Bool) (by : Outline → Bool) (agree : (v : Variant) (o : Outline) (f : ℕ) → Mirrors s d v o f → by o ≡ test v) where
  skip_one : (vs : Variants) (v : Variant) (vs' : Variants) (r : Next) → vs ≡ or v vs' → test v ≡ false → Pick s d (first_by test vs') vs' r → Pick s d (first_by test vs) vs r
  unfolding first_by this_or after_next nth_of
  skip_one vs v vs' r w t (picked i q p f er o h hp) = picked (suc i) q p f er (rw (w, t, o)) (rw w h) hp
  skip_one vs v vs' r w t (no_pick er o) = no_pick er (rw (w, t, o))

  take_one : (vs : Variants) (v : Variant) (vs' : Variants) (o : Outline) (f : ℕ) → vs ≡ or v vs' → test v ≡ true → Mirrors s d v o f → Pick s d (first_by test vs) vs (Some o.pattern)
  unfolding first_by this_or nth_of
  take_one vs v vs' o f w t m = picked 0 o.pattern (pattern_of v) f refl (rw (w, t)) (rw w) m.pattern

  place_at : {x : Option Outline} {o : Outline} → x ≡ some o → pattern_place x ≡ Some o.pattern
  unfolding pattern_place
  place_at e = ap pattern_place e

  no_place : {x : Option Outline} → x ≡ none → pattern_place x ≡ None
  unfolding pattern_place
  no_place e = ap pattern_place e

  picks : (n at : ℕ) (vs : Variants) (f : ℕ) → many no_variant or n (variant_at (expression d)) s at ≡ got vs f → Pick s d (first_by test vs) vs (pattern_place (First s by n at))
  unfolding first_by
  picks zero at vs f h = many_nil no_variant or (variant_at (expression d)) s zero at (omega arith) h (λ e _. no_pick (no_place (first_end s by zero at (omega arith))) (rw e))
  picks (suc n) at vs f h =
      let m : suc n - 1 ≡ n = omega arith in
      many_cons no_variant or (variant_at (expression d)) s (suc n) at (omega arith) h (λ v g vs' hv hl w.
      variant_mirrors s d at hv (λ o ho mo.
      go v g vs' w o ho mo (picks n g vs' f (subst (λ (k : ℕ). many no_variant or k (variant_at (expression d)) s g ≡ got vs' f) m hl)) (test v) refl))
    where
      go : (v : Variant) (g : ℕ) (vs' : Variants) → vs ≡ or v vs' → (o : Outline) → outline_at s at ≡ got o g → Mirrors s d v o g → Pick s d (first_by test vs') vs' (pattern_place (First s by n g))
          → (t : Bool) → test v ≡ t → Pick s d (first_by test vs) vs (pattern_place (First s by (suc n) at))
      go v g vs' w o ho mo hl true t =
          subst (λ (r : Next). Pick s d (first_by test vs) vs r) (sym (place_at (first_here s by (suc n) at (omega arith) ho (agree v o g mo ∙ t)))) (take_one vs v vs' o g w t mo)
      go v g vs' w o ho mo hl false t =
          let m : suc n - 1 ≡ n = omega arith in
          let e : First s by (suc n) at ≡ First s by n g = first_next s by (suc n) at (omega arith) ho (agree v o g mo ∙ t) ∙ ap (λ (k : ℕ). First s by k g) m in
          subst (λ (r : Next). Pick s d (first_by test vs) vs r) (ap pattern_place (sym e)) (skip_one vs v vs' (pattern_place (First s by n g)) w t hl)

  picks_at : (at k c : ℕ) (vs : Variants) (f : ℕ) → number_at 2 s at ≡ got k c → many no_variant or k (variant_at (expression d)) s c ≡ got vs f → Pick s d (first_by test vs) vs (pattern_place (FirstAt s by at))
  picks_at at k c vs f hk hv = subst (λ (x : Option Outline). Pick s d (first_by test vs) vs (pattern_place x)) (sym (first_start s by at hk)) (picks k c vs f hv)

-- the first default
pub default_picks : (s : List ℕ) (at : ℕ) → PickAt s at (first_by is_default) (pattern_place (first_of default-flag (variants_at s at)))
default_picks s at d k c vs f hk hv = picks_at s d is_default default-flag (λ v o g m. m.flag) at k c vs f hk hv

-- the first whose key matches, or the first default
pub chosen_picks : (s : List ℕ) (at locale : ℕ) (v : Value) → PickAt s at (chosen locale v) (pattern_place (chosen_at locale v s at))
unfolding chosen chosen_at or_else pattern_place
chosen_picks s at locale v d k c vs f hk hv = go (FirstAt s (key_matches locale v) at) refl (picks_at s d (has_key locale v) (key_matches locale v) (λ x o g m. m.key locale v) at k c vs f hk hv)
  where
    go : (x : Option Outline) → FirstAt s (key_matches locale v) at ≡ x → Pick s d (first_by (has_key locale v) vs) vs (pattern_place x)
        → Pick s d (or_else (first_by (has_key locale v) vs) (first_by is_default vs)) vs (pattern_place (or_else (FirstAt s (key_matches locale v) at) (first_of default-flag (variants_at s at))))
    go none e (picked i q p g er o hn hp) = let z : ◌≡◌ {A = ℕ} 0 1 = cc in absurd (omega arith)
    go none e (no_pick er o) = rw (e, o) (default_picks s at d k c vs f hk hv)
    go (some x) e (picked i q p g er o hn hp) = picked i q p g (rw e er) (rw o) hn hp
    go (some x) e (no_pick er o) = let z : ◌≡◌ {A = ℕ} 0 1 = cc in absurd (omega arith)

-- what the code shows of a number chooses as the number does
shown_first : (locale : ℕ) (x : Number) (vs : Variants) → first_by (has_key locale (numeric (told (shown x)))) vs ≡ first_by (has_key locale (numeric x)) vs
unfolding first_by has_key
shown_first locale x no_variant = refl
shown_first locale x (or (variant k d p) vs) = rw (shown_matches locale k x, shown_first locale x vs)

pub shown_chosen : (locale : ℕ) (x : Number) (vs : Variants) → chosen locale (numeric (told (shown x))) vs ≡ chosen locale (numeric x) vs
unfolding chosen
shown_chosen locale x vs = ap (λ (o : Option ℕ). or_else o (first_by is_default vs)) (shown_first locale x vs)

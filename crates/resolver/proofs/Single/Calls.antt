-- Laws of a call of NUMBER: its named arguments merged in order, and its result.
use mathlib.Core.Path.{◌≡◌, refl, ap, sym, subst, ◌∙◌}
use mathlib.Core.List.{List, [], ◌∷◌}
use mathlib.Core.Bool.{true, false}
use Prim.Native.Nat.{ℕ, ◌-◌, ◌≤◌, ◌<◌}
use native.Mathlib.Omega.{arith}
use lib.ListN.{length}
use Rattle.decimals.specs.Decimal.{Options}
use Rattle.literals.specs.Literal.{literal}
use Rattle.numbers.specs.Value.{Value, textual, numeric, merge_one, merge_text}
use Rattle.decimals.specs.Relations.Shown.{shown_options, told_options, told}
use Rattle.literals.specs.Relations.Shown.{literal_of}
use Rattle.numbers.specs.Relations.Shown.{merged_of, too_long_error}
use Rattle.std.specs.Prelude as rust
use Rattle.std.specs.Prelude.{Some, None, Ok, Err}
use Rattle.decimals.specs.declared.types.Number as CodeNumber
use Rattle.decimals.specs.declared.types.Options as CodeOptions
use Rattle.numbers.specs.declared.merge.TooLong.{TooLong}
use Rattle.unescape.specs.Unescape.{unescape, has_backslash}
use Rattle.unescape.proofs.Reading.{unescape_plain}
use Rattle.arguments.specs.Relations.Given.{between}
use Rattle.arguments.proofs.Laws.{between_in}
use Rattle.records.specs.Got.{got}
use Rattle.records.specs.Bytes.{part}
use Rattle.records.specs.Tree.{Literal, Named}
use Rattle.records.specs.Decode.{many, named_at}
use Rattle.records.proofs.Views.{many_nil}
use Rattle.resolver.specs.declared.scope.value.NamedSpan.{NamedSpan}
use Rattle.resolver.specs.Relations.Meets.{takes, literal_text, named_texts, TextIn, NamedIn}
use Rattle.resolver.specs.Relations.Values.{LiteralIs, a_string, is_digits, NamedReads, TakenAt, MergedAt, merged_all}
use Rattle.resolver.proofs.Single.Values.{takes_marked, text_of, named_first, named_never}
use Rattle.resolver.proofs.Single.Named.{text_string, text_number, named_uncons}
use Rattle.resolver.proofs.Single.Merges.{merge_text_is, merge_number_is, literal_is, literal_bad, all_long, all_next}

-- one option merged, by its literal
module _ (s w : List ℕ) (from to tag a e base : ℕ) (o : CodeOptions.Options) where
  merge_digits_bad_part : {r : rust.Result CodeOptions.Options TooLong} {l : rust.Option CodeNumber.Number} → tag ≡ 2 → l ≡ literal_of (part s a (e - a)) → l ≡ None → MergedAt s w from to tag a e base o r
  merge_digits_bad_part i h b x p (a_string t _) f g q k tk bw tx eo = absurd (omega arith)
  merge_digits_bad_part i h b x p (is_digits t ok _) f g q k tk bw tx eo = literal_bad _ ok h b

  merge_digits_part : {r : rust.Result CodeOptions.Options TooLong} {l : rust.Option CodeNumber.Number} {n : CodeNumber.Number} → tag ≡ 2 → l ≡ literal_of (part s a (e - a)) → l ≡ Some n
      → r ≡ merged_of (part s from (to - from)) (numeric (told n)) (told_options o) → MergedAt s w from to tag a e base o r
  merge_digits_part i h b er x p (a_string t _) f g q k tk bw tx eo = absurd (omega arith)
  merge_digits_part i h b er x p (is_digits t ok wx) f g q k tk bw tx eo = merge_number_is (part s from (to - from)) (literal (part s a (e - a))) p eo (ap literal_text wx ∙ text_number _) (literal_is _ ok h b) er

  module _ (nt : tag ≡ 2 → ⊥) where
    merge_plain_part : {m : CodeOptions.Options} → has_backslash (part s a (e - a)) ≡ false → m ≡ shown_options (merge_text (part s from (to - from)) (part s a (e - a)) (told_options o)) → MergedAt s w from to tag a e base o (Ok m)
    merge_plain_part h em x p (is_digits t _ _) f g q k tk bw tx eo = absurd (nt t)
    merge_plain_part h em x p (a_string t wx) f g q k tk bw tx eo = merge_text_is (part s from (to - from)) (part s a (e - a)) p eo (ap literal_text wx ∙ text_string _ ∙ ap textual (unescape_plain _ h)) em

    module _ (h : has_backslash (part s a (e - a)) ≡ true) {n : ℕ} (en : n ≡ length (unescape (part s a (e - a)))) where
      merge_short_part : {r : rust.Result CodeOptions.Options TooLong} → base < n → MergedAt s w from to tag a e base o r
      merge_short_part z x p (is_digits t _ _) f g q k tk bw tx eo = absurd (nt t)
      merge_short_part z x p (a_string t wx) f g q k tk bw tx eo = let y = ap takes wx ∙ takes_marked _ h in absurd (omega arith)

      merge_marked_part : {m : CodeOptions.Options} → m ≡ shown_options (merge_text (part s from (to - from)) (part w (base - n) (base - (base - n))) (told_options o)) → MergedAt s w from to tag a e base o (Ok m)
      merge_marked_part em x p (is_digits t _ _) f g q k tk bw tx eo = absurd (nt t)
      merge_marked_part {m} em x p (a_string t wx) f g q k tk bw tx eo =
          let y = ap takes wx ∙ takes_marked _ h in
          let c : base - (base - n) ≡ n = omega arith in
          let d = text_of w base (part s a (e - a)) h (subst (TextIn w base) wx tx) in
          let b : part w (base - n) (base - (base - n)) ≡ unescape (part s a (e - a)) = ap (part w (base - n)) c ∙ ap (λ (j : ℕ). part w (base - j) j) en ∙ d in
          merge_text_is (part s from (to - from)) (unescape (part s a (e - a))) p eo (ap literal_text wx ∙ text_string _)
          (subst (λ (u : List ℕ). m ≡ shown_options (merge_text (part s from (to - from)) u (told_options o))) b em)

-- the same of parts of the store, if they are so
module _ (s w : List ℕ) (from to tag a e base : ℕ) (o : CodeOptions.Options) {n t : List ℕ} (en : n ≡ between s from to) (et : t ≡ between s a e) where
  pub merge_digits_bad : {r : rust.Result CodeOptions.Options TooLong} {l : rust.Option CodeNumber.Number} → tag ≡ 2 → l ≡ literal_of t → l ≡ None → MergedAt s w from to tag a e base o r
  merge_digits_bad {l = l} i h b x p li f g q k = merge_digits_bad_part s w from to tag a e base o i (subst (λ (m : List ℕ). l ≡ literal_of m) (et ∙ between_in s a e q k) h) b x p li f g q k

  pub merge_digits : {r : rust.Result CodeOptions.Options TooLong} {l : rust.Option CodeNumber.Number} {m : CodeNumber.Number} → tag ≡ 2 → l ≡ literal_of t → l ≡ Some m
      → r ≡ merged_of n (numeric (told m)) (told_options o) → MergedAt s w from to tag a e base o r
  merge_digits {r} {l} {m} i h b er x p li f g q k =
      merge_digits_part s w from to tag a e base o i (subst (λ (y : List ℕ). l ≡ literal_of y) (et ∙ between_in s a e q k) h) b
      (subst (λ (y : List ℕ). r ≡ merged_of y (numeric (told m)) (told_options o)) (en ∙ between_in s from to f g) er) x p li f g q k

  module _ (nt : tag ≡ 2 → ⊥) where
    pub merge_plain : {m : CodeOptions.Options} → has_backslash t ≡ false → m ≡ shown_options (merge_text n t (told_options o)) → MergedAt s w from to tag a e base o (Ok m)
    merge_plain {m} h em x p li f g q k =
        let y = en ∙ between_in s from to f g in
        let z = et ∙ between_in s a e q k in
        merge_plain_part s w from to tag a e base o nt (subst (λ (b : List ℕ). has_backslash b ≡ false) z h)
        (subst (λ (b : List ℕ). m ≡ shown_options (merge_text b (part s a (e - a)) (told_options o))) y (subst (λ (b : List ℕ). m ≡ shown_options (merge_text n b (told_options o))) z em)) x p li f g q k

    module _ (h : has_backslash t ≡ true) {c : ℕ} (ec : c ≡ length (unescape t)) where
      pub merge_short : {r : rust.Result CodeOptions.Options TooLong} → base < c → MergedAt s w from to tag a e base o r
      merge_short z x p li f g q k =
          let y = et ∙ between_in s a e q k in
          merge_short_part s w from to tag a e base o nt (subst (λ (b : List ℕ). has_backslash b ≡ true) y h) (subst (λ (b : List ℕ). c ≡ length (unescape b)) y ec) z x p li f g q k

      pub merge_marked : {m : CodeOptions.Options} {u : List ℕ} → u ≡ between w (base - c) base → m ≡ shown_options (merge_text n u (told_options o)) → MergedAt s w from to tag a e base o (Ok m)
      merge_marked {m} {u} eu em x p li f g q k tk bw =
          let y = et ∙ between_in s a e q k in
          let j = en ∙ between_in s from to f g in
          let v : u ≡ part w (base - c) (base - (base - c)) = eu ∙ between_in w (base - c) base (omega arith) bw in
          merge_marked_part s w from to tag a e base o nt (subst (λ (b : List ℕ). has_backslash b ≡ true) y h) (subst (λ (b : List ℕ). c ≡ length (unescape b)) y ec)
          (subst (λ (b : List ℕ). m ≡ shown_options (merge_text b (part w (base - c) (base - (base - c))) (told_options o))) j (subst (λ (b : List ℕ). m ≡ shown_options (merge_text n b (told_options o))) v em)) x p li f g q k tk bw

-- the options merged so far, and the named arguments that are left
pub record Merging (s w : List ℕ) (low f i p end : ℕ) (o : CodeOptions.Options) (whole : rust.Result CodeOptions.Options TooLong) : Type 0 where
  pub rest : Named
  pub so_far : Options
  pub left : many [] ◌∷◌ i named_at s p ≡ got rest f
  pub texts : NamedIn w low end rest
  pub here : o ≡ shown_options so_far
  pub same : whole ≡ merged_all (named_texts rest) so_far

all_nil : (o : Options) → merged_all (named_texts []) o ≡ Ok (shown_options o)
unfolding merged_all named_texts
all_nil o = refl

texts_cons : (x : List ℕ × Literal) (l : Named) → named_texts (x ∷ l) ≡ (x.0, literal_text x.1) ∷ named_texts l
unfolding named_texts
texts_cons x l = refl

module _ {s w : List ℕ} {low f i p end : ℕ} {o : CodeOptions.Options} {whole : rust.Result CodeOptions.Options TooLong} (k : Merging s w low f i p end o whole) where
  pub merging_end : i ≤ 0 → Ok o ≡ whole
  merging_end z = many_nil [] ◌∷◌ named_at s i p z k.left (λ e _. ap Ok k.here ∙ sym (k.same ∙ ap (λ (l : Named). merged_all (named_texts l) k.so_far) e ∙ all_nil k.so_far))

  module _ {r : rust.Option NamedSpan} (z : 0 < i) (read : NamedReads s p r) where
    pub merging_never : {C : Type 0} → r ≡ rust.None → C
    merging_never h = named_never s p read i z k.left h

    module _ {sp : NamedSpan} (h : r ≡ rust.Some sp) {g : rust.Result CodeOptions.Options TooLong} (one : MergedAt s w sp.from sp.to sp.tag sp.start sp.end end o g) where
      merging_with : {C : Type 0} → ((x : List ℕ × Literal) (t : Named) → LiteralIs s sp.tag sp.start sp.end x.1 → many [] ◌∷◌ (i - 1) named_at s sp.end ≡ got t f → NamedIn w low end (x ∷ t)
          → g ≡ merged_of x.0 (literal_text x.1) k.so_far → whole ≡ merged_all ((x.0, literal_text x.1) ∷ named_texts t) k.so_far → C) → C
      merging_with c = named_first s p read i z k.left h (λ x t en li ht e.
          let q = read.inside sp h in
          let ni = subst (NamedIn w low end) e k.texts in
          let u = named_uncons ni in
          c x t li ht ni (one x.1 k.so_far li q.0 q.1 q.2 q.3 u.0 u.1 u.2 k.here ∙ ap (λ (b : List ℕ). merged_of b (literal_text x.1) k.so_far) (sym en))
          (k.same ∙ ap (λ (l : Named). merged_all (named_texts l) k.so_far) e ∙ ap (λ (l : List (List ℕ × Value)). merged_all l k.so_far) (texts_cons x t)))

      pub merging_long : g ≡ Err too_long_error → Err too_long_error ≡ whole
      merging_long eg = merging_with (λ x t li ht ni eo es. sym (es ∙ all_long x.0 (literal_text x.1) (named_texts t) k.so_far (sym eo ∙ eg)))

      module _ {n : ℕ} (tk : TakenAt s sp.tag sp.start sp.end n) where
        pub merging_room : n ≤ end
        merging_room = merging_with (λ x t li ht ni eo es.
            let q = (named_uncons ni).0 in
            let j = read.inside sp h in
            let y = tk x.1 li j.2 j.3 in
            omega arith)

        pub merging_next : {m : CodeOptions.Options} → g ≡ Ok m → Merging s w low f (i - 1) sp.end (end - n) m whole
        merging_next {m} eg = merging_with (λ x t li ht ni eo es.
            let q = named_uncons ni in
            let j = read.inside sp h in
            let y = tk x.1 li j.2 j.3 in
            let a = all_next x.0 (literal_text x.1) (named_texts t) k.so_far (sym eo ∙ eg) in
            record {
              rest = t;
              so_far = merge_one x.0 (literal_text x.1) k.so_far;
              left = ht;
              texts = subst (λ (j : ℕ). NamedIn w low (end - j) t) (sym y) q.3;
              here = a.0;
              same = es ∙ a.1;
            })

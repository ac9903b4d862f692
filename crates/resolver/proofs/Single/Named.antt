-- Laws of named arguments: where one stands, and which is found.
use mathlib.Core.Path.{◌≡◌, refl, ap, sym, subst, ◌∙◌}
use mathlib.Core.List.{List, [], ◌∷◌}
use mathlib.Core.Bool.{true, false}
use mathlib.Core.Option.{Option, none, some}
use Prim.Native.Nat.{ℕ, ◌-◌, ◌≤◌, ◌<◌}
use native.Mathlib.Omega.{arith}
use lib.ListN.{length}
use Rattle.numbers.specs.Number.{literal, is_number}
use Rattle.numbers.specs.Value.{Value, textual, numeric}
use Rattle.decimals.specs.Relations.Shown.{shown}
use Rattle.unescape.specs.Unescape.{unescape, has_backslash}
use Rattle.unescape.proofs.Reading.{unescape_plain}
use Rattle.records.specs.Got.{got, bad}
use Rattle.records.specs.Bytes.{part, byte_at, span_at}
use Rattle.rules.specs.Rules.{is_string}
use Rattle.decimals.specs.Bytes.{same_bytes}
use Rattle.records.specs.Tree.{Literal, Named}
use Rattle.records.specs.Decode.{many, named_at, literal_at, string_at, literal_number_at}
use Rattle.records.proofs.Laws.{span_in}
use Rattle.records.proofs.First.{named_here, named_past}
use Rattle.records.proofs.Views.{both, never, ruled_elim, id_elim, literal_elim, named_elim, many_nil}
use Rattle.resolution.specs.Effect.{Bytes}
use Rattle.records.specs.Names.{first_named}
use Rattle.literals.specs.Relations.Shown.{literal_of}
use Rattle.arguments.specs.Relations.Given.{between}
use Rattle.arguments.proofs.Laws.{between_in}
use Rattle.values.specs.declared.Value as CodeValue
use Rattle.values.specs.declared.Value.TheVariants as val
use Rattle.std.specs.Prelude as rust
use Rattle.resolver.specs.declared.scope.value.NamedSpan.{NamedSpan}
use Rattle.resolver.specs.Relations.Meets.{takes, literal_text, named_texts, TextIn, NamedIn, named_more, in_store, in_work, a_number}
use Rattle.resolver.specs.Relations.Leaves.{LocalIs, is_there, is_missing}
use Rattle.resolver.specs.Relations.Values.{literal_valued, LiteralIs, a_string, is_digits, NamedReads, TakenAt, LiteralAt}
use Rattle.resolver.proofs.Single.Locals.{named_low}
use Rattle.literals.proofs.Ranged.{literal_ranged}
use Rattle.resolver.proofs.Single.Values.{takes_plain, takes_marked, text_of, named_first, named_never}

string_ruled : {C : Type 0} (s : List ℕ) (at : ℕ) {t : List ℕ} {e : ℕ} → string_at s at ≡ got t e → ((p : ℕ) → span_at s at ≡ got p e → t ≡ part s p (e - p) → is_string t ≡ true → C) → C
unfolding string_at
string_ruled s at h c = ruled_elim is_string s at h c

number_ruled : {C : Type 0} (s : List ℕ) (at : ℕ) {t : List ℕ} {e : ℕ} → literal_number_at s at ≡ got t e → ((p : ℕ) → span_at s at ≡ got p e → t ≡ part s p (e - p) → is_number t ≡ true → C) → C
unfolding literal_number_at
number_ruled s at h c = ruled_elim is_number s at h c

-- reading a named argument
module _ (s : List ℕ) (at : ℕ) where
  unread_as : ((x : List ℕ × Literal) (f : ℕ) → named_at s at ≡ got x f → ⊥) → NamedReads s at rust.None
  unread_as h = record {
    inside = λ n q. let z : ◌≡◌ {A = ℕ} 0 1 = cc in absurd (omega arith);
    reads = λ n q. let z : ◌≡◌ {A = ℕ} 0 1 = cc in absurd (omega arith);
    unread = λ _. h;
  }

  pub read_no_name : span_at s at ≡ bad → NamedReads s at rust.None
  read_no_name g = unread_as (λ x f h. named_elim s at h (λ n p l hn hl w. id_elim s at hn (λ q hs _ _. never g hs)))

  module _ {b q : ℕ} (hn : span_at s at ≡ got b q) where
    -- the name and the literal that the definition reads
    named_parts : {C : Type 0} {x : List ℕ × Literal} {f : ℕ} → named_at s at ≡ got x f → (x.0 ≡ part s b (q - b) → literal_at s q ≡ got x.1 f → C) → C
    named_parts {x = x} {f = f} h c = named_elim s at h (λ n p l hi hl w. id_elim s at hi (λ b' hs en _. both hn hs (λ eb eq.
        c (ap (λ (y : List ℕ × Literal). y.0) w ∙ en ∙ ap (λ (j : ℕ). part s j (p - j)) (sym eb) ∙ ap (λ (j : ℕ). part s b (j - b)) (sym eq))
        (subst (λ (j : ℕ). literal_at s j ≡ got x.1 f) (sym eq) (hl ∙ ap (λ (y : List ℕ × Literal). got y.1 f) (sym w))))))

    pub read_no_tag : byte_at s q ≡ bad → NamedReads s at rust.None
    read_no_tag g = unread_as (λ x f h. named_parts h (λ _ hl. literal_elim s q hl (λ p t hb _ _. never g hb) (λ p t hb _ _. never g hb)))

    module _ {tag p : ℕ} (hb : byte_at s q ≡ got tag p) where
      pub read_no_text : span_at s p ≡ bad → NamedReads s at rust.None
      read_no_text g = unread_as (λ x f h. named_parts h (λ _ hl. literal_elim s q hl
          (λ p' t hb' ht _. both hb hb' (λ _ ep. string_ruled s p' ht (λ a hs _ _. never (ap (span_at s) (sym ep) ∙ g) hs)))
          (λ p' t hb' ht _. both hb hb' (λ _ ep. number_ruled s p' ht (λ a hs _ _. never (ap (span_at s) (sym ep) ∙ g) hs)))))

      module _ {a e : ℕ} (ht : span_at s p ≡ got a e) where
        read_span : (x : List ℕ × Literal) (f : ℕ) → named_at s at ≡ got x f → (x.0 ≡ part s b (q - b)) × (f ≡ e) × LiteralIs s tag a e x.1
        read_span x f h = named_parts h (λ en hl. literal_elim s q hl
            (λ p' t hb' hs w. both hb hb' (λ et ep. string_ruled s p' hs (λ a' hp ew _. both ht (ap (span_at s) ep ∙ hp) (λ ea ee.
            (en, sym ee, a_string et (w ∙ ap Literal.string (ew ∙ ap (λ (j : ℕ). part s j (f - j)) (sym ea) ∙ ap (λ (j : ℕ). part s a (j - a)) (sym ee))))))))
            (λ p' t hb' hs w. both hb hb' (λ et ep. number_ruled s p' hs (λ a' hp ew ok. both ht (ap (span_at s) ep ∙ hp) (λ ea ee.
            let y : t ≡ part s a (e - a) = ew ∙ ap (λ (j : ℕ). part s j (f - j)) (sym ea) ∙ ap (λ (j : ℕ). part s a (j - a)) (sym ee) in
            (en, sym ee, is_digits et (ap is_number (sym y) ∙ ok) (w ∙ ap Literal.number y)))))))

        pub read_all : {r : NamedSpan} → r ≡ record { from = b; to = q; tag = tag; start = a; end = e } → NamedReads s at (rust.Some r)
        read_all {r} er =
            let i = span_in s at hn in
            let j = span_in s p ht in
            record {
              inside = λ n h. let w : record { from = b; to = q; tag = tag; start = a; end = e } ≡ n = sym er ∙ same h in subst (λ (m : NamedSpan). (m.from ≤ m.to) × (m.to ≤ length s) × (m.start ≤ m.end) × (m.end ≤ length s)) w (i.0, i.1, j.0, j.1);
              reads = λ n h x f hx. let w : record { from = b; to = q; tag = tag; start = a; end = e } ≡ n = sym er ∙ same h in subst (λ (m : NamedSpan). (x.0 ≡ part s m.from (m.to - m.from)) × (f ≡ m.end) × LiteralIs s m.tag m.start m.end x.1) w (read_span x f hx);
              unread = λ h. let z : ◌≡◌ {A = ℕ} 0 1 = cc in absurd (omega arith);
            }
          where
            same : {m n : NamedSpan} → rust.Some m ≡ rust.Some n → m ≡ n
            same h = cc

-- the bytes that a literal takes
module _ (s : List ℕ) (tag a e : ℕ) where
  pub taken_digits : (tag ≡ 1 → ⊥) → TakenAt s tag a e 0
  unfolding takes
  taken_digits h x (a_string t _) p q = absurd (h t)
  taken_digits h x (is_digits t _ w) p q = sym (ap takes w)

  pub taken_out : {r : ℕ} → (a ≤ e → e ≤ length s → ⊥) → TakenAt s tag a e r
  taken_out h x l p q = absurd (h p q)

  pub taken_plain : tag ≡ 1 → has_backslash (part s a (e - a)) ≡ false → TakenAt s tag a e 0
  taken_plain i h x (a_string t w) p q = sym (ap takes w ∙ takes_plain _ h)
  taken_plain i h x (is_digits t _ w) p q = absurd (omega arith)

  pub taken_marked : {r : ℕ} → tag ≡ 1 → has_backslash (part s a (e - a)) ≡ true → r ≡ length (unescape (part s a (e - a))) → TakenAt s tag a e r
  taken_marked i h r x (a_string t w) p q = r ∙ sym (ap takes w ∙ takes_marked _ h)
  taken_marked i h r x (is_digits t _ w) p q = absurd (omega arith)

-- the value of a number literal that stands in the store
pub literal_number_is : (s : List ℕ) (a e : ℕ) {r : CodeValue.Value} → r ≡ literal_valued (literal_of (between s a e)) → a ≤ e → e ≤ length s → is_number (part s a (e - a)) ≡ true → r ≡ val.Number (shown (literal (part s a (e - a))))
unfolding literal_valued literal_of
literal_number_is s a e er lo hi ok = er ∙ ap (λ (t : List ℕ). literal_valued (literal_of t)) (between_in s a e lo hi) ∙ rw (ok, literal_of)

-- the value of a literal
pub text_string : (t : Bytes) → literal_text (Literal.string t) ≡ textual (unescape t)
unfolding literal_text
text_string t = refl

pub text_number : (t : Bytes) → literal_text (Literal.number t) ≡ numeric (literal t)
unfolding literal_text
text_number t = refl

module _ (s : List ℕ) (tag a e base : ℕ) where
  pub literal_digits_at : {r : CodeValue.Value} → tag ≡ 2 → (a ≤ e → e ≤ length s → is_number (part s a (e - a)) ≡ true → r ≡ val.Number (shown (literal (part s a (e - a))))) → LiteralAt s tag a e base r
  literal_digits_at i h x (a_string t _) p q args w low lo tk bw tx = absurd (omega arith)
  literal_digits_at i h x (is_digits t ok wx) p q args w low lo tk bw tx = a_number (literal (part s a (e - a))) (h p q ok) (literal_ranged _ ok) (ap literal_text wx ∙ text_number _)

  pub literal_out : {r : CodeValue.Value} → (a ≤ e → e ≤ length s → ⊥) → LiteralAt s tag a e base r
  literal_out h x l p q = absurd (h p q)

  pub literal_plain : (tag ≡ 2 → ⊥) → has_backslash (part s a (e - a)) ≡ false → LiteralAt s tag a e base (val.Store a e)
  literal_plain n h x (is_digits t _ _) p q args w low lo tk bw tx = absurd (n t)
  literal_plain n h x (a_string t wx) p q args w low lo tk bw tx = in_store a e refl p q (ap literal_text wx ∙ text_string _ ∙ ap textual (unescape_plain _ h))

  module _ (n : tag ≡ 2 → ⊥) (h : has_backslash (part s a (e - a)) ≡ true) {k : ℕ} (ek : k ≡ length (unescape (part s a (e - a)))) where
    pub literal_short : {r : CodeValue.Value} → base < k → LiteralAt s tag a e base r
    literal_short z x (is_digits t _ _) p q args w low lo tk bw tx = absurd (n t)
    literal_short z x (a_string t wx) p q args w low lo tk bw tx = let y = ap takes wx ∙ takes_marked _ h in absurd (omega arith)

    pub literal_marked : LiteralAt s tag a e base (val.Work (base - k) base)
    literal_marked x (is_digits t _ _) p q args w low lo tk bw tx = absurd (n t)
    literal_marked x (a_string t wx) p q args w low lo tk bw tx =
        let y = ap takes wx ∙ takes_marked _ h in
        let o = text_of w base (part s a (e - a)) h (subst (TextIn w base) wx tx) in
        let m : base - (base - k) ≡ k = omega arith in
        in_work (base - k) base refl (omega arith) (omega arith) bw
        (ap literal_text wx ∙ text_string _ ∙ ap textual (sym (ap (part w (base - k)) m ∙ ap (λ (j : ℕ). part w (base - j) j) ek ∙ o)))

-- the first of named texts
pub named_uncons : {w : List ℕ} {low base : ℕ} {x : List ℕ × Literal} {l : Named} → NamedIn w low base (x ∷ l) → (takes x.1 ≤ base) × (base ≤ length w) × TextIn w base x.1 × NamedIn w low (base - takes x.1) l
named_uncons (named_more t b x r) = (t, b, x, r)

-- the search for a name: the named arguments that are left have it as all of them do
pub record Seeks (s a w : List ℕ) (low f : ℕ) (name : Bytes) (i p end : ℕ) (whole : Option Value) : Type 0 where
  pub rest : Named
  pub left : many [] ◌∷◌ i named_at s p ≡ got rest f
  pub texts : NamedIn w low end rest
  pub same : whole ≡ first_named name (named_texts rest)

seek_nil : (name : Bytes) → first_named name (named_texts []) ≡ none
unfolding first_named named_texts
seek_nil name = refl

module _ (name : Bytes) (x : List ℕ × Literal) (l : Named) where
  seek_first : same_bytes x.0 name ≡ true → first_named name (named_texts (x ∷ l)) ≡ some (literal_text x.1)
  unfolding named_texts
  seek_first h = named_here name (x.0, literal_text x.1) (named_texts l) h

  seek_past : same_bytes x.0 name ≡ false → first_named name (named_texts (x ∷ l)) ≡ first_named name (named_texts l)
  unfolding named_texts
  seek_past h = named_past name (x.0, literal_text x.1) (named_texts l) h

pub seek_start : {s : List ℕ} (a : List ℕ) {w : List ℕ} {low f : ℕ} (name : Bytes) {count at base : ℕ} {ns : Named} → many [] ◌∷◌ count named_at s at ≡ got ns f → NamedIn w low base ns
    → Seeks s a w low f name count at base (first_named name (named_texts ns))
seek_start a name {ns = ns} h n = record { rest = ns; left = h; texts = n; same = refl }

module _ {s a w : List ℕ} {low f : ℕ} {name : Bytes} {i p end : ℕ} {whole : Option Value} (k : Seeks s a w low f name i p end whole) where
  pub seek_end : i ≤ 0 → {found : rust.Option CodeValue.Value} → found ≡ rust.None → LocalIs s a w low found whole
  seek_end z q = many_nil [] ◌∷◌ named_at s i p z k.left (λ e _. is_missing q (k.same ∙ ap (λ (l : Named). first_named name (named_texts l)) e ∙ seek_nil name))

  module _ {r : rust.Option NamedSpan} (z : 0 < i) (read : NamedReads s p r) where
    pub seek_never : {C : Type 0} → r ≡ rust.None → C
    seek_never h = named_never s p read i z k.left h

    module _ {sp : NamedSpan} (h : r ≡ rust.Some sp) where
      seek_with : {C : Type 0} → ((x : List ℕ × Literal) (t : Named) → x.0 ≡ part s sp.from (sp.to - sp.from) → LiteralIs s sp.tag sp.start sp.end x.1 → many [] ◌∷◌ (i - 1) named_at s sp.end ≡ got t f
          → NamedIn w low end (x ∷ t) → whole ≡ first_named name (named_texts (x ∷ t)) → C) → C
      seek_with c = named_first s p read i z k.left h (λ x t en li ht e.
          c x t en li ht (subst (NamedIn w low end) e k.texts) (k.same ∙ ap (λ (l : Named). first_named name (named_texts l)) e))

      pub seek_here : {found : rust.Option CodeValue.Value} {c : CodeValue.Value} → same_bytes (part s sp.from (sp.to - sp.from)) name ≡ true → LiteralAt s sp.tag sp.start sp.end end c → found ≡ rust.Some c
          → LocalIs s a w low found whole
      seek_here {found} {c} yt la ef = seek_with (λ x t en li ht ni same.
          let q = named_uncons ni in
          let j = read.inside sp h in
          let lo = named_low q.3 in
          is_there c (literal_text x.1) ef (same ∙ seek_first name x t (ap (λ (b : Bytes). same_bytes b name) en ∙ yt)) (la x.1 li j.2 j.3 a w low lo q.0 q.1 q.2))

      module _ {n : ℕ} (tk : TakenAt s sp.tag sp.start sp.end n) where
        taken_is : (x : List ℕ × Literal) → LiteralIs s sp.tag sp.start sp.end x.1 → n ≡ takes x.1
        taken_is x li = let q = read.inside sp h in tk x.1 li q.2 q.3

        pub seek_room : n ≤ end
        seek_room = seek_with (λ x t en li ht ni same. let q = (named_uncons ni).0 in let e = taken_is x li in omega arith)

        pub seek_later : same_bytes (part s sp.from (sp.to - sp.from)) name ≡ false → Seeks s a w low f name (i - 1) sp.end (end - n) whole
        seek_later nt = seek_with (λ x t en li ht ni same.
            let q = named_uncons ni in
            record {
              rest = t;
              left = ht;
              texts = subst (λ (j : ℕ). NamedIn w low (end - j) t) (sym (taken_is x li)) q.3;
              same = same ∙ seek_past name x t (ap (λ (b : Bytes). same_bytes b name) en ∙ nt);
            })

-- what was read, under another name
pub named_as : {s : List ℕ} {at : ℕ} {r q : rust.Option NamedSpan} → r ≡ q → NamedReads s at q → NamedReads s at r
named_as {s} {at} e h = subst (λ (x : rust.Option NamedSpan). NamedReads s at x) (sym e) h

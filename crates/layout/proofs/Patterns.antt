-- Patterns and expressions: the decoders read exactly what the encoders write of valid trees.
use mathlib.Core.Path.{◌≡◌, refl, ap, sym, subst, ◌∙◌}
use mathlib.Core.Bool.{Bool, true, false}
use mathlib.Core.List.{List, [], ◌∷◌, ◌++◌}
use mathlib.Core.Option.{Option, some, none}
use Prim.Native.Nat.{ℕ, zero, suc, ◌+◌, ◌-◌, ◌≤◌, ◌<◌}
use native.Mathlib.Omega.{arith}
use lib.ListN.{length, length-append}
use lib.Dec.{eqb, ltb}
use borrow.Author.Tests.{ltb-true, lt-ltb}
use Rattle.records.specs.Got.{got, Parser, after, test, pick}
use Rattle.records.specs.Bytes.{to_be, part, byte_at}
use Rattle.rules.specs.Rules.{is_id, is_text, is_string}
use Rattle.literals.specs.Literal.{is_number}
use Rattle.records.specs.Names.{distinct}
use Rattle.records.specs.Tree.{Literal, Key, Named, Pattern, pattern, Elements, no_more, more, Element, text, placeable, Expression, select, Inline, variable, nested, Arguments, without, with_arguments, Inlines, no_inline, and, Variants, no_variant, or, Variant, variant}
use Rattle.records.specs.Decode.{as_a, flag_at, optional_at, id_at, text_read_at, string_at, literal_number_at, literal_at, key_at, named_at, named_arguments_at, element_at, elements_at, pattern_at, variant_at, inlines_at, arguments_at, term_arguments_at, term_reference_at, select_at, inline_body, inline_at, expr_at, expression, inline, max_depth, entry_pattern_at}
use Rattle.records.specs.Encode.{enc_str, enc_flag, enc_optional, enc_all, enc_counted, enc_literal, enc_key, enc_named, count_elements, count_inlines, count_variants, enc_sized, enc_pattern, enc_elements, enc_element, enc_expression, enc_inline, enc_arguments, enc_inlines, enc_variants, enc_variant}
use Rattle.records.specs.Valid.{Fits, Ruled, ValidId, IfAny, All, ValidLiteral, ValidKey, ValidNamed, ValidElement, ValidElements, PatternOver, ValidVariant, ValidVariants, ValidInlines, ValidCall, ValidArguments, InlineOver, ExpressionOver, ValidExpression, ValidInline, ValidPattern, ValidEntryPattern}
use Rattle.layout.specs.Exact.{Stands, Octets, Exact}
use Rattle.layout.proofs.Stands.{stands_length, bytes_are, join, split}
use Rattle.layout.proofs.Octets.{octets_append, octets_to_be, id_octets, text_octets, string_octets, number_octets}
use Rattle.layout.proofs.Numbers.{length_to_be}
use Rattle.layout.proofs.Steps.{Read, Chain, Two, two_exact, nothing, after_elim, took, byte_took, test_took, tag_took, last_took, gives, tagged, ahead, at_last, as_last, byte_complete, byte_ahead, passes, ends, number_exact, ruled_exact, many_exact}

-- Flag
flag_sound : {s : List ℕ} {at e : ℕ} {f : Bool} → flag_at s at ≡ got f e → Unit {0} × Stands s at e (enc_flag f)
unfolding flag_at enc_flag
flag_sound {s} {at} h =
    byte_took h (λ x p b h.
    tag_took x 0 h (λ q h. gives h (Read enc_flag (λ z. Unit {0}) s at) (tt, bytes_are (ap (λ (j : ℕ). j ∷ []) q) b)) (λ h.
    last_took x 1 h (λ q h. gives h (Read enc_flag (λ z. Unit {0}) s at) (tt, bytes_are (ap (λ (j : ℕ). j ∷ []) q) b))))

flag_complete : {s : List ℕ} {at e : ℕ} (f : Bool) → Stands s at e (enc_flag f) → flag_at s at ≡ got f e
unfolding flag_at enc_flag after pick test
flag_complete true h = rw (byte_complete h)
flag_complete false h = rw (byte_complete h)

flag_octets : (f : Bool) → Octets (enc_flag f)
unfolding enc_flag
flag_octets true = omega arith
flag_octets false = omega arith

pub flag_exact : Exact flag_at enc_flag (λ f. Unit {0})
flag_exact = record { sound = λ oct l h. flag_sound h; octets = λ f ok. flag_octets f; complete = λ {a = f} ok h. flag_complete f h }

-- a Flag, and what it announces
module _ {A : Type 0} {p : Parser A} {enc : A → List ℕ} {Ok : A → Type 0} (x : Exact p enc Ok) where
  optional_sound : {s : List ℕ} {at e : ℕ} {o : Option A} → Octets s → optional_at p s at ≡ got o e → IfAny Ok o × Stands s at e (enc_optional enc o)
  unfolding optional_at enc_optional
  optional_sound {s} {at} oct h =
      byte_took h (λ f i b h.
      tag_took f 0 h (λ q h. gives h (Read (enc_optional enc) (IfAny Ok) s at) (tt, bytes_are (ap (λ (j : ℕ). j ∷ []) q) b)) (λ h.
      last_took f 1 h (λ q h. took x oct b.within h (λ a e ok st h. gives h (Read (enc_optional enc) (IfAny Ok) s at) (ok, tagged q b st)))))

  optional_complete : {s : List ℕ} {at e : ℕ} (o : Option A) → IfAny Ok o → Stands s at e (enc_optional enc o) → optional_at p s at ≡ got o e
  unfolding optional_at enc_optional pick test after
  optional_complete none ok h = rw (byte_complete h)
  optional_complete (some a) ok h = byte_ahead _ h (λ i b r. as_last x some ok r)

  optional_octets : (o : Option A) → IfAny Ok o → Octets (enc_optional enc o)
  unfolding enc_optional
  optional_octets none ok = omega arith
  optional_octets (some a) ok = (omega arith, x.octets a ok)

  pub optional_exact : Exact (optional_at p) (enc_optional enc) (IfAny Ok)
  optional_exact = record { sound = λ oct l h. optional_sound oct h; octets = optional_octets; complete = λ {a = o} ok h. optional_complete o ok h }

pub id_exact : Exact id_at enc_str ValidId
unfolding id_at
id_exact = ruled_exact is_id id_octets

text_exact : Exact text_read_at enc_str (Ruled is_text)
unfolding text_read_at
text_exact = ruled_exact is_text text_octets

string_exact : Exact string_at enc_str (Ruled is_string)
unfolding string_at
string_exact = ruled_exact is_string string_octets

literal_number_exact : Exact literal_number_at enc_str (Ruled is_number)
unfolding literal_number_at
literal_number_exact = ruled_exact is_number number_octets

-- literals and keys
literal_two : Two Literal.string Literal.number enc_str enc_str enc_literal (Ruled is_string) (Ruled is_number) ValidLiteral
unfolding enc_literal
literal_two = record { view = view; one = λ t. (refl, λ k. k, λ k. k); two = λ t. (refl, λ k. k, λ k. k) }
  where
    view : (Z : Literal → Type 0) → ((t : List ℕ) → Z (Literal.string t)) → ((t : List ℕ) → Z (Literal.number t)) → (v : Literal) → Z v
    view Z f g (Literal.string t) = f t
    view Z f g (Literal.number t) = g t

literal_exact : Exact literal_at enc_literal ValidLiteral
unfolding literal_at
literal_exact = two_exact literal_two string_exact literal_number_exact

key_two : Two Key.name Key.number enc_str enc_str enc_key ValidId (Ruled is_number) ValidKey
unfolding enc_key
key_two = record { view = view; one = λ t. (refl, λ k. k, λ k. k); two = λ t. (refl, λ k. k, λ k. k) }
  where
    view : (Z : Key → Type 0) → ((t : List ℕ) → Z (Key.name t)) → ((t : List ℕ) → Z (Key.number t)) → (v : Key) → Z v
    view Z f g (Key.name t) = f t
    view Z f g (Key.number t) = g t

key_exact : Exact key_at enc_key ValidKey
unfolding key_at
key_exact = two_exact key_two id_exact literal_number_exact

-- a plain list is a chain
pub list_chain : {A : Type 0} (enc : A → List ℕ) (Ok : A → Type 0) → Chain [] ◌∷◌ enc Ok (enc_all enc) (All Ok) length
unfolding enc_all
list_chain {A} enc Ok = record { view = view; none = (refl, tt, refl); one = λ a l. (refl, refl); valid = λ a l o k. (o, k); parts = λ a l k. k }
  where
    view : (Z : List A → Type 0) → Z [] → ((a : A) (l : List A) → Z (a ∷ l)) → (l : List A) → Z l
    view Z n c [] = n
    view Z n c (a ∷ l) = c a l

-- an Id and something: named arguments, attributes, arguments
module _ {A : Type 0} {p : Parser A} {enc : A → List ℕ} {Ok : A → Type 0} (x : Exact p enc Ok) where
  pub with_id : Exact {A = List ℕ × A} (λ s at. after (id_at s at) (λ n e. as_a (λ v. (n, v)) (p s e))) (λ a. enc_str a.0 ++ enc a.1) (λ a. ValidId a.0 × Ok a.1)
  with_id = record {
    sound = λ {s} {at} oct l h.
        took id_exact oct l h (λ n i okN st h.
        took x oct st.within h (λ a e ok st' h.
        gives h (Read (λ a. enc_str a.0 ++ enc a.1) (λ a. ValidId a.0 × Ok a.1) s at) ((okN, ok), join st st')));
    octets = λ a ok. octets_append (enc_str a.0) (enc a.1) (id_exact.octets a.0 ok.0) (x.octets a.1 ok.1);
    complete = λ {a = a} ok h. ahead id_exact _ ok.0 h (λ e u r. as_last x (λ v. (a.0, v)) ok.1 r);
  }

named_exact : Exact named_at enc_named ValidNamed
unfolding named_at enc_named
named_exact = with_id literal_exact

-- named arguments, no name twice
named_arguments_exact : (m : ℕ) → Exact (named_arguments_at m) (enc_all enc_named) (λ ns. (All ValidNamed ns × (length ns ≡ m)) × (distinct ns ≡ true))
unfolding named_arguments_at
named_arguments_exact m = record {
  sound = λ {s} {at} oct l h.
      took (many_exact (list_chain enc_named ValidNamed) named_exact m) oct l h (λ ns e ok st h.
      test_took (distinct ns) h (λ t h.
      gives h (Read (enc_all enc_named) (λ ns. (All ValidNamed ns × (length ns ≡ m)) × (distinct ns ≡ true)) s at) ((ok, t), st)));
  octets = λ ns ok. (many_exact (list_chain enc_named ValidNamed) named_exact m).octets ns ok.0;
  complete = λ {a = ns} ok h. at_last (many_exact (list_chain enc_named ValidNamed) named_exact m) _ ok.0 h (passes (distinct ns) ok.1 refl);
}

-- the lists of the tree are chains
module _ (Deep : Expression → Type 0) where
  elements_chain : Chain no_more more enc_element (ValidElement Deep) enc_elements (ValidElements Deep) count_elements
  unfolding enc_elements count_elements
  elements_chain = record { view = view; none = (refl, tt, refl); one = λ a l. (refl, refl); valid = λ a l o k. (o, k); parts = λ a l k. k }
    where
      view : (Z : Elements → Type 0) → Z no_more → ((a : Element) (l : Elements) → Z (more a l)) → (l : Elements) → Z l
      view Z n c no_more = n
      view Z n c (more a l) = c a l

  variants_chain : Chain no_variant or enc_variant (ValidVariant Deep) enc_variants (ValidVariants Deep) count_variants
  unfolding enc_variants count_variants
  variants_chain = record { view = view; none = (refl, tt, refl); one = λ a l. (refl, refl); valid = λ a l o k. (o, k); parts = λ a l k. k }
    where
      view : (Z : Variants → Type 0) → Z no_variant → ((a : Variant) (l : Variants) → Z (or a l)) → (l : Variants) → Z l
      view Z n c no_variant = n
      view Z n c (or a l) = c a l

inlines_chain : (DeepInline : Inline → Type 0) → Chain no_inline and enc_inline DeepInline enc_inlines (ValidInlines DeepInline) count_inlines
unfolding enc_inlines count_inlines
inlines_chain DeepInline = record { view = view; none = (refl, tt, refl); one = λ a l. (refl, refl); valid = λ a l o k. (o, k); parts = λ a l k. k }
  where
    view : (Z : Inlines → Type 0) → Z no_inline → ((a : Inline) (l : Inlines) → Z (and a l)) → (l : Inlines) → Z l
    view Z n c no_inline = n
    view Z n c (and a l) = c a l

-- a pattern's layout, by its count and the length of the rest
enc_pattern_law : (b : List ℕ) (es : Elements) (n k : ℕ) → count_elements es ≡ k → 2 + length (enc_elements es) ≡ n → enc_pattern (pattern b es) ≡ to_be 4 n ++ (to_be 2 k ++ enc_elements es)
unfolding enc_pattern enc_sized
enc_pattern_law b es n k q r =
    let m : length (to_be 2 (count_elements es) ++ enc_elements es) ≡ n = rw (length-append, length_to_be) r in
    rw (m, q)

module _ {expr : Parser Expression} {Deep : Expression → Type 0} (x : Exact expr enc_expression Deep) where
  element_two : Two text placeable enc_str enc_expression enc_element (Ruled is_text) Deep (ValidElement Deep)
  unfolding enc_element
  element_two = record { view = view; one = λ t. (refl, λ k. k, λ k. k); two = λ y. (refl, λ k. k, λ k. k) }
    where
      view : (Z : Element → Type 0) → ((t : List ℕ) → Z (text t)) → ((y : Expression) → Z (placeable y)) → (v : Element) → Z v
      view Z f g (text t) = f t
      view Z f g (placeable y) = g y

  element_exact : Exact (element_at expr) enc_element (ValidElement Deep)
  unfolding element_at
  element_exact = two_exact element_two text_exact x

  elements_exact : (k : ℕ) → Exact (elements_at expr k) enc_elements (λ es. ValidElements Deep es × (count_elements es ≡ k))
  unfolding elements_at
  elements_exact k = many_exact (elements_chain Deep) element_exact k

  pattern_sound : {s : List ℕ} {at e : ℕ} {v : Pattern} → Octets s → at ≤ length s → pattern_at expr s at ≡ got v e → PatternOver Deep v × Stands s at e (enc_pattern v)
  unfolding pattern_at
  pattern_sound {s} {at} oct l h =
      took (number_exact 4) oct l h (λ n p okN stN h.
      took (number_exact 2) oct stN.within h (λ k q okK stK h.
      test_took (ltb 0 k) h (λ t h.
      took (elements_exact k) oct stK.within h (λ es f okE stE h.
      last_took f (p + n) h (λ w h.
      let c : count_elements es ≡ k = okE.1 in
      let some_one : 0 < k = ltb-true 0 k t in
      let m : 2 + length (enc_elements es) ≡ n = omega (arith, stands_length stK, stands_length stE, length_to_be 2 k) in
      let whole : Stands s at f (to_be 4 n ++ (to_be 2 k ++ enc_elements es)) = join stN (join stK stE) in
      let b : List ℕ = part s at (f - at) in
      let lay : enc_pattern (pattern b es) ≡ to_be 4 n ++ (to_be 2 k ++ enc_elements es) = enc_pattern_law b es n k c m in
      gives h (Read enc_pattern (PatternOver Deep) s at)
      ((okE.0, omega arith, omega arith, subst (Fits 4) (sym m) okN, whole.bytes ∙ sym lay), bytes_are (sym lay) whole))))))

  pattern_complete : {s : List ℕ} {at e : ℕ} (v : Pattern) → PatternOver Deep v → Stands s at e (enc_pattern v) → pattern_at expr s at ≡ got v e
  unfolding pattern_at
  pattern_complete {s} {at} {e} (pattern b es) ok h =
      let n : ℕ = 2 + length (enc_elements es) in
      let k : ℕ = count_elements es in
      ahead (number_exact 4) _ {a = n} ok.3 (bytes_are (enc_pattern_law b es n k refl refl) h) (λ p u r.
      let m : p + length (to_be 2 k ++ enc_elements es) ≡ e = stands_length r in
      let j : length (to_be 2 k ++ enc_elements es) ≡ n = rw (length-append, length_to_be) in
      let w : e ≡ p + n = omega arith in
      ahead (number_exact 2) _ {a = k} ok.2 r (λ q v r.
      passes (ltb 0 k) (lt-ltb 0 k ok.1) (at_last (elements_exact k) _ (ok.0, refl) r (ends w (ap (λ (z : List ℕ). got (pattern z es) e) (h.bytes ∙ sym ok.4))))))

  pattern_octets : (v : Pattern) → PatternOver Deep v → Octets (enc_pattern v)
  pattern_octets (pattern b es) ok =
      let n : ℕ = 2 + length (enc_elements es) in
      let k : ℕ = count_elements es in
      rw (enc_pattern_law b es n k refl refl)
      (octets_append (to_be 4 n) (to_be 2 k ++ enc_elements es) (octets_to_be 4 n)
      (octets_append (to_be 2 k) (enc_elements es) (octets_to_be 2 k) ((elements_exact k).octets es (ok.0, refl))))

  pub pattern_exact : Exact (pattern_at expr) enc_pattern (PatternOver Deep)
  pattern_exact = record { sound = pattern_sound; octets = pattern_octets; complete = λ {a = v} ok h. pattern_complete v ok h }

  variant_sound : {s : List ℕ} {at e : ℕ} {v : Variant} → Octets s → at ≤ length s → variant_at expr s at ≡ got v e → ValidVariant Deep v × Stands s at e (enc_variant v)
  unfolding variant_at enc_variant
  variant_sound {s} {at} oct l h =
      took key_exact oct l h (λ k p okK stK h.
      took flag_exact oct stK.within h (λ d q ok_d stD h.
      took pattern_exact oct stD.within h (λ v e ok st h.
      gives h (Read enc_variant (ValidVariant Deep) s at) ((okK, ok), join stK (join stD st)))))

  variant_complete : {s : List ℕ} {at e : ℕ} (v : Variant) → ValidVariant Deep v → Stands s at e (enc_variant v) → variant_at expr s at ≡ got v e
  unfolding variant_at enc_variant
  variant_complete (variant k d p) ok h =
      ahead key_exact _ ok.0 h (λ i u r.
      ahead flag_exact _ {a = d} tt r (λ j v r. as_last pattern_exact (variant k d) ok.1 r))

  variant_octets : (v : Variant) → ValidVariant Deep v → Octets (enc_variant v)
  unfolding enc_variant
  variant_octets (variant k d p) ok =
      octets_append (enc_key k) (enc_flag d ++ enc_pattern p) (key_exact.octets k ok.0) (octets_append (enc_flag d) (enc_pattern p) (flag_octets d) (pattern_octets p ok.1))

  variant_exact : Exact (variant_at expr) enc_variant (ValidVariant Deep)
  variant_exact = record { sound = variant_sound; octets = variant_octets; complete = λ {a = v} ok h. variant_complete v ok h }

-- the arguments of a call
abbrev enc_call : Inlines × Named → List ℕ
enc_call c = to_be 2 (count_inlines c.0) ++ (enc_inlines c.0 ++ enc_counted enc_named c.1)

abbrev CallOk : (Inline → Type 0) → Inlines × Named → Type 0
CallOk DeepInline c = ValidCall DeepInline c.0 c.1

module _ {inl : Parser Inline} {DeepInline : Inline → Type 0} (x : Exact inl enc_inline DeepInline) where
  inlines_exact : (n : ℕ) → Exact (inlines_at inl n) enc_inlines (λ xs. ValidInlines DeepInline xs × (count_inlines xs ≡ n))
  unfolding inlines_at
  inlines_exact n = many_exact (inlines_chain DeepInline) x n

  call_sound : {s : List ℕ} {at e : ℕ} {c : Inlines × Named} → Octets s → at ≤ length s → arguments_at inl s at ≡ got c e → CallOk DeepInline c × Stands s at e (enc_call c)
  unfolding arguments_at enc_counted
  call_sound {s} {at} oct l h =
      took (number_exact 2) oct l h (λ n p okN stN h.
      took (inlines_exact n) oct stN.within h (λ xs q okX stX h.
      took (number_exact 2) oct stX.within h (λ m r okM stM h.
      took (named_arguments_exact m) oct stM.within h (λ ns e okS stS h.
      let a : count_inlines xs ≡ n = okX.1 in
      let b : length ns ≡ m = okS.0.1 in
      gives h (Read enc_call (CallOk DeepInline) s at)
      ((okX.0, subst (Fits 2) (sym a) okN, ((okS.0.0, subst (Fits 2) (sym b) okM), okS.1)), rw (a, b) (join stN (join stX (join stM stS))))))))

  call_complete : {s : List ℕ} {at e : ℕ} (c : Inlines × Named) → CallOk DeepInline c → Stands s at e (enc_call c) → arguments_at inl s at ≡ got c e
  unfolding arguments_at enc_counted
  call_complete c ok h =
      ahead (number_exact 2) _ ok.1 h (λ p u r.
      ahead (inlines_exact (count_inlines c.0)) _ (ok.0, refl) r (λ q v r.
      ahead (number_exact 2) _ ok.2.0.1 r (λ i w r.
      as_last (named_arguments_exact (length c.1)) (λ ns. (c.0, ns)) ((ok.2.0.0, refl), ok.2.1) r)))

  call_octets : (c : Inlines × Named) → CallOk DeepInline c → Octets (enc_call c)
  unfolding enc_counted
  call_octets c ok =
      let xs : Inlines = c.0 in
      let ns : Named = c.1 in
      octets_append (to_be 2 (count_inlines xs)) _ (octets_to_be 2 (count_inlines xs))
      (octets_append (enc_inlines xs) _ ((inlines_exact (count_inlines xs)).octets xs (ok.0, refl))
      (octets_append (to_be 2 (length ns)) _ (octets_to_be 2 (length ns)) ((named_arguments_exact (length ns)).octets ns ((ok.2.0.0, refl), ok.2.1))))

  call_exact : Exact (arguments_at inl) enc_call (CallOk DeepInline)
  call_exact = record { sound = call_sound; octets = call_octets; complete = λ {a = c} ok h. call_complete c ok h }

  arguments_sound : {s : List ℕ} {at e : ℕ} {v : Arguments} → Octets s → term_arguments_at inl s at ≡ got v e → ValidArguments DeepInline v × Stands s at e (enc_arguments v)
  unfolding term_arguments_at enc_arguments
  arguments_sound {s} {at} oct h =
      byte_took h (λ f i b h.
      tag_took f 0 h (λ q h. gives h (Read enc_arguments (ValidArguments DeepInline) s at) (tt, bytes_are (ap (λ (j : ℕ). j ∷ []) q) b)) (λ h.
      last_took f 1 h (λ q h. took call_exact oct b.within h (λ c e ok st h. gives h (Read enc_arguments (ValidArguments DeepInline) s at) (ok, tagged q b st)))))

  arguments_complete : {s : List ℕ} {at e : ℕ} (v : Arguments) → ValidArguments DeepInline v → Stands s at e (enc_arguments v) → term_arguments_at inl s at ≡ got v e
  unfolding term_arguments_at enc_arguments pick test after
  arguments_complete without ok h = rw (byte_complete h)
  arguments_complete (with_arguments xs ns) ok h = byte_ahead _ h (λ i b r. as_last call_exact (λ c. with_arguments c.0 c.1) {a = (xs, ns)} ok r)

  arguments_octets : (v : Arguments) → ValidArguments DeepInline v → Octets (enc_arguments v)
  unfolding enc_arguments
  arguments_octets without ok = omega arith
  arguments_octets (with_arguments xs ns) ok = (omega arith, call_octets (xs, ns) ok)

  arguments_exact : Exact (term_arguments_at inl) enc_arguments (ValidArguments DeepInline)
  arguments_exact = record { sound = λ oct l h. arguments_sound oct h; octets = arguments_octets; complete = λ {a = v} ok h. arguments_complete v ok h }

module _ {expr : Parser Expression} {inl : Parser Inline} {Deep : Expression → Type 0} {DeepInline : Inline → Type 0}
    (x : Exact expr enc_expression Deep) (y : Exact inl enc_inline DeepInline) where
  select_sound : {s : List ℕ} {at e : ℕ} {v : Expression} {b : ℕ} → Octets s → Stands s b at (8 ∷ []) → select_at expr inl s at ≡ got v e
      → ExpressionOver Deep DeepInline v × Stands s b e (enc_expression v)
  unfolding select_at enc_expression
  select_sound {s} {at} {b = b} oct tag h =
      took y oct tag.within h (λ i p okI stI h.
      took (number_exact 2) oct stI.within h (λ k q okK stK h.
      test_took (ltb 0 k) h (λ t h.
      took (many_exact (variants_chain Deep) (variant_exact x) k) oct stK.within h (λ vs e okV stV h.
      let c : count_variants vs ≡ k = okV.1 in
      let some_one : 0 < k = ltb-true 0 k t in
      gives h (Read enc_expression (ExpressionOver Deep DeepInline) s b)
      ((okI, okV.0, omega arith, omega arith), rw c (tagged refl tag (join stI (join stK stV))))))))

  select_complete : {s : List ℕ} {at e : ℕ} (i : Inline) (vs : Variants) → ExpressionOver Deep DeepInline (select i vs)
      → Stands s at e (enc_inline i ++ (to_be 2 (count_variants vs) ++ enc_variants vs)) → select_at expr inl s at ≡ got (select i vs) e
  unfolding select_at
  select_complete i vs ok h =
      ahead y _ ok.0 h (λ p u r.
      ahead (number_exact 2) _ ok.3 r (λ q v r.
      passes (ltb 0 (count_variants vs)) (lt-ltb 0 (count_variants vs) ok.2) (as_last (many_exact (variants_chain Deep) (variant_exact x) (count_variants vs)) (select i) (ok.1, refl) r)))

  term_sound : {s : List ℕ} {at e : ℕ} {v : Inline} {b : ℕ} → Octets s → Stands s b at (5 ∷ []) → term_reference_at inl s at ≡ got v e → InlineOver Deep DeepInline v × Stands s b e (enc_inline v)
  unfolding term_reference_at enc_inline
  term_sound {s} {at} {b = b} oct tag h =
      took id_exact oct tag.within h (λ n p okN stN h.
      took (optional_exact id_exact) oct stN.within h (λ a q okA stA h.
      took (arguments_exact y) oct stA.within h (λ r e ok st h.
      gives h (Read enc_inline (InlineOver Deep DeepInline) s b) ((okN, okA, ok), tagged refl tag (join stN (join stA st))))))

  -- what follows a tag of an inline expression
  body_sound : {s : List ℕ} {at e : ℕ} {v : Inline} {b tag : ℕ} → Octets s → Stands s b at (tag ∷ []) → inline_body expr inl tag s at ≡ got v e
      → InlineOver Deep DeepInline v × Stands s b e (enc_inline v)
  unfolding inline_body enc_inline
  body_sound {s} {at} {b = b} {tag = tag} oct bt h =
      let Q : Inline → ℕ → Type 0 = Read enc_inline (InlineOver Deep DeepInline) s b in
      tag_took tag 1 h (λ q h. took string_exact oct bt.within h (λ a e ok st h. gives h Q (ok, tagged q bt st))) (λ h.
      tag_took tag 2 h (λ q h. took literal_number_exact oct bt.within h (λ a e ok st h. gives h Q (ok, tagged q bt st))) (λ h.
      tag_took tag 3 h (λ q h. took id_exact oct bt.within h (λ n i okN stN h. took (call_exact y) oct stN.within h (λ c e ok st h. gives h Q ((okN, ok), tagged q bt (join stN st))))) (λ h.
      tag_took tag 4 h (λ q h. took id_exact oct bt.within h (λ n i okN stN h. took (optional_exact id_exact) oct stN.within h (λ a e ok st h. gives h Q ((okN, ok), tagged q bt (join stN st))))) (λ h.
      tag_took tag 5 h (λ q h. term_sound oct (bytes_are (ap (λ (j : ℕ). j ∷ []) q) bt) h) (λ h.
      tag_took tag 6 h (λ q h. took id_exact oct bt.within h (λ a e ok st h. gives h Q (ok, tagged q bt st))) (λ h.
      last_took tag 7 h (λ q h. took x oct bt.within h (λ a e ok st h. gives h Q (ok, tagged q bt st)))))))))

  body_complete : {s : List ℕ} {at e : ℕ} {Z : Type 0} (v : Inline) → InlineOver Deep DeepInline v → Stands s at e (enc_inline v)
      → ((tag p : ℕ) → byte_at s at ≡ got tag p → eqb tag 8 ≡ false → inline_body expr inl tag s p ≡ got v e → Z) → Z
  unfolding inline_body enc_inline term_reference_at pick test
  body_complete (Inline.string t) ok h k = split (1 ∷ []) h (λ p b r. k 1 p (byte_complete b) refl (as_last string_exact Inline.string ok r))
  body_complete (Inline.number t) ok h k = split (2 ∷ []) h (λ p b r. k 2 p (byte_complete b) refl (as_last literal_number_exact Inline.number ok r))
  body_complete (Inline.function i xs ns) ok h k = split (3 ∷ []) h (λ p b r. k 3 p (byte_complete b) refl
      (ahead id_exact _ ok.0 r (λ q u r. as_last (call_exact y) (λ c. Inline.function i c.0 c.1) {a = (xs, ns)} ok.1 r)))
  body_complete (Inline.message i a) ok h k = split (4 ∷ []) h (λ p b r. k 4 p (byte_complete b) refl
      (ahead id_exact _ ok.0 r (λ q u r. as_last (optional_exact id_exact) (Inline.message i) ok.1 r)))
  body_complete (Inline.term i a c) ok h k = split (5 ∷ []) h (λ p b r. k 5 p (byte_complete b) refl
      (ahead id_exact _ ok.0 r (λ q u r. ahead (optional_exact id_exact) _ ok.1 r (λ j v r. as_last (arguments_exact y) (Inline.term i a) ok.2 r))))
  body_complete (variable i) ok h k = split (6 ∷ []) h (λ p b r. k 6 p (byte_complete b) refl (as_last id_exact variable ok r))
  body_complete (nested z) ok h k = split (7 ∷ []) h (λ p b r. k 7 p (byte_complete b) refl (as_last x nested ok r))

  inline_octets : (v : Inline) → InlineOver Deep DeepInline v → Octets (enc_inline v)
  unfolding enc_inline
  inline_octets (Inline.string t) ok = (omega arith, string_exact.octets t ok)
  inline_octets (Inline.number t) ok = (omega arith, literal_number_exact.octets t ok)
  inline_octets (Inline.function i xs ns) ok = (omega arith, octets_append (enc_str i) _ (id_exact.octets i ok.0) ((call_exact y).octets (xs, ns) ok.1))
  inline_octets (Inline.message i a) ok = (omega arith, octets_append (enc_str i) _ (id_exact.octets i ok.0) ((optional_exact id_exact).octets a ok.1))
  inline_octets (Inline.term i a c) ok = (
    omega arith,
    octets_append (enc_str i) _ (id_exact.octets i ok.0) (octets_append (enc_optional enc_str a) _ ((optional_exact id_exact).octets a ok.1) ((arguments_exact y).octets c ok.2)),
  )
  inline_octets (variable i) ok = (omega arith, id_exact.octets i ok)
  inline_octets (nested z) ok = (omega arith, x.octets z ok)

  expr_octets : (v : Expression) → ExpressionOver Deep DeepInline v → Octets (enc_expression v)
  unfolding enc_expression
  expr_octets (Expression.inline i) ok = inline_octets i ok
  expr_octets (select i vs) ok = (
    omega arith,
    octets_append (enc_inline i) _ (y.octets i ok.0)
        (octets_append (to_be 2 (count_variants vs)) _ (octets_to_be 2 (count_variants vs)) ((many_exact (variants_chain Deep) (variant_exact x) (count_variants vs)).octets vs (ok.1, refl))),
  )

  inline_level : Exact (inline_at expr inl) enc_inline (InlineOver Deep DeepInline)
  unfolding inline_at after
  inline_level = record {
    sound = λ oct l h. byte_took h (λ tag p b h. body_sound oct b h);
    octets = inline_octets;
    complete = λ {a = v} ok h. body_complete v ok h (λ tag p g n r. rw g r);
  }

  expr_sound : {s : List ℕ} {at e : ℕ} {v : Expression} → Octets s → expr_at expr inl s at ≡ got v e → ExpressionOver Deep DeepInline v × Stands s at e (enc_expression v)
  unfolding expr_at enc_expression
  expr_sound {s} {at} oct h = byte_took h (λ tag p b h.
      tag_took tag 8 h (λ q h. select_sound oct (bytes_are (ap (λ (j : ℕ). j ∷ []) q) b) h)
      (λ h. after_elim _ _ h (λ i e g h. gives h (Read enc_expression (ExpressionOver Deep DeepInline) s at) (body_sound oct b g))))

  expr_complete : {s : List ℕ} {at e : ℕ} (v : Expression) → ExpressionOver Deep DeepInline v → Stands s at e (enc_expression v) → expr_at expr inl s at ≡ got v e
  unfolding expr_at enc_expression pick after
  expr_complete (Expression.inline i) ok h = body_complete i ok h (λ tag p g n r. rw (g, n, r))
  expr_complete (select i vs) ok h = byte_ahead _ h (λ p b r. select_complete i vs ok r)

  expr_level : Exact (expr_at expr inl) enc_expression (ExpressionOver Deep DeepInline)
  expr_level = record { sound = λ oct l h. expr_sound oct h; octets = expr_octets; complete = λ {a = v} ok h. expr_complete v ok h }

-- By depth
pub record DeepExact (d : ℕ) : Type 0 where
  pub of_expression : Exact (expression d) enc_expression (ValidExpression d)
  pub of_inline : Exact (inline d) enc_inline (ValidInline d)

pub deep_exact : (d : ℕ) → DeepExact d
unfolding expression ValidExpression
deep_exact zero = record {
  of_expression = record { sound = λ oct l h. nothing h; octets = λ a ok. absurd ok; complete = λ ok h. absurd ok };
  of_inline = record { sound = λ oct l h. nothing h; octets = λ a ok. absurd ok; complete = λ ok h. absurd ok };
}
deep_exact (suc d) = let i = deep_exact d in record { of_expression = expr_level i.of_expression i.of_inline; of_inline = inline_level i.of_expression i.of_inline }

-- a pattern of an entry
pub entry_pattern_exact : Exact entry_pattern_at enc_pattern ValidEntryPattern
unfolding entry_pattern_at ValidEntryPattern ValidPattern
entry_pattern_exact = pattern_exact (deep_exact max_depth).of_expression

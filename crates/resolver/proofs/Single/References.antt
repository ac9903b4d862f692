-- References as they are read, and what stands in the place of one that is missing.
use mathlib.Core.Path.{◌≡◌, ap, sym, subst, ◌∙◌}
use mathlib.Core.List.{List, ◌∷◌}
use mathlib.Core.Bool.{Bool, true, false, ◌&&◌}
use mathlib.Core.Option.{Option, none, some}
use Prim.Native.Nat.{ℕ, ◌-◌, ◌≤◌}
use native.Mathlib.Omega.{arith}
use lib.ListN.{length}
use lib.Dec.{eqb}
use borrow.Author.Tests.{leb-true}
use Rattle.records.specs.Got.{got, bad}
use Rattle.records.specs.Bytes.{part, byte_at, str_at}
use Rattle.decimals.specs.Bytes.{run}
use Rattle.rules.specs.Rules.{id_step, is_id}
use Rattle.records.specs.Tree.{Inline, Arguments}
use Rattle.records.specs.Decode.{id_at, optional_at, expression, inline}
use Rattle.records.specs.Errors.{Referred, reference, Error}
use Rattle.records.proofs.Local.{length_part, local_byte}
use Rattle.records.proofs.Views.{both, never, id_elim, id_str, optional_elim, term_elim, Body, a_string, a_number, is_function, is_message, is_term, is_variable, is_nested, inline_elim}
use Rattle.records.specs.Optional.{option_of}
use Rattle.resolution.specs.Effect.{Bytes, report, emit, write, ◌>>◌}
use Rattle.resolution.specs.Resolve.{dotted, braced, error_text, write_ref_error}
use Rattle.state.specs.declared.Progress.{Progress}
use Rattle.state.specs.declared.Referring.{Referring}
use Rattle.std.specs.Prelude as rust
use Rattle.resolver.specs.Relations.Meets.{world, Runs, Kept, Acts}
use Rattle.resolver.specs.Relations.Leaves.{ErrorAt, RefErrorAt, ReferenceIs, attribute_in, span_if, reads, unread}
use Rattle.resolver.proofs.Attributes.{Short, span_attribute, span_short}
use Rattle.resolver.proofs.Single.Laws.{kept_same, kept_then, runs_then}
use Rattle.resolver.proofs.Single.Steps.{runs_as}

-- an Id has at most 255 bytes
and_right : (x : Bool) {y : Bool} → x && y ≡ true → y ≡ true
and_right true h = h
and_right false h = let z : ◌≡◌ {A = ℕ} 0 1 = cc in absurd (omega arith)

id_short : (s : List ℕ) (at : ℕ) {n : List ℕ} {p : ℕ} → id_at s at ≡ got n p → length n ≤ 255
unfolding is_id
id_short s at {n} h = id_elim s at h (λ p hs en ok. leb-true (length n) 255 (and_right (eqb (run id_step 0 n) 1) ok))

-- an Id and an attribute, by the Strs and the Flag that the code read
module _ (s : List ℕ) (at : ℕ) {b : List ℕ} {e : ℕ} (h : str_at s at ≡ got b e) where
  pub name_none : byte_at s e ≡ bad → {n : List ℕ} {p : ℕ} {a : Option (List ℕ)} {f : ℕ} → id_at s at ≡ got n p → optional_at id_at s p ≡ got a f → ⊥
  name_none k hn ho = both h (id_str s at hn) (λ _ ee. let k' = subst (λ (j : ℕ). byte_at s j ≡ bad) ee k in optional_elim id_at s _ ho (λ hb _. never k' hb) (λ i x hb _ _. never k' hb))

  module _ {flag q : ℕ} (k : byte_at s e ≡ got flag q) {n : List ℕ} {p : ℕ} {a : Option (List ℕ)} {f : ℕ} (hn : id_at s at ≡ got n p) (ho : optional_at id_at s p ≡ got a f) where
    pub bare_name : flag ≡ 0 → (n ≡ b) × (length b ≤ 255) × (a ≡ none) × (f ≡ q)
    bare_name z = both h (id_str s at hn) (λ eb ee.
        let k' = subst (λ (j : ℕ). byte_at s j ≡ got flag q) ee k in
        let short = id_short s at hn in
        optional_elim id_at s p ho
        (λ hb on. both k' hb (λ _ eq. (sym eb, rw eb short, on, sym eq)))
        (λ i x hb _ _. both k' hb (λ ef _. absurd (omega arith))))

    module _ (nz : flag ≡ 0 → ⊥) where
      pub attribute_none : str_at s q ≡ bad → ⊥
      attribute_none u = both h (id_str s at hn) (λ eb ee.
          let k' = subst (λ (j : ℕ). byte_at s j ≡ got flag q) ee k in
          optional_elim id_at s p ho
          (λ hb on. both k' hb (λ ef _. nz ef))
          (λ i x hb hx _. both k' hb (λ _ eq. never (subst (λ (j : ℕ). str_at s j ≡ bad) eq u) (id_str s i hx))))

      pub attribute_name : {m : List ℕ} {g : ℕ} → str_at s q ≡ got m g → (n ≡ b) × (length b ≤ 255) × (a ≡ some m) × (length m ≤ 255) × (f ≡ g)
      attribute_name {m} {g} u = both h (id_str s at hn) (λ eb ee.
          let k' = subst (λ (j : ℕ). byte_at s j ≡ got flag q) ee k in
          let short = id_short s at hn in
          optional_elim id_at s p ho
          (λ hb on. both k' hb (λ ef _. absurd (nz ef)))
          (λ i x hb hx ow. both k' hb (λ _ eq. both (subst (λ (j : ℕ). str_at s j ≡ got m g) eq u) (id_str s i hx) (λ em eg.
          let sm = id_short s i hx in (sym eb, rw eb short, ow ∙ ap some (sym em), rw em sm, sym eg)))))

-- what `read_reference` answers
module _ (s : List ℕ) (at : ℕ) {r : rust.Option Referring} where
  pub reference_unread : r ≡ rust.None → str_at s at ≡ bad → ReferenceIs s at r
  reference_unread er h = unread er (λ n p a f hn ho. never h (id_str s at hn))

  module _ {b e : ℕ} (in₁ : (b ≤ e) × (e ≤ length s)) (h : str_at s at ≡ got (part s b (e - b)) e) where
    pub reference_flagless : r ≡ rust.None → byte_at s e ≡ bad → ReferenceIs s at r
    reference_flagless er k = unread er (λ n p a f hn ho. name_none s at h k hn ho)

    module _ {flag q : ℕ} (k : byte_at s e ≡ got flag q) where
      pub reference_bare : flag ≡ 0 → r ≡ rust.Some (record { from = b; to = e; attribute = rust.None; end = q }) → ReferenceIs s at r
      unfolding option_of
      reference_bare z er = reads b e false q q er in₁.0 in₁.1 (omega arith) (local_byte.inside s e in₁.1 k)
          (λ n p a f hn ho. let y = bare_name s at h k hn ho z in let l = length_part s b (e - b) (omega arith) in (y.0, (let j = y.1 in omega arith), y.2, omega arith, sym y.3))

      module _ (nz : flag ≡ 0 → ⊥) where
        pub reference_attributeless : r ≡ rust.None → str_at s q ≡ bad → ReferenceIs s at r
        reference_attributeless er u = unread er (λ n p a f hn ho. attribute_none s at h k hn ho nz u)

        pub reference_attribute : {c f : ℕ} → (c ≤ f) × (f ≤ length s) → str_at s q ≡ got (part s c (f - c)) f → r ≡ rust.Some (record { from = b; to = e; attribute = rust.Some (c, f); end = f }) → ReferenceIs s at r
        unfolding option_of
        reference_attribute {c} {f} in₂ u er = reads b e true c f er in₁.0 in₁.1 in₂.0 in₂.1
            (λ n p a g hn ho.
            let y = attribute_name s at h k hn ho nz u in
            let l = length_part s b (e - b) (omega arith) in
            let m = length_part s c (f - c) (omega arith) in
            (y.0, (let j = y.1 in omega arith), y.2, (let j = y.3 in omega arith), sym y.4))

-- what the answer says
module _ (s : List ℕ) (at : ℕ) {c : rust.Option Referring} where
  reference_never : ReferenceIs s at c → c ≡ rust.None → (n : Bytes) (p : ℕ) (a : Option Bytes) (f : ℕ) → id_at s at ≡ got n p → optional_at id_at s p ≡ got a f → ⊥
  reference_never (reads from to has start end er h₁ h₂ h₃ h₄ y) e = let o : ◌≡◌ {A = ℕ} 0 1 = cc in absurd (omega arith)
  reference_never (unread er y) e = y

  module _ {v : Referring} where
    pub reference_in : ReferenceIs s at c → c ≡ rust.Some v → (v.from ≤ v.to) × (v.to ≤ length s) × (v.end ≤ length s)
    reference_in (reads from to has start end er h₁ h₂ h₃ h₄ y) e =
        let q : record { from = from; to = to; attribute = span_if has start end; end = end } ≡ v = (cc) in
        subst (λ (u : Referring). (u.from ≤ u.to) × (u.to ≤ length s) × (u.end ≤ length s)) q (h₁, h₂, h₄)
    reference_in (unread er y) e = let o : ◌≡◌ {A = ℕ} 0 1 = cc in absurd (omega arith)

    pub reference_known : ReferenceIs s at c → c ≡ rust.Some v → (n : Bytes) (p : ℕ) (a : Option Bytes) (f : ℕ) → id_at s at ≡ got n p → optional_at id_at s p ≡ got a f
        → (n ≡ part s v.from (v.to - v.from)) × (length (part s v.from (v.to - v.from)) ≤ 255) × (a ≡ attribute_in s v.attribute) × Short (attribute_in s v.attribute)
    reference_known (reads from to has start end er h₁ h₂ h₃ h₄ y) e n p a f hn ho =
        let q : record { from = from; to = to; attribute = span_if has start end; end = end } ≡ v = (cc) in
        let z = y n p a f hn ho in
        let l = length_part s from (to - from) (omega arith) in
        subst (λ (u : Referring). (n ≡ part s u.from (u.to - u.from)) × (length (part s u.from (u.to - u.from)) ≤ 255) × (a ≡ attribute_in s u.attribute) × Short (attribute_in s u.attribute)) q
        (z.0, (let j = z.1 in omega arith), z.2 ∙ sym (span_attribute s start end h₃ h₄ has), span_short s start end h₃ h₄ has z.3)
    reference_known (unread er y) e n p a f hn ho = let o : ◌≡◌ {A = ℕ} 0 1 = cc in absurd (omega arith)

-- an error's record, then its text
module _ (i : List ℕ) (at : ℕ) (kind : Referred) (x l w : List ℕ) (st : Progress) where
  pub ref_none : byte_at i at ≡ bad → RefErrorAt i at kind x l w st x l w st
  ref_none h = record {
    kept = λ t. kept_same _;
    message = λ k t d n a f q. inline_elim i at d q (λ tag p hb z b. never h hb);
    term = λ k t d n a r f q. inline_elim i at d q (λ tag p hb z b. never h hb);
  }

  module _ {tag p : ℕ} (h : byte_at i at ≡ got tag p) where
    message_read : {C : Type 0} (d : ℕ) {n : Bytes} {a : Option Bytes} {f : ℕ} → inline d i at ≡ got (Inline.message n a) f → ((q g : ℕ) → id_at i p ≡ got n q → optional_at id_at i q ≡ got a g → C) → C
    message_read {C} d {n} {a} {f} e c = inline_elim i at d e (λ tag' p' hb z v. both h hb (λ et ep. go tag' p' ep v))
      where
        go : (tag' p' : ℕ) → p ≡ p' → Body (expression (d - 1)) (inline (d - 1)) i p' tag' (Inline.message n a) f → C
        go tag' p' ep (a_string b y hs ew) = let o : ◌≡◌ {A = ℕ} 0 1 = cc in absurd (omega arith)
        go tag' p' ep (a_number b y hs ew) = let o : ◌≡◌ {A = ℕ} 0 1 = cc in absurd (omega arith)
        go tag' p' ep (is_function m q b y hn ha ew) = let o : ◌≡◌ {A = ℕ} 0 1 = cc in absurd (omega arith)
        go tag' p' ep (is_message m q b y hn ha ew) =
            let em : m ≡ n = (cc) in
            let eb : b ≡ a = (cc) in
            c q f (subst (λ (j : ℕ). id_at i j ≡ got n q) (sym ep) (subst (λ (j : Bytes). id_at i p' ≡ got j q) em hn)) (subst (λ (j : Option Bytes). optional_at id_at i q ≡ got j f) eb ha)
        go tag' p' ep (is_term y q) = term_elim (inline (d - 1)) i p' q (λ m q' b g r hn ha hr ew. let o : ◌≡◌ {A = ℕ} 0 1 = cc in absurd (omega arith))
        go tag' p' ep (is_variable m y q ew) = let o : ◌≡◌ {A = ℕ} 0 1 = cc in absurd (omega arith)
        go tag' p' ep (is_nested u y q ew) = let o : ◌≡◌ {A = ℕ} 0 1 = cc in absurd (omega arith)

    term_read : {C : Type 0} (d : ℕ) {n : Bytes} {a : Option Bytes} {r : Arguments} {f : ℕ} → inline d i at ≡ got (Inline.term n a r) f → ((q g : ℕ) → id_at i p ≡ got n q → optional_at id_at i q ≡ got a g → C) → C
    term_read {C} d {n} {a} {r} {f} e c = inline_elim i at d e (λ tag' p' hb z v. both h hb (λ et ep. go tag' p' ep v))
      where
        go : (tag' p' : ℕ) → p ≡ p' → Body (expression (d - 1)) (inline (d - 1)) i p' tag' (Inline.term n a r) f → C
        go tag' p' ep (a_string b y hs ew) = let o : ◌≡◌ {A = ℕ} 0 1 = cc in absurd (omega arith)
        go tag' p' ep (a_number b y hs ew) = let o : ◌≡◌ {A = ℕ} 0 1 = cc in absurd (omega arith)
        go tag' p' ep (is_function m q b y hn ha ew) = let o : ◌≡◌ {A = ℕ} 0 1 = cc in absurd (omega arith)
        go tag' p' ep (is_message m q b y hn ha ew) = let o : ◌≡◌ {A = ℕ} 0 1 = cc in absurd (omega arith)
        go tag' p' ep (is_term y q) = term_elim (inline (d - 1)) i p' q (λ m q' b g r' hn ha hr ew.
            let em : m ≡ n = (cc) in
            let eb : b ≡ a = (cc) in
            c q' g (subst (λ (j : ℕ). id_at i j ≡ got n q') (sym ep) (subst (λ (j : Bytes). id_at i p' ≡ got j q') em hn)) (subst (λ (j : Option Bytes). optional_at id_at i q' ≡ got j g) eb ha))
        go tag' p' ep (is_variable m y q ew) = let o : ◌≡◌ {A = ℕ} 0 1 = cc in absurd (omega arith)
        go tag' p' ep (is_nested u y q ew) = let o : ◌≡◌ {A = ℕ} 0 1 = cc in absurd (omega arith)

    pub ref_unread : {c : rust.Option Referring} → ReferenceIs i p c → c ≡ rust.None → RefErrorAt i at kind x l w st x l w st
    ref_unread k e = record {
      kept = λ t. kept_same _;
      message = λ _ t d n a f h. message_read d h (λ q g hn ho. absurd (reference_never i p k e n q a g hn ho));
      term = λ _ t d n a r f h. term_read d h (λ q g hn ho. absurd (reference_never i p k e n q a g hn ho));
    }

    -- the code read a name, and its attribute if it has one
    module _ (name : Bytes) (attribute : Option Bytes) {x' l' w' : List ℕ} {s₁ r : Progress}
        (known : (n : Bytes) (q : ℕ) (a : Option Bytes) (f : ℕ) → id_at i p ≡ got n q → optional_at id_at i q ≡ got a f → (n ≡ name) × (length name ≤ 255) × (a ≡ attribute) × Short attribute)
        (listing : (t : List ℕ) → Kept (world i x l w t st) (world i x l' w t s₁))
        (lists : length name ≤ 255 → Short attribute → (t : List ℕ) → Acts (emit (report (reference kind name attribute))) (world i x l w t st) (world i x l' w t s₁))
        (puts : ErrorAt i at x w s₁ x' w' r) where
      both_run : (t : List ℕ) (d : ℕ) (y : Inline) (f : ℕ) → inline d i at ≡ got y f → (q : ℕ) (n : Bytes) (a : Option Bytes) (g : ℕ) → id_at i p ≡ got n q → optional_at id_at i q ≡ got a g
          → Runs (emit (report (reference kind n a)) >> write (braced (error_text y))) (world i x l w t st) (world i x' l' w' t r)
      both_run t d y f e q n a g hn ho =
          let z = known n q a g hn ho in
          runs_as (ap (λ (j : Error). emit (report j) >> write (braced (error_text y))) (rw (z.0, z.2))) (runs_then (lists z.1 z.3 t).runs (puts.kept l' t) (λ _. puts.runs l' t d y f e))

      pub ref_read : RefErrorAt i at kind x l w st x' l' w' r
      unfolding write_ref_error error_text
      ref_read = record {
        kept = λ t. kept_then (listing t) (puts.kept l' t);
        message = λ k t d n a f e. message_read d e (λ q g hn ho.
            subst (λ (j : Referred). Runs (emit (report (reference j n a)) >> write (braced (dotted n a))) (world i x l w t st) (world i x' l' w' t r)) k (both_run t d (Inline.message n a) f e q n a g hn ho));
        term = λ k t d n a b f e. term_read d e (λ q g hn ho.
            subst (λ (j : Referred). Runs (emit (report (reference j n a)) >> write (braced (45 ∷ dotted n a))) (world i x l w t st) (world i x' l' w' t r)) k (both_run t d (Inline.term n a b) f e q n a g hn ho));
      }

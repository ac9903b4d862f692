-- What a reference leads to: how each answer comes about, and what a writer makes of it.
use Rattle.records.specs.Relations.Answer.{Next}
use Rattle.std.specs.Prelude.{Some, None}
use mathlib.Core.Path.{◌≡◌, refl, ap, sym, subst, ◌∙◌}
use mathlib.Core.List.{List}
use mathlib.Core.Option.{Option}
use mathlib.Core.Bool.{Bool, true, false, ◌&&◌}
use Prim.Native.Nat.{ℕ, ◌+◌, ◌-◌, ◌≤◌}
use native.Mathlib.Omega.{arith}
use lib.ListN.{length}
use lib.Dec.{leb}
use borrow.Author.Tests.{leb-true, le-leb}
use Rattle.records.specs.Got.{got}
use Rattle.records.specs.Bytes.{part}
use Rattle.records.specs.Errors.{no_value}
use Rattle.records.specs.Images.{Entry, Store, store_of, entry_at}
use Rattle.texts.specs.Relations.Report.{referred_of}
use Rattle.texts.specs.declared.errors.Referred.TheVariants as referred
use Rattle.entries.specs.Lookup.{find_in, part_of}
use Rattle.entries.specs.Relations.Meets.{HolderAt, PartAt}
use Rattle.entries.specs.declared.Holder.{Holder as Held}
use Rattle.entries.specs.declared.Holder.TheVariants as found
use Rattle.resolution.specs.Effect.{report, emit}
use Rattle.state.specs.declared.Progress.{Progress}
use Rattle.std.specs.Prelude as rust
use Rattle.state.specs.declared.Referring.{Referring}
use Rattle.resolver.specs.Relations.Meets.{Lent, World, world, Kept, Acts, env}
use Rattle.resolver.specs.Relations.Leaves.{ErrorAt, RefErrorAt, ReferenceIs, attribute_in}
use Rattle.resolver.specs.Relations.Members.{TrackAt, MessageAt, FoundTermAt}
use Rattle.resolver.proofs.Single.Puts.{counts}
use Rattle.resolver.specs.declared.reference.NoEntry.{NoEntry}
use Rattle.resolver.specs.declared.reference.Target as CodeTarget
use Rattle.resolver.specs.declared.reference.Target.TheVariants as target
use Rattle.resolver.specs.Relations.Targets.{no_entry, count_if, in_order, TargetAt, holder_of, lacking_if, lacking_of, MessageTarget, message_goes, message_lacks, message_misses, message_bad, TermTarget, term_goes, term_misses, term_bad}
use Rattle.resolver.proofs.References.{reference_in, message_unread, message_term, message_function, message_lost, message_track, message_no_attribute, message_no_value, found_term_unread, found_term_message, found_term_function, found_term_lost, found_term_track, found_term_no_part}

-- four numbers in order
pub order_is : (a b c d : ℕ) → in_order a b c d ≡ true → (a ≤ b) × (b ≤ c) × (c ≤ d)
unfolding in_order
order_is a b c d h = go (leb a b) refl (leb b c) refl (leb c d) refl h
  where
    go : (x : Bool) → leb a b ≡ x → (y : Bool) → leb b c ≡ y → (z : Bool) → leb c d ≡ z → (x && (y && z)) ≡ true → (a ≤ b) × (b ≤ c) × (c ≤ d)
    go true ex true ey true ez e = (leb-true a b ex, leb-true b c ey, leb-true c d ez)
    go true ex true ey false ez e = let z : ◌≡◌ {A = ℕ} 0 1 = cc in absurd (omega arith)
    go true ex false ey z ez e = let z : ◌≡◌ {A = ℕ} 0 1 = cc in absurd (omega arith)
    go false ex y ey z ez e = let z : ◌≡◌ {A = ℕ} 0 1 = cc in absurd (omega arith)

pub order_not : (a b c d : ℕ) → in_order a b c d ≡ false → a ≤ b → b ≤ c → c ≤ d → ⊥
unfolding in_order
order_not a b c d h ab bc cd =
    let e : (leb a b && (leb b c && leb c d)) ≡ true = rw (le-leb a b ab, le-leb b c bc, le-leb c d cd) in
    let y : true ≡ false = sym e ∙ h in
    let z : ◌≡◌ {A = ℕ} 0 1 = cc in
    absurd (omega arith)

-- how each answer comes about
module _ (s : List ℕ) (at : ℕ) {r : rust.Option Referring} (rd : ReferenceIs s (at + 1) r) where
  message_to_bad : r ≡ rust.None → MessageTarget s at target.Bad
  message_to_bad er = message_bad refl (λ image w. message_unread (env s image) at rd w er)

  term_to_bad : r ≡ rust.None → TermTarget s at target.Bad
  term_to_bad er = term_bad refl (λ image w. found_term_unread (env s image) at rd w er)

  module _ (y : Referring) (er : r ≡ rust.Some y) {h : rust.Option Held}
      (hold : (st : Store) (f : ℕ) → store_of s ≡ got st f → HolderAt s (find_in st.items (part s y.from (y.to - y.from))) h) where
    message_to_term : {q : ℕ} → h ≡ rust.Some (found.Term q) → MessageTarget s at (target.Missing false)
    unfolding count_if
    message_to_term eh = message_misses false refl (λ image x l w x' l' w' t st s' re. message_term (env s image) at rd y er hold t re eh)

    message_to_function : h ≡ rust.Some found.Function → MessageTarget s at (target.Missing false)
    unfolding count_if
    message_to_function eh = message_misses false refl (λ image x l w x' l' w' t st s' re. message_function (env s image) at rd y er hold t re eh)

    message_to_nothing : h ≡ rust.None → MessageTarget s at (target.Missing true)
    unfolding count_if
    message_to_nothing eh = message_misses true refl (λ image x l w x' l' w' t st s' re. message_lost (env s image) at rd y er hold t re eh (counts refl))

    term_to_message : {q : ℕ} → h ≡ rust.Some (found.Message q) → TermTarget s at (target.Missing false)
    unfolding count_if
    term_to_message eh = term_misses false refl (λ image x l w x' l' w' t st s' re. found_term_message (env s image) at rd y er hold t re eh)

    term_to_function : h ≡ rust.Some found.Function → TermTarget s at (target.Missing false)
    unfolding count_if
    term_to_function eh = term_misses false refl (λ image x l w x' l' w' t st s' re. found_term_function (env s image) at rd y er hold t re eh)

    term_to_nothing : h ≡ rust.None → TermTarget s at (target.Missing true)
    unfolding count_if
    term_to_nothing eh = term_misses true refl (λ image x l w x' l' w' t st s' re. found_term_lost (env s image) at rd y er hold t re eh (counts refl))

    module _ (entry : ℕ) {rn : Next} (pt : (x : Entry) (f : ℕ) → entry_at s entry ≡ got x f → PartAt s (part_of (attribute_in s y.attribute) x) rn) where
      message_to_part : {q : ℕ} → h ≡ rust.Some (found.Message entry) → rn ≡ Some q → MessageTarget s at (target.At q)
      message_to_part {q} eh en = message_goes q refl (λ image w v g. message_track (env s image) at rd y er hold entry pt eh en g)

      message_to_attribute : {place : ℕ × ℕ} → h ≡ rust.Some (found.Message entry) → rn ≡ None → y.attribute ≡ rust.Some place → MessageTarget s at (target.Missing false)
      unfolding count_if
      message_to_attribute eh en has = message_misses false refl (λ image x l w x' l' w' t st s' re. message_no_attribute (env s image) at rd y er hold entry pt t eh en has re)

      message_to_value : h ≡ rust.Some (found.Message entry) → rn ≡ None → y.attribute ≡ rust.None → MessageTarget s at (target.NoValue y.from y.to)
      message_to_value eh en has =
          let i = reference_in s (at + 1) rd y er in
          message_lacks y.from y.to refl i.0 i.1 (λ image x l w l1 x' w' t st s1 s' lst b. message_no_value (env s image) at rd y er hold entry pt t eh en has lst b)

      term_to_part : {q : ℕ} → h ≡ rust.Some (found.Term entry) → rn ≡ Some q → TermTarget s at (target.At q)
      term_to_part {q} eh en = term_goes q refl (λ image w v g. found_term_track (env s image) at rd y er hold entry pt eh en g)

      term_to_none : h ≡ rust.Some (found.Term entry) → rn ≡ None → TermTarget s at (target.Missing false)
      unfolding count_if
      term_to_none eh en = term_misses false refl (λ image x l w x' l' w' t st s' re. found_term_no_part (env s image) at rd y er hold entry pt t eh en re)

-- the holder that is asked for
unfoldable kind_of : Bool → ℕ → rust.Option Held
kind_of true q = rust.Some (found.Term q)
kind_of false q = rust.Some (found.Message q)

held : (term : Bool) (k : rust.Option Held) {entry : ℕ} → holder_of term k ≡ rust.Ok entry → k ≡ kind_of term entry
unfolding holder_of kind_of
held true (rust.Some (found.Message q)) e = let z : ◌≡◌ {A = ℕ} 0 1 = cc in absurd (omega arith)
held false (rust.Some (found.Message q)) {entry} e = let h : q ≡ entry = (cc) in ap (λ (j : ℕ). rust.Some (found.Message j)) h
held true (rust.Some (found.Term q)) {entry} e = let h : q ≡ entry = (cc) in ap (λ (j : ℕ). rust.Some (found.Term j)) h
held false (rust.Some (found.Term q)) e = let z : ◌≡◌ {A = ℕ} 0 1 = cc in absurd (omega arith)
held true (rust.Some found.Function) e = let z : ◌≡◌ {A = ℕ} 0 1 = cc in absurd (omega arith)
held false (rust.Some found.Function) e = let z : ◌≡◌ {A = ℕ} 0 1 = cc in absurd (omega arith)
held true rust.None e = let z : ◌≡◌ {A = ℕ} 0 1 = cc in absurd (omega arith)
held false rust.None e = let z : ◌≡◌ {A = ℕ} 0 1 = cc in absurd (omega arith)

pub holder_function : (term : Bool) {k : rust.Option Held} → k ≡ rust.Some found.Function → no_entry false ≡ holder_of term k
unfolding holder_of
holder_function true e = rw e
holder_function false e = rw e

pub holder_nothing : (term : Bool) {k : rust.Option Held} → k ≡ rust.None → no_entry true ≡ holder_of term k
unfolding holder_of
holder_nothing true e = rw e
holder_nothing false e = rw e

-- what stands for a part that an entry lacks
module _ {term : Bool} (y : Referring) where
  pub lacking_term : term ≡ true → target.Missing false ≡ lacking_of term y
  unfolding lacking_of
  lacking_term e = ap (λ (b : Bool). lacking_of b y) (sym e)

  pub lacking_attribute : {place : ℕ × ℕ} → term ≡ false → y.attribute ≡ rust.Some place → target.Missing false ≡ lacking_of term y
  unfolding lacking_of lacking_if
  lacking_attribute e h = ap (λ (b : rust.Option (ℕ × ℕ)). lacking_if b y) (sym h) ∙ ap (λ (b : Bool). lacking_of b y) (sym e)

  pub lacking_value : term ≡ false → y.attribute ≡ rust.None → target.NoValue y.from y.to ≡ lacking_of term y
  unfolding lacking_of lacking_if
  lacking_value e h = ap (λ (b : rust.Option (ℕ × ℕ)). lacking_if b y) (sym h) ∙ ap (λ (b : Bool). lacking_of b y) (sym e)

-- whether a lookup is lost, by the answer
abbrev lost_of : rust.Result ℕ NoEntry → Bool
lost_of (rust.Ok q) = false
lost_of (rust.Err n) = n.lost

-- how each answer comes about, whichever kind is asked for
module _ (s : List ℕ) (at : ℕ) {r : rust.Option Referring} (rd : ReferenceIs s (at + 1) r) where
  pub target_bad : (term : Bool) → r ≡ rust.None → TargetAt term s at target.Bad
  target_bad true er = term_to_bad s at rd er
  target_bad false er = message_to_bad s at rd er

  module _ (y : Referring) (er : r ≡ rust.Some y) {h : rust.Option Held}
      (hold : (st : Store) (f : ℕ) → store_of s ≡ got st f → HolderAt s (find_in st.items (part s y.from (y.to - y.from))) h) where
    pub target_not : (term : Bool) {lost : Bool} → holder_of term h ≡ no_entry lost → TargetAt term s at (target.Missing lost)
    unfolding holder_of
    target_not true {lost} e = go h refl e
      where
        go : (k : rust.Option Held) → h ≡ k → holder_of true k ≡ no_entry lost → TermTarget s at (target.Missing lost)
        go (rust.Some (found.Message q)) eh f = let b : false ≡ lost = ap lost_of f in subst (λ (x : Bool). TermTarget s at (target.Missing x)) b (term_to_message s at rd y er hold eh)
        go (rust.Some (found.Term q)) eh f = let z : ◌≡◌ {A = ℕ} 0 1 = cc in absurd (omega arith)
        go (rust.Some found.Function) eh f = let b : false ≡ lost = ap lost_of f in subst (λ (x : Bool). TermTarget s at (target.Missing x)) b (term_to_function s at rd y er hold eh)
        go rust.None eh f = let b : true ≡ lost = ap lost_of f in subst (λ (x : Bool). TermTarget s at (target.Missing x)) b (term_to_nothing s at rd y er hold eh)
    target_not false {lost} e = go h refl e
      where
        go : (k : rust.Option Held) → h ≡ k → holder_of false k ≡ no_entry lost → MessageTarget s at (target.Missing lost)
        go (rust.Some (found.Message q)) eh f = let z : ◌≡◌ {A = ℕ} 0 1 = cc in absurd (omega arith)
        go (rust.Some (found.Term q)) eh f = let b : false ≡ lost = ap lost_of f in subst (λ (x : Bool). MessageTarget s at (target.Missing x)) b (message_to_term s at rd y er hold eh)
        go (rust.Some found.Function) eh f = let b : false ≡ lost = ap lost_of f in subst (λ (x : Bool). MessageTarget s at (target.Missing x)) b (message_to_function s at rd y er hold eh)
        go rust.None eh f = let b : true ≡ lost = ap lost_of f in subst (λ (x : Bool). MessageTarget s at (target.Missing x)) b (message_to_nothing s at rd y er hold eh)

    module _ (entry : ℕ) {rn : Next} (pt : (x : Entry) (f : ℕ) → entry_at s entry ≡ got x f → PartAt s (part_of (attribute_in s y.attribute) x) rn) where
      pub target_part : (term : Bool) {q : ℕ} → holder_of term h ≡ rust.Ok entry → rn ≡ Some q → TargetAt term s at (target.At q)
      unfolding kind_of
      target_part true e en = term_to_part s at rd y er hold entry pt (held true h e) en
      target_part false e en = message_to_part s at rd y er hold entry pt (held false h e) en

      pub target_lacking : (term : Bool) {v : CodeTarget.Target} → holder_of term h ≡ rust.Ok entry → rn ≡ None → v ≡ lacking_of term y → TargetAt term s at v
      unfolding kind_of lacking_of lacking_if
      target_lacking true e en ev = subst (λ (x : CodeTarget.Target). TermTarget s at x) (sym ev) (term_to_none s at rd y er hold entry pt (held true h e) en)
      target_lacking false e en ev = subst (λ (x : CodeTarget.Target). MessageTarget s at x) (sym ev) (go y.attribute refl)
        where
          go : (b : rust.Option (ℕ × ℕ)) → y.attribute ≡ b → MessageTarget s at (lacking_if y.attribute y)
          go (rust.Some place) eb = subst (λ (x : rust.Option (ℕ × ℕ)). MessageTarget s at (lacking_if x y)) (sym eb) (message_to_attribute s at rd y er hold entry pt (held false h e) en eb)
          go rust.None eb = subst (λ (x : rust.Option (ℕ × ℕ)). MessageTarget s at (lacking_if x y)) (sym eb) (message_to_value s at rd y er hold entry pt (held false h e) en eb)

-- the part of an attribute, under another name
pub part_as : (s : List ℕ) (at : ℕ) {a b : Option (List ℕ)} {r : Next} → a ≡ b → ((x : Entry) (f : ℕ) → entry_at s at ≡ got x f → PartAt s (part_of a x) r) → (x : Entry) (f : ℕ) → entry_at s at ≡ got x f → PartAt s (part_of b x) r
part_as s at {r = r} e h x f k = subst (λ (o : Option (List ℕ)). PartAt s (part_of o x) r) e (h x f k)

-- what a writer makes of each answer
module _ {s : List ℕ} {at : ℕ} {r : CodeTarget.Target} where
  pub message_tracked : {q : ℕ} → MessageTarget s at r → r ≡ target.At q → (image : Lent) {w v : World} → TrackAt (env s image) at q w v → MessageAt (env s image) at w v
  message_tracked {q} (message_goes q' e f) er image {w} {v} g =
      let eq : q ≡ q' = cc in
      f image w v (subst (λ (j : ℕ). TrackAt (env s image) at j w v) eq g)
  message_tracked (message_lacks from to e i j f) er image g = let z : ◌≡◌ {A = ℕ} 0 1 = cc in absurd (omega arith)
  message_tracked (message_misses lost e f) er image g = let z : ◌≡◌ {A = ℕ} 0 1 = cc in absurd (omega arith)
  message_tracked (message_bad e f) er image g = let z : ◌≡◌ {A = ℕ} 0 1 = cc in absurd (omega arith)

  pub message_inside : {a b : ℕ} → MessageTarget s at r → r ≡ target.NoValue a b → (a ≤ b) × (b ≤ length s)
  message_inside (message_goes q' e f) er = let z : ◌≡◌ {A = ℕ} 0 1 = cc in absurd (omega arith)
  message_inside {a} {b} (message_lacks from to e i j f) er = let ea : from ≡ a = cc in let eb : to ≡ b = cc in (omega arith, omega arith)
  message_inside (message_misses lost e f) er = let z : ◌≡◌ {A = ℕ} 0 1 = cc in absurd (omega arith)
  message_inside (message_bad e f) er = let z : ◌≡◌ {A = ℕ} 0 1 = cc in absurd (omega arith)

  pub message_listed : {a b : ℕ} → MessageTarget s at r → r ≡ target.NoValue a b → (image : Lent) {x l w l1 x' w' : List ℕ} (t : List ℕ) {st s1 s' : Progress}
      → ((i x w t : List ℕ) → Kept (world i x l w t st) (world i x l1 w t s1))
      × (length (part s a (b - a)) ≤ 255 → (i x w t : List ℕ) → Acts (emit (report (no_value (part s a (b - a))))) (world i x l w t st) (world i x l1 w t s1))
      → ErrorAt s at x w s1 x' w' s' → MessageAt (env s image) at (world s x l w t st) (world s x' l1 w' t s')
  message_listed (message_goes q' e f) er image t lst b = let z : ◌≡◌ {A = ℕ} 0 1 = cc in absurd (omega arith)
  message_listed {a} {b} (message_lacks from to e i j f) er image {x} {l} {w} {l1} {x'} {w'} t {st} {s1} {s'} lst d =
      let ea : from ≡ a = cc in let eb : to ≡ b = cc in
      f image x l w l1 x' w' t st s1 s' (rw (ea, eb) lst) d
  message_listed (message_misses lost e f) er image t lst b = let z : ◌≡◌ {A = ℕ} 0 1 = cc in absurd (omega arith)
  message_listed (message_bad e f) er image t lst b = let z : ◌≡◌ {A = ℕ} 0 1 = cc in absurd (omega arith)

  pub message_missed : {b : Bool} → MessageTarget s at r → r ≡ target.Missing b → (image : Lent) {x l w x' l' w' : List ℕ} (t : List ℕ) {st s1 s' : Progress} → s1 ≡ count_if b st
      → RefErrorAt s at (referred_of referred.Message) x l w s1 x' l' w' s' → MessageAt (env s image) at (world s x l w t st) (world s x' l' w' t s')
  message_missed (message_goes q' e f) er image t es re = let z : ◌≡◌ {A = ℕ} 0 1 = cc in absurd (omega arith)
  message_missed (message_lacks from to e i j f) er image t es re = let z : ◌≡◌ {A = ℕ} 0 1 = cc in absurd (omega arith)
  message_missed {b} (message_misses lost e f) er image {x} {l} {w} {x'} {l'} {w'} t {st} {s1} {s'} es re =
      let eb : b ≡ lost = cc in
      f image x l w x' l' w' t st s'
      (subst (λ (o : Bool). RefErrorAt s at (referred_of referred.Message) x l w (count_if o st) x' l' w' s') eb (subst (λ (o : Progress). RefErrorAt s at (referred_of referred.Message) x l w o x' l' w' s') es re))
  message_missed (message_bad e f) er image t es re = let z : ◌≡◌ {A = ℕ} 0 1 = cc in absurd (omega arith)

  pub message_nowhere : MessageTarget s at r → r ≡ target.Bad → (image : Lent) (w : World) → MessageAt (env s image) at w w
  message_nowhere (message_goes q' e f) er image w = let z : ◌≡◌ {A = ℕ} 0 1 = cc in absurd (omega arith)
  message_nowhere (message_lacks from to e i j f) er image w = let z : ◌≡◌ {A = ℕ} 0 1 = cc in absurd (omega arith)
  message_nowhere (message_misses lost e f) er image w = let z : ◌≡◌ {A = ℕ} 0 1 = cc in absurd (omega arith)
  message_nowhere (message_bad e f) er image w = f image w

  pub term_tracked : {q : ℕ} → TermTarget s at r → r ≡ target.At q → (image : Lent) {w v : World} → TrackAt (env s image) at q w v → FoundTermAt (env s image) at w v
  term_tracked {q} (term_goes q' e f) er image {w} {v} g =
      let eq : q ≡ q' = cc in
      f image w v (subst (λ (j : ℕ). TrackAt (env s image) at j w v) eq g)
  term_tracked (term_misses lost e f) er image g = let z : ◌≡◌ {A = ℕ} 0 1 = cc in absurd (omega arith)
  term_tracked (term_bad e f) er image g = let z : ◌≡◌ {A = ℕ} 0 1 = cc in absurd (omega arith)

  pub term_missed : {b : Bool} → TermTarget s at r → r ≡ target.Missing b → (image : Lent) {x l w x' l' w' : List ℕ} (t : List ℕ) {st s1 s' : Progress} → s1 ≡ count_if b st
      → RefErrorAt s at (referred_of referred.Term) x l w s1 x' l' w' s' → FoundTermAt (env s image) at (world s x l w t st) (world s x' l' w' t s')
  term_missed (term_goes q' e f) er image t es re = let z : ◌≡◌ {A = ℕ} 0 1 = cc in absurd (omega arith)
  term_missed {b} (term_misses lost e f) er image {x} {l} {w} {x'} {l'} {w'} t {st} {s1} {s'} es re =
      let eb : b ≡ lost = cc in
      f image x l w x' l' w' t st s'
      (subst (λ (o : Bool). RefErrorAt s at (referred_of referred.Term) x l w (count_if o st) x' l' w' s') eb (subst (λ (o : Progress). RefErrorAt s at (referred_of referred.Term) x l w o x' l' w' s') es re))
  term_missed (term_bad e f) er image t es re = let z : ◌≡◌ {A = ℕ} 0 1 = cc in absurd (omega arith)

  pub term_nowhere : TermTarget s at r → r ≡ target.Bad → (image : Lent) (w : World) → FoundTermAt (env s image) at w w
  term_nowhere (term_goes q' e f) er image w = let z : ◌≡◌ {A = ℕ} 0 1 = cc in absurd (omega arith)
  term_nowhere (term_misses lost e f) er image w = let z : ◌≡◌ {A = ℕ} 0 1 = cc in absurd (omega arith)
  term_nowhere (term_bad e f) er image w = f image w

  -- a term without a value is not an answer: never
  pub term_valued : {C : Type 0} {a b : ℕ} → TermTarget s at r → r ≡ target.NoValue a b → C
  term_valued (term_goes q' e f) er = let z : ◌≡◌ {A = ℕ} 0 1 = cc in absurd (omega arith)
  term_valued (term_misses lost e f) er = let z : ◌≡◌ {A = ℕ} 0 1 = cc in absurd (omega arith)
  term_valued (term_bad e f) er = let z : ◌≡◌ {A = ℕ} 0 1 = cc in absurd (omega arith)

-- The ways in which the pattern that is asked for is found, or refused.
use Rattle.std.specs.Option.{ok_or}
use Rattle.records.specs.Relations.Answer.{Next}
use Rattle.std.specs.Prelude.{Some, None}
use mathlib.Core.Path.{◌≡◌, refl, ap, sym, subst, ◌∙◌}
use mathlib.Core.Bool.{true, false}
use mathlib.Core.Option.{Option, none, some}
use Prim.Native.Nat.{ℕ}
use native.Mathlib.Omega.{arith}
use Rattle.records.specs.Got.{got, bad}
use Rattle.rules.specs.Rules.{is_id}
use Rattle.records.specs.Decode.{entry_pattern_at}
use Rattle.records.specs.Images.{Entry, Store, store_of}
use Rattle.entries.specs.Lookup.{find_in, part_of}
use Rattle.entries.specs.Outline.{Location, part_in, locate}
use Rattle.entries.specs.Relations.Meets.{found_of, held_by, at_position, HolderAt, is_message_at, term_at, is_function_at, nothing_at, PartAt, part_at, no_part}
use Rattle.entries.specs.declared.Holder.{Holder as Held}
use Rattle.std.specs.Prelude as rust
use Rattle.entries.specs.declared.Holder.TheVariants as found
use Rattle.entries.proofs.Held.{held_found, says_held}
use Rattle.entries.proofs.Located.{holder_at}
use Rattle.entries.proofs.Parts.{part_at_place}
use Rattle.resolution.specs.Effect.{Bytes}
use Rattle.resolution.specs.Resolve.{as_message, message_only}
use Rattle.resolution.specs.Format.{Buffers, or_refuse, is_id_or_none, format_part, format_entry, format_store, format}
use Rattle.refusals.specs.declared.Refusal.TheVariants as refusal
use Rattle.refusals.specs.Numbers.{number_of}
use Rattle.std.specs.Prelude.{Ok, Err}
use Rattle.resolver.specs.Relations.Runs.{Part, part_answer, message_at, message_in, MessageFound, no_message, no_such_part, pattern_found, PatternFound, refuses, finds}

-- 4: no store
pub pattern_no_store : (s id : Bytes) (a : Option Bytes) {r : Part} → store_of s ≡ bad → r ≡ Err refusal.MalformedStore → PatternFound s id a r
unfolding format format_store number_of
pattern_no_store s id a h er = refuses refusal.MalformedStore er (λ image b. rw h refl)

module _ (s id : Bytes) (a : Option Bytes) {st : Store} {used : ℕ} (h : store_of s ≡ got st used) where
  -- 8: no Id
  pub pattern_no_id : {r : Part} → is_id id ≡ false → r ≡ Err refusal.NoId → PatternFound s id a r
  unfolding format format_store or_refuse number_of
  pattern_no_id e er = refuses refusal.NoId er (λ image b. rw (h, e) refl)

  pub pattern_no_attribute_id : {r : Part} → is_id id ≡ true → is_id_or_none a ≡ false → r ≡ Err refusal.NoId → PatternFound s id a r
  unfolding format format_store or_refuse number_of
  pattern_no_attribute_id e e' er = refuses refusal.NoId er (λ image b. rw (h, e, e') refl)

  module _ (e : is_id id ≡ true) (e' : is_id_or_none a ≡ true) where
    entered : (image : Bytes) (b : Buffers) → format s id a image b ≡ format_entry st (as_message (find_in st.items id)) a image b
    unfolding format format_store or_refuse
    entered image b = rw (h, e, e') refl

    -- 11, 12, or the pattern
    pub pattern_of_law : {r : Part} → MessageFound s st id a r → PatternFound s id a r
    unfolding format_entry format_part number_of
    pattern_of_law (no_message er o) = refuses refusal.NoMessage er (λ image b. entered image b ∙ rw o refl)
    pattern_of_law (no_such_part e er o n) = refuses refusal.NoPattern er (λ image b. entered image b ∙ rw (o, n) refl)
    pattern_of_law (pattern_found e q p f er o n hp) = finds q st used p f er h hp (λ image b. entered image b ∙ rw (o, n) refl)

-- what stands at the places of the outline is what the store's reading says
module _ (s id : Bytes) (a : Option Bytes) {v : Store} {used : ℕ} (h : store_of s ≡ got v used) where
  part_of_law : (o : Option ℕ) (e : Entry) → as_message (find_in v.items id) ≡ some e → PartAt s (part_of a e) (at_position o) → MessageFound s v id a (part_answer o)
  unfolding part_answer at_position
  part_of_law none e he (no_part _ n) = no_such_part e refl he n
  part_of_law none e he (part_at _ _ _ g _ _) = let z : ◌≡◌ {A = ℕ} 0 1 = cc in absurd (omega arith)
  part_of_law (some q) e he (part_at q' p f g n hp) =
      let eq : q' ≡ q = cc in
      pattern_found e q p f refl he n (subst (λ (i : ℕ). entry_pattern_at s i ≡ got p f) eq hp)
  part_of_law (some q) e he (no_part g _) = let z : ◌≡◌ {A = ℕ} 0 1 = cc in absurd (omega arith)

  holder_found : (o : Option Location) → HolderAt s (find_in v.items id) (found_of o) → MessageFound s v id a (message_at o s a)
  unfolding as_message message_only held_by message_at
  holder_found o (is_message_at q e f g oe k at) =
      let eo : o ≡ some (Location.message q) = sym (held_found o) ∙ ap held_by g in
      let he : as_message (find_in v.items id) ≡ some e = rw (oe, k) refl in
      rw eo (part_of_law (part_in a s q) e he (part_at_place s q a refl e f at))
  holder_found o (term_at q e f g oe k at) =
      let eo : o ≡ some (Location.term q) = sym (held_found o) ∙ ap held_by g in
      rw eo (no_message refl (rw (oe, k) refl))
  holder_found o (is_function_at g oe) =
      let eo : o ≡ some Location.function = sym (held_found o) ∙ ap held_by g in
      rw eo (no_message refl (rw oe refl))
  holder_found o (nothing_at g oe) =
      let eo : o ≡ none = sym (held_found o) ∙ ap held_by g in
      rw eo (no_message refl (rw oe refl))

  pub message_found_law : {r : Part} → r ≡ message_in s id a → MessageFound s v id a r
  unfolding message_in
  message_found_law e = rw e (holder_found (locate s id) (holder_at s id refl v used h))

-- the code's steps: what holds the id, and then the part
module _ (s id : Bytes) (a : Option Bytes) {f : rust.Option Held} (is : f ≡ found_of (locate s id)) where
  located : {x : rust.Option Held} → f ≡ x → locate s id ≡ held_by x
  located e = sym (says_held is) ∙ ap held_by e

  pub found_term_law : {q : ℕ} → f ≡ rust.Some (found.Term q) → Err refusal.NoMessage ≡ message_in s id a
  unfolding message_in message_at held_by
  found_term_law e = rw (located e) refl

  pub found_function : f ≡ rust.Some found.Function → Err refusal.NoMessage ≡ message_in s id a
  unfolding message_in message_at held_by
  found_function e = rw (located e) refl

  pub found_nothing : f ≡ rust.None → Err refusal.NoMessage ≡ message_in s id a
  unfolding message_in message_at held_by
  found_nothing e = rw (located e) refl

  module _ {q : ℕ} (e : f ≡ rust.Some (found.Message q)) {n : Next} (ip : n ≡ at_position (part_in a s q)) where
    in_message : message_in s id a ≡ part_answer (part_in a s q)
    unfolding message_in message_at held_by
    in_message = rw (located e) refl

    answered : (o : Option ℕ) → ok_or (at_position o) refusal.NoPattern ≡ part_answer o
    unfolding at_position part_answer
    answered none = refl
    answered (some i) = refl

    pub found_part : {r : Part} → r ≡ ok_or n refusal.NoPattern → r ≡ message_in s id a
    found_part h = h ∙ ap (λ (o : Next). ok_or o refusal.NoPattern) ip ∙ answered (part_in a s q) ∙ sym in_message

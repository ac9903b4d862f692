-- The parts of an entry that decodes: where the outline places a pattern, that pattern stands.
use Rattle.records.specs.Relations.Answer.{Next}
use mathlib.Core.Path.{◌≡◌, refl}
use mathlib.Core.Bool.{Bool, true, false}
use mathlib.Core.List.{List, [], ◌∷◌}
use mathlib.Core.Option.{Option, some, none}
use Prim.Native.Nat.{ℕ}
use Rattle.records.specs.Got.{got, after, test}
use Rattle.records.specs.Bytes.{str_at}
use Rattle.decimals.specs.Bytes.{same_bytes}
use Rattle.records.specs.Decode.{entry_pattern_at}
use Rattle.records.specs.Images.{Attribute, Entry, attribute_at, entry_at}
use Rattle.records.proofs.Laws.{after_is}
use Rattle.records.proofs.Views.{optional_elim, attribute_elim, attributes_elim, id_str}
use Rattle.entries.specs.Lookup.{part_of}
use Rattle.records.specs.Names.{first_named}
use Rattle.records.specs.Optional.{or_else, option_of}
use Rattle.entries.specs.Outline.{list_after, attribute_head, attribute_outline, value_in, attributes_in, position_of, part_in}
use Rattle.entries.specs.Relations.Meets.{at_position, PartAt, part_at, no_part}
use Rattle.entries.proofs.Open.{entry_parts}
use Rattle.entries.proofs.Walk.{behind_str}
use Rattle.entries.proofs.Decoded.{Each, many_heads, attribute_ends, value_ends}

module _ (s : List ℕ) where
  value_part : (at : ℕ) (x : Entry) (f : ℕ) → entry_at s at ≡ got x f → PartAt s x.value (at_position (position_of (value_in s at)))
  unfolding value_in after test position_of at_position
  value_part at x f h =
      entry_parts s at h (λ a e i hi _ hv _.
      optional_elim entry_pattern_at s e hv
      (λ hb w. rw (behind_str 1 s at hi, hb) (no_part refl w))
      (λ j p hb hp w. rw (behind_str 1 s at hi, hb) (part_at j p i refl w hp)))

  -- an attribute that is read, and its head
  abbrev AttributeRow : Attribute → List ℕ × ℕ → Type 0
  AttributeRow a row = (row.0 ≡ a.0) × (f : ℕ) × (entry_pattern_at s row.1 ≡ got a.1 f)

  attribute_says : (at : ℕ) (a : Attribute) (f : ℕ) → attribute_at s at ≡ got a f → (row : List ℕ × ℕ) × (i : ℕ) × (attribute_head s at ≡ got row i) × AttributeRow a row
  unfolding attribute_head
  attribute_says at a f h = attribute_elim s at h (λ n p y hn hy w. ((n, p), p, after_is (str_at s at) _ (id_str s at hn), rw w (refl, f, hy)))

  named_part : (name : List ℕ) (l : List Attribute) (rows : List (List ℕ × ℕ)) → Each AttributeRow l rows → PartAt s (first_named name l) (at_position (first_named name rows))
  unfolding first_named at_position or_else option_of
  named_part name [] [] h = no_part refl refl
  named_part name [] (row ∷ rows) h = absurd h
  named_part name (a ∷ l) [] h = absurd h
  named_part name (a ∷ l) (row ∷ rows) h = rw h.0.0 (go (same_bytes a.0 name) (named_part name l rows h.1))
    where
      go : (b : Bool) → PartAt s (first_named name l) (at_position (first_named name rows)) → PartAt s (or_else (option_of b a.1) (first_named name l)) (at_position (or_else (option_of b row.1) (first_named name rows)))
      go true k = part_at row.1 a.1 h.0.1 refl refl h.0.2
      go false k = k

  attribute_part : (at : ℕ) (name : List ℕ) (x : Entry) (f : ℕ) → entry_at s at ≡ got x f → PartAt s (first_named name x.attributes) (at_position (first_named name (attributes_in s at)))
  unfolding attributes_in list_after
  attribute_part at name x f h =
      entry_parts s at h (λ a e i hi _ hv ha.
      attributes_elim s i ha (λ k p hk hm.
      rw (behind_str 1 s at hi, (value_ends s e x.value i hv).1, hk)
      (named_part name x.attributes _ (many_heads AttributeRow attribute_at attribute_head attribute_outline s (attribute_ends s) attribute_says k p x.attributes f hm))))

  -- for callers
  pub part_at_place : (at : ℕ) (a : Option (List ℕ)) {r : Next} → r ≡ at_position (part_in a s at) → (x : Entry) (f : ℕ) → entry_at s at ≡ got x f → PartAt s (part_of a x) r
  unfolding part_in part_of
  part_at_place at none is x f h = rw is (value_part at x f h)
  part_at_place at (some n) is x f h = rw is (attribute_part at n x f h)

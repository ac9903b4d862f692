-- What resolution writes and reports in a valid bundle, where joining texts keeps what is asked of them and every leaf is as that needs.
use mathlib.Core.Path.{◌≡◌}
use mathlib.Core.List.{List, [], ◌∷◌}
use mathlib.Core.Option.{Option, none, some}
use Prim.Native.Nat.{◌≤◌}
use lib.ListN.{length}
use lib.Dec.{leb, eqb}
use borrow.Author.Tests.{leb-true}
use Rattle.decimals.specs.Bytes.{run}
use Rattle.rules.specs.Rules.{id_step, is_id}
use Rattle.numbers.specs.Value.{Value}
use Rattle.unescape.specs.Unescape.{unescape}
use Rattle.records.specs.Tree.{Pattern}
use Rattle.records.specs.Images.{Entry, Store, Argument}
use Rattle.records.specs.Errors.{Referred, reference, no_value, missing_default, cyclic, too_many_placeables}
use Rattle.records.specs.Valid.{All, IfAny, ValidId, ValidEntryPattern, ValidStore}
use Rattle.texts.specs.ErrorList.{Brief}
use Rattle.layout.proofs.Octets.{and_right}
use Rattle.entries.specs.Lookup.{Holder, find_in, part_of}
use Rattle.resolution.specs.Effect.{Bytes}
use Rattle.resolution.specs.Resolve.{bytes_of, as_message, resolve}
use Rattle.resolution.specs.Format.{value_of, values_of, max_patterns, fresh}
use Rattle.theorems.specs.Finished.{setting_of}
use Rattle.theorems.specs.Leaves.{Leaf, leaves_of, InLeaves, InItems}
use Rattle.theorems.proofs.Held.{message_held, term_held}
use Rattle.theorems.proofs.Every.{all_both, in_found, in_part}
use Rattle.theorems.proofs.Ascii.{Ascii}
use Rattle.theorems.proofs.Valid.{ValidLeaf, leaves_valid, valid_ascii, valid_any_ascii, store_patterns}
use Rattle.theorems.proofs.WalkLeaves.{Any, Fine, GoodLeaf, FineNamed, k_resolve}
use Rattle.theorems.proofs.Written.{Joins, Good, Goods, goods_closed, goods_look}

-- errors whose Ids are Ids
id_brief : (i : Bytes) → ValidId i → length i ≤ 255
unfolding is_id
id_brief i h = leb-true _ _ (and_right (eqb (run id_step 0 i) 1) (leb (length i) 255) h.1)

reference_brief : (k : Referred) (i : Bytes) (a : Option Bytes) → ValidId i → IfAny ValidId a → Brief (reference k i a)
unfolding Brief
reference_brief k i none h g = id_brief i h
reference_brief k i (some a) h g = (id_brief i h, id_brief a g)

no_value_brief : (i : Bytes) → ValidId i → Brief (no_value i)
unfolding Brief
no_value_brief i h = id_brief i h

plain_brief : Brief missing_default × Brief cyclic × Brief too_many_placeables
unfolding Brief
plain_brief = (tt, tt, tt)

-- arguments that each give a value whose text, if it is one, is as T asks
pub values_fine : (T : Bytes → Type 0) (Ok : Bytes × Argument → Type 0) → ((e : Bytes × Argument) → Ok e → Fine T (value_of e.1)) → (l : List (Bytes × Argument)) → All Ok l
    → All (FineNamed T) (values_of l)
unfolding values_of
values_fine T Ok f [] h = tt
values_fine T Ok f (e ∷ l) h = (f e h.0, values_fine T Ok f l h.1)

-- What is asked of texts, T, is kept by all that resolution does: by joining, by what it writes of its own, and by what it writes of the texts and
-- literals of a pattern whose leaves are as U asks.
pub record Keeps (T : Bytes → Type 0) (U : Leaf → Type 0) : Type 0 where
  pub joins : Joins T
  pub ascii : (b : Bytes) → Ascii b → T b
  pub texts : (t : Bytes) → ValidLeaf (Leaf.text t) → U (Leaf.text t) → T t
  pub strings : (s : Bytes) → ValidLeaf (Leaf.string s) → U (Leaf.string s) → T (unescape s)

module _ (T : Bytes → Type 0) (U : Leaf → Type 0) (keeps : Keeps T U) (v : Store) (valid : ValidStore v) (leaves : InItems U v.items) where
  -- a pattern that is valid, and its leaves as they are asked to be
  abbrev Asked : Pattern → Type 0
  Asked q = ValidEntryPattern q × InLeaves U q

  found_asked : (i : Bytes) (a : Option Bytes) (e : Entry) (q : Pattern) → find_in v.items i ≡ some (Holder.entry e) → part_of a e ≡ some q → Asked q
  found_asked i a e q h k = (
    in_part ValidEntryPattern a e q (in_found ValidEntryPattern v.items (store_patterns v valid) i e h) k,
    in_part (InLeaves U) a e q (in_found (InLeaves U) v.items leaves i e h) k,
  )

  module _ (l : List (Bytes × Value)) where
    abbrev Leafy : Leaf → Type 0
    Leafy x = GoodLeaf T Brief l (find_in v.items) Asked x

    leaf_good : (x : Leaf) → ValidLeaf x → U x → Leafy x
    leaf_good (Leaf.text t) h k = keeps.texts t h k
    leaf_good (Leaf.string s) h k = keeps.strings s h k
    leaf_good (Leaf.variable i) h k = (valid_ascii i h, λ e. reference_brief Referred.variable i none h tt)
    leaf_good (Leaf.function i) h k = (valid_ascii i h, reference_brief Referred.function i none h tt)
    leaf_good (Leaf.message i a) h k =
        (valid_ascii i h.0, valid_any_ascii a h.1, reference_brief Referred.message i a h.0 h.1, no_value_brief i h.0, λ e q f z. found_asked i a e q (message_held _ e f) z)
    leaf_good (Leaf.term i a) h k =
        (valid_ascii i h.0, valid_any_ascii a h.1, reference_brief Referred.term i a h.0 h.1, λ e q f z. found_asked i a e q (term_held _ e f) z)

    pattern_good : (q : Pattern) → Asked q → All Leafy (leaves_of q)
    pattern_good q h = all_both ValidLeaf U Leafy leaf_good (leaves_of q) (leaves_valid q h.0) h.1

  -- a message or attribute, given arguments whose texts are as T asks
  pub resolves : (l : List (Bytes × Argument)) → All (FineNamed T) (values_of l)
      → (id : Bytes) (a : Option Bytes) (e : Entry) (p : Pattern) → as_message (find_in v.items id) ≡ some e → part_of a e ≡ some p
      → Good T Brief Any (resolve (setting_of v l) (find_in v.items) max_patterns p (bytes_of p ∷ []) fresh)
  unfolding fresh
  resolves l fine id a e p f k =
      k_resolve T Brief (Goods T Brief) (goods_closed T Brief keeps.joins plain_brief.2) keeps.ascii plain_brief.1 plain_brief.0 (values_of l) fine (find_in v.items) Asked (goods_look T Brief keeps.joins plain_brief.2 (find_in v.items))
      (pattern_good (values_of l)) v.locale v.isolating max_patterns p (found_asked id a e p (message_held _ e f) k) (bytes_of p ∷ []) fresh tt

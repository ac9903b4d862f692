-- The leaves of a valid pattern are valid, and so is every pattern of a valid store.
use mathlib.Core.List.{List, [], ◌∷◌}
use mathlib.Core.Option.{Option, none, some}
use Prim.Native.Nat.{ℕ, zero, suc}
use Rattle.records.specs.Tree.{Literal, Named, Pattern, pattern, Elements, no_more, more, Element, text, placeable, Expression, inline, select, Inline, variable, nested, Arguments, without, with_arguments, Inlines, no_inline, and, Variants, no_variant, or, Variant, variant}
use Rattle.rules.specs.Rules.{is_text, is_string}
use Rattle.records.specs.Images.{Attribute, Entry, Item, Store}
use Rattle.records.specs.Decode.{max_depth}
use Rattle.records.specs.Valid.{All, IfAny, Ruled, ValidId, ValidLiteral, ValidNamed, ValidElement, ValidElements, PatternOver, ValidVariant, ValidVariants, ValidInlines, ValidArguments, InlineOver, ExpressionOver, ValidExpression, ValidInline, ValidPattern, ValidEntryPattern, ValidAttribute, ValidEntry, ValidResource, ValidItem, ValidStore}
use Rattle.theorems.specs.Leaves.{Leaf, literal_leaves, named_leaves, leaves_of, elements_leaves, element_leaves, expression_leaves, inline_leaves, arguments_leaves, inlines_leaves, variants_leaves, variant_leaves, InEntry, InItem, InItems, InLeaves}
use Rattle.theorems.proofs.Every.{all_append, all_map, items_map}
use Rattle.theorems.proofs.Ascii.{Ascii, id_ascii}

-- what a valid pattern has at its leaves
abbrev pub ValidLeaf : Leaf → Type 0
ValidLeaf (Leaf.text t) = Ruled is_text t
ValidLeaf (Leaf.string s) = Ruled is_string s
ValidLeaf (Leaf.variable i) = ValidId i
ValidLeaf (Leaf.function i) = ValidId i
ValidLeaf (Leaf.message i a) = ValidId i × IfAny ValidId a
ValidLeaf (Leaf.term i a) = ValidId i × IfAny ValidId a

abbrev Deep : ℕ → Expression → Type 0
Deep d y = ValidExpression d y

abbrev DeepInline : ℕ → Inline → Type 0
DeepInline d y = ValidInline d y

module _ {Z : Type 0} where
  open_expression : (x : Expression) (d : ℕ) → ValidExpression d x → ((n : ℕ) → ExpressionOver (Deep n) (DeepInline n) x → Z) → Z
  unfolding ValidExpression
  open_expression x zero h f = absurd h
  open_expression x (suc d) h f = f d h

  open_inline : (x : Inline) (d : ℕ) → ValidInline d x → ((n : ℕ) → InlineOver (Deep n) (DeepInline n) x → Z) → Z
  unfolding ValidInline
  open_inline x zero h f = absurd h
  open_inline x (suc d) h f = f d h

literal_valid : (l : Literal) → ValidLiteral l → All ValidLeaf (literal_leaves l)
unfolding literal_leaves
literal_valid (Literal.string s) h = (h, tt)
literal_valid (Literal.number n) h = tt

named_valid : (ns : Named) → All ValidNamed ns → All ValidLeaf (named_leaves ns)
unfolding named_leaves
named_valid [] h = tt
named_valid (e ∷ es) h = all_append ValidLeaf (literal_leaves e.1) (named_leaves es) (literal_valid e.1 h.0.1) (named_valid es h.1)

mutual
  unfolding leaves_of

  p_valid : (p : Pattern) (d : ℕ) → PatternOver (Deep d) p → All ValidLeaf (leaves_of p)
  p_valid (pattern b es) d h = es_valid es d h.0

  es_valid : (es : Elements) (d : ℕ) → ValidElements (Deep d) es → All ValidLeaf (elements_leaves es)
  es_valid no_more d h = tt
  es_valid (more e es) d h = all_append ValidLeaf (element_leaves e) (elements_leaves es) (e_valid e d h.0) (es_valid es d h.1)

  e_valid : (e : Element) (d : ℕ) → ValidElement (Deep d) e → All ValidLeaf (element_leaves e)
  e_valid (text t) d h = (h, tt)
  e_valid (placeable x) d h = open_expression x d h (λ n k. x_valid x n k)

  x_valid : (x : Expression) (d : ℕ) → ExpressionOver (Deep d) (DeepInline d) x → All ValidLeaf (expression_leaves x)
  x_valid (inline x) d h = i_valid x d h
  x_valid (select x vs) d h = all_append ValidLeaf (inline_leaves x) (variants_leaves vs) (open_inline x d h.0 (λ n k. i_valid x n k)) (vs_valid vs d h.1)

  i_valid : (x : Inline) (d : ℕ) → InlineOver (Deep d) (DeepInline d) x → All ValidLeaf (inline_leaves x)
  i_valid (Inline.string s) d h = (h, tt)
  i_valid (Inline.number s) d h = tt
  i_valid (variable i) d h = (h, tt)
  i_valid (Inline.function i xs ns) d h = (h.0, all_append ValidLeaf (inlines_leaves xs) (named_leaves ns) (xs_valid xs d h.1.0) (named_valid ns h.1.2.0.0))
  i_valid (Inline.message i a) d h = (h, tt)
  i_valid (Inline.term i a r) d h = ((h.0, h.1), r_valid r d h.2)
  i_valid (nested x) d h = open_expression x d h (λ n k. x_valid x n k)

  r_valid : (r : Arguments) (d : ℕ) → ValidArguments (DeepInline d) r → All ValidLeaf (arguments_leaves r)
  r_valid without d h = tt
  r_valid (with_arguments xs ns) d h = all_append ValidLeaf (inlines_leaves xs) (named_leaves ns) (xs_valid xs d h.0) (named_valid ns h.2.0.0)

  xs_valid : (xs : Inlines) (d : ℕ) → ValidInlines (DeepInline d) xs → All ValidLeaf (inlines_leaves xs)
  xs_valid no_inline d h = tt
  xs_valid (and x xs) d h = all_append ValidLeaf (inline_leaves x) (inlines_leaves xs) (open_inline x d h.0 (λ n k. i_valid x n k)) (xs_valid xs d h.1)

  vs_valid : (vs : Variants) (d : ℕ) → ValidVariants (Deep d) vs → All ValidLeaf (variants_leaves vs)
  vs_valid no_variant d h = tt
  vs_valid (or v vs) d h = all_append ValidLeaf (variant_leaves v) (variants_leaves vs) (v_valid v d h.0) (vs_valid vs d h.1)

  v_valid : (v : Variant) (d : ℕ) → ValidVariant (Deep d) v → All ValidLeaf (variant_leaves v)
  v_valid (variant k f p) d h = p_valid p d h.1

-- the leaves of an entry's pattern
pub leaves_valid : (p : Pattern) → ValidEntryPattern p → All ValidLeaf (leaves_of p)
unfolding ValidEntryPattern ValidPattern
leaves_valid p h = p_valid p max_depth h

-- identifiers are ASCII
pub valid_ascii : (i : List ℕ) → ValidId i → Ascii i
valid_ascii i h = id_ascii i h.1

pub valid_any_ascii : (a : Option (List ℕ)) → IfAny ValidId a → IfAny Ascii a
valid_any_ascii none h = tt
valid_any_ascii (some a) h = valid_ascii a h

entry_patterns : (e : Entry) → ValidEntry e → InEntry ValidEntryPattern e
unfolding ValidEntry ValidAttribute
entry_patterns e h = (h.1, all_map ValidAttribute (λ (a : Attribute). ValidEntryPattern a.1) (λ a k. k.1) e.attributes h.2.0)

item_patterns : (x : Item) → ValidItem x → InItem ValidEntryPattern x
unfolding ValidItem ValidResource
item_patterns (Item.plain es) h = all_map ValidEntry (InEntry ValidEntryPattern) entry_patterns es h.0.0
item_patterns (Item.overriding es) h = all_map ValidEntry (InEntry ValidEntryPattern) entry_patterns es h.0.0
item_patterns (Item.function i) h = tt

-- every pattern of a valid store is valid
pub store_patterns : (v : Store) → ValidStore v → All (InItem ValidEntryPattern) v.items
unfolding ValidStore
store_patterns v h = all_map ValidItem (InItem ValidEntryPattern) item_patterns v.items h.1

-- and so is every leaf of all of them
pub store_leaves : (v : Store) → ValidStore v → InItems ValidLeaf v.items
store_leaves v h = items_map ValidEntryPattern (InLeaves ValidLeaf) leaves_valid v.items (store_patterns v h)

-- What stands in a pattern, in all its elements, variants, selectors and arguments: its texts, string literals, variables, functions called, and
-- references (number literals and the keys of variants, which are ASCII, are left out); and what it is for something to hold of every pattern of a bundle,
-- whether it is found there or not.
use Rattle.std.specs.Prelude.{List, [], ◌∷◌, ◌++◌, ℕ}
use Rattle.std.proofs.Math.Option.{Option}
use Rattle.records.specs.Tree.{Literal, Named, Pattern, pattern, Elements, no_more, more, Element, placeable, Expression, inline, select, Inline, nested, Arguments, without, with_arguments, Inlines, no_inline, and, Variants, no_variant, or, Variant, variant}
use Rattle.records.specs.Valid.{All, IfAny}
use Rattle.records.specs.Images.{Attribute, Entry, Item}

-- A text element; a string literal as it is written; a variable, a function called, a message or term referred to, these two perhaps with an attribute.
pub data Leaf : Type 0 where
  text string variable function : List ℕ → Leaf
  message term : List ℕ → Option (List ℕ) → Leaf

-- of a literal
unfoldable pub literal_leaves : Literal → List Leaf
literal_leaves (Literal.string s) = Leaf.string s ∷ []
literal_leaves (Literal.number n) = []

-- the named arguments of a call are literals
unfoldable pub named_leaves : Named → List Leaf
named_leaves [] = []
named_leaves (e ∷ es) = literal_leaves e.1 ++ named_leaves es

-- of a pattern, and of all that it is made of
unfoldable mutual
  pub leaves_of : Pattern → List Leaf
  leaves_of (pattern b es) = elements_leaves es

  pub elements_leaves : Elements → List Leaf
  elements_leaves no_more = []
  elements_leaves (more e es) = element_leaves e ++ elements_leaves es

  pub element_leaves : Element → List Leaf
  element_leaves (Element.text t) = Leaf.text t ∷ []
  element_leaves (placeable x) = expression_leaves x

  pub expression_leaves : Expression → List Leaf
  expression_leaves (inline x) = inline_leaves x
  expression_leaves (select x vs) = inline_leaves x ++ variants_leaves vs

  pub inline_leaves : Inline → List Leaf
  inline_leaves (Inline.string s) = Leaf.string s ∷ []
  inline_leaves (Inline.number n) = []
  inline_leaves (Inline.variable i) = Leaf.variable i ∷ []
  inline_leaves (Inline.function i xs ns) = Leaf.function i ∷ (inlines_leaves xs ++ named_leaves ns)
  inline_leaves (Inline.message i a) = Leaf.message i a ∷ []
  inline_leaves (Inline.term i a r) = Leaf.term i a ∷ arguments_leaves r
  inline_leaves (nested x) = expression_leaves x

  pub arguments_leaves : Arguments → List Leaf
  arguments_leaves without = []
  arguments_leaves (with_arguments xs ns) = inlines_leaves xs ++ named_leaves ns

  pub inlines_leaves : Inlines → List Leaf
  inlines_leaves no_inline = []
  inlines_leaves (and x xs) = inline_leaves x ++ inlines_leaves xs

  pub variants_leaves : Variants → List Leaf
  variants_leaves no_variant = []
  variants_leaves (or v vs) = variant_leaves v ++ variants_leaves vs

  pub variant_leaves : Variant → List Leaf
  variant_leaves (variant k d p) = leaves_of p

-- of every pattern of an entry: its value and its attributes
abbrev pub InEntry : (Pattern → Type 0) → Entry → Type 0
InEntry G e = IfAny G e.value × All (λ (a : Attribute). G a.1) e.attributes

-- of every pattern of an item
abbrev pub InItem : (Pattern → Type 0) → Item → Type 0
InItem G (Item.plain es) = All (InEntry G) es
InItem G (Item.overriding es) = All (InEntry G) es
InItem G (Item.function i) = Unit {0}

-- of every leaf of a pattern
abbrev pub InLeaves : (Leaf → Type 0) → Pattern → Type 0
InLeaves U p = All U (leaves_of p)

-- of every leaf of every pattern of all items of a bundle, whether or not an id leads there
abbrev pub InItems : (Leaf → Type 0) → List Item → Type 0
InItems U xs = All (InItem (InLeaves U)) xs

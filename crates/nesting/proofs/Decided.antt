-- The premises by computing: tests of bytes, texts, bundles, arguments and sheets, and that what passes is as the premises ask.
use mathlib.Core.Path.{◌≡◌, subst}
use mathlib.Core.List.{List, [], ◌∷◌}
use mathlib.Core.Bool.{Bool, true, ◌&&◌}
use mathlib.Core.Option.{Option, none, some}
use Prim.Native.Nat.{ℕ}
use lib.Dec.{eqb, ltb}
use borrow.Author.Tests.{eqb-true, ltb-true}
use Rattle.decimals.proofs.Tests.{and_true}
use Rattle.unescape.specs.Unescape.{unescape}
use Rattle.records.specs.Got.{Got, got, bad}
use Rattle.records.specs.Tree.{Pattern}
use Rattle.records.specs.Images.{Attribute, Entry, Item, Store, Argument, store_of, arguments_of}
use Rattle.records.specs.Valid.{All, IfAny}
use Rattle.layout.specs.Exact.{Octets}
use Rattle.resolution.specs.Effect.{Bytes}
use Rattle.resolution.specs.Resolve.{fsi, pdi}
use Rattle.theorems.specs.Leaves.{Leaf, leaves_of, InEntry, InItem, InLeaves}
use Rattle.requests.specs.Image.{Request, sheet_of}
use Rattle.nesting.specs.Marks.{count_in, UnmarkedBytes}
use Rattle.nesting.specs.Claims.{InLeaf, InBundle, InArgument, InArguments, InSheet}

-- of every member
unfoldable pub every : {A : Type 0} → (A → Bool) → List A → Bool
every test [] = true
every test (a ∷ l) = test a && every test l

every_true : {A : Type 0} (test : A → Bool) (Ok : A → Type 0) → ((a : A) → test a ≡ true → Ok a) → (l : List A) → every test l ≡ true → All Ok l
unfolding every
every_true test Ok f [] h = tt
every_true test Ok f (a ∷ l) h = let b = and_true (test a) (every test l) h in (f a b.0, every_true test Ok f l b.1)

-- of what is read, if anything is
unfoldable pub read_as : {A : Type 0} → (A → Bool) → Got A → Bool
read_as test bad = true
read_as test (got a e) = test a

read_true : {A : Type 0} (test : A → Bool) (Ok : A → Type 0) → ((a : A) → test a ≡ true → Ok a) → (g : Got A) → read_as test g ≡ true → (a : A) (e : ℕ) → g ≡ got a e → Ok a
unfolding read_as
read_true {A} test Ok f g h a e q = f a (subst (λ (x : Got A). read_as test x ≡ true) q h)

-- bytes
unfoldable pub is_byte : ℕ → Bool
is_byte b = ltb b 256

pub octets_true : (s : Bytes) → every is_byte s ≡ true → Octets s
unfolding every is_byte
octets_true [] h = tt
octets_true (b ∷ s) h = let x = and_true (ltb b 256) (every is_byte s) h in (ltb-true b 256 x.0, octets_true s x.1)

-- a text
unfoldable pub unmarked : Bytes → Bool
unmarked t = eqb (count_in fsi t) 0 && eqb (count_in pdi t) 0

unmarked_true : (t : Bytes) → unmarked t ≡ true → UnmarkedBytes t
unfolding unmarked
unmarked_true t h = let b = and_true (eqb (count_in fsi t) 0) (eqb (count_in pdi t) 0) h in record { no_opening = eqb-true _ 0 b.0; no_closing = eqb-true _ 0 b.1 }

-- a bundle
unfoldable pub leaf_unmarked : Leaf → Bool
leaf_unmarked (Leaf.text t) = unmarked t
leaf_unmarked (Leaf.string s) = unmarked (unescape s)
leaf_unmarked (Leaf.variable i) = true
leaf_unmarked (Leaf.function i) = true
leaf_unmarked (Leaf.message i a) = true
leaf_unmarked (Leaf.term i a) = true

leaf_true : (x : Leaf) → leaf_unmarked x ≡ true → InLeaf UnmarkedBytes x
unfolding leaf_unmarked
leaf_true (Leaf.text t) h = unmarked_true t h
leaf_true (Leaf.string s) h = unmarked_true (unescape s) h
leaf_true (Leaf.variable i) h = tt
leaf_true (Leaf.function i) h = tt
leaf_true (Leaf.message i a) h = tt
leaf_true (Leaf.term i a) h = tt

abbrev Free : Pattern → Type 0
Free p = InLeaves (InLeaf UnmarkedBytes) p

unfoldable pub pattern_unmarked : Pattern → Bool
pattern_unmarked p = every leaf_unmarked (leaves_of p)

free_true : (p : Pattern) → pattern_unmarked p ≡ true → Free p
unfolding pattern_unmarked
free_true p h = every_true leaf_unmarked (InLeaf UnmarkedBytes) leaf_true (leaves_of p) h

unfoldable pub value_unmarked : Option Pattern → Bool
value_unmarked none = true
value_unmarked (some p) = pattern_unmarked p

value_true : (o : Option Pattern) → value_unmarked o ≡ true → IfAny Free o
unfolding value_unmarked
value_true none h = tt
value_true (some p) h = free_true p h

unfoldable pub entry_unmarked : Entry → Bool
entry_unmarked e = value_unmarked e.value && every (λ (a : Attribute). pattern_unmarked a.1) e.attributes

entry_true : (e : Entry) → entry_unmarked e ≡ true → InEntry Free e
unfolding entry_unmarked
entry_true e h =
    let b = and_true (value_unmarked e.value) (every (λ (a : Attribute). pattern_unmarked a.1) e.attributes) h in
    (value_true e.value b.0, every_true (λ (a : Attribute). pattern_unmarked a.1) (λ (a : Attribute). Free a.1) (λ a k. free_true a.1 k) e.attributes b.1)

unfoldable pub item_unmarked : Item → Bool
item_unmarked (Item.plain es) = every entry_unmarked es
item_unmarked (Item.overriding es) = every entry_unmarked es
item_unmarked (Item.function i) = true

item_true : (x : Item) → item_unmarked x ≡ true → InItem Free x
unfolding item_unmarked
item_true (Item.plain es) h = every_true entry_unmarked (InEntry Free) entry_true es h
item_true (Item.overriding es) h = every_true entry_unmarked (InEntry Free) entry_true es h
item_true (Item.function i) h = tt

unfoldable pub store_unmarked : Store → Bool
store_unmarked v = every item_unmarked v.items

pub bundle_unmarked : (s : Bytes) → read_as store_unmarked (store_of s) ≡ true → InBundle UnmarkedBytes s
unfolding store_unmarked
bundle_unmarked s h v e q = read_true store_unmarked (λ (v : Store). All (InItem Free) v.items) (λ v k. every_true item_unmarked (InItem Free) item_true v.items k) (store_of s) h v e q

-- arguments
unfoldable pub argument_unmarked : Bytes × Argument → Bool
argument_unmarked (i, Argument.string t) = unmarked t
argument_unmarked (i, Argument.number f d k) = true
argument_unmarked (i, Argument.nothing) = true

argument_true : (e : Bytes × Argument) → argument_unmarked e ≡ true → InArgument UnmarkedBytes e
unfolding argument_unmarked
argument_true (i, Argument.string t) h = unmarked_true t h
argument_true (i, Argument.number f d k) h = tt
argument_true (i, Argument.nothing) h = tt

pub arguments_unmarked : (image : Bytes) → read_as (every argument_unmarked) (arguments_of image) ≡ true → InArguments UnmarkedBytes image
arguments_unmarked image h l e q = read_true (every argument_unmarked) (All (InArgument UnmarkedBytes)) (λ l k. every_true argument_unmarked (InArgument UnmarkedBytes) argument_true l k) (arguments_of image) h l e q

-- the messages of a sheet
unfoldable pub request_unmarked : Request → Bool
request_unmarked r = read_as (every argument_unmarked) (arguments_of r.image)

request_true : (r : Request) → request_unmarked r ≡ true → InArguments UnmarkedBytes r.image
unfolding request_unmarked
request_true r h = arguments_unmarked r.image h

pub sheet_unmarked : (image : Bytes) → read_as (every request_unmarked) (sheet_of image) ≡ true → InSheet UnmarkedBytes image
sheet_unmarked image h rs e q =
    read_true (every request_unmarked) (All (λ (r : Request). InArguments UnmarkedBytes r.image)) (λ l k. every_true request_unmarked (λ (r : Request). InArguments UnmarkedBytes r.image) request_true l k) (sheet_of image) h rs e q

-- the tests, open
unfoldable pub tests : Unit {0}
unfolding every read_as is_byte unmarked leaf_unmarked pattern_unmarked value_unmarked entry_unmarked item_unmarked store_unmarked argument_unmarked request_unmarked
tests = tt

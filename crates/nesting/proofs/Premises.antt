-- What is asked by bytes and what is asked by Unicode scalars is the same of a bundle, of arguments and of a sheet.
use Rattle.records.specs.Images.{Argument}
use Rattle.records.specs.Valid.{ValidArgument, ValidNamedArgument, ValidArgumentsImage}
use Rattle.layout.specs.Exact.{Octets}
use Rattle.layout.proofs.Theorems.{store_sound, arguments_sound}
use Rattle.resolution.specs.Effect.{Bytes}
use Rattle.theorems.specs.Leaves.{Leaf, leaves_of, InLeaves}
use Rattle.theorems.proofs.Every.{all_map, all_both, items_map, items_both}
use Rattle.theorems.proofs.Valid.{ValidLeaf, store_leaves}
use Rattle.theorems.proofs.ReadBack.{text_utf8, string_utf8}
use Rattle.requests.specs.Image.{Request}
use Rattle.requests.proofs.Exact.{RequestOk, requests_ok}
use Rattle.nesting.specs.Marks.{UnmarkedBytes, UnmarkedScalars}
use Rattle.nesting.specs.Claims.{InLeaf, InBundle, InArgument, InArguments, InSheet, Bridge}
use Rattle.nesting.proofs.Scalars.{unmarked_bytes, unmarked_exactly, paired_exactly}

-- from scalars to bytes
leaf_bytes : (x : Leaf) → InLeaf UnmarkedScalars x → InLeaf UnmarkedBytes x
leaf_bytes (Leaf.text t) h = unmarked_bytes t h
leaf_bytes (Leaf.string s) h = unmarked_bytes _ h
leaf_bytes (Leaf.variable i) h = tt
leaf_bytes (Leaf.function i) h = tt
leaf_bytes (Leaf.message i a) h = tt
leaf_bytes (Leaf.term i a) h = tt

argument_bytes : (e : Bytes × Argument) → InArgument UnmarkedScalars e → InArgument UnmarkedBytes e
argument_bytes (i, Argument.string t) h = unmarked_bytes t h
argument_bytes (i, Argument.number f d k) h = tt
argument_bytes (i, Argument.nothing) h = tt

pub bundle_bytes : (s : Bytes) → InBundle UnmarkedScalars s → InBundle UnmarkedBytes s
bundle_bytes s h v end q =
    items_map (InLeaves (InLeaf UnmarkedScalars)) (InLeaves (InLeaf UnmarkedBytes)) (λ p k. all_map (InLeaf UnmarkedScalars) (InLeaf UnmarkedBytes) leaf_bytes (leaves_of p) k) v.items (h v end q)

pub arguments_bytes : (image : Bytes) → InArguments UnmarkedScalars image → InArguments UnmarkedBytes image
arguments_bytes image h l end q = all_map (InArgument UnmarkedScalars) (InArgument UnmarkedBytes) argument_bytes l (h l end q)

abbrev Asked : (Bytes → Type 0) → Request → Type 0
Asked Q r = InArguments Q r.image

pub sheet_bytes : (image : Bytes) → InSheet UnmarkedScalars image → InSheet UnmarkedBytes image
sheet_bytes image h rs end q = all_map (Asked UnmarkedScalars) (Asked UnmarkedBytes) (λ r k. arguments_bytes r.image k) rs (h rs end q)

-- and back: what a store or an image is read as is valid, and so well-formed
leaf_scalars : (x : Leaf) → ValidLeaf x → InLeaf UnmarkedBytes x → InLeaf UnmarkedScalars x
leaf_scalars (Leaf.text t) v h = (unmarked_exactly t (text_utf8 t v)).0 h
leaf_scalars (Leaf.string s) v h = (unmarked_exactly _ (string_utf8 s v)).0 h
leaf_scalars (Leaf.variable i) v h = tt
leaf_scalars (Leaf.function i) v h = tt
leaf_scalars (Leaf.message i a) v h = tt
leaf_scalars (Leaf.term i a) v h = tt

argument_scalars : (e : Bytes × Argument) → ValidNamedArgument e → InArgument UnmarkedBytes e → InArgument UnmarkedScalars e
unfolding ValidNamedArgument ValidArgument
argument_scalars (i, Argument.string t) v h = (unmarked_exactly t v.1.1).0 h
argument_scalars (i, Argument.number f d k) v h = tt
argument_scalars (i, Argument.nothing) v h = tt

bundle_scalars : (s : Bytes) → Octets s → InBundle UnmarkedBytes s → InBundle UnmarkedScalars s
bundle_scalars s os h v end q =
    items_both (InLeaves ValidLeaf) (InLeaves (InLeaf UnmarkedBytes)) (InLeaves (InLeaf UnmarkedScalars))
    (λ p x y. all_both ValidLeaf (InLeaf UnmarkedBytes) (InLeaf UnmarkedScalars) leaf_scalars (leaves_of p) x y) v.items (store_leaves v (store_sound s os q).0) (h v end q)

arguments_scalars : (image : Bytes) → Octets image → InArguments UnmarkedBytes image → InArguments UnmarkedScalars image
unfolding ValidArgumentsImage
arguments_scalars image oi h l end q = all_both ValidNamedArgument (InArgument UnmarkedBytes) (InArgument UnmarkedScalars) argument_scalars l (arguments_sound oi q).0.0.0 (h l end q)

sheet_scalars : (image : Bytes) → Octets image → InSheet UnmarkedBytes image → InSheet UnmarkedScalars image
sheet_scalars image oi h rs end q =
    all_both RequestOk (Asked UnmarkedBytes) (Asked UnmarkedScalars) (λ r ok k. arguments_scalars r.image ok.octets k) rs (requests_ok image rs oi q) (h rs end q)

pub bridge : Bridge
bridge = record {
  unmarked = unmarked_exactly;
  paired = paired_exactly;
  bundles = λ s os. (bundle_scalars s os, bundle_bytes s);
  arguments = λ image oi. (arguments_scalars image oi, arguments_bytes image);
  sheets = λ image oi. (sheet_scalars image oi, sheet_bytes image);
}

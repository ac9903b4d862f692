-- Every text that a formatting finishes with has its marks paired, by bytes, where what goes in has none.
use Prim.Native.Nat.{ℕ}
use mathlib.Core.Path.{◌≡◌, sym, subst}
use mathlib.Core.List.{List}
use mathlib.Core.Option.{Option}
use Rattle.records.specs.Got.{got}
use Rattle.records.specs.Images.{Argument, arguments_of}
use Rattle.records.specs.Valid.{All, ValidNamedArgument, ValidArgument, ValidArgumentsImage}
use Rattle.layout.specs.Exact.{Octets}
use Rattle.layout.proofs.Theorems.{store_sound, arguments_sound}
use Rattle.order.proofs.Accepted.{accepted_read}
use Rattle.resolution.specs.Effect.{Bytes}
use Rattle.resolution.specs.Format.{Buffers, value_of, values_of}
use Rattle.theorems.specs.Finished.{Finished, Sound, out_of}
use Rattle.theorems.proofs.Every.{all_both}
use Rattle.theorems.proofs.WalkLeaves.{Fine, FineNamed}
use Rattle.theorems.proofs.Formattings.{sound, text_taken}
use Rattle.theorems.proofs.Resolves.{Keeps, values_fine, resolves}
use Rattle.theorems.proofs.ReadBack.{text_utf8, string_utf8}
use Rattle.nesting.specs.Marks.{UnmarkedBytes, PairedBytes}
use Rattle.nesting.specs.Claims.{InLeaf, InBundle, InArgument, InArguments, EveryFormatting}
use Rattle.nesting.proofs.Counts.{utf8_lead, ascii_lead, ascii_unmarked}
use Rattle.nesting.proofs.Balanced.{Balanced, balanced_joins, balanced_unmarked, balanced_paired}

pub balanced_keeps : Keeps Balanced (InLeaf UnmarkedBytes)
balanced_keeps = record {
  joins = balanced_joins;
  ascii = λ b h. balanced_unmarked b (ascii_lead b h) (ascii_unmarked b h);
  texts = λ t h u. balanced_unmarked t (utf8_lead t (text_utf8 t h)) u;
  strings = λ s h u. balanced_unmarked _ (utf8_lead _ (string_utf8 s h)) u;
}

-- string arguments
abbrev Given : Bytes × Argument → Type 0
Given e = ValidNamedArgument e × InArgument UnmarkedBytes e

value_balanced : (e : Bytes × Argument) → Given e → Fine Balanced (value_of e.1)
unfolding value_of ValidNamedArgument ValidArgument
value_balanced (i, Argument.string t) h = balanced_unmarked t (utf8_lead t h.0.1.1) h.1
value_balanced (i, Argument.number f d k) h = tt
value_balanced (i, Argument.nothing) h = tt

pub values_balanced : (l : List (Bytes × Argument)) → ValidArgumentsImage l → All (InArgument UnmarkedBytes) l → All (FineNamed Balanced) (values_of l)
unfolding ValidArgumentsImage
values_balanced l h u = values_fine Balanced Given value_balanced l (all_both ValidNamedArgument (InArgument UnmarkedBytes) Given (λ e x y. (x, y)) l h.0.0 u)

module _ (s : Bytes) (os : Octets s) (us : InBundle UnmarkedBytes s) (image : Bytes) (oi : Octets image) (ui : InArguments UnmarkedBytes image) (id : Bytes) (a : Option Bytes) (b : Buffers) where
  read : (f : Finished s id a image b) → (e : ℕ) × (arguments_of image ≡ got f.reached.arguments e)
  read f = let w = accepted_read image f.reached.arguments f.reached.given in (w.0, w.1)

  parts_balanced : (f : Finished s id a image b) → Balanced (out_of f).text
  parts_balanced f =
      (resolves Balanced (InLeaf UnmarkedBytes) balanced_keeps f.reached.store (store_sound s os f.reached.stored).0 (us f.reached.store f.reached.store_end f.reached.stored)
      f.reached.arguments (values_balanced f.reached.arguments (arguments_sound oi (read f).1).0 (ui f.reached.arguments (read f).0 (read f).1))
      id a f.reached.entry f.reached.part f.reached.found f.reached.has).text

pub formattings_nest : EveryFormatting UnmarkedBytes PairedBytes
formattings_nest s os us image oi ui id a b t e k u w h =
    let r : Sound s id a image b t e k u w = sound s id a image b t e k u w h in
    subst PairedBytes (sym (text_taken s id a image b t e k u w r)) (balanced_paired _ (parts_balanced s os us image oi ui id a b r.parts))

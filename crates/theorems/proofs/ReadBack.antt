-- The text of a finished formatting is well-formed UTF-8; its list reads back as the errors reported, and so says how its placeables went.
use mathlib.Core.Path.{◌≡◌, refl, ap, sym, subst, ◌∙◌}
use mathlib.Core.List.{List, [], ◌∷◌, ◌++◌}
use mathlib.Core.Bool.{Bool, true, false}
use mathlib.Core.Option.{Option}
use Prim.Native.Nat.{ℕ, ◌≤◌, ◌<◌, min}
use native.Mathlib.Omega.{arith}
use lib.ListN.{length, take}
use lib.Dec.{ltb, leb, eqb}
use borrow.Author.Tests.{eqb-true, eq-eqb, leb-true, leb-false, lt-ltb}
use Rattle.decimals.specs.Bytes.{run}
use Rattle.rules.specs.Rules.{utf8_first, utf8_low, utf8_high, utf8_rest, utf8_step, is_utf8, escape_step, is_text, is_string}
use Rattle.decimals.proofs.Run.{run_append}
use Rattle.unescape.specs.Unescape.{unescape}
use Rattle.unescape.proofs.WellFormed.{unescape_utf8}
use Rattle.records.specs.Images.{Store, Argument}
use Rattle.records.specs.Errors.{Error, enc_errors}
use Rattle.records.specs.Valid.{All, ValidArgument, ValidNamedArgument, ValidArgumentsImage, ValidStore}
use Rattle.texts.specs.ErrorList.{errors_of, Recordable, Listable, Brief}
use Rattle.texts.proofs.ErrorList.{recordable, errors_read}
use Rattle.layout.specs.Exact.{Octets}
use Rattle.layout.proofs.Octets.{and_right}
use Rattle.layout.proofs.Theorems.{store_sound, arguments_sound}
use Rattle.order.proofs.Accepted.{accepted_read}
use Rattle.entries.specs.Lookup.{find_in}
use Rattle.resolution.specs.Effect.{Bytes}
use Rattle.resolution.specs.Resolve.{fsi, pdi}
use Rattle.resolution.specs.Exec.{Machine}
use Rattle.resolution.specs.Format.{finished, Buffers, limits_of, value_of, values_of, format}
use Rattle.theorems.specs.Finished.{reports, too_many_in, Placeables, setting_of, Finished, Sound, out_of}
use Rattle.theorems.specs.Written.{TextWellFormed, ReadBack, ListReadBack, PlaceablesListed, AllPlaceablesListed}
use Rattle.theorems.proofs.Within.{within}
use Rattle.theorems.proofs.Formattings.{sound, text_taken}
use Rattle.theorems.specs.Leaves.{Leaf}
use Rattle.theorems.proofs.Every.{all_map}
use Rattle.theorems.proofs.Ascii.{Ascii}
use Rattle.theorems.proofs.Valid.{ValidLeaf, store_leaves}
use Rattle.theorems.proofs.WalkLeaves.{Any, Fine, FineNamed}
use Rattle.theorems.proofs.Written.{Joins, Good}
use Rattle.theorems.proofs.Resolves.{Keeps, values_fine, resolves}

-- well-formed texts
abbrev pub Utf8 : Bytes → Type 0
Utf8 t = is_utf8 t ≡ true

ascii_run : (t : Bytes) → Ascii t → run utf8_step 0 t ≡ 0
unfolding run utf8_step utf8_first
ascii_run [] h = refl
ascii_run (b ∷ t) h = rw (lt-ltb b 0x80 h.0) (ascii_run t h.1)

ascii_utf8 : (t : Bytes) → Ascii t → Utf8 t
unfolding is_utf8
ascii_utf8 t h = eq-eqb _ _ (ascii_run t h)

utf8_append : (a b : Bytes) → Utf8 a → Utf8 b → Utf8 (a ++ b)
unfolding is_utf8
utf8_append a b h k = eq-eqb _ _ (run_append utf8_step 0 a b ∙ ap (λ (q : ℕ). run utf8_step q b) (eqb-true _ _ h) ∙ eqb-true _ _ k)

utf8_joins : Joins Utf8
unfolding is_utf8 run utf8_step utf8_first utf8_low utf8_high utf8_rest fsi pdi
utf8_joins = record { none = refl; both = utf8_append; isolated = λ a h. utf8_append fsi (a ++ pdi) refl (utf8_append a pdi h refl) }

-- a valid text, and what a valid literal reads as
pub text_utf8 : (t : Bytes) → ValidLeaf (Leaf.text t) → Utf8 t
unfolding is_text
text_utf8 t h = and_right (ltb 0 (length t)) (is_utf8 t) h.1

pub string_utf8 : (s : Bytes) → ValidLeaf (Leaf.string s) → Utf8 (unescape s)
unfolding is_string
string_utf8 s h = unescape_utf8 s (and_right (eqb (run escape_step 0 s) 0) (is_utf8 s) h.1)

pub utf8_keeps : Keeps Utf8 ValidLeaf
utf8_keeps = record { joins = utf8_joins; ascii = ascii_utf8; texts = λ t h k. text_utf8 t h; strings = λ s h k. string_utf8 s h }

-- string arguments
value_fine : (e : Bytes × Argument) → ValidNamedArgument e → Fine Utf8 (value_of e.1)
unfolding value_of ValidNamedArgument ValidArgument
value_fine (i, Argument.string t) h = h.1.1
value_fine (i, Argument.number f d k) h = tt
value_fine (i, Argument.nothing) h = tt

pub image_fine : (l : List (Bytes × Argument)) → ValidArgumentsImage l → All (FineNamed Utf8) (values_of l)
unfolding ValidArgumentsImage
image_fine l h = values_fine Utf8 ValidNamedArgument value_fine l h.0.0

-- where TooManyPlaceables is listed, a 101st was begun
pub begun_over : (m : Machine) → Placeables m → 0 < too_many_in m.errors → m.begun ≡ 101
begun_over m p h = go (leb m.begun 100) refl
  where
    go : (x : Bool) → leb m.begun 100 ≡ x → m.begun ≡ 101
    go true q = absurd (omega (arith, h, p.never (leb-true m.begun 100 q)))
    go false q = omega (arith, p.few, leb-false m.begun 100 q)

module _ (s : Bytes) (os : Octets s) (id : Bytes) (a : Option Bytes) (image : Bytes) (oi : Octets image) (b : Buffers) where
  -- what resolution wrote and reported
  parts_good : (f : Finished s id a image b) → Good Utf8 Brief Any (out_of f)
  parts_good f =
      let v : Store = f.reached.store in
      let l : List (Bytes × Argument) = f.reached.arguments in
      let valid : ValidStore v = (store_sound s os f.reached.stored).0 in
      resolves Utf8 ValidLeaf utf8_keeps v valid (store_leaves v valid) l (image_fine l (arguments_sound oi (accepted_read image l f.reached.given).1).0) id a f.reached.entry f.reached.part f.reached.found f.reached.has

  module _ (t e k u w : ℕ) (h : (format s id a image b).answer ≡ finished t e k u w) where
    utf8_finished : Utf8 (take t (format s id a image b).buffers.text)
    utf8_finished =
        let r : Sound s id a image b t e k u w = sound s id a image b t e k u w h in
        subst Utf8 (sym (text_taken s id a image b t e k u w r)) (parts_good r.parts).text

    -- the errors reported fit their records and their list
    listable : (f : Finished s id a image b) → f.machine.errors ≡ reports (out_of f).trace → Listable (reports (out_of f).trace)
    listable f q =
        let m : Machine = f.machine in
        let stated : length (enc_errors m.errors) ≤ 4294967295 = (within (limits_of b) (setting_of f.reached.store f.reached.arguments) (find_in f.reached.store.items) f.reached.part m f.runs).stated in
        let size : length (enc_errors m.errors) ≡ length (enc_errors (reports (out_of f).trace)) = ap (λ (l : List Error). length (enc_errors l)) q in
        (all_map Brief Recordable recordable (reports (out_of f).trace) (parts_good f).listed, omega (arith, stated, size))

    read_finished : ReadBack s id a image b e
    read_finished =
        let r : Sound s id a image b t e k u w = sound s id a image b t e k u w h in
        record {
          parts = r.parts;
          read = ap errors_of r.listed ∙ errors_read (reports (out_of r.parts).trace) (listable r.parts r.errors);
          counted = r.says.errors ∙ ap length r.errors;
        }

    placeables_finished : PlaceablesListed s id a image b k
    placeables_finished =
        let r : Sound s id a image b t e k u w = sound s id a image b t e k u w h in
        let m : Machine = r.parts.machine in
        let p : Placeables m = r.placeables in
        let c : k ≡ m.begun = r.says.begun in
        let q : too_many_in m.errors ≡ too_many_in (reports (out_of r.parts).trace) = ap too_many_in r.errors in
        let few : m.begun ≤ 101 = p.few in
        let once : k ≡ 101 → too_many_in (reports (out_of r.parts).trace) ≡ 1 = λ x. sym q ∙ p.once (sym c ∙ x) in
        let over : 0 < too_many_in (reports (out_of r.parts).trace) → k ≡ 101 = λ x. c ∙ begun_over m p (omega (arith, q, x)) in
        record {
          parts = r.parts;
          expanded = p.expanded ∙ ap (λ (n : ℕ). min n 100) (sym c);
          few = omega (arith, c, few);
          errors = reports (out_of r.parts).trace;
          written = ap errors_of r.listed ∙ errors_read (reports (out_of r.parts).trace) (listable r.parts r.errors);
          exactly = (λ x. let o = once x in omega arith, over);
          once = once;
        }

-- every finished text is well-formed
pub text_well_formed : TextWellFormed
text_well_formed s os id a image oi b t e k u w h = utf8_finished s os id a image oi b t e k u w h

-- every finished list reads back as the errors reported, in order
pub list_read_back : ListReadBack
list_read_back s os id a image oi b t e k u w h = read_finished s os id a image oi b t e k u w h

-- the placeables of every finished formatting
pub placeables_listed : AllPlaceablesListed
placeables_listed s os id a image oi b t e k u w h = placeables_finished s os id a image oi b t e k u w h

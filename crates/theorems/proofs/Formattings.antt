-- What is so of every finished formatting.
use mathlib.Core.Path.{◌≡◌, refl, ap, sym, ◌∙◌}
use mathlib.Core.Bool.{Bool, true, false}
use mathlib.Core.Option.{Option, none, some}
use Prim.Native.Nat.{ℕ, ◌≤◌}
use native.Mathlib.Omega.{arith}
use lib.ListN.{length, take, drop, length-append, length-drop, length-replicate}
use lib.Seq.{take_at}
use lib.Dec.{leb}
use borrow.Author.Tests.{leb-true}
use Rattle.records.specs.Got.{Got, got, bad}
use Rattle.records.specs.Tree.{Pattern}
use Rattle.records.specs.Images.{Entry, Store, store_of}
use Rattle.order.specs.Accepted.{Judged, accepted, refused_for}
use Rattle.records.specs.Errors.{enc_errors, list_header}
use Rattle.entries.specs.Lookup.{Find, find_in}
use Rattle.growth.specs.Items.{at_front}
use Rattle.resolution.specs.Effect.{Bytes}
use Rattle.resolution.specs.Resolve.{Setting}
use Rattle.resolution.specs.Exec.{Ran, ran, refused, start}
use Rattle.resolution.specs.Format.{finished, Buffers, Formatted, limits_of, zeros, refuse, or_refuse, ended, run_pattern, format_with, format_arguments, format_part, format_entry, format_store, format}
use Rattle.theorems.specs.Finished.{list_of, trace_of, setting_of, Finished, out_of, Sound, Sized}
use Rattle.layout.specs.Exact.{Octets}
use Rattle.layout.proofs.Theorems.{store_sound}
use Rattle.theorems.proofs.Runs.{exec_tallied}
use Rattle.theorems.proofs.Bounded.{unfound_bound}
use Rattle.theorems.proofs.Within.{Within, within}
use Rattle.theorems.proofs.Lists.{list_of_front}
use Rattle.theorems.proofs.Parts.{parts, finish, says}
use Rattle.theorems.proofs.Whole.{lists_reports, placeables, nothing_left}

module _ (s id : Bytes) (a : Option Bytes) (image : Bytes) (b : Buffers) where
  -- every finished formatting: its numbers, its text, its list, its placeables
  pub sound : (t e k u w : ℕ) → (format s id a image b).answer ≡ finished t e k u w → Sound s id a image b t e k u w
  unfolding ended
  sound t e k u w h =
      let f : Finished s id a image b = parts s id a image b t e k u w h in
      let st : Setting = setting_of f.reached.store f.reached.arguments in
      let find : Find = find_in f.reached.store.items in
      let r = lists_reports st find f.reached.part (limits_of b) f.machine f.runs in
      let q : format s id a image b ≡ ended (ran f.machine) b = finish s id a image b f in
      let stated = (within (limits_of b) st find f.reached.part f.machine f.runs).stated in
      let left = nothing_left st find f.reached.part (limits_of b) f.machine f.runs in
      record {
        parts = f;
        says = says s id a image b f t e k u w h;
        text = ap (λ (x : Formatted). x.buffers.text) q ∙ ap (λ (l : Bytes). at_front l b.text) left.0;
        list = ap (λ (x : Formatted). x.buffers.list) q ∙ ap (λ l. at_front (enc_errors l) b.list) r;
        listed = ap (λ (x : Formatted). list_of x.buffers.list) q ∙ list_of_front f.machine.errors b.list stated ∙ ap enc_errors r;
        work = ap (λ (x : Formatted). x.buffers.work) q;
        errors = r;
        placeables = placeables st find f.reached.part (limits_of b) f.machine f.runs;
      }

  -- its text, up to its length, is what resolution wrote
  pub text_taken : (t e k u w : ℕ) (r : Sound s id a image b t e k u w) → take t (format s id a image b).buffers.text ≡ (out_of r.parts).text
  unfolding at_front
  text_taken t e k u w r =
      let f : Finished s id a image b = r.parts in
      let left = nothing_left (setting_of f.reached.store f.reached.arguments) (find_in f.reached.store.items) f.reached.part (limits_of b) f.machine f.runs in
      let size : length (out_of f).text ≡ t = sym (r.says.text ∙ ap length left.0) in
      ap (take t) r.text ∙ take_at (out_of f).text _ t size

  -- no more than 20 million of its lookups find nothing
  pub few_unfound : Octets s → (t e k u w : ℕ) → (format s id a image b).answer ≡ finished t e k u w → u ≤ 20000000
  unfolding run_pattern start
  few_unfound oct t e k u w h =
      let f : Finished s id a image b = parts s id a image b t e k u w h in
      let st : Setting = setting_of f.reached.store f.reached.arguments in
      let find : Find = find_in f.reached.store.items in
      let r = exec_tallied (limits_of b) (trace_of st find f.reached.part) start f.machine f.runs in
      omega (arith, (says s id a image b f t e k u w h).unfound, r.unfounds, unfound_bound f.reached.store (store_sound s oct f.reached.stored).0 st id f.reached.entry a f.reached.part f.reached.found f.reached.has)

  -- the figure answered is no more than the workspace's length
  pub figure_fits : (f : Finished s id a image b) → f.machine.high ≤ length b.work
  unfolding limits_of
  figure_fits f = (within (limits_of b) (setting_of f.reached.store f.reached.arguments) (find_in f.reached.store.items) f.reached.part f.machine f.runs).work

pub front_length : (x l : Bytes) → length x ≤ length l → length (at_front x l) ≡ length l
unfolding at_front
front_length x l h = omega (arith, length-append x (drop (length x) l), length-drop (length x) l)

module _ (b : Buffers) where
  pub sized_same : Sized b b
  sized_same = record { text = refl; list = refl; work = refl }

  pub sized_test : (c : Bool) (n : ℕ) (f : Formatted) → (c ≡ true → Sized b f.buffers) → Sized b (or_refuse c n b f).buffers
  unfolding or_refuse refuse
  sized_test true n f h = h refl
  sized_test false n f h = sized_same

  sized_end : (st : Setting) (find : Find) (p : Pattern) → leb list_header (length b.list) ≡ true → (r : Ran)
      → run_pattern st find (limits_of b) p ≡ r → Sized b (ended r b).buffers
  unfolding ended zeros limits_of
  sized_end st find p t (ran m) h =
      let w : Within (limits_of b) m = within (limits_of b) st find p m h in
      let header : list_header ≤ length b.list = leb-true list_header (length b.list) t in
      record {
        text = front_length m.written b.text w.text;
        list = front_length (enc_errors m.errors) b.list (w.list header);
        work = length-replicate _ _;
      }
  sized_end st find p t (refused n) h = record { text = length-replicate _ _; list = length-replicate _ _; work = length-replicate _ _ }

  sized_arguments : (store : Store) (p : Pattern) (g : Judged) → Sized b (format_arguments store p g b).buffers
  unfolding format_arguments format_with refuse
  sized_arguments store p (accepted args) = sized_test _ 7 _ (λ t. sized_end (setting_of store args) (find_in store.items) p t _ refl)
  sized_arguments store p (refused_for n) = sized_same

  module _ (image : Bytes) where
    sized_part : (store : Store) (o : Option Pattern) → Sized b (format_part store o image b).buffers
    unfolding format_part refuse
    sized_part store (some p) = sized_arguments store p _
    sized_part store none = sized_same

    sized_entry : (store : Store) (a : Option Bytes) (o : Option Entry) → Sized b (format_entry store o a image b).buffers
    unfolding format_entry refuse
    sized_entry store a (some x) = sized_part store _
    sized_entry store a none = sized_same

    sized_store : (id : Bytes) (a : Option Bytes) (g : Got Store) → Sized b (format_store g id a image b).buffers
    unfolding format_store refuse
    sized_store id a (got store z) = sized_test _ 8 _ (λ t. sized_entry store a _)
    sized_store id a bad = sized_same

    -- every formatting, finished or refused, leaves the three buffers as long as they were
    pub formatting_sized : (s id : Bytes) (a : Option Bytes) → Sized b (format s id a image b).buffers
    unfolding format
    formatting_sized s id a = sized_store id a (store_of s)

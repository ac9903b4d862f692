-- A formatting that finishes has every part that its definition asks for, and answers what its machine says.
use mathlib.Core.Path.{◌≡◌, refl, ap, ◌∙◌}
use mathlib.Core.List.{List}
use mathlib.Core.Bool.{Bool, true, false, ◌&&◌}
use mathlib.Core.Option.{Option, none, some}
use Prim.Native.Nat.{ℕ}
use native.Mathlib.Omega.{arith}
use lib.ListN.{length}
use lib.Dec.{leb}
use Rattle.records.specs.Got.{Got, got, bad}
use Rattle.rules.specs.Rules.{is_id}
use Rattle.records.specs.Tree.{Pattern}
use Rattle.records.specs.Images.{Entry, Store, Argument, store_of}
use Rattle.order.specs.Accepted.{Judged, accepted, refused_for, judge}
use Rattle.records.specs.Errors.{list_header}
use Rattle.entries.specs.Lookup.{find_in, part_of}
use Rattle.resolution.specs.Effect.{Bytes}
use Rattle.resolution.specs.Resolve.{as_message}
use Rattle.resolution.specs.Exec.{Machine, Ran, ran, refused}
use Rattle.resolution.specs.Format.{finished, refused_before, refused_running, Buffers, Formatted, limits_of, refuse, or_refuse, ended, is_id_or_none, run_pattern, format_with, format_arguments, format_part, format_entry, format_store, format}
use Rattle.theorems.specs.Finished.{setting_of, Finished, Says}
use Rattle.theorems.proofs.Judged.{reached_ends}

pub not_before : (n t e k u w : ℕ) → refused_before n ≡ finished t e k u w → ⊥
not_before n t e k u w h = let z : ◌≡◌ {A = ℕ} 0 1 = cc in omega arith

pub not_running : (n t e k u w : ℕ) → refused_running n ≡ finished t e k u w → ⊥
not_running n t e k u w h = let z : ◌≡◌ {A = ℕ} 0 1 = cc in omega arith

-- each part of the definition, where the answer is finished
module _ (b : Buffers) (t e k u w : ℕ) where
  pub test_passed : (c : Bool) (n : ℕ) (f : Formatted) → (or_refuse c n b f).answer ≡ finished t e k u w → (c ≡ true) × (f.answer ≡ finished t e k u w)
  unfolding or_refuse refuse
  test_passed true n f h = (refl, h)
  test_passed false n f h = absurd (not_before n t e k u w h)

  pub run_ended : (r : Ran) → (ended r b).answer ≡ finished t e k u w → (m : Machine) × (r ≡ ran m)
  unfolding ended
  run_ended (ran m) h = (m, refl)
  run_ended (refused n) h = absurd (not_running n t e k u w h)

  pattern_ran : (store : Store) (p : Pattern) (args : List (Bytes × Argument)) → (format_with store p args b).answer ≡ finished t e k u w
      → (leb list_header (length b.list) ≡ true) × (m : Machine) × (run_pattern (setting_of store args) (find_in store.items) (limits_of b) p ≡ ran m)
  unfolding format_with
  pattern_ran store p args h =
      let r : Ran = run_pattern (setting_of store args) (find_in store.items) (limits_of b) p in
      let l = test_passed (leb list_header (length b.list)) 7 (ended r b) h in
      let m = run_ended r l.1 in
      (l.0, m.0, m.1)

  arguments_read : (store : Store) (p : Pattern) (g : Judged) → (format_arguments store p g b).answer ≡ finished t e k u w
      → (args : List (Bytes × Argument)) × (g ≡ accepted args) × ((format_with store p args b).answer ≡ finished t e k u w)
  unfolding format_arguments refuse
  arguments_read store p (accepted args) h = (args, refl, h)
  arguments_read store p (refused_for n) h = absurd (not_before n t e k u w h)

  module _ (image : Bytes) where
    part_found : (store : Store) (o : Option Pattern) → (format_part store o image b).answer ≡ finished t e k u w
        → (p : Pattern) × (o ≡ some p) × ((format_arguments store p (judge image) b).answer ≡ finished t e k u w)
    unfolding format_part refuse
    part_found store (some p) h = (p, refl, h)
    part_found store none h = absurd (not_before 12 t e k u w h)

    entry_found : (store : Store) (a : Option Bytes) (o : Option Entry) → (format_entry store o a image b).answer ≡ finished t e k u w
        → (x : Entry) × (o ≡ some x) × ((format_part store (part_of a x) image b).answer ≡ finished t e k u w)
    unfolding format_entry refuse
    entry_found store a (some x) h = (x, refl, h)
    entry_found store a none h = absurd (not_before 11 t e k u w h)

    store_read : (id : Bytes) (a : Option Bytes) (g : Got Store) → (format_store g id a image b).answer ≡ finished t e k u w
        → (store : Store) × (z : ℕ) × (g ≡ got store z) × ((or_refuse (is_id id && is_id_or_none a) 8 b (format_entry store (as_message (find_in store.items id)) a image b)).answer ≡ finished t e k u w)
    unfolding format_store refuse
    store_read id a (got store z) h = (store, z, refl, h)
    store_read id a bad h = absurd (not_before 4 t e k u w h)

module _ (s id : Bytes) (a : Option Bytes) (image : Bytes) (b : Buffers) where
  -- a formatting that answers finished has all its parts
  pub parts : (t e k u w : ℕ) → (format s id a image b).answer ≡ finished t e k u w → Finished s id a image b
  unfolding format
  parts t e k u w h =
      let at_store = store_read b t e k u w image id a (store_of s) h in
      let at_ids = test_passed b t e k u w _ _ _ at_store.3 in
      let at_entry_lem = entry_found b t e k u w image at_store.0 a _ at_ids.1 in
      let at_part = part_found b t e k u w image at_store.0 _ at_entry_lem.2 in
      let at_arguments = arguments_read b t e k u w at_store.0 at_part.0 _ at_part.2 in
      let at_run = pattern_ran b t e k u w at_store.0 at_part.0 at_arguments.0 at_arguments.2 in
      record {
        reached = record {
          store = at_store.0;
          store_end = at_store.1;
          stored = at_store.2;
          ids = at_ids.0;
          entry = at_entry_lem.0;
          found = at_entry_lem.1;
          part = at_part.0;
          has = at_part.1;
          arguments = at_arguments.0;
          given = at_arguments.1;
          header = at_run.0;
        };
        machine = at_run.1;
        runs = at_run.2;
      }

  -- a formatting that has all its parts ends as its machine says
  pub finish : (f : Finished s id a image b) → format s id a image b ≡ ended (ran f.machine) b
  finish f = reached_ends s id a image b f.reached ∙ ap (λ (r : Ran). ended r b) f.runs

  -- the five numbers of a finished formatting are those of its machine
  pub says : (f : Finished s id a image b) (t e k u w : ℕ) → (format s id a image b).answer ≡ finished t e k u w → Says f.machine t e k u w
  unfolding ended
  says f t e k u w h =
      let q : (ended (ran f.machine) b).answer ≡ finished t e k u w = rw (finish f) at h in
      record { text = cc; errors = cc; begun = cc; unfound = cc; work = cc }

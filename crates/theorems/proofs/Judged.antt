-- Every formatting is refused before its run, or reaches it and ends as the run does.
use mathlib.Core.Path.{◌≡◌, refl}
use mathlib.Core.List.{List}
use mathlib.Core.Bool.{Bool, true, false, ◌&&◌}
use mathlib.Core.Option.{Option, none, some}
use Prim.Native.Nat.{ℕ}
use lib.ListN.{length}
use lib.Dec.{leb}
use Rattle.records.specs.Got.{Got, got, bad}
use Rattle.rules.specs.Rules.{is_id}
use Rattle.records.specs.Tree.{Pattern}
use Rattle.records.specs.Images.{Entry, Store, Argument, store_of}
use Rattle.order.specs.Accepted.{Judged as Verdict, accepted, refused_for, judge}
use Rattle.records.specs.Errors.{list_header}
use Rattle.entries.specs.Lookup.{find_in, part_of}
use Rattle.resolution.specs.Effect.{Bytes}
use Rattle.resolution.specs.Resolve.{as_message}
use Rattle.resolution.specs.Exec.{Ran}
use Rattle.resolution.specs.Format.{Buffers, limits_of, refuse, or_refuse, ended, is_id_or_none, run_pattern, format_with, format_arguments, format_part, format_entry, format_store, format}
use Rattle.theorems.specs.Finished.{setting_of, Reached}

-- a refusal that changes nothing, or all that a run needs
pub data Judged (s : Bytes) (id : Bytes) (a : Option Bytes) (image : Bytes) (b : Buffers) : Type 0 where
  before : (n : ℕ) → format s id a image b ≡ refuse n b → Judged s id a image b
  reached : Reached s id a image b → Judged s id a image b

module _ (s : Bytes) (id : Bytes) (a : Option Bytes) (image : Bytes) (b : Buffers) where
  -- the run of a formatting that reaches it
  abbrev pub run_of : Reached s id a image b → Ran
  run_of r = run_pattern (setting_of r.store r.arguments) (find_in r.store.items) (limits_of b) r.part

  pub reached_ends : (r : Reached s id a image b) → format s id a image b ≡ ended (run_of r) b
  unfolding format format_store format_entry format_part format_arguments format_with or_refuse
  reached_ends r = rw r.stored (rw r.ids (rw r.found (rw r.has (rw r.given (rw r.header)))))

  -- the tests before the run, from the last to the first
  module _ (v : Store) (z : ℕ) (h₁ : store_of s ≡ got v z) where
    module _ (h₂ : is_id id && is_id_or_none a ≡ true) where
      module _ (e : Entry) (h₃ : as_message (find_in v.items id) ≡ some e) where
        module _ (p : Pattern) (h₄ : part_of a e ≡ some p) where
          module _ (l : List (Bytes × Argument)) (h₅ : judge image ≡ accepted l) where
            at_header : (x : Bool) → leb list_header (length b.list) ≡ x → Judged s id a image b
            unfolding format format_store format_entry format_part format_arguments format_with or_refuse
            at_header true q =
                Judged.reached (record { store = v; store_end = z; stored = h₁; ids = h₂; entry = e; found = h₃; part = p; has = h₄; arguments = l; given = h₅; header = q })
            at_header false q = Judged.before 7 (rw h₁ (rw h₂ (rw h₃ (rw h₄ (rw h₅ (rw q))))))

          at_arguments : (g : Verdict) → judge image ≡ g → Judged s id a image b
          unfolding format format_store format_entry format_part format_arguments or_refuse
          at_arguments (refused_for n) q = Judged.before n (rw h₁ (rw h₂ (rw h₃ (rw h₄ (rw q)))))
          at_arguments (accepted l) q = at_header l q (leb list_header (length b.list)) refl

        at_part : (o : Option Pattern) → part_of a e ≡ o → Judged s id a image b
        unfolding format format_store format_entry format_part or_refuse
        at_part none q = Judged.before 12 (rw h₁ (rw h₂ (rw h₃ (rw q))))
        at_part (some p) q = at_arguments p q (judge image) refl

      at_entry : (o : Option Entry) → as_message (find_in v.items id) ≡ o → Judged s id a image b
      unfolding format format_store format_entry or_refuse
      at_entry none q = Judged.before 11 (rw h₁ (rw h₂ (rw q)))
      at_entry (some e) q = at_part e q (part_of a e) refl

    at_ids : (x : Bool) → is_id id && is_id_or_none a ≡ x → Judged s id a image b
    unfolding format format_store or_refuse
    at_ids true q = at_entry q (as_message (find_in v.items id)) refl
    at_ids false q = Judged.before 8 (rw h₁ (rw q))

  at_store : (g : Got Store) → store_of s ≡ g → Judged s id a image b
  unfolding format format_store
  at_store bad q = Judged.before 4 (rw q)
  at_store (got v z) q = at_ids v z q (is_id id && is_id_or_none a) refl

  pub judged : Judged s id a image b
  judged = at_store (store_of s) refl

-- A message of a sheet: the ways in which it is refused, and its run.
use mathlib.Core.Path.{◌≡◌, refl, ap, sym, subst, ◌∙◌}
use mathlib.Core.Option.{Option, some}
use mathlib.Core.List.{List}
use Prim.Native.Nat.{ℕ, ◌+◌, ◌≤◌}
use native.Mathlib.Omega.{arith}
use Rattle.records.specs.Got.{got}
use Rattle.records.specs.Tree.{Pattern}
use Rattle.records.specs.Decode.{entry_pattern_at}
use Rattle.records.specs.Images.{Entry, Store, Argument, store_of}
use Rattle.order.specs.Accepted.{accepted, refused_for, judge}
use Rattle.arguments.specs.Relations.Places.{Noted}
use Rattle.refusals.proofs.Numbers.{positive, in_byte}
use Rattle.state.specs.Progress.{refused_of}
use Rattle.entries.specs.Lookup.{find_in, part_of}
use Rattle.requests.specs.Image.{Request}
use Rattle.requests.specs.Relations.Shown.{Shows}
use Rattle.requests.specs.declared.Spans.{Spans}
use Rattle.resolution.specs.Effect.{Bytes}
use Rattle.resolution.specs.Resolve.{as_message}
use Rattle.resolution.specs.Exec.{Machine, Ran, refused, exec}
use Rattle.theorems.specs.Finished.{trace_of, setting_of}
use Rattle.sheet_theorems.specs.Begun.{with_begun, add_begun}
use Rattle.sheets.specs.Sheet.{run_message}
use Rattle.sheet_theorems.proofs.Begun.{begun_apart}
use Rattle.sheet_theorems.proofs.Messages.{message_none, message_part, message_arguments, message_runs}
use Rattle.state.specs.declared.Progress.{Progress}
use Rattle.state.specs.Setters.{refuse_s, refused_s}
use Rattle.resolver.specs.Relations.Meets.{lent, env, Setup}
use Rattle.refusals.specs.declared.Refusal.{Refusal}
use Rattle.refusals.specs.declared.Refusal.TheVariants as refusal
use Rattle.refusals.specs.Numbers.{number_of}
use Rattle.std.specs.Prelude.{Ok, Err}
use Rattle.resolver.specs.Relations.Runs.{Part, message_in, MessageFound, no_message, no_such_part, pattern_found, Rests, RanAs, ran_as, refused_as, RunOn}
use Rattle.resolver.proofs.Patterns.{message_found_law}
use Rattle.sheet_format.specs.Relations.Sheets.{id_of, attribute_of, image_of, limits, MessageRan}

-- the same machine with nothing begun, and with what was begun again
again : (k : Machine) → k ≡ with_begun (k.begun + (with_begun 0 k).begun) (with_begun 0 k)
unfolding with_begun
again k = let e : k.begun ≡ k.begun + 0 = omega arith in λ i. record { written = k.written; errors = k.errors; nest = k.nest; used = k.used; high = k.high; begun = e i; expanded = k.expanded; unfounds = k.unfounds }

-- a machine at rest is so whatever was begun
rests_apart : {x l w : Bytes} {p : Progress} {k : Machine} (n : ℕ) → Rests x l w p k → Rests x l w p (with_begun n k)
unfolding with_begun
rests_apart n r = record {
  go = r.go;
  text_in = r.text_in;
  header_in = r.header_in;
  list_in = r.list_in;
  list_u32 = r.list_u32;
  front = r.front;
  back = r.back;
  aside = r.aside;
  written = r.written;
  listed = r.listed;
  errors = r.errors;
  nest = r.nest;
  used = r.used;
  high = r.high;
  unfounds = r.unfounds;
}

-- an outcome with so many more begun before it
ran_apart : {o : Ran} {x l : Bytes} {p : Progress} {x' l' w' : Bytes} {r : Progress} {n : ℕ} (b : ℕ) → RanAs o x l p x' l' w' r n → RanAs (add_begun b o) x l p x' l' w' r (b + n)
unfolding add_begun with_begun
ran_apart b (ran_as m e rs en g) = ran_as (with_begun (b + m.begun) m) (ap (add_begun b) e) (rests_apart (b + m.begun) rs) (ap (λ (i : ℕ). b + i) en) g
ran_apart b (refused_as c e z few er) = refused_as c (ap (add_begun b) e) z few er

-- refused with a refusal's number
pub refused_by : (c : Refusal) (p : Progress) {n : ℕ} {r : Progress} → n ≡ number_of c → r ≡ refused_s n p → r ≡ refuse_s c p
refused_by c p e h = h ∙ ap (λ (k : ℕ). refused_s k p) e

module _ (s sheet : Bytes) (q : Spans) (x l w : Bytes) (p : Progress) {f : Part} (found : f ≡ message_in s (id_of sheet q) (attribute_of sheet q)) where
  found_of : (v : Store) (used : ℕ) → store_of s ≡ got v used → (a : Request) → Shows sheet q a → MessageFound s v a.id a.attribute f
  found_of v used h a sh = message_found_law s a.id a.attribute h (found ∙ ap (λ (i : Bytes). message_in s i (attribute_of sheet q)) sh.id ∙ ap (λ (o : Option Bytes). message_in s a.id o) sh.attribute)

  -- 11 and 12
  pub message_lacks : {c : Refusal} {r : Progress} → f ≡ Err c → r ≡ refuse_s c p → MessageRan s sheet q x l w p x l w r 0
  unfolding number_of
  message_lacks {c} {r} e er = record { runs = λ v used h a sh k rests. (go v a k (found_of v used h a sh), λ z. omega arith) }
    where
      stops : (o : Ran) (why : Refusal) (k : ℕ) → o ≡ refused (number_of why) → c ≡ why → RanAs o x l p x l w r k
      stops o why k eo ec = refused_as (number_of why) eo (λ z. let h = positive why in omega (arith, z)) (in_byte why) (ap refused_of er ∙ ap number_of ec)

      go : (v : Store) (a : Request) (k : Machine) → MessageFound s v a.id a.attribute f → RanAs (run_message v (limits x l w) a k) x l p x l w r (k.begun + 0)
      go v a k (no_message e' o) = stops _ refusal.NoMessage _ (message_none v (limits x l w) a k o) cc
      go v a k (no_such_part y e' o n) = stops _ refusal.NoPattern _ (message_part v (limits x l w) a k y o n) cc
      go v a k (pattern_found y q' t end e' o n hp) = let z : ◌≡◌ {A = ℕ} 0 1 = cc in absurd (omega arith)

  module _ {at : ℕ} (e : f ≡ Ok at) where
    found_elim : {C : Type 0} (v : Store) (used : ℕ) → store_of s ≡ got v used → (a : Request) → Shows sheet q a
        → ((y : Entry) (t : Pattern) (end : ℕ) → as_message (find_in v.items a.id) ≡ some y → part_of a.attribute y ≡ some t → entry_pattern_at s at ≡ got t end → C) → C
    found_elim {C} v used h a sh c = go (found_of v used h a sh)
      where
        go : MessageFound s v a.id a.attribute f → C
        go (pattern_found y q' t end e' o n hp) = let eq : q' ≡ at = cc in c y t end o n (subst (λ (j : ℕ). entry_pattern_at s j ≡ got t end) eq hp)
        go (no_message e' o) = let z : ◌≡◌ {A = ℕ} 0 1 = cc in absurd (omega arith)
        go (no_such_part y e' o n) = let z : ◌≡◌ {A = ℕ} 0 1 = cc in absurd (omega arith)

    -- 13 and 19
    pub message_refused : (c : Refusal) {r : Progress} → judge (image_of sheet q) ≡ refused_for (number_of c) → r ≡ refuse_s c p → MessageRan s sheet q x l w p x l w r 0
    message_refused c {r} b er = record {
      runs = λ v used h a sh k rests. found_elim v used h a sh (λ y t end o n hp.
          (refused_as (number_of c) (message_arguments v (limits x l w) a k y o t n (number_of c) (ap judge (sym sh.image) ∙ b)) (λ z. let h' = positive c in omega (arith, z)) (in_byte c) (ap refused_of er), λ z. omega arith));
    }

    -- its run
    pub message_on : {args : List (Bytes × Argument)} {places x' l' w' : Bytes} {r : Progress} {n : ℕ} → judge (image_of sheet q) ≡ accepted args → Noted (image_of sheet q) places → RunOn (env s (lent (image_of sheet q) places)) at x l w p x' l' w' r → n ≡ r.begun
        → MessageRan s sheet q x l w p x' l' w' r n
    message_on {args} {places} {x'} {l'} {w'} {r} {n} ha nt ru en = record {
      runs = λ v used h a sh k rests. found_elim v used h a sh (λ y t f o pa hp.
          let u : Setup (env s (lent (image_of sheet q) places)) = record { held = v; used = used; held_at = h; given = args; given_at = ha; noted = nt } in
          let k₀ : Machine = with_begun 0 k in
          let g = ru.runs u t f hp k₀ (unfold with_begun in refl) (rests_apart 0 rests) in
          let tr = trace_of (setting_of v args) (find_in v.items) t in
          let runs : run_message v (limits x l w) a k ≡ add_begun k.begun (exec (limits x l w) tr k₀) =
          message_runs v (limits x l w) a k y o t pa args (ap judge (sym sh.image) ∙ ha) ∙ ap (λ (m : Machine). exec (limits x l w) tr m) (again k) ∙ begun_apart k.begun (limits x l w) tr k₀ in (
            subst (λ (z : Ran). RanAs z x l p x' l' w' r (k.begun + n)) (sym runs) (subst (λ (i : ℕ). RanAs (add_begun k.begun (exec (limits x l w) tr k₀)) x l p x' l' w' r (k.begun + i)) (sym en) (ran_apart k.begun g.0)),
            λ z. subst (λ (i : ℕ). i ≤ 101) (sym en) (g.1 z),
          ));
    }

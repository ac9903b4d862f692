-- Demand 3: additions change no formatting that finished with nothing unfound.
use mathlib.Core.Path.{◌≡◌, refl, ap, sym, subst, ◌∙◌}
use mathlib.Core.List.{List, [], ◌∷◌, ◌++◌, append_assoc, append-nil}
use mathlib.Core.Option.{Option, some}
use Prim.Native.Nat.{ℕ, ◌+◌, ◌≤◌}
use native.Mathlib.Omega.{arith}
use lib.ListN.{length}
use lib.Seq.{take-append_seam}
use borrow.Author.Tests.{leb-true, le-leb}
use Rattle.records.specs.Got.{got}
use Rattle.records.specs.Images.{Item, Store, store_of}
use Rattle.records.specs.Encode.{enc_item}
use Rattle.records.specs.Errors.{enc_errors, list_header}
use Rattle.layout.specs.Exact.{Octets}
use Rattle.entries.specs.Lookup.{Holder, find_in}
use Rattle.bundle.specs.Additions as adding
use Rattle.growth.specs.Items.{at_front}
use Rattle.bundle.specs.Additions.{refuse, add_resource, add_function}
use Rattle.bundle.specs.Growth.{Accepted}
use Rattle.entries.proofs.Holders.{Extends, FirstWins, AllFirstWins, extends}
use Rattle.bundle.proofs.Accepted.{resource_accepted, resource_refused, function_accepted, function_refused}
use Rattle.resolution.specs.Effect.{Bytes}
use Rattle.resolution.specs.Resolve.{as_message}
use Rattle.resolution.specs.Exec.{Machine, ran}
use Rattle.resolution.specs.Format.{finished, Buffers, limits_of, ended, format}
use Rattle.theorems.specs.Finished.{setting_of, Finished, Says}
use Rattle.theorems.specs.Steadiness.{Addition, InBytes, AllInBytes, added_by, slice_after, slices_after, AddedTo, EachAdded, Longer, Same, Steadiness, Demand3}
use Rattle.theorems.proofs.Held.{message_held}
use Rattle.theorems.proofs.Wider.{Wider}
use Rattle.theorems.proofs.Parts.{parts, finish, says}
use Rattle.theorems.proofs.Whole.{whole_steady}
use Rattle.theorems.proofs.Lists.{list_of_front}
use Rattle.theorems.proofs.Within.{within}
use Rattle.theorems.proofs.Formattings.{sound}

-- a store with more items, behind the others
abbrev pub with_items : Store → List Item → Store
with_items v new = record { locale = v.locale; isolating = v.isolating; items = v.items ++ new }

-- s' holds v with more items behind, none of them overriding
pub record Extended (v : Store) (s' : Bytes) : Type 0 where
  pub new : List Item
  pub firsts : AllFirstWins new
  pub used : ℕ
  pub reads : store_of s' ≡ got (with_items v new) used

none_new : (v : Store) → with_items v [] ≡ v
none_new v = ap (λ (l : List Item). record { locale = v.locale; isolating = v.isolating; items = l }) (append-nil v.items)

unchanged : (v : Store) (s : Bytes) (used : ℕ) → store_of s ≡ got v used → Extended v s
unchanged v s used h = record { new = []; firsts = tt; used = used; reads = h ∙ ap (λ (x : Store). got x used) (sym (none_new v)) }

pub same_store : (v w : Store) (i j : ℕ) (s : Bytes) → store_of s ≡ got v i → store_of s ≡ got w j → w ≡ v
same_store v w i j s h k = cc

accepted_extends : (v : Store) (used : ℕ) (s s' : Bytes) (x : Item) → FirstWins x → store_of s ≡ got v used → Accepted s s' x → Extended v s'
accepted_extends v used s s' x f h a =
    subst (λ (w : Store). Extended w s') (same_store v a.store used a.used s h a.stored)
    (record { new = x ∷ []; firsts = (f, tt); used = a.used + length (enc_item x); reads = a.grown.reads })

firsts_append : (xs ys : List Item) → AllFirstWins xs → AllFirstWins ys → AllFirstWins (xs ++ ys)
firsts_append [] ys h k = k
firsts_append (x ∷ xs) ys h k = (h.0, firsts_append xs ys h.1 k)

extended_twice : (v : Store) (s₁ s₂ : Bytes) (e : Extended v s₁) → Extended (with_items v e.new) s₂ → Extended v s₂
extended_twice v s₁ s₂ e f = record {
  new = e.new ++ f.new;
  firsts = firsts_append e.new f.new e.firsts f.firsts;
  used = f.used;
  reads = f.reads ∙ ap (λ (l : List Item). got (record { locale = v.locale; isolating = v.isolating; items = l }) f.used) (append_assoc v.items e.new f.new);
}

-- one addition, accepted or refused
one_extends : (x : Addition) → InBytes x → (v : Store) (used : ℕ) (s : Bytes) → Octets s → store_of s ≡ got v used → Extended v (slice_after x s)
unfolding slice_after added_by refuse
one_extends (Addition.resource image list) b v used s oct h = go (add_resource s image list).answer refl
  where
    go : (a : adding.Answer) → (add_resource s image list).answer ≡ a → Extended v (add_resource s image list).slice
    go (adding.done n) q = accepted_extends v used s _ _ tt h (resource_accepted s image oct b list n q).accepted
    go (adding.refused k) q = rw (resource_refused s image list k q) (unchanged v s used h)
one_extends (Addition.function id code) b v used s oct h = go (add_function s id code).answer refl
  where
    go : (a : adding.Answer) → (add_function s id code).answer ≡ a → Extended v (add_function s id code).slice
    go (adding.done n) q = accepted_extends v used s _ _ tt h (function_accepted s id oct code n q)
    go (adding.refused k) q = rw (function_refused s id code k q) (unchanged v s used h)

-- a call leaves bytes, as many as there were, whether the slice is a store or not
one_sized : (x : Addition) → InBytes x → (s : Bytes) → Octets s → (length (slice_after x s) ≡ length s) × Octets (slice_after x s)
unfolding slice_after added_by refuse
one_sized (Addition.resource image list) b s oct = go (add_resource s image list).answer refl
  where
    go : (a : adding.Answer) → (add_resource s image list).answer ≡ a
        → (length (add_resource s image list).slice ≡ length s) × Octets (add_resource s image list).slice
    go (adding.done n) q = let r = (resource_accepted s image oct b list n q).accepted.grown in (r.size, r.octets)
    go (adding.refused k) q = rw (resource_refused s image list k q) (refl, oct)
one_sized (Addition.function id code) b s oct = go (add_function s id code).answer refl
  where
    go : (a : adding.Answer) → (add_function s id code).answer ≡ a
        → (length (add_function s id code).slice ≡ length s) × Octets (add_function s id code).slice
    go (adding.done n) q = let r = (function_accepted s id oct code n q).grown in (r.size, r.octets)
    go (adding.refused k) q = rw (function_refused s id code k q) (refl, oct)

-- the whole list
pub all_extend : (xs : List Addition) → AllInBytes xs → (v : Store) (used : ℕ) (s : Bytes) → Octets s → store_of s ≡ got v used
    → Extended v (slices_after xs s)
unfolding slices_after
all_extend [] b v used s oct h = unchanged v s used h
all_extend (x ∷ xs) b v used s oct h =
    let e : Extended v (slice_after x s) = one_extends x b.0 v used s oct h in
    extended_twice v (slice_after x s) _ e (all_extend xs b.1 (with_items v e.new) e.used (slice_after x s) (one_sized x b.0 s oct).1 e.reads)

-- "its length unchanged"
pub slices_sized : (xs : List Addition) → AllInBytes xs → (s : Bytes) → Octets s → length (slices_after xs s) ≡ length s
unfolding slices_after
slices_sized [] b s oct = refl
slices_sized (x ∷ xs) b s oct =
    let r = one_sized x b.0 s oct in
    slices_sized xs b.1 (slice_after x s) r.1 ∙ r.0

-- what a machine leaves in the front of two buffers
pub same_end : (m : Machine) (b b' : Buffers) → length (enc_errors m.errors) ≤ 4294967295
    → Same (length m.written) (ended (ran m) b) (ended (ran m) b')
unfolding ended at_front
same_end m b b' h = record {
  answer = refl;
  text = take-append_seam m.written _ ∙ sym (take-append_seam m.written _);
  list = list_of_front m.errors b'.list h ∙ sym (list_of_front m.errors b.list h);
}

module _ (s : Bytes) (oct : Octets s) (xs : List Addition) (bytes : AllInBytes xs) (id : Bytes) (a : Option Bytes) (image : Bytes) (b b' : Buffers) (longer : Longer b b') where
  -- the second formatting has the parts of the first, and its machine
  again : (f : Finished s id a image b) → f.machine.unfounds ≡ 0 → (g : Finished (slices_after xs s) id a image b') × (g.machine ≡ f.machine)
  unfolding limits_of
  again f z =
      let v : Store = f.reached.store in
      let e : Extended v (slices_after xs s) = all_extend xs bytes v f.reached.store_end s oct f.reached.stored in
      let more : Extends (find_in v.items) (find_in (v.items ++ e.new)) = extends v.items e.new e.firsts in
      let h : find_in v.items id ≡ some (Holder.entry f.reached.entry) = message_held (find_in v.items id) f.reached.entry f.reached.found in
      let same : find_in (v.items ++ e.new) id ≡ find_in v.items id = more id _ h ∙ sym h in
      let wider : Wider (limits_of b) (limits_of b') = record { text = longer.text; list = longer.list; work = longer.work } in
      let room : list_header ≤ length b'.list = omega (arith, leb-true list_header (length b.list) f.reached.header, longer.list) in (
        record {
          reached = record {
            store = with_items v e.new;
            store_end = e.used;
            stored = e.reads;
            ids = f.reached.ids;
            entry = f.reached.entry;
            found = ap as_message same ∙ f.reached.found;
            part = f.reached.part;
            has = f.reached.has;
            arguments = f.reached.arguments;
            given = f.reached.given;
            header = le-leb list_header (length b'.list) room;
          };
          machine = f.machine;
          runs = whole_steady (setting_of v f.reached.arguments) (find_in v.items) f.reached.part (limits_of b) f.machine f.runs (find_in (v.items ++ e.new)) (limits_of b') more wider z;
        },
        refl,
      )

  same_again : (f : Finished s id a image b) → f.machine.unfounds ≡ 0
      → Same (length f.machine.written) (format s id a image b) (format (slices_after xs s) id a image b')
  same_again f z =
      let m : Machine = f.machine in
      let g = again f z in
      let first : format s id a image b ≡ ended (ran m) b = finish s id a image b f in
      let second : format (slices_after xs s) id a image b' ≡ ended (ran m) b' = finish (slices_after xs s) id a image b' g.0 ∙ ap (λ (k : Machine). ended (ran k) b') g.1 in
      rw (first, second) (same_end m b b' (within (limits_of b) (setting_of f.reached.store f.reached.arguments) (find_in f.reached.store.items) f.reached.part m f.runs).stated)

-- "Demand 3's steadiness is a single claim about the whole list of additions"
pub steadiness : Steadiness
steadiness s oct xs bytes id a image b b' longer t e n w h =
    let f : Finished s id a image b = parts s id a image b t e n 0 w h in
    let y : Says f.machine t e n 0 w = says s id a image b f t e n 0 w h in
    let same : Same (length f.machine.written) (format s id a image b) (format (slices_after xs s) id a image b') = same_again s oct xs bytes id a image b b' longer f (sym y.unfound) in
    subst (λ (j : ℕ). Same j (format s id a image b) (format (slices_after xs s) id a image b')) (sym y.text) same

-- what one addition did, accepted or refused
added_to : (x : Addition) → InBytes x → (s : Bytes) → Octets s → AddedTo s x
unfolding slice_after added_by
added_to (Addition.resource image list) b s oct = record {
  size = (one_sized (Addition.resource image list) b s oct).0;
  accepted = λ n q. resource_accepted s image oct b list n q;
  refused = λ n q. resource_refused s image list n q;
}
added_to (Addition.function id code) b s oct = record {
  size = (one_sized (Addition.function id code) b s oct).0;
  accepted = λ n q. function_accepted s id oct code n q;
  refused = λ n q. function_refused s id code n q;
}

-- and each of the list
pub each_added : (xs : List Addition) → AllInBytes xs → (s : Bytes) → Octets s → EachAdded s xs
each_added [] b s oct = tt
each_added (x ∷ xs) b s oct = (added_to x b.0 s oct, each_added xs b.1 (slice_after x s) (one_sized x b.0 s oct).1)

-- demand 3, as one claim
pub demand_3 : Demand3
demand_3 s oct formed xs bytes id a image b b' longer t e k w h =
    let same : Same t (format s id a image b) (format (slices_after xs s) id a image b') = steadiness s oct xs bytes id a image b b' longer t e k w h in
    let again : (format (slices_after xs s) id a image b').answer ≡ finished t e k 0 w = same.answer ∙ h in
    record {
      size = slices_sized xs bytes s oct;
      each = each_added xs bytes s oct;
      answer = again;
      text = same.text;
      list = same.list;
      first = sound s id a image b t e k 0 w h;
      second = sound (slices_after xs s) id a image b' t e k 0 w again;
    }

-- Every error list is far shorter than a u32 can state, so that its limit refuses nothing that the list buffer would take; and far fewer lookups find
-- nothing than a u64 can state.
use mathlib.Core.Path.{◌≡◌, refl, ap}
use mathlib.Core.List.{[], ◌∷◌, ◌++◌}
use mathlib.Core.Bool.{Bool, true, false}
use mathlib.Core.Option.{Option, some}
use Prim.Native.Nat.{ℕ, zero, suc, ◌+◌, ◌*◌, ◌≤◌, min}
use native.Mathlib.Omega.{arith}
use lib.ListN.{length, length-append}
use lib.Dec.{leb}
use borrow.Author.Tests.{leb-true, leb-false, le-leb, lt-leb}
use Rattle.records.specs.Bytes.{to_be}
use Rattle.records.specs.Tree.{Pattern}
use Rattle.records.specs.Images.{Entry, Store, max_image}
use Rattle.records.specs.Encode.{enc_all, enc_whole}
use Rattle.records.specs.Errors.{enc_error, enc_errors}
use Rattle.records.specs.Valid.{ValidStore}
use Rattle.layout.proofs.Numbers.{length_to_be}
use Rattle.entries.specs.Lookup.{find_in, part_of}
use Rattle.entries.proofs.Sizes.{entry_size, part_size}
use Rattle.resolution.specs.Effect.{Bytes, put, report, begin, expand, unfound, open_text, keep_text, free, merged, Trace, Out, Done}
use Rattle.resolution.specs.Resolve.{Setting, bytes_of, as_message, resolve}
use Rattle.resolution.specs.Exec.{list_limit}
use Rattle.resolution.specs.Format.{max_patterns, fresh}
use Rattle.theorems.specs.Finished.{reports, trace_of}
use Rattle.theorems.proofs.Held.{message_held}
use Rattle.theorems.proofs.Tally.{tally, tally_append, is_unfound}
use Rattle.theorems.proofs.Counts.{Counted, counted}
use Rattle.theorems.proofs.Fuel.{ok_fresh}
use Rattle.theorems.proofs.Costs.{listing, most, allowance, ImageSized, AllImageSized, resolve_cost}

-- the bytes of a trace's errors, and its lookups that found nothing
listing_length : (t : Trace) → length (enc_all enc_error (reports t)) + tally is_unfound t ≡ tally listing t
unfolding enc_all
listing_length [] = refl
listing_length (put b ∷ t) = omega (arith, listing_length t)
listing_length (report e ∷ t) = omega (arith, listing_length t, length-append (enc_error e) (enc_all enc_error (reports t)))
listing_length (begin ∷ t) = omega (arith, listing_length t)
listing_length (expand ∷ t) = omega (arith, listing_length t)
listing_length (unfound ∷ t) = omega (arith, listing_length t)
listing_length (open_text ∷ t) = omega (arith, listing_length t)
listing_length (keep_text ∷ t) = omega (arith, listing_length t)
listing_length (free n ∷ t) = omega (arith, listing_length t)
listing_length (merged n ∷ t) = omega (arith, listing_length t)

list_length : (t : Trace) → length (enc_errors (reports t)) + tally is_unfound t ≡ 5 + tally listing t
unfolding enc_errors enc_whole
list_length t =
    let r : Bytes = 1 ∷ enc_all enc_error (reports t) in
    omega (arith, listing_length t, length-append (to_be 4 (4 + length r)) r, length_to_be 4 (4 + length r))

allowance_times : (n : ℕ) → allowance n ≡ n * most
allowance_times zero = omega arith
allowance_times (suc n) = omega (arith, allowance_times n)

module _ (v : Store) (valid : ValidStore v) where
  all_fit : AllImageSized (find_in v.items)
  unfolding ValidStore max_image
  all_fit i e h a p q = omega (arith, entry_size v.items valid.1 i e h, part_size a e p q)

  -- what a formatting from a well-formed store adds to both
  added : (st : Setting) (id : Bytes) (e : Entry) (a : Option Bytes) (p : Pattern) → as_message (find_in v.items id) ≡ some e → part_of a e ≡ some p
      → 5 + tally listing (trace_of st (find_in v.items) p) ≤ 20000000
  unfolding fresh
  added st id e a p h q =
      let f : ImageSized p = all_fit id e (message_held (find_in v.items id) e h) a p q in
      let c = (resolve_cost st (find_in v.items) all_fit max_patterns p (bytes_of p ∷ []) f).bound fresh in
      let out : Out Done = resolve st (find_in v.items) max_patterns p (bytes_of p ∷ []) fresh in
      let n : Counted fresh out.trace out.state = counted st (find_in v.items) max_patterns p (bytes_of p ∷ []) fresh ok_fresh in
      omega (arith, c, n.ok.few, allowance_times out.state.begun)

  -- the errors that it reports take no more than 20 million bytes
  pub list_bound : (st : Setting) (id : Bytes) (e : Entry) (a : Option Bytes) (p : Pattern) → as_message (find_in v.items id) ≡ some e
      → part_of a e ≡ some p → length (enc_errors (reports (trace_of st (find_in v.items) p))) ≤ 20000000
  list_bound st id e a p h q = omega (arith, added st id e a p h q, list_length (trace_of st (find_in v.items) p))

  -- no more than 20 million of its lookups find nothing
  pub unfound_bound : (st : Setting) (id : Bytes) (e : Entry) (a : Option Bytes) (p : Pattern) → as_message (find_in v.items id) ≡ some e
      → part_of a e ≡ some p → tally is_unfound (trace_of st (find_in v.items) p) ≤ 20000000
  unfound_bound st id e a p h q = omega (arith, added st id e a p h q, listing_length (trace_of st (find_in v.items) p))

  -- at no moment do they take more
  pub prefix_bound : (st : Setting) (id : Bytes) (e : Entry) (a : Option Bytes) (p : Pattern) → as_message (find_in v.items id) ≡ some e
      → part_of a e ≡ some p → (x y : Trace) → trace_of st (find_in v.items) p ≡ x ++ y → length (enc_errors (reports x)) ≤ 20000000
  prefix_bound st id e a p h q x y d =
      let t : Trace = trace_of st (find_in v.items) p in
      omega (arith, added st id e a p h q, list_length x, tally_append listing x y, ap (tally listing) d)

-- so the limit of a u32 is never the nearer one
pub limit_idle : (n k : ℕ) → n ≤ 20000000 → leb n (list_limit k) ≡ leb n k
unfolding list_limit
limit_idle n k h = go (leb n k) refl
  where
    go : (b : Bool) → leb n k ≡ b → leb n (min k 4294967295) ≡ b
    go true q = le-leb n _ (omega (arith, leb-true n k q))
    go false q = lt-leb n _ (omega (arith, leb-false n k q))

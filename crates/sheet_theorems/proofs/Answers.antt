-- A finished sheet's placeables, sums and figure, from the machines that it is the joining of.
use mathlib.Core.Path.{◌≡◌, refl, ap, sym, subst, ◌∙◌}
use mathlib.Core.List.{List, [], ◌∷◌, ◌++◌}
use mathlib.Core.Bool.{Bool, true, false}
use mathlib.Core.Option.{some}
use Prim.Native.Nat.{ℕ, ◌+◌, ◌*◌, ◌≤◌, max}
use native.Mathlib.Omega.{arith}
use lib.ListN.{length, length-append}
use lib.Dec.{leb}
use borrow.Author.Tests.{leb-true, leb-false}
use Rattle.records.specs.Bytes.{to_be}
use Rattle.records.specs.Encode.{enc_all}
use Rattle.records.specs.Errors.{Error, overriding, reference, no_value, missing_default, cyclic, too_many_placeables, enc_record, enc_error, enc_errors, list_header}
use Rattle.records.specs.Valid.{All}
use Rattle.texts.specs.ErrorList.{errors_of, Brief, Recordable}
use Rattle.texts.proofs.ErrorList.{recordable, errors_read}
use Rattle.layout.proofs.Numbers.{length_to_be}
use Rattle.resolution.specs.Effect.{Bytes}
use Rattle.resolution.specs.Exec.{Machine, ran, list_limit, start}
use Rattle.resolution.specs.Format.{Formatted, Buffers, limits_of, ended}
use Rattle.theorems.specs.Finished.{list_of, Says, Placeables}
use Rattle.theorems.proofs.Lists.{list_of_front}
use Rattle.theorems.proofs.Within.{Within}
use Rattle.theorems.proofs.Every.{all_map}
use Rattle.theorems.proofs.ReadBack.{begun_over}
use Rattle.requests.specs.Image.{Request}
use Rattle.sheets.specs.Sheet.{format_sheet}
use Rattle.sheet_theorems.specs.ClaimsJoining.{beside, joined, Each}
use Rattle.sheet_theorems.specs.ClaimsAnswers.{OwnPlaceables, AllSheetPlaceables, AllSheetSums, OneOf, NothingOr, AllSheetFigures}
use Rattle.sheet_theorems.proofs.Few.{sheet_few}
use Rattle.sheet_theorems.proofs.Requests.{requests_few}
use Rattle.texts.proofs.ErrorList.{list_size}
use Rattle.sheet_theorems.proofs.Above.{errors_joined}
use Rattle.sheet_theorems.proofs.Parts.{Finishes, sheet_ends, finishes, sheet_says, sheet_within}
use Rattle.sheet_theorems.proofs.Joining.{Joined, sheet_joined, joins}
use Rattle.sheet_theorems.proofs.Fine.{sheet_fine}

-- errors that fit their records and their list are read back
reads_back : (es : List Error) → All Brief es → length (enc_errors es) ≤ 4294967295 → errors_of (enc_errors es) ≡ some es
reads_back es h k = errors_read es (all_map Brief Recordable recordable es h, omega (arith, k))

own_placeables : (m : Machine) → Placeables m → All Brief m.errors → length (enc_errors m.errors) ≤ 4294967295 → OwnPlaceables m
own_placeables m p h k = record {
  expanded = p.expanded;
  few = p.few;
  exactly = (λ q. let o = p.once q in omega arith, λ q. begun_over m p q);
  once = p.once;
  own = reads_back m.errors h k;
}

all_left : {A : Type 0} (Ok : A → Type 0) (a b : List A) → All Ok (a ++ b) → All Ok a
all_left Ok [] b h = tt
all_left Ok (x ∷ a) b h = (h.0, all_left Ok a b h.1)

all_right : {A : Type 0} (Ok : A → Type 0) (a b : List A) → All Ok (a ++ b) → All Ok b
all_right Ok [] b h = h
all_right Ok (x ∷ a) b h = all_right Ok a b h.1

each_own : (ms : List Machine) → All Placeables ms → All Brief (joined ms).errors → length (enc_errors (joined ms).errors) ≤ 4294967295 → All OwnPlaceables ms
unfolding joined beside
each_own [] p h k = tt
each_own (m ∷ ms) p h k =
    let l : List Error = (joined ms).errors in
    let both : 5 + length (enc_errors (m.errors ++ l)) ≡ length (enc_errors m.errors) + length (enc_errors l) = errors_joined m.errors l in (
      own_placeables m p.0 (all_left Brief m.errors l h) (omega (arith, both, k, list_size l)),
      each_own ms p.1 (all_right Brief m.errors l h) (omega (arith, both, k, list_size m.errors)),
    )

ended_list : (m : Machine) (b : Buffers) → length (enc_errors m.errors) ≤ 4294967295 → list_of (ended (ran m) b).buffers.list ≡ enc_errors m.errors
unfolding ended
ended_list m b h = list_of_front m.errors b.list h

-- each message's placeables, and the list read back
pub sheet_placeables : AllSheetPlaceables
unfolding joins
sheet_placeables s os image oi b t e k u w h =
    let f : Finishes s image b = finishes s image b t e k u w h in
    let j : Joined s image b f = sheet_joined s image oi b f in
    let m : Machine = joined j.machines in
    let fine : All Brief m.errors = subst (λ (x : Machine). All Brief x.errors) j.join (sheet_fine s os image oi b f).errors in
    let fits : Within (limits_of b) m = subst (λ (x : Machine). Within (limits_of b) x) j.join (sheet_within f.store (limits_of b) f.requests f.machine f.runs) in
    let ends : format_sheet s image b ≡ ended (ran m) b = sheet_ends s image b f ∙ ap (λ (x : Machine). ended (ran x) b) j.join in
    record {
      joins = joins s image b t e k u w f j (sheet_says s image b t e k u w f h);
      each = each_own j.machines j.placeables fine fits.stated;
      read = ap (λ (x : Formatted). errors_of (list_of x.buffers.list)) ends ∙ ap errors_of (ended_list m b fits.stated) ∙ reads_back m.errors fine fits.stated;
    }

-- a record takes three bytes at least
record_length : (x : ℕ) (l : Bytes) → 3 ≤ length (enc_record (x ∷ l))
unfolding enc_record
record_length x l = omega (arith, length-append (to_be 2 (length (x ∷ l))) (x ∷ l), length_to_be 2 (length (x ∷ l)))

error_length : (e : Error) → 3 ≤ length (enc_error e)
unfolding enc_error
error_length (overriding k i) = record_length _ _
error_length (reference k i a) = record_length _ _
error_length (no_value i) = record_length _ _
error_length missing_default = record_length _ _
error_length cyclic = record_length _ _
error_length too_many_placeables = record_length _ _

records_length : (l : List Error) → 3 * length l ≤ length (enc_all enc_error l)
unfolding enc_all
records_length [] = omega arith
records_length (e ∷ l) = omega (arith, records_length l, error_length e, length-append (enc_error e) (enc_all enc_error l))

-- as many machines as requests, and 101 placeables for each
each_length : {s w : Bytes} {rs : List Request} {ms : List Machine} → Each s w rs ms → length ms ≡ length rs
each_length Each.nothing = refl
each_length (Each.one x xs) = omega (arith, each_length xs)

few_begun : (ms : List Machine) → All Placeables ms → (joined ms).begun ≤ 101 * length ms
unfolding joined beside start
few_begun [] p = omega arith
few_begun (m ∷ ms) p = omega (arith, p.0.few, few_begun ms p.1)

-- no sum wraps
pub sheet_sums : AllSheetSums
unfolding limits_of list_limit
sheet_sums s os image oi b t e k u w h =
    let f : Finishes s image b = finishes s image b t e k u w h in
    let m : Machine = f.machine in
    let y : Says m t e k u w = sheet_says s image b t e k u w f h in
    let j : Joined s image b f = sheet_joined s image oi b f in
    let fits : Within (limits_of b) m = sheet_within f.store (limits_of b) f.requests m f.runs in
    let few : length f.requests ≤ 65535 = requests_few image oi f.requests f.requests_end f.read in
    let header : list_header ≤ length b.list = leb-true list_header (length b.list) f.header in
    let begins : k ≤ 101 * 65535 = omega (arith, y.begun, ap (λ (x : Machine). x.begun) j.join, few_begun j.machines j.placeables, each_length j.each, few) in
    let misses : u ≤ 20000000 * 65535 = omega (arith, y.unfound, sheet_few s os f.store f.store_end f.stored (limits_of b) f.requests m f.runs, few) in
    let listed : 5 + 3 * e ≤ length (enc_errors m.errors) = omega (arith, y.errors, records_length m.errors, list_size m.errors) in
    record {
      text = omega (arith, y.text, fits.text);
      errors = omega (arith, listed, fits.stated, fits.list header);
      begun = begins;
      unfound = misses;
      work = omega (arith, y.work, fits.work);
      errors_carried = omega (arith, listed, fits.stated);
      begun_carried = omega (arith, begins);
      unfound_carried = omega (arith, misses);
    }

-- the highest use of the joining is the largest
every_high : (w : ℕ) (ms : List Machine) → (joined ms).high ≤ w → All (λ (m : Machine). m.high ≤ w) ms
unfolding joined beside
every_high w [] h = tt
every_high w (m ∷ ms) h = (omega (arith, h), every_high w ms (omega (arith, h)))

there_too : (w : ℕ) (m : Machine) (ms : List Machine) → NothingOr w ms → NothingOr w (m ∷ ms)
there_too w m ms (NothingOr.nothing q) = NothingOr.nothing q
there_too w m ms (NothingOr.one x) = NothingOr.one (OneOf.there x)

largest_high : (ms : List Machine) → NothingOr (joined ms).high ms
unfolding joined beside start
largest_high [] = NothingOr.nothing refl
largest_high (m ∷ ms) = go (leb (joined ms).high m.high) refl (largest_high ms)
  where
    go : (x : Bool) → leb (joined ms).high m.high ≡ x → NothingOr (joined ms).high ms → NothingOr (max m.high (joined ms).high) (m ∷ ms)
    go true q rest =
        let le = leb-true (joined ms).high m.high q in
        let same : max m.high (joined ms).high ≡ m.high = omega arith in
        NothingOr.one (OneOf.here {m = m} same)
    go false q rest =
        let lt = leb-false (joined ms).high m.high q in
        let same : (joined ms).high ≡ max m.high (joined ms).high = omega arith in
        subst (λ (w : ℕ). NothingOr w (m ∷ ms)) same (there_too (joined ms).high m ms rest)

-- the figure is the largest of the messages'
pub sheet_figure : AllSheetFigures
sheet_figure s image b t e k u w j = record {
  every = every_high w j.machines (omega (arith, j.says.work));
  largest = subst (λ (x : ℕ). NothingOr x j.machines) (sym j.says.work) (largest_high j.machines);
}

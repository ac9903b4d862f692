-- The theorems that 0 means done, one for each operation.
-- Assumes nothing.
use native.Mathlib.Omega.{arith}
use mathlib.Core.Path.{◌≡◌, refl}
use mathlib.Core.Bool.{Bool, true, false}
use mathlib.Core.List.{List, [], ◌∷◌}
use mathlib.Core.Option.{Option, some, none}
use Prim.Native.Nat.{ℕ, zero, suc}
use Rattle.records.specs.Got.{Got, got, bad}
use Rattle.records.specs.Tree.{Pattern}
use Rattle.records.specs.Images.{Entry, Store, store_of, resource_of}
use Rattle.order.specs.Accepted.{Judged, accepted, refused_for, judge}
use Rattle.order.proofs.Accepted.{refused_with}
use Rattle.bundle.specs.Additions.{Added, add_function, add_function_to, add_overriding_to, add_plain_to, add_resource, add_resource_overriding, listed, new_bundle, or_refuse, refuse, succeed}
use Rattle.resolution.specs.Effect.{Bytes, Effect, Trace, begin, expand, free, keep_text, merged, open_text, put, report, unfound}
use Rattle.resolution.specs.Exec.{Limits, Machine, Ran, allow, allow_if, and_then, exec, put_at, put_text, put_work, ran, refused, step}
use Rattle.resolution.specs.Format as formatting
use Rattle.resolution.specs.Format.{Buffers, Formatted, ended, format, format_arguments, format_entry, format_part, format_store, format_with, run_pattern}
use Rattle.theorems.specs.Finished.{Running}
use Rattle.sheets.specs.Sheet.{format_sheet}
use Rattle.sheets.specs.Refused.{cleared}
use Rattle.sheet_theorems.specs.ClaimsRefusals.{SheetBefore, SheetRunning, SheetAnswers}
use Rattle.sheet_theorems.proofs.Refusals.{sheet_answers}
use Rattle.exports.specs.Zero.{Told, FormatTold}

-- == New bundles and additions

or_told : (b : Bool) (n : ℕ) (s l : List ℕ) (a : Added) → (n ≡ 0 → ⊥) → Told a.answer → Told (or_refuse b n s l a).answer
unfolding or_refuse refuse
or_told true n s l a ne h = h
or_told false n s l a ne h = ne

pub new_told : (s : List ℕ) (locale isolating : ℕ) → Told (new_bundle s locale isolating).answer
unfolding new_bundle succeed
new_told s locale isolating =
    or_told _ 1 _ _ _ (λ h. omega (arith, h)) (or_told _ 2 _ _ _ (λ h. omega (arith, h)) (or_told _ 3 _ _ _ (λ h. omega (arith, h)) tt))

plain_told : (s image l : List ℕ) (g : Got Store) (r : Got (List Entry)) → Told (add_plain_to s image l g r).answer
unfolding add_plain_to refuse listed succeed
plain_told s image l bad r = λ h. omega (arith, h)
plain_told s image l (got st used) bad = λ h. omega (arith, h)
plain_told s image l (got st used) (got es e) = or_told _ 6 _ _ _ (λ h. omega (arith, h)) (or_told _ 7 _ _ _ (λ h. omega (arith, h)) tt)

pub resource_told : (s image l : List ℕ) → Told (add_resource s image l).answer
unfolding add_resource
resource_told s image l = plain_told s image l (store_of s) (resource_of image)

overriding_to_told : (s image : List ℕ) (g : Got Store) (r : Got (List Entry)) → Told (add_overriding_to s image g r).answer
unfolding add_overriding_to refuse succeed
overriding_to_told s image bad r = λ h. omega (arith, h)
overriding_to_told s image (got st used) bad = λ h. omega (arith, h)
overriding_to_told s image (got st used) (got es e) = or_told _ 6 _ _ _ (λ h. omega (arith, h)) tt

pub overriding_told : (s image : List ℕ) → Told (add_resource_overriding s image).answer
unfolding add_resource_overriding
overriding_told s image = overriding_to_told s image (store_of s) (resource_of image)

function_to_told : (s id : List ℕ) (code : ℕ) (g : Got Store) → Told (add_function_to s id code g).answer
unfolding add_function_to refuse succeed
function_to_told s id code bad = λ h. omega (arith, h)
function_to_told s id code (got st used) =
    or_told _ 8 _ _ _ (λ h. omega (arith, h))
    (or_told _ 9 _ _ _ (λ h. omega (arith, h))
    (or_told _ 10 _ _ _ (λ h. omega (arith, h))
    (or_told _ 6 _ _ _ (λ h. omega (arith, h)) tt)))

pub function_told : (s id : List ℕ) (code : ℕ) → Told (add_function s id code).answer
unfolding add_function
function_told s id code = function_to_told s id code (store_of s)

-- == Formattings: every refusal of a run is 15, 7, 16 or 17

abbrev RanTold : Ran → Type 0
RanTold (ran m) = Unit
RanTold (refused n) = n ≡ 0 → ⊥

allow_if_told : (b : Bool) (n : ℕ) (m : Machine) → (n ≡ 0 → ⊥) → RanTold (allow_if b n m)
unfolding allow_if
allow_if_told true n m ne = tt
allow_if_told false n m ne = ne

allow_told : (need have n : ℕ) (m : Machine) → (n ≡ 0 → ⊥) → RanTold (allow need have n m)
unfolding allow
allow_told need have n m ne = allow_if_told _ n m ne

put_told : (L : Limits) (b : Bytes) (m : Machine) (n : ℕ) → RanTold (put_at L b m n)
unfolding put_at put_text put_work
put_told L b m zero = allow_told _ _ 15 _ (λ h. omega (arith, h))
put_told L b m (suc n) = allow_told _ _ 16 _ (λ h. omega (arith, h))

step_told : (L : Limits) (e : Effect) (m : Machine) → RanTold (step L e m)
unfolding step
step_told L (put b) m = put_told L b m m.nest
step_told L (report e) m = allow_told _ _ 7 _ (λ h. omega (arith, h))
step_told L begin m = tt
step_told L expand m = tt
step_told L unfound m = tt
step_told L open_text m = tt
step_told L keep_text m = tt
step_told L (free n) m = tt
step_told L (merged k) m = allow_told _ _ 17 _ (λ h. omega (arith, h))

then_told : (r : Ran) (f : Machine → Ran) → RanTold r → ((m : Machine) → RanTold (f m)) → RanTold (and_then r f)
unfolding and_then
then_told (ran m) f h k = k m
then_told (refused n) f h k = h

exec_told : (L : Limits) (t : Trace) (m : Machine) → RanTold (exec L t m)
unfolding exec
exec_told L [] m = tt
exec_told L (e ∷ es) m = then_told (step L e m) (λ n. exec L es n) (step_told L e m) (λ n. exec_told L es n)

ended_told : (r : Ran) (b : Buffers) → RanTold r → FormatTold (ended r b).answer
unfolding ended
ended_told (ran m) b h = tt
ended_told (refused n) b h = h

or_format_told : (b : Bool) (n : ℕ) (x : Buffers) (f : Formatted) → (n ≡ 0 → ⊥) → FormatTold f.answer → FormatTold (formatting.or_refuse b n x f).answer
unfolding formatting.or_refuse formatting.refuse
or_format_told true n x f ne h = h
or_format_told false n x f ne h = ne

arguments_told : (store : Store) (p : Pattern) (g : Judged) (b : Buffers) → ((n : ℕ) → g ≡ refused_for n → n ≡ 0 → ⊥) → FormatTold (format_arguments store p g b).answer
unfolding format_arguments format_with run_pattern formatting.refuse
arguments_told store p (refused_for n) b h = h n refl
arguments_told store p (accepted args) b h = or_format_told _ 7 b _ (λ h. omega (arith, h)) (ended_told _ b (exec_told _ _ _))

part_told : (store : Store) (p : Option Pattern) (image : Bytes) (b : Buffers) → FormatTold (format_part store p image b).answer
unfolding format_part formatting.refuse
part_told store none image b = λ h. omega (arith, h)
part_told store (some p) image b = arguments_told store p (judge image) b (refused_with (λ (n : ℕ). n ≡ 0 → ⊥) (λ e. omega arith) (λ e. omega arith) image)

entry_told : (store : Store) (e : Option Entry) (a : Option Bytes) (image : Bytes) (b : Buffers) → FormatTold (format_entry store e a image b).answer
unfolding format_entry formatting.refuse
entry_told store none a image b = λ h. omega (arith, h)
entry_told store (some e) a image b = part_told store _ image b

store_told : (g : Got Store) (id : Bytes) (a : Option Bytes) (image : Bytes) (b : Buffers) → FormatTold (format_store g id a image b).answer
unfolding format_store formatting.refuse
store_told bad id a image b = λ h. omega (arith, h)
store_told (got store used) id a image b = or_format_told _ 8 b _ (λ h. omega (arith, h)) (entry_told store _ a image b)

pub format_told : (s id : Bytes) (a : Option Bytes) (image : Bytes) (b : Buffers) → FormatTold (format s id a image b).answer
unfolding format
format_told s id a image b = store_told (store_of s) id a image b

-- == Sheets: 4, 18 and 7 before any message, 11, 12, 13, 19 and those of a run behind it

before_told : {n : ℕ} → SheetBefore n → n ≡ 0 → ⊥
before_told SheetBefore.store h = omega (arith, h)
before_told SheetBefore.sheet h = omega (arith, h)
before_told SheetBefore.header h = omega (arith, h)

run_told : {n : ℕ} → Running n → n ≡ 0 → ⊥
run_told Running.text h = omega (arith, h)
run_told Running.list h = omega (arith, h)
run_told Running.work h = omega (arith, h)
run_told Running.merge h = omega (arith, h)

running_told : {n : ℕ} → SheetRunning n → n ≡ 0 → ⊥
running_told SheetRunning.message h = omega (arith, h)
running_told SheetRunning.part h = omega (arith, h)
running_told SheetRunning.arguments h = omega (arith, h)
running_told SheetRunning.order h = omega (arith, h)
running_told (SheetRunning.run r) h = run_told r h

pub sheet_told : (s image : Bytes) (b : Buffers) → FormatTold (format_sheet s image b).answer
sheet_told s image b = go (sheet_answers s image b)
  where
    go : SheetAnswers s image b → FormatTold (format_sheet s image b).answer
    go (SheetAnswers.success t e k u w h) = rw h tt
    go (SheetAnswers.before n x h) = rw h (unfold formatting.refuse in before_told x)
    go (SheetAnswers.running n x f h) = rw h (unfold cleared in running_told x)

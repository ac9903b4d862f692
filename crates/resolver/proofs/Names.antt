-- A refusal is answered by its name: what `finish` says of a number that a refusal has, and that each refusal of a formatting has one.
use mathlib.Core.Path.{◌≡◌, ap, subst, sym, ◌∙◌}
use mathlib.Core.Option as math
use Prim.Native.Nat.{ℕ}
use Rattle.std.specs.Prelude.{Option, Some, None, Result, Ok, Err}
use Rattle.refusals.specs.declared.Refusal.{Refusal}
use Rattle.refusals.specs.declared.Refusal.TheVariants as refusal
use Rattle.refusals.specs.Numbers.{number_of, numbered}
use Rattle.refusals.proofs.Numbers.{number_numbered}
use Rattle.resolution.specs.Effect.{Bytes}
use Rattle.resolution.specs.Format.{Answer, finished, refused_before, refused_running, Buffers, Formatted, format}
use Rattle.theorems.specs.Finished.{Running, Numbered}
use Rattle.theorems.proofs.Refusals as theorems
use Rattle.resolver.specs.declared.format.Figures.{Figures}
use Rattle.resolver.specs.declared.format.Failure.{Failure}
use Rattle.resolver.specs.declared.format.Failure.TheVariants as failure
use Rattle.resolver.specs.Formats.{answer_of, gave, IsNamed, ByName}

-- what is finished needs no name
pub finished_named : (f : Figures) → IsNamed (Ok f)
unfolding IsNamed
finished_named f = tt

-- and what is refused before the run has one
pub refused_named : {r : Result Figures Failure} {why : Refusal} → r ≡ Err (failure.Refused why) → ByName r
unfolding ByName
refused_named e = rw e tt

-- an answer that has a refusal's number is answered by its name
abbrev pub HasRefusal : Answer → Type 0
HasRefusal (finished t e b u w) = Unit
HasRefusal (refused_before n) = Unit
HasRefusal (refused_running n) = (numbered n ≡ None → ⊥)

by_name_of : (r : Result Figures Failure) → HasRefusal (answer_of r) → IsNamed r → ByName r
unfolding answer_of IsNamed ByName
by_name_of (Ok f) h k = tt
by_name_of (Err (failure.Refused why)) h k = tt
by_name_of (Err (failure.Cleared why)) h k = tt
by_name_of (Err (failure.Other n)) h k = h k

pub by_name : (r : Result Figures Failure) (x l w : Bytes) (o : Formatted) → gave r x l w ≡ o → HasRefusal o.answer → IsNamed r → ByName r
unfolding gave
by_name r x l w o g h = by_name_of r (subst HasRefusal (sym (ap (λ (y : Formatted). y.answer) g)) h)

-- that of a run has
pub found_by : (r : Refusal) → numbered (number_of r) ≡ None → ⊥
found_by r e = let z : ◌≡◌ {A = Option Refusal} (Some r) None = sym (number_numbered r) ∙ e in cc

pub run_has : {n : ℕ} → Running n → numbered n ≡ None → ⊥
unfolding number_of
run_has Running.text = found_by refusal.ShortText
run_has Running.list = found_by refusal.ShortList
run_has Running.work = found_by refusal.ShortWorkspace
run_has Running.merge = found_by refusal.ManyDigits

format_has : (a : Answer) → Numbered a → HasRefusal a
format_has (finished t e b u w) h = tt
format_has (refused_before n) h = tt
format_has (refused_running n) h = run_has h

-- so a formatting's
pub format_named : (s id : Bytes) (a : math.Option Bytes) (image : Bytes) (b : Buffers) → HasRefusal (format s id a image b).answer
format_named s id a image b = format_has _ (theorems.numbered b image s id a)

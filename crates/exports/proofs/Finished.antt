-- What a formatting's answer says of the number and the figures that are exported: one law for each of its two cases.
-- Assumes nothing.
use mathlib.Core.Path.{◌≡◌, refl, sym, ap, subst, ◌∙◌}
use Prim.Native.Nat.{ℕ, zero, suc}
use Rattle.resolution.specs.Effect.{Bytes}
use Rattle.resolution.specs.Format.{Buffers, Formatted, format}
use Rattle.theorems.specs.HighestUse.{highest_use}
use mathlib.Core.Option.{Option}
use Rattle.theorems.specs.Figures.{FigureIs}
use Rattle.std.specs.Prelude.{Result, Ok, Err}
use Rattle.resolver.specs.Formats.{answer_of, failure_number, gave}
use Rattle.resolver.specs.declared.format.Failure.{Failure}
use Rattle.resolver.specs.declared.format.Failure.TheVariants as failure
use Rattle.resolver.specs.declared.format.Figures.{Figures}
use Rattle.exports.specs.Zero.{FormatTold}
use Rattle.exports.specs.Numbers.{Lent, format_number_of, handed, lent_after, used_after}

abbrev lent_of : Figures → Lent
lent_of f = record { written = f.text; errors = f.errors; begun = f.begun; unfound = f.unfound; used = f.work }

pub finished_told : {r : Result Figures Failure} {f : Figures} {x l w : Bytes} {o : Formatted} (k : Lent) → gave r x l w ≡ o → r ≡ Ok f
    → handed o k ≡ record { number = 0; figures = lent_of f; buffers = record { text = x; list = l; work = w } }
unfolding gave answer_of handed format_number_of lent_after
finished_told {x = x} {l = l} {w = w} k h is = ap (λ (o : Formatted). handed o k) (sym h ∙ ap (λ (c : Result Figures Failure). gave c x l w) is)

failure_told : (e : Failure) (x l w : Bytes) (k : Lent) → handed (gave (Err e) x l w) k ≡ record { number = failure_number e; figures = k; buffers = record { text = x; list = l; work = w } }
unfolding gave answer_of handed format_number_of lent_after failure_number
failure_told (failure.Refused why) x l w k = refl
failure_told (failure.Cleared why) x l w k = refl
failure_told (failure.Other n) x l w k = refl

pub failed_told : {r : Result Figures Failure} {e : Failure} {n : ℕ} {x l w : Bytes} {o : Formatted} (k : Lent) → gave r x l w ≡ o → r ≡ Err e → n ≡ failure_number e
    → handed o k ≡ record { number = n; figures = k; buffers = record { text = x; list = l; work = w } }
failed_told {r} {e} {n} {x} {l} {w} k h is en =
    ap (λ (o : Formatted). handed o k) (sym h ∙ ap (λ (c : Result Figures Failure). gave c x l w) is) ∙ failure_told e x l w k
    ∙ ap (λ (j : ℕ). record { number = j; figures = k; buffers = record { text = x; list = l; work = w } }) (sym en)

-- the fifth lent number: the figure of a finished one
pub finished_figure : {r : Result Figures Failure} {f : Figures} (n k : ℕ) → FigureIs (answer_of r) n → r ≡ Ok f → f.work ≡ used_after 0 n k
unfolding answer_of used_after
finished_figure n k h is = subst (λ (c : Result Figures Failure). FigureIs (answer_of c) n) is h

-- and as before where the number is a refusal's, which is not 0
as_before : (c n k : ℕ) → (c ≡ 0 → ⊥) → k ≡ used_after c n k
unfolding used_after
as_before zero n k h = absurd (h refl)
as_before (suc c) n k h = refl

failure_some : (e : Failure) → FormatTold (answer_of (Err e)) → failure_number e ≡ 0 → ⊥
unfolding answer_of failure_number
failure_some (failure.Refused why) t = t
failure_some (failure.Cleared why) t = t
failure_some (failure.Other n) t = t

pub failed_figure : (r : Result Figures Failure) (e : Failure) (c n k : ℕ) (x l w : Bytes) (o : Formatted) → gave r x l w ≡ o → FormatTold o.answer → r ≡ Err e → c ≡ failure_number e → k ≡ used_after c n k
unfolding gave
failed_figure r e c n k x l w o g t is h =
    let a : o.answer ≡ answer_of (Err e) = sym (ap (λ (y : Formatted). y.answer) g) ∙ ap answer_of is in
    as_before c n k (λ z. failure_some e (subst FormatTold a t) (sym h ∙ z))

-- what is said of an attribute that is told by another name
pub asked_by : (s id image : Bytes) (b : Buffers) (r : Result Figures Failure) (x l w : Bytes) {a a' : Option Bytes} → a ≡ a' → gave r x l w ≡ format s id a image b → FigureIs (answer_of r) (highest_use s id a image)
    → (gave r x l w ≡ format s id a' image b) × FigureIs (answer_of r) (highest_use s id a' image)
asked_by s id image b r x l w e g f = (g ∙ ap (λ (o : Option Bytes). format s id o image b) e, subst (λ (o : Option Bytes). FigureIs (answer_of r) (highest_use s id o image)) e f)

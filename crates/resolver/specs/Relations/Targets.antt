-- What a reference leads to: for each answer of the code, the step that then makes what the reference asks for.
use Rattle.std.specs.Prelude.{◌≡◌, List, Bool, true, false, ◌&&◌, ℕ, ◌-◌, ◌≤◌, length, leb}
use Rattle.records.specs.Bytes.{part}
use Rattle.records.specs.Errors.{no_value}
use Rattle.texts.specs.Relations.Report.{referred_of}
use Rattle.texts.specs.declared.errors.Referred.TheVariants as referred
use Rattle.resolution.specs.Effect.{report, emit}
use Rattle.state.specs.declared.Progress.{Progress}
use Rattle.state.specs.Setters.{counted_s}
use Rattle.resolver.specs.Relations.Meets.{Lent, World, world, Kept, Acts, env}
use Rattle.resolver.specs.Relations.Leaves.{ErrorAt, RefErrorAt}
use Rattle.resolver.specs.Relations.Members.{TrackAt, MessageAt, FoundTermAt}
use Rattle.entries.specs.declared.Holder.{Holder as Held}
use Rattle.entries.specs.declared.Holder.TheVariants as found
use Rattle.std.specs.Prelude as rust
use Rattle.state.specs.declared.Referring.{Referring}
use Rattle.resolver.specs.declared.reference.NoEntry.{NoEntry}
use Rattle.resolver.specs.declared.reference.Target as CodeTarget
use Rattle.resolver.specs.declared.reference.Target.TheVariants as target

-- a lookup unfound more, if it was lost
unfoldable pub count_if : Bool → Progress → Progress
count_if true s = counted_s s
count_if false s = s

-- four numbers, none less than the one before it
unfoldable pub in_order : ℕ → ℕ → ℕ → ℕ → Bool
in_order a b c d = leb a b && (leb b c && leb c d)

-- a message reference at `at`
pub data MessageTarget (s : List ℕ) (at : ℕ) (r : CodeTarget.Target) : Type 0 where
  message_goes : (q : ℕ) → r ≡ target.At q → ((image : Lent) (w v : World) → TrackAt (env s image) at q w v → MessageAt (env s image) at w v) → MessageTarget s at r
  message_lacks : (from to : ℕ) → r ≡ target.NoValue from to → from ≤ to → to ≤ length s
      → ((image : Lent) (x l w l1 x' w' t : List ℕ) (st s1 s' : Progress)
      → ((i x w t : List ℕ) → Kept (world i x l w t st) (world i x l1 w t s1))
      × (length (part s from (to - from)) ≤ 255 → (i x w t : List ℕ) → Acts (emit (report (no_value (part s from (to - from))))) (world i x l w t st) (world i x l1 w t s1))
      → ErrorAt s at x w s1 x' w' s' → MessageAt (env s image) at (world s x l w t st) (world s x' l1 w' t s')) → MessageTarget s at r
  message_misses : (lost : Bool) → r ≡ target.Missing lost
      → ((image : Lent) (x l w x' l' w' t : List ℕ) (st s' : Progress) → RefErrorAt s at (referred_of referred.Message) x l w (count_if lost st) x' l' w' s'
      → MessageAt (env s image) at (world s x l w t st) (world s x' l' w' t s')) → MessageTarget s at r
  message_bad : r ≡ target.Bad → ((image : Lent) (w : World) → MessageAt (env s image) at w w) → MessageTarget s at r

-- a term reference at `at`, its arguments known
pub data TermTarget (s : List ℕ) (at : ℕ) (r : CodeTarget.Target) : Type 0 where
  term_goes : (q : ℕ) → r ≡ target.At q → ((image : Lent) (w v : World) → TrackAt (env s image) at q w v → FoundTermAt (env s image) at w v) → TermTarget s at r
  term_misses : (lost : Bool) → r ≡ target.Missing lost
      → ((image : Lent) (x l w x' l' w' t : List ℕ) (st s' : Progress) → RefErrorAt s at (referred_of referred.Term) x l w (count_if lost st) x' l' w' s'
      → FoundTermAt (env s image) at (world s x l w t st) (world s x' l' w' t s')) → TermTarget s at r
  term_bad : r ≡ target.Bad → ((image : Lent) (w : World) → FoundTermAt (env s image) at w w) → TermTarget s at r

-- a reference of the kind that is asked for: a term's, or a message's
abbrev pub TargetAt : Bool → List ℕ → ℕ → CodeTarget.Target → Type 0
TargetAt true s at r = TermTarget s at r
TargetAt false s at r = MessageTarget s at r

-- no entry of the kind that is asked for; and whether the Id has none of any kind
abbrev pub no_entry : Bool → rust.Result ℕ NoEntry
no_entry lost = rust.Err (record { lost = lost })

-- the entry of a holder that is of the kind asked for; else whether the Id has no entry of any kind
unfoldable pub holder_of : Bool → rust.Option Held → rust.Result ℕ NoEntry
holder_of true (rust.Some (found.Message q)) = no_entry false
holder_of false (rust.Some (found.Message q)) = rust.Ok q
holder_of true (rust.Some (found.Term q)) = rust.Ok q
holder_of false (rust.Some (found.Term q)) = no_entry false
holder_of true (rust.Some found.Function) = no_entry false
holder_of false (rust.Some found.Function) = no_entry false
holder_of true rust.None = no_entry true
holder_of false rust.None = no_entry true

-- what stands for a part that an entry lacks: a message without a value is NoValue
unfoldable pub lacking_if : rust.Option (ℕ × ℕ) → Referring → CodeTarget.Target
lacking_if (rust.Some s) y = target.Missing false
lacking_if rust.None y = target.NoValue y.from y.to

unfoldable pub lacking_of : Bool → Referring → CodeTarget.Target
lacking_of true y = target.Missing false
lacking_of false y = lacking_if y.attribute y

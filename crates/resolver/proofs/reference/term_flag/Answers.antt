-- `resolver::reference::term_flag` meets its contract: the byte past the reference.
use Rattle.records.specs.Relations.Answer.{Num}
use Rattle.std.specs.Prelude.{Some, None}
use Prim.Native.Nat.{◌+◌, ℕ}
use Rattle.records.proofs.Views.{num_is, num_none}
use Rattle.records.specs.Bytes.{byte_at}
use Rattle.records.specs.Relations.Answer.{num_of}
use Rattle.resolver.proofs.Terms.{term_unflagged, term_unread}
use Rattle.resolver.specs.Relations.Leaves.{ReferenceIs}
use Rattle.resolver.specs.Relations.Meets.{env}
use Rattle.resolver.specs.Relations.Parts.{TermFlag, flagged, unflagged}
use Rattle.state.specs.declared.Referring.{Referring}
use mathlib.Core.List.{List}
use mathlib.Core.Path.{◌≡◌, refl}
use Rattle.std.specs.Prelude as rust
use Rattle.resolver.proofs.reference.term_flag.Goals as goal

flag-past : {s : List ℕ} {at : ℕ} {q : rust.Option Referring} → ReferenceIs s (at + 1) q → (y : Referring) → q ≡ rust.Some y → (r : Num) → r ≡ num_of (byte_at s y.end) → TermFlag s at r
flag-past rd y e (Some (flag, p)) h = flagged flag p _ y refl rd e (num_is h refl)
flag-past {s} {at} rd y e None h = unflagged refl (λ image left w. term_unflagged (env s image) left at rd y e w (num_none h refl))

pub returns-in_err-r : goal.returns-in_err-r
returns-in_err-r c = unflagged c.from_residual.ensures (λ image left w. term_unread (env c.args.store.now image) left c.args.at c.tagged_reference.ensures w c.in_err-r.was)

pub returns : goal.returns
returns c = flag-past c.tagged_reference.ensures _ c.in_ok-r.was _ c.read_byte.ensures

-- `entries::entry::can_change` meets its contract: by what is held, and the item's mode byte; past the end there is none.
use Prim.Native.Nat.{ℕ}
use lib.ListN.{get_or-eq_default}
use borrow.Author.Tests.{le-ltb}
use Rattle.entries.proofs.Held.{held_some}
use mathlib.Core.Path.{◌∙◌, refl, sym}
use Rattle.entries.proofs.entry.can_change.Goals as goal

pub returns-then-at-s : goal.returns-then-at-s
returns-then-at-s c = rw (sym (held_some c.args.held) ∙ sym c.is_some.ensures ∙ c.if-is_some.true) refl

pub returns-else-at-s : goal.returns-else-at-s
returns-else-at-s c = rw (sym (held_some c.args.held) ∙ sym c.is_some.ensures ∙ c.if-is_some.true, get_or-eq_default {A = ℕ} _ 0 c.if-at-s.false, le-ltb _ _ c.if-at-s.false) refl

pub returns-else-is_some : goal.returns-else-is_some
returns-else-is_some c = rw (sym (held_some c.args.held) ∙ sym c.is_some.ensures ∙ c.if-is_some.false) refl

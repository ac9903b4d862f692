-- `resolver::scope::value::literal_string` meets its contract: a literal without a backslash stays in the store, any other is kept at the workspace's back, or refused.
use Rattle.state.proofs.Laws.{refused_no, refused_yes}
use Rattle.resolver.proofs.Single.Values.{string_held, string_over, string_refused, string_stored, written_at}
use Rattle.writes.proofs.Laws.{room_is, room_short}
use mathlib.Core.Path.{◌∙◌, refl, sym}
use native.Mathlib.Omega.{arith}
use Rattle.resolver.proofs.scope.value.literal_string.Goals as goal

pub returns-then-is_refused : goal.returns-then-is_refused
returns-then-is_refused c = string_over _ _ _ _ _ (refused_yes c.is_refused.ensures c.if-is_refused.true)

pub returns-then-not-has_backslash : goal.returns-then-not-has_backslash
returns-then-not-has_backslash c = string_stored _ _ _ c.text_of-src.ensures (sym c.has_backslash.ensures ∙ c.if-not-has_backslash.true)

pub returns-then-not-has_room : goal.returns-then-not-has_room
returns-then-not-has_room c = let len = c.unescaped_len-n.ensures in string_refused _ _ _ c.text_of-src.ensures (sym c.has_backslash.ensures ∙ c.if-not-has_backslash.false) (refused_no c.is_refused.ensures c.if-is_refused.false) (λ p q. let h = room_short _ _ _ (sym c.has_room.ensures ∙ c.if-not-has_room.true) p q in omega (arith, h, len)) c.refuse.ensures

pub overflow_sub-back : goal.overflow_sub-back
overflow_sub-back c = let h = room_is _ _ _ (sym c.has_room.ensures ∙ c.if-not-has_room.false) in omega (arith, h.0)

pub keep-requires : goal.keep-requires
keep-requires c = let h = room_is _ _ _ (sym c.has_room.ensures ∙ c.if-not-has_room.false) in (h.0, omega (arith, h.1, c.unescape_into.auto.d))

pub overflow_sub-result : goal.overflow_sub-result
overflow_sub-result c = let h = room_is _ _ _ (sym c.has_room.ensures ∙ c.if-not-has_room.false) in omega (arith, h.0)

pub returns : goal.returns
returns c = let h = room_is _ _ _ (sym c.has_room.ensures ∙ c.if-not-has_room.false) in let len = c.unescaped_len-n.ensures in string_held _ _ _ c.text_of-src.ensures (sym c.has_backslash.ensures ∙ c.if-not-has_backslash.false) (refused_no c.is_refused.ensures c.if-is_refused.false) len h.0 h.1 (written_at _ _ _ len c.unescape_into.ensures (omega (arith, h.1, h.0))) refl c.keep.ensures

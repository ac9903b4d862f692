-- `bundle::places::function_place` meets its contract: each refusal in its order, and then the place.
use Rattle.bundle.proofs.Placing.{named_10, named_4, named_6, named_8, named_9, named_at_law}
use Rattle.entries.proofs.Located.{holder_held}
use Rattle.growth.proofs.Items.{has_room_is, no_room}
use Rattle.records.proofs.Views.{next_is, next_none}
use Rattle.refusals.proofs.Passed.{passed_for}
use mathlib.Core.Path.{◌∙◌, refl, sym}
use Rattle.bundle.proofs.places.function_place.Goals as goal

pub returns-in_err-used : goal.returns-in_err-used
returns-in_err-used c = named_4 _ _ _ (next_none c.check_store.ensures c.in_err-used.ensures.ok_part) (passed_for _ c.in_err-used.ensures.ok_part c.in_err-used.ensures.value c.from_residual.ensures.1)

pub returns-then-not-is_id : goal.returns-then-not-is_id
returns-then-not-is_id c = next_is c.check_store.ensures c.in_ok-used.ensures.ok_part (λ st hs. named_8 _ _ _ hs (sym c.is_id.ensures ∙ c.if-not-is_id.true) refl)

pub returns-then-code-ne1 : goal.returns-then-code-ne1
returns-then-code-ne1 c =
    let ok = sym c.is_id.ensures ∙ c.if-not-is_id.false in
    next_is c.check_store.ensures c.in_ok-used.ensures.ok_part (λ st hs. named_9 _ _ _ hs ok c.if-code-ne1.true refl)

pub returns-then-has_holder : goal.returns-then-has_holder
returns-then-has_holder c =
    let ok = sym c.is_id.ensures ∙ c.if-not-is_id.false in
    next_is c.check_store.ensures c.in_ok-used.ensures.ok_part (λ st hs. named_10 _ _ _ hs ok c.if-code-ne1.false (sym (holder_held _ _ c.has_holder.ensures st _ hs) ∙ c.if-has_holder.true) refl)

pub returns-then-not-has_room : goal.returns-then-not-has_room
returns-then-not-has_room c =
    let ok = sym c.is_id.ensures ∙ c.if-not-is_id.false in
    let count = c.count_items-count.ensures in
    let room = c.has_room.ensures in
    next_is c.check_store.ensures c.in_ok-used.ensures.ok_part (λ st hs. named_6 _ _ _ hs ok c.if-code-ne1.false (sym (holder_held _ _ c.has_holder.ensures st _ hs) ∙ c.if-has_holder.false) (no_room _ _ _ _ (count st _ hs) room c.if-not-has_room.true) refl)

pub returns : goal.returns
returns c =
    let ok = sym c.is_id.ensures ∙ c.if-not-is_id.false in
    let count = c.count_items-count.ensures in
    let room = c.has_room.ensures in
    next_is c.check_store.ensures c.in_ok-used.ensures.ok_part (λ st hs. named_at_law _ _ _ hs ok c.if-code-ne1.false (sym (holder_held _ _ c.has_holder.ensures st _ hs) ∙ c.if-has_holder.false) (count st _ hs) (has_room_is _ _ _ _ (count st _ hs) room c.if-not-has_room.false))

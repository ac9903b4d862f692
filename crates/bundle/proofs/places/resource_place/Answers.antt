-- `bundle::places::resource_place` meets its contract: each refusal in its order, and then the place.
use Rattle.bundle.proofs.Placing.{place_4, place_5, place_6, place_at}
use Rattle.refusals.proofs.Passed.{passed_for}
use Rattle.growth.proofs.Items.{has_room_is, no_room}
use Rattle.records.proofs.Views.{next_is, next_none}
use mathlib.Core.Path.{refl}
use Rattle.bundle.proofs.places.resource_place.Goals as goal

pub returns-in_err-used : goal.returns-in_err-used
returns-in_err-used c = place_4 _ _ (next_none c.check_store.ensures c.in_err-used.ensures.ok_part) (passed_for _ c.in_err-used.ensures.ok_part c.in_err-used.ensures.value c.from_residual.ensures.1)

pub returns-in_err-ok_or : goal.returns-in_err-ok_or
returns-in_err-ok_or c =
    next_is c.check_store.ensures c.in_ok-used.ensures.ok_part (λ st hs.
    place_5 _ _ hs (next_none c.check_resource.ensures c.in_err-ok_or.ensures.ok_part) (passed_for _ c.in_err-ok_or.ensures.ok_part c.in_err-ok_or.ensures.value c.from_residual-in_err-ok_or.ensures.1))

pub returns-then-not-has_room : goal.returns-then-not-has_room
returns-then-not-has_room c =
    let count = c.count_items-count.ensures in
    let room = c.has_room.ensures in
    next_is c.check_store.ensures c.in_ok-used.ensures.ok_part (λ st hs.
    next_is c.check_resource.ensures c.in_ok-ok_or.ensures.ok_part (λ es hr. place_6 _ _ hs hr (no_room _ _ _ _ (count st _ hs) room c.if-not-has_room.true) refl))

pub returns : goal.returns
returns c =
    let count = c.count_items-count.ensures in
    let room = c.has_room.ensures in
    next_is c.check_store.ensures c.in_ok-used.ensures.ok_part (λ st hs.
    next_is c.check_resource.ensures c.in_ok-ok_or.ensures.ok_part (λ es hr. place_at _ _ hs hr (count st _ hs) (has_room_is _ _ _ _ (count st _ hs) room c.if-not-has_room.false)))

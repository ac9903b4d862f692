-- `variants::find_default` meets its contract: the first default among those that are left is the first among all.
use Rattle.records.proofs.Views.{num_is, num_none}
use Rattle.variants.proofs.Firsts.{all_passed, first_lost, first_no_start, first_start, flag_set, flag_unset, none_passed, place_none, place_some, read_bad, read_is, turn_here, turn_next}
use mathlib.Core.Path.{◌∙◌, refl}
use Rattle.variants.proofs.find_default.Goals as goal

pub returns-in_err-count : goal.returns-in_err-count
returns-in_err-count c = c.from_residual.ensures ∙ place_none refl (first_no_start _ _ _ (num_none c.read_u16.ensures c.in_err-count.was))

pub loop-init : goal.loop-init
loop-init c =
    let start-at = num_is c.read_u16.ensures c.in_ok-count.was in
    first_start _ _ _ start-at ∙ none_passed _ _ c.in_ok-count.count c.in_ok-count.start

pub returns-in_err-v : goal.returns-in_err-v
returns-in_err-v c =
    let so_far = c.loop.invariant in
    c.from_residual-in_err-v.ensures ∙ place_none refl (so_far ∙ first_lost _ _ _ _ (read_bad c.read_variant.ensures c.in_err-v.was))

pub returns-then-v-eq1 : goal.returns-then-v-eq1
returns-then-v-eq1 c =
    let turn = c.loop-test.true in
    let so_far = c.loop.invariant in
    let here = read_is c.read_variant.ensures c.in_ok-v.was in
    place_some (so_far ∙ turn_here _ _ c.in_ok-count.count c.loop.counter c.loop.p turn here.0 (flag_set _ c.if-v-eq1.true))

pub loop-preserved : goal.loop-preserved
loop-preserved c =
    let turn = c.loop-test.true in
    let so_far = c.loop.invariant in
    let here = read_is c.read_variant.ensures c.in_ok-v.was in
    so_far ∙ turn_next _ _ c.in_ok-count.count c.loop.counter c.loop.p turn here.0 (flag_unset _ c.if-v-eq1.false)

pub returns : goal.returns
returns c =
    let so_far = c.loop.invariant in
    place_none refl (so_far ∙ all_passed _ _ c.in_ok-count.count c.loop.counter c.loop.p c.loop-test.false)

-- `variants::search` meets its contract: what was passed does not match in any kind, and what is left is searched as all is.
use Rattle.records.proofs.Views.{num_is, num_none}
use Rattle.variants.proofs.Firsts.{all_passed, first_lost, first_no_start, first_start, none_passed, place_none, place_some, read_bad, read_is, turn_here, turn_next}
use Rattle.variants.proofs.Keys.{kinds_few, tried_all, tried_is, tried_more, tried_one}
use mathlib.Core.Path.{◌∙◌, refl}
use native.Mathlib.Omega.{arith}
use Rattle.variants.proofs.search.Goals as goal

pub returns-in_err-count : goal.returns-in_err-count
returns-in_err-count c = c.from_residual.ensures ∙ place_none refl (first_no_start _ _ _ (num_none c.read_u16.ensures c.in_err-count.was))

pub overflow_add-kind-end : goal.overflow_add-kind-end
overflow_add-kind-end c = omega (arith, kinds_few c.args.x, c.kinds_of-kinds.ensures)

pub search-init : goal.search-init
search-init c =
    let start-at = num_is c.read_u16.ensures c.in_ok-count.was in
    (refl, first_start _ _ _ start-at ∙ none_passed _ _ c.in_ok-count.count c.in_ok-count.start)

pub loop-kind-init : goal.loop-kind-init
loop-kind-init c = (c.search.invariant.0, omega arith, λ j lo hi. absurd (omega arith))

pub variant_matches-requires : goal.variant_matches-requires
variant_matches-requires c =
    let here = read_is c.read_variant.ensures c.in-Some.is in
    (here.1, here.2)

pub loop-kind-preserved : goal.loop-kind-preserved
loop-kind-preserved c = (c.loop-kind.invariant.0, omega arith, tried_more _ _ _ c.loop-kind.invariant.2 (tried_is c.args.s.now c.args.text.now c.search.p c.in-Some.v c.loop-kind.kind c.args.x c.variant_matches.ensures c.if-variant_matches.false))

pub search-preserved : goal.search-preserved
search-preserved c =
    let turn = c.search-test.true in
    let so_far = c.search.invariant.1 in
    let here = read_is c.read_variant.ensures c.in-Some.is in
    (c.loop-kind.invariant.0, so_far ∙ turn_next _ _ c.in_ok-count.count c.search.counter c.search.p turn here.0 (tried_all _ _ _ c.kinds_of-kinds.ensures (omega (arith, c.loop-kind-test.false)) c.loop-kind.invariant.2))

pub returns-after-search : goal.returns-after-search
returns-after-search c =
    let so_far = c.search.invariant.1 in
    place_none c.search.invariant.0 (so_far ∙ all_passed _ _ c.in_ok-count.count c.search.counter c.search.p c.search-test.false)

pub returns-in_default : goal.returns-in_default
returns-in_default c =
    let so_far = c.search.invariant.1 in
    place_none c.search.invariant.0 (so_far ∙ first_lost _ _ _ _ (read_bad c.read_variant.ensures c.in_default.is))

pub returns-then-variant_matches : goal.returns-then-variant_matches
returns-then-variant_matches c =
    let turn = c.search-test.true in
    let so_far = c.search.invariant.1 in
    let here = read_is c.read_variant.ensures c.in-Some.is in
    place_some (so_far ∙ turn_here _ _ c.in_ok-count.count c.search.counter c.search.p turn here.0 (tried_one _ _ _ c.kinds_of-kinds.ensures c.loop-kind.invariant.1 (omega (arith, c.loop-kind-test.true)) (tried_is c.args.s.now c.args.text.now c.search.p c.in-Some.v c.loop-kind.kind c.args.x c.variant_matches.ensures c.if-variant_matches.true)))

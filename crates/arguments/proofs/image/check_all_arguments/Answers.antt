-- `arguments::image::check_all_arguments` meets its contract: what is left ends as all of it does, and the first of each run is noted.
use Rattle.arguments.proofs.Noting.{noting_end, noting_start, noting_stop, noting_turn, place_room, place_last}
use mathlib.Core.Path.{refl}
use native.Mathlib.Omega.{arith}
use Rattle.arguments.proofs.image.check_all_arguments.Goals as goal

pub loop-place-init : goal.loop-place-init
loop-place-init c = noting_start c.args.s.now c.args.from c.args.count c.args.places.now c.told-places

pub returns-in_err-run : goal.returns-in_err-run
returns-in_err-run c =
    let z = place_room c.args.count c.loop-place.place (omega arith) in
    noting_stop c.loop-place.invariant z c.min.ensures c.check_run.ensures _ c.in_err-run.was c.from_residual.ensures

pub loop-place-preserved : goal.loop-place-preserved
loop-place-preserved c =
    let z = place_room c.args.count c.loop-place.place (omega arith) in
    noting_turn c.loop-place.invariant z c.min.ensures c.check_run.ensures c.in_ok-run.was refl

pub returns : goal.returns
returns c = noting_end c.loop-place.invariant (place_last c.args.count c.loop-place.place (omega arith))

-- `arguments::image::check_all_arguments` meets its contract: what is left ends as all of it does, and the first of each run is noted.
use Rattle.arguments.proofs.Noting.{Noting}
use Rattle.arguments.proofs.image.check_all_arguments.Given as goal

abbrev pub invariant-loop-place : goal.invariant-loop-place
invariant-loop-place l = Noting l.s l.from l.count l.places l.run l.place

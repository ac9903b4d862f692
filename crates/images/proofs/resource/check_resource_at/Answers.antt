-- `images::resource::check_resource_at` meets its contract: the head, the entries, and nothing left over.
use mathlib.Core.Path.{◌∙◌}
use Rattle.records.proofs.ImageHead.{image_bad, image_end, image_stop}
use Rattle.records.specs.Images.{entry_at, resource_at}
use Rattle.images.proofs.resource.check_resource_at.Goals as goal

pub returns-in_err-size : goal.returns-in_err-size
unfolding resource_at
returns-in_err-size c = c.from_residual.ensures ∙ image_bad entry_at c.args.s.now c.args.at c.read_head.ensures c.in_err-size.was

pub returns-in_err-e : goal.returns-in_err-e
unfolding resource_at
returns-in_err-e c = c.from_residual-in_err-e.ensures ∙ image_stop entry_at c.args.s.now c.args.at c.read_head.ensures c.in_ok-size.was c.check_entries.ensures c.in_err-e.was

pub returns : goal.returns
unfolding resource_at
returns c = image_end entry_at c.args.s.now c.args.at c.read_head.ensures c.in_ok-size.was c.check_entries.ensures c.in_ok-e.was c.ends_at.ensures

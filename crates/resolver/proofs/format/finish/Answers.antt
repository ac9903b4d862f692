-- `resolver::format::finish` meets its contract: cleared where the run was refused, and else the header over the records.
use Rattle.resolver.proofs.Finish.{closed_cleared, closed_finished}
use Rattle.resolver.proofs.Names.{finished_named}
use Rattle.state.proofs.Laws.{refused_no, refused_yes}
use mathlib.Core.Path.{refl}
use Rattle.resolver.proofs.format.finish.Goals as goal

pub returns-then-is_refused : goal.returns-then-is_refused
returns-then-is_refused c = record {
  work_after = closed_cleared _ _ _ _ _ _ (refused_yes c.is_refused.ensures c.if-is_refused.true) c.cleared.ensures.value c.fill_zero-then-is_refused.ensures c.fill_zero-then-is_refused-2.ensures c.fill_zero.ensures;
  named = c.cleared.ensures.named;
}

pub returns : goal.returns
returns c = record {
  work_after = closed_finished _ _ _ _ _ (refused_no c.is_refused.ensures c.if-is_refused.false) refl c.put_header.ensures c.fill_zero.ensures refl;
  named = finished_named _;
}

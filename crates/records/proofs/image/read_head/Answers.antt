-- `records::image::read_head` meets its contract: the length, the version, the count.
use mathlib.Core.Path.{◌∙◌}
use Rattle.records.proofs.ImageHead.{head_long, head_other, head_read, head_short, head_uncounted}
use Rattle.records.proofs.Views.{next_is, next_none, num_is, num_none}
use Rattle.records.specs.Images.{max_image}
use Rattle.records.proofs.image.read_head.Goals as goal

pub returns-in_err-size : goal.returns-in_err-size
returns-in_err-size c = c.from_residual.ensures ∙ head_short c.args.s.now c.args.at (num_none c.read_u32.ensures c.in_err-size.was)

pub returns-then-size-gt-MAX_IMAGE : goal.returns-then-size-gt-MAX_IMAGE
unfolding max_image
returns-then-size-gt-MAX_IMAGE c = head_long c.args.s.now c.args.at (num_is c.read_u32.ensures c.in_ok-size.was) c.if-size-gt-MAX_IMAGE.true

pub returns-in_err-q : goal.returns-in_err-q
unfolding max_image
returns-in_err-q c = c.from_residual-in_err-q.ensures ∙ head_other c.args.s.now c.args.at (num_is c.read_u32.ensures c.in_ok-size.was) c.if-size-gt-MAX_IMAGE.false (next_none c.check_one.ensures c.in_err-q.was)

pub returns-in_err-count : goal.returns-in_err-count
unfolding max_image
returns-in_err-count c = c.from_residual-in_err-count.ensures ∙ next_is c.check_one.ensures c.in_ok-q.was (λ v h. head_uncounted c.args.s.now c.args.at (num_is c.read_u32.ensures c.in_ok-size.was) c.if-size-gt-MAX_IMAGE.false h (num_none c.read_u16.ensures c.in_err-count.was))

pub returns : goal.returns
unfolding max_image
returns c = next_is c.check_one.ensures c.in_ok-q.was (λ v h. head_read c.args.s.now c.args.at (num_is c.read_u32.ensures c.in_ok-size.was) c.if-size-gt-MAX_IMAGE.false h (num_is c.read_u16.ensures c.in_ok-count.was))

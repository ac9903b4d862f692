-- A literal is a tag and a Str, whichever it is.
use Rattle.records.proofs.Views.{both, literal_str, never, next_of_law, num_is, num_none}
use Rattle.records.specs.Bytes.{str_at}
use mathlib.Core.Path.{◌∙◌, ap}
use Rattle.records.proofs.call_arguments.skip_literal.Goals as goal

pub returns-in_err-e : goal.returns-in_err-e
returns-in_err-e c = λ x e h. literal_str c.args.s.now c.args.at h (λ tag p t hb hs. never (num_none c.read_byte.ensures c.in_err-e.was) hb)

pub returns : goal.returns
returns c = λ x e h. literal_str c.args.s.now c.args.at h (λ tag p t hb hs. both (num_is c.read_byte.ensures c.in_ok-e.was) hb (λ _ ep. next_of_law c.skip_str.ensures (ap (str_at c.args.s.now) ep ∙ hs)))

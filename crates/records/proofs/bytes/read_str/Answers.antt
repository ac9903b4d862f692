-- `records::read_str` meets its contract.
use Rattle.records.proofs.Laws.{next_at, next_bad, num_at, num_bad}
use Rattle.records.specs.Bytes.{bytes_at, number_at, span_at}
use Rattle.records.specs.Got.{after}
use Rattle.records.specs.Relations.Answer.{num_of}
use mathlib.Core.Path.{◌∙◌, sym}
use Rattle.records.proofs.bytes.read_str.Goals as goal

pub returns-in_err-n : goal.returns-in_err-n
unfolding span_at num_of after
returns-in_err-n c =
    let a = c.args in
    rw (c.from_residual.ensures, num_bad (number_at 2 a.s.now a.at) (sym c.in_err-n.was ∙ c.read_u16.ensures))

pub returns-in_err-e : goal.returns-in_err-e
unfolding span_at num_of after
returns-in_err-e c =
    let a = c.args in
    rw (
      c.from_residual-in_err-e.ensures,
      num_at (number_at 2 a.s.now a.at) (sym c.in_ok-n.was ∙ c.read_u16.ensures),
      next_bad (bytes_at c.in_ok-n.n a.s.now c.in_ok-n.p) (sym c.in_err-e.was ∙ c.skip_bytes.ensures),
    )

pub returns : goal.returns
unfolding span_at num_of after
returns c =
    let a = c.args in
    let w = next_at (bytes_at c.in_ok-n.n a.s.now c.in_ok-n.p) (sym c.in_ok-e.was ∙ c.skip_bytes.ensures) in
    rw (num_at (number_at 2 a.s.now a.at) (sym c.in_ok-n.was ∙ c.read_u16.ensures), w.1)

-- `variants::kinds_of` meets its contract.
use Rattle.variants.specs.Relations.Sought.{kinds_of}
use mathlib.Core.Path.{ap, sym}
use Rattle.variants.proofs.kinds_of.Goals as goal

pub returns-in-Text : goal.returns-in-Text
unfolding kinds_of
returns-in-Text c = sym (ap kinds_of c.in-Text.is)

pub returns-in-Number : goal.returns-in-Number
unfolding kinds_of
returns-in-Number c = sym (ap kinds_of c.in-Number.is)

-- `vectors::files::next_case` meets its contract: the file loses the length, and then what is read of the case.
use Rattle.vectors.proofs.Rests.{loses_more}
use Rattle.vectors.proofs.files.next_case.Goals as goal

pub returns-in_err-read_full-clause-rest : goal.returns-in_err-read_full-clause-rest
returns-in_err-read_full-clause-rest g c = loses_more _ _ _ c.next_length.ensures c.read_full.ensures.rest

pub returns-then-branch-n-clause-rest : goal.returns-then-branch-n-clause-rest
returns-then-branch-n-clause-rest g c = loses_more _ _ _ c.next_length.ensures c.read_full.ensures.rest

pub returns-clause-rest : goal.returns-clause-rest
returns-clause-rest g c = loses_more _ _ _ c.next_length.ensures c.read_full.ensures.rest

-- `resolver::scope::error::error_pieces` meets its contract, by the tag of the expression.
use Rattle.records.proofs.Laws.{str_in}
use Rattle.records.proofs.Views.{num_is, num_none, str_bad, str_is}
use Rattle.resolver.proofs.Single.Pieces.{pieces_none, pieces_message, pieces_term, pieces_function, pieces_variable, pieces_unnamed}
use Rattle.resolver.proofs.scope.error.error_pieces.Goals as goal

pub returns-in_default : goal.returns-in_default
returns-in_default c = pieces_none _ _ (num_none c.read_byte.ensures c.in_default.is)

pub returns-then-tag-eq4 : goal.returns-then-tag-eq4
returns-then-tag-eq4 c = pieces_message _ _ _ _ (num_is c.read_byte.ensures c.in-Some.is) c.if-tag-eq4.true c.read_reference.ensures c.reference_pieces.ensures

pub returns-then-tag-eq5 : goal.returns-then-tag-eq5
returns-then-tag-eq5 c = pieces_term _ _ _ _ (num_is c.read_byte.ensures c.in-Some.is) c.if-tag-eq5.true c.read_reference-then-tag-eq5.ensures c.reference_pieces-then-tag-eq5.ensures

pub returns-in_default-read_str : goal.returns-in_default-read_str
returns-in_default-read_str c = let g = str_bad _ _ c.read_str.ensures c.in_default-read_str.is in pieces_unnamed _ _ _ _ (num_is c.read_byte.ensures c.in-Some.is) c.if-tag-eq4.false c.if-tag-eq5.false (λ _. g) (λ _. g) c.no_name-in_default-read_str.ensures

pub returns-then-tag-eq3 : goal.returns-then-tag-eq3
returns-then-tag-eq3 c = pieces_function _ _ _ _ (num_is c.read_byte.ensures c.in-Some.is) (let h = str_in _ _ c.read_str.ensures c.in-Some-read_str.is in h.0) (let h = str_in _ _ c.read_str.ensures c.in-Some-read_str.is in h.1) (str_is _ _ c.read_str.ensures c.in-Some-read_str.is) c.if-tag-eq3.true

pub returns-then-tag-eq6 : goal.returns-then-tag-eq6
returns-then-tag-eq6 c = pieces_variable _ _ _ _ (num_is c.read_byte.ensures c.in-Some.is) (let h = str_in _ _ c.read_str.ensures c.in-Some-read_str.is in h.0) (let h = str_in _ _ c.read_str.ensures c.in-Some-read_str.is in h.1) (str_is _ _ c.read_str.ensures c.in-Some-read_str.is) c.if-tag-eq6.true

pub returns : goal.returns
returns c = pieces_unnamed _ _ _ _ (num_is c.read_byte.ensures c.in-Some.is) c.if-tag-eq4.false c.if-tag-eq5.false (λ e. absurd (c.if-tag-eq3.false e)) (λ e. absurd (c.if-tag-eq6.false e)) c.no_name-2.ensures

-- The Flag says whether there is a value; without one a term is refused, and a message that has no attribute.
use Rattle.images.proofs.Laws.{attributed, more_read, next_broken, next_kept, no_term, none_more, none_read, some_read, valued}
use Rattle.images.specs.Relations.Entry.{entry_of, kind_of}
use Rattle.records.proofs.Laws.{next_know, next_step, next_stop, num_step, num_stop, optional_bad, optional_none, optional_other, optional_some}
use Rattle.records.proofs.Views.{num_is}
use Rattle.records.specs.Decode.{entry_pattern_at, max_depth}
use Rattle.records.specs.Images.{attributes_at}
use mathlib.Core.Path.{◌∙◌, refl}
use native.Mathlib.Omega.{arith}
use Rattle.images.proofs.entry.check_entry_of.Goals as goal

pub returns-in_err-q : goal.returns-in_err-q
unfolding entry_of
returns-in_err-q c = c.from_residual.ensures ∙ next_stop _ _ c.check_id.ensures c.in_err-q.was

pub returns-in_err-flag : goal.returns-in_err-flag
unfolding entry_of
returns-in_err-flag c = c.from_residual-in_err-flag.ensures ∙ next_step _ _ c.check_id.ensures c.in_ok-q.was (λ _. next_stop _ _ (optional_bad entry_pattern_at c.args.s.now _ c.read_byte.ensures c.in_err-flag.was) refl)

pub returns-in_err-r-in-1 : goal.returns-in_err-r-in-1
unfolding entry_of entry_pattern_at max_depth
returns-in_err-r-in-1 c =
    let given = optional_some entry_pattern_at c.args.s.now _ c.read_byte.ensures c.in_ok-flag.was c.in-1.is c.check_pattern.ensures in
    c.from_residual-in_err-r-in-1.ensures ∙ next_step _ _ c.check_id.ensures c.in_ok-q.was (λ _. next_stop _ _ given c.in_err-r-in-1.was)

pub returns-in_err-k-in-1 : goal.returns-in_err-k-in-1
unfolding entry_of attributes_at entry_pattern_at max_depth
returns-in_err-k-in-1 c =
    let given = optional_some entry_pattern_at c.args.s.now _ c.read_byte.ensures c.in_ok-flag.was c.in-1.is c.check_pattern.ensures in
    c.from_residual-in_err-k-in-1.ensures ∙ next_step _ _ c.check_id.ensures c.in_ok-q.was (λ _. next_step _ _ given c.in_ok-r-in-1.was (λ _. next_stop _ _ (num_stop _ _ c.read_u16-in-1.ensures c.in_err-k-in-1.was) refl))

pub returns-in_ok-k-in-1 : goal.returns-in_ok-k-in-1
unfolding entry_of attributes_at entry_pattern_at max_depth
returns-in_ok-k-in-1 c =
    let flag_is = num_is c.read_byte.ensures c.in_ok-flag.was in
    let given = optional_some entry_pattern_at c.args.s.now _ c.read_byte.ensures c.in_ok-flag.was c.in-1.is c.check_pattern.ensures in
    next_step _ _ c.check_id.ensures c.in_ok-q.was (λ _. next_know _ _ given c.in_ok-r-in-1.was (λ v hv.
    next_kept _ _ _ (λ l _ _. valued v l (kind_of c.args.term) (some_read entry_pattern_at c.args.s.now _ flag_is hv c.in-1.is)) (num_step _ _ c.read_u16-in-1.ensures c.in_ok-k-in-1.was c.check_attributes-in-1.ensures)))

pub returns-then-term : goal.returns-then-term
unfolding entry_of
returns-then-term c =
    let flag_is = num_is c.read_byte.ensures c.in_ok-flag.was in
    let absent = optional_none entry_pattern_at c.args.s.now _ c.read_byte.ensures c.in_ok-flag.was c.in-0.is in
    next_step _ _ c.check_id.ensures c.in_ok-q.was (λ _. next_know _ _ absent refl (λ v hv.
    next_broken _ _ _ (λ l _ _. no_term v l c.args.term c.if-term.true (none_read entry_pattern_at c.args.s.now _ flag_is hv c.in-0.is))))

pub returns-in_err-k-in-0 : goal.returns-in_err-k-in-0
unfolding entry_of attributes_at
returns-in_err-k-in-0 c =
    let absent = optional_none entry_pattern_at c.args.s.now _ c.read_byte.ensures c.in_ok-flag.was c.in-0.is in
    c.from_residual-in_err-k-in-0.ensures ∙ next_step _ _ c.check_id.ensures c.in_ok-q.was (λ _. next_step _ _ absent refl (λ _. next_stop _ _ (num_stop _ _ c.read_u16.ensures c.in_err-k-in-0.was) refl))

pub returns-then-k-gt0 : goal.returns-then-k-gt0
unfolding entry_of attributes_at
returns-then-k-gt0 c =
    let flag_is = num_is c.read_byte.ensures c.in_ok-flag.was in
    let absent = optional_none entry_pattern_at c.args.s.now _ c.read_byte.ensures c.in_ok-flag.was c.in-0.is in
    next_step _ _ c.check_id.ensures c.in_ok-q.was (λ _. next_know _ _ absent refl (λ v hv.
    next_kept _ _ _ (λ l _ hl. attributed v l c.args.term c.if-term.false (none_read entry_pattern_at c.args.s.now _ flag_is hv c.in-0.is) ∙ more_read c.args.s.now _ (num_is c.read_u16.ensures c.in_ok-k-in-0.was) hl c.if-k-gt0.true) (num_step _ _ c.read_u16.ensures c.in_ok-k-in-0.was c.check_attributes.ensures)))

pub returns-else-k-gt0 : goal.returns-else-k-gt0
unfolding entry_of
returns-else-k-gt0 c =
    let flag_is = num_is c.read_byte.ensures c.in_ok-flag.was in
    let absent = optional_none entry_pattern_at c.args.s.now _ c.read_byte.ensures c.in_ok-flag.was c.in-0.is in
    next_step _ _ c.check_id.ensures c.in_ok-q.was (λ _. next_know _ _ absent refl (λ v hv.
    next_broken _ _ _ (λ l _ hl. attributed v l c.args.term c.if-term.false (none_read entry_pattern_at c.args.s.now _ flag_is hv c.in-0.is) ∙ none_more c.args.s.now _ (num_is c.read_u16.ensures c.in_ok-k-in-0.was) hl c.if-k-gt0.false)))

pub returns-in_default : goal.returns-in_default
unfolding entry_of
returns-in_default c = next_step _ _ c.check_id.ensures c.in_ok-q.was (λ _. next_stop _ _ (optional_other entry_pattern_at c.args.s.now _ c.read_byte.ensures c.in_ok-flag.was (λ w. omega arith) (λ w. omega arith)) refl)

-- `variants::read_variant` meets its contract: part after part, as the outline is read.
use Rattle.records.proofs.Views.{next_is, next_none, num_is, num_none}
use Rattle.variants.proofs.Firsts.{no_flag, no_key, no_kind, no_pattern_end, not_read, whole_read}
use Rattle.variants.proofs.read_variant.Goals as goal

pub returns-in_err-kind : goal.returns-in_err-kind
returns-in_err-kind c = not_read c.from_residual.ensures (no_kind _ _ (num_none c.read_byte.ensures c.in_err-kind.was))

pub returns-in_err-from : goal.returns-in_err-from
returns-in_err-from c =
    let kind_at = num_is c.read_byte.ensures c.in_ok-kind.was in
    not_read c.from_residual-in_err-from.ensures (no_key _ _ kind_at (num_none c.read_str.ensures c.in_err-from.was))

pub returns-in_err-flag : goal.returns-in_err-flag
returns-in_err-flag c =
    let kind_at = num_is c.read_byte.ensures c.in_ok-kind.was in
    let key-at = num_is c.read_str.ensures c.in_ok-from.was in
    not_read c.from_residual-in_err-flag.ensures (no_flag _ _ kind_at key-at (num_none c.read_byte-2.ensures c.in_err-flag.was))

pub returns-in_err-end : goal.returns-in_err-end
returns-in_err-end c =
    let kind_at = num_is c.read_byte.ensures c.in_ok-kind.was in
    let key-at = num_is c.read_str.ensures c.in_ok-from.was in
    let flag_at = num_is c.read_byte-2.ensures c.in_ok-flag.was in
    not_read c.from_residual-in_err-end.ensures (no_pattern_end _ _ kind_at key-at flag_at (next_none c.skip_pattern.ensures c.in_err-end.was))

pub returns : goal.returns
returns c =
    let kind_at = num_is c.read_byte.ensures c.in_ok-kind.was in
    let key-at = num_is c.read_str.ensures c.in_ok-from.was in
    let flag_at = num_is c.read_byte-2.ensures c.in_ok-flag.was in
    next_is c.skip_pattern.ensures c.in_ok-end.was (λ bs h. whole_read _ _ kind_at key-at flag_at h)

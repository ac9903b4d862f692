-- What is found as a message or a term is an entry that holds the id.
use mathlib.Core.Path.{◌≡◌}
use mathlib.Core.Option.{Option, none, some}
use Rattle.records.specs.Images.{Kind, Entry}
use Rattle.entries.specs.Lookup.{Holder}
use Rattle.entries.proofs.Sizes.{no_some}
use Rattle.resolution.specs.Resolve.{message_only, term_only, as_message, as_term}

pub message_held : (o : Option Holder) (e : Entry) → as_message o ≡ some e → o ≡ some (Holder.entry e)
unfolding as_message message_only
message_held none e h = absurd (no_some h)
message_held (some Holder.function) e h = absurd (no_some h)
message_held (some (Holder.entry x)) e h = go x.kind h
  where
    go : (k : Kind) → message_only k x ≡ some e → some (Holder.entry x) ≡ some (Holder.entry e)
    go Kind.message q = cc
    go Kind.term q = absurd (no_some q)

pub term_held : (o : Option Holder) (e : Entry) → as_term o ≡ some e → o ≡ some (Holder.entry e)
unfolding as_term term_only
term_held none e h = absurd (no_some h)
term_held (some Holder.function) e h = absurd (no_some h)
term_held (some (Holder.entry x)) e h = go x.kind h
  where
    go : (k : Kind) → term_only k x ≡ some e → some (Holder.entry x) ≡ some (Holder.entry e)
    go Kind.message q = absurd (no_some q)
    go Kind.term q = cc

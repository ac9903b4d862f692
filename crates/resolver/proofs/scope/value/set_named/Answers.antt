-- `resolver::scope::value::set_named` meets its contract: the named arguments are resolved, and then are a term's.
use Rattle.resolver.proofs.scope.value.set_named.Goals as goal

pub returns : goal.returns
returns c = record { between = _; named = c.resolve_named.ensures; sets = c.set_locals.ensures }

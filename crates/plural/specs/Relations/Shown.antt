-- How the code's operands stand for those of the definitions.
use Rattle.std.specs.Prelude.{◌≡◌, eqb}
use Rattle.plural.specs.Plural.{Operands}
use Rattle.plural.specs.declared.conditions.Seen as CodeSeen

-- the code's operands: v and t only as far as they are 0
pub record Shows (x : Operands) (o : CodeSeen.Seen) : Type 0 where
  pub i : o.i ≡ x.i
  pub v : o.no_digits ≡ eqb x.v 0
  pub t : o.no_fraction ≡ eqb x.t 0

-- The rules that the code checks, as those of the definitions.
use Rattle.std.specs.Prelude.{ℕ, Bool, List, eqb}
use Rattle.records.specs.declared.Rule.{Rule}
use Rattle.records.specs.declared.Rule.TheVariants as rule
use Rattle.records.specs.Got.{Parser, after, test, pick}
use Rattle.records.specs.Bytes.{byte_at}
use Rattle.records.specs.Decode.{ruled_at}
use Rattle.rules.specs.Rules.{is_id, is_text, is_string, is_utf8}
use Rattle.literals.specs.Literal.{is_number}

unfoldable pub rule_of : Rule → List ℕ → Bool
rule_of rule.Id t = is_id t
rule_of rule.Text t = is_text t
rule_of rule.String t = is_string t
rule_of rule.Number t = is_number t
rule_of rule.Utf8 t = is_utf8 t

-- tag 1 and a Str of one rule, or tag 2 and a Str of another: a literal and a key are such
unfoldable pub tagged_at : (List ℕ → Bool) → (List ℕ → Bool) → Parser (List ℕ)
tagged_at a b s at = after (byte_at s at) (λ t p. pick (eqb t 1) (ruled_at a s p) (test (eqb t 2) (ruled_at b s p)))

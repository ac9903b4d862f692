-- What the code reads of arguments, on any bytes: each an Id's Str and a value by its lengths. No rule for the bytes of a name or a value is looked at.
use Rattle.std.specs.Prelude.{ℕ, zero, suc, List, [], ◌∷◌, eqb, Option, Some, None}
use Rattle.std.proofs.Math.Option.{Option as Maybe, some, none}
use Rattle.records.specs.Got.{Got, got, bad, Parser, after, pick}
use Rattle.records.specs.Bytes.{byte_at, number_at, span_at, str_at}
use Rattle.records.specs.Decode.{as_a}
use Rattle.order.specs.Relations.Compared.{order_of}
use Rattle.std.specs.declared.cmp.Ordering.{Ordering}
use Rattle.std.specs.declared.cmp.Ordering.TheVariants as order
use Rattle.arguments.specs.declared.Given.{Given}
use Rattle.arguments.specs.declared.Given.TheVariants as given

-- a number's ten bytes: sign, u64, scale
unfoldable pub number_given : Parser Given
number_given s at = after (byte_at s at) (λ f p. after (number_at 8 s p) (λ d q. after (byte_at s q) (λ k e. got (given.Number (eqb f 1) d k) e)))

-- a text: where it stands
unfoldable pub text_given : Parser Given
text_given s at = after (span_at s at) (λ a e. got (given.Text a e) e)

-- a value by its tag: 1 Str; 2 number; any other none
unfoldable pub value_given : Parser Given
value_given s at =
    after (byte_at s at) (λ t p.
    pick (eqb t 1) (text_given s p)
    (pick (eqb t 2) (number_given s p)
    (got given.Nothing p)))

-- an argument: the Str of its Id, and its value
unfoldable pub row_at : Parser (List ℕ × Given)
row_at s at = after (str_at s at) (λ n e. as_a (λ v. (n, v)) (value_given s e))

-- what follows from what was read, or d where nothing was
unfoldable pub read_or : {A B : Type 0} → B → Got A → (A → ℕ → B) → B
read_or d (got a e) k = k a e
read_or d bad k = d

-- a value that was read
unfoldable pub given_from : Got Given → Option Given
given_from g = read_or None g (λ v e. Some v)

-- n of them, up to the first that cannot be read
unfoldable pub readable : {A : Type 0} → ℕ → Parser A → List ℕ → ℕ → List A
readable zero p s at = []
readable (suc n) p s at = read_or [] (p s at) (λ a e. a ∷ readable n p s e)

-- what the code answers for a value that may be there
unfoldable pub shown_option : {A : Type 0} → Maybe A → Option A
shown_option none = None
shown_option (some v) = Some v

-- the value of a name, in rows that are looked at one by one up to the first greater name
unfoldable pub sought_by : {A : Type 0} → Ordering → A → Maybe A → Maybe A
sought_by order.Less v o = o
sought_by order.Equal v o = some v
sought_by order.Greater v o = none

unfoldable pub sought : {A : Type 0} → List ℕ → List (List ℕ × A) → Maybe A
sought name [] = none
sought name (a ∷ l) = sought_by (order_of a.0 name) a.1 (sought name l)

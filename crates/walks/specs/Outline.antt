-- The outline of a record: lengths, counts and tags only, no byte of a text is judged. It is the grammar of records' Decode, in the same order, with
-- the rules for bytes, the bounds of counts and the values of Flags left out; only where a record ends counts.
use Rattle.std.specs.Prelude.{ℕ, zero, suc, List, eqb}
use Rattle.records.specs.Got.{got, bad, Parser, after, pick}
use Rattle.records.specs.Bytes.{byte_at, bytes_at, number_at, str_at}
use Rattle.records.specs.Decode.{as_a, many}

-- passes over a record, and keeps nothing of it
abbrev pub Outline : Type 0
Outline = Parser (Unit {0})

-- a number of w bytes, and as many bytes as it says
unfoldable pub sized_at : ℕ → Parser (List ℕ)
sized_at w s at = after (number_at w s at) (λ n p. bytes_at n s p)

-- "Pattern: u32 length of the rest", and the rest
unfoldable pub pattern_outline : Outline
pattern_outline s at = as_a (λ b. tt) (sized_at 4 s at)

-- an Id, a text, a literal: a Str
unfoldable pub str_outline : Outline
str_outline s at = as_a (λ t. tt) (str_at s at)

-- n of them, one after the other
unfoldable pub many_outline : ℕ → Outline → Outline
many_outline n p s at = many tt (λ a l. l) n p s at

-- a Flag, and what it announces unless it is 0
unfoldable pub optional_outline : Outline → Outline
optional_outline p s at = after (byte_at s at) (λ f e. pick (eqb f 0) (got tt e) (p s e))

-- a named argument: "Id, then tag 1 or 2 literal"
unfoldable pub named_outline : Outline
named_outline s at = after (str_at s at) (λ n p. after (byte_at s p) (λ tag e. str_outline s e))

-- a variant: "key kind (1 Id, 2 number literal), key, default Flag, pattern"
unfoldable pub variant_outline : Outline
variant_outline s at =
    after (byte_at s at) (λ kind p.
    after (str_at s p) (λ key q.
    after (byte_at s q) (λ flag e. pattern_outline s e)))

-- what holds expressions, by how these are passed
module _ (expr : Outline) where
  -- "Arguments of a call: u16 count and inline expressions; u16 count and named ones"
  unfoldable pub arguments_outline : Outline
  arguments_outline s at =
      after (number_at 2 s at) (λ n p.
      after (many_outline n expr s p) (λ xs q.
      after (number_at 2 s q) (λ m r.
      many_outline m named_outline s r)))

  -- what follows the Id or the literal of an inline expression: "3 function Id, arguments; 4 message Id, Flag, attribute Id if 1; 5 term Id, Flag,
  -- attribute Id, Flag, arguments if 1"; nothing follows a literal, a variable or what has another tag
  unfoldable pub rest_outline : ℕ → Outline
  rest_outline tag s q =
      pick (eqb tag 3) (arguments_outline s q)
      (pick (eqb tag 4) (optional_outline str_outline s q)
      (pick (eqb tag 5) (after (optional_outline str_outline s q) (λ a e. optional_outline arguments_outline s e))
      (got tt q)))

  -- "8 select: inline selector, u16 variant count", and the variants
  unfoldable pub select_outline : Outline
  select_outline s at =
      after (expr s at) (λ i p.
      after (number_at 2 s p) (λ k q.
      many_outline k variant_outline s q))

  -- what follows the tag of an expression: "7 inline placeable, an expression", a select, or a Str and the rest
  unfoldable pub body_outline : ℕ → Outline
  body_outline tag s p =
      pick (eqb tag 7) (expr s p)
      (pick (eqb tag 8) (select_outline s p)
      (after (str_at s p) (λ t q. rest_outline tag s q)))

-- an expression, inline or not, that nests at most d deep
unfoldable pub expression_outline : ℕ → Outline
expression_outline zero s at = bad
expression_outline (suc d) s at = after (byte_at s at) (λ tag p. body_outline (λ s' i. expression_outline d s' i) tag s p)

-- "Element: 1 and nonempty Str; or 2 and an expression"
unfoldable pub element_outline : ℕ → Outline
element_outline d s at = after (byte_at s at) (λ tag p. pick (eqb tag 1) (str_outline s p) (expression_outline d s p))

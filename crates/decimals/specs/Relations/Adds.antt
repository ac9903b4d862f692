-- A number's text with bytes added to it.
use Rattle.std.specs.Prelude.{ℕ, ◌+◌, ◌≡◌, List, ◌++◌, length, drop}
use Rattle.decimals.specs.Relations.Shown.{text_of}
use Rattle.decimals.specs.declared.types.NumberText as CodeText

-- a text r is a text t with bytes added; the bytes behind stay as they were
pub record Adds (t : CodeText.NumberText) (bs : List ℕ) (r : CodeText.NumberText) : Type 0 where
  pub text : text_of r ≡ text_of t ++ bs
  pub len : r.len ≡ t.len + length bs
  pub rest : drop r.len r.bytes ≡ drop r.len t.bytes
  pub size : length r.bytes ≡ length t.bytes

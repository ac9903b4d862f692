-- Text as bytes.
use Rattle.std.specs.Prelude.{List, [], ◌∷◌, ℕ}
use Prim.Native.Char.{code}
use Prim.Native.String as string
use Prim.Native.String.{String}

abbrev pub Bytes : Type 0
Bytes = List ℕ

-- the bytes of a quoted ASCII text
abbrev pub ascii : String → Bytes
ascii string.[] = []
ascii (string.◌∷◌ c s) = code c ∷ ascii s

-- The fields of a case. A byte past the end reads as 0, and a Str or a Blob that passes the end as empty.
use Rattle.std.specs.Prelude.{ℕ, ◌+◌, ◌*◌, min, Bool, true, false, ◌&&◌, List, [], ◌∷◌, length, take, drop, ◌==◌, nat_le, slice_index}
use Rattle.decimals.specs.Bytes.{same_bytes}

unfoldable pub u16_in : List ℕ → ℕ → ℕ
u16_in s at = slice_index s at * 256 + slice_index s (at + 1)

unfoldable pub u32_in : List ℕ → ℕ → ℕ
u32_in s at = u16_in s at * 65536 + u16_in s (at + 2)

unfoldable pub u64_in : List ℕ → ℕ → ℕ
u64_in s at = u32_in s at * 4294967296 + u32_in s (at + 4)

unfoldable pub if_whole : Bool → List ℕ → List ℕ
if_whole true l = l
if_whole false l = []

-- the n bytes from a position on, and nothing where they pass the end
unfoldable pub part_in : List ℕ → ℕ → ℕ → List ℕ
part_in s at n = if_whole (nat_le (at + n) (length s)) (take n (drop at s))

-- a Str: u16 length, and the bytes
unfoldable pub string_in : List ℕ → ℕ → List ℕ
string_in s at = part_in s (at + 2) (u16_in s at)

unfoldable pub past_string : List ℕ → ℕ → ℕ
past_string s at = min (at + 2 + u16_in s at) (length s)

-- a Blob: u32 length, and the bytes
unfoldable pub blob_in : List ℕ → ℕ → List ℕ
blob_in s at = part_in s (at + 4) (u32_in s at)

unfoldable pub past_blob : List ℕ → ℕ → ℕ
past_blob s at = min (at + 4 + u32_in s at) (length s)

-- has every byte this value?
unfoldable pub all_are : List ℕ → ℕ → Bool
all_are [] v = true
all_are (b ∷ s) v = b == v && all_are s v

-- are these bytes at the front, and AA in every later one?
unfoldable pub begins_with : List ℕ → List ℕ → Bool
begins_with s front = same_bytes (part_in s 0 (length front)) front && all_are (drop (length front) s) 170

-- what is counted of a comparison
unfoldable pub differing : Bool → ℕ
differing true = 0
differing false = 1

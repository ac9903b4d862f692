-- The rules for the bytes of a Str: identifiers, text, string literals. Each is an automaton over the bytes. Number literals are those of the crate `literals`.
use Rattle.std.specs.Prelude.{ℕ, ◌-◌, List, Bool, ◌&&◌, ◌||◌, length, ltb, leb, eqb}
use Rattle.decimals.specs.Bytes.{run, choose, within, digit}

-- "letters": `A` (65) to `Z` (90), `a` (97) to `z` (122) in ASCII
unfoldable pub letter : ℕ → Bool
letter b = within 65 90 b || within 97 122 b

-- 0 before the first byte, 1 in an identifier, 2 no identifier
unfoldable pub id_step : ℕ → ℕ → ℕ
id_step q b = choose (eqb q 0) (choose (letter b) 1 2) (choose (eqb q 1 && (letter b || digit b || eqb b 45 || eqb b 95)) 1 2)

unfoldable pub is_id : List ℕ → Bool
is_id t = eqb (run id_step 0 t) 1 && leb (length t) 255

-- Well-formed UTF-8, by table 3-7 of the Unicode standard: the state after a byte. 0 between scalars; 1, 2, 3 so many bytes 80..BF to come;
-- 4 after E0 (A0..BF), 5 after ED (80..9F), 6 after F0 (90..BF), 7 after F4 (80..8F); 8 not well-formed
unfoldable pub utf8_first : ℕ → ℕ
utf8_first b =
    choose (ltb b 0x80) 0
    (choose (ltb b 0xC2) 8
    (choose (ltb b 0xE0) 1
    (choose (eqb b 0xE0) 4
    (choose (eqb b 0xED) 5
    (choose (ltb b 0xF0) 2
    (choose (eqb b 0xF0) 6
    (choose (ltb b 0xF4) 3
    (choose (eqb b 0xF4) 7 8))))))))

unfoldable pub utf8_low : ℕ → ℕ
utf8_low q = choose (eqb q 4) 0xA0 (choose (eqb q 6) 0x90 0x80)

unfoldable pub utf8_high : ℕ → ℕ
utf8_high q = choose (eqb q 5) 0x9F (choose (eqb q 7) 0x8F 0xBF)

unfoldable pub utf8_rest : ℕ → ℕ
utf8_rest q =
    choose (eqb q 1) 0
    (choose (eqb q 2) 1
    (choose (eqb q 3) 2
    (choose (ltb q 6) 1
    (choose (ltb q 8) 2 8))))

unfoldable pub utf8_step : ℕ → ℕ → ℕ
utf8_step q b = choose (eqb q 0) (utf8_first b) (choose (ltb b (utf8_low q)) 8 (choose (ltb (utf8_high q) b) 8 (utf8_rest q)))

unfoldable pub is_utf8 : List ℕ → Bool
is_utf8 t = eqb (run utf8_step 0 t) 0

-- a text element: not empty, well-formed
unfoldable pub is_text : List ℕ → Bool
is_text t = ltb 0 (length t) && is_utf8 t

-- "hexadecimal digits": digits, `A` (65) to `F` (70), `a` (97) to `f` (102)
unfoldable pub hex : ℕ → Bool
hex b = digit b || (within 65 70 b || within 97 102 b)

-- A string literal's escapes: 0 outside, 1 after a backslash, 2 none, 2 + n where n hexadecimal digits are to come
unfoldable pub escape_step : ℕ → ℕ → ℕ
escape_step q b =
    choose (eqb q 0) (choose (eqb b 92) 1 0)
    (choose (eqb q 1) (choose (eqb b 92) 0 (choose (eqb b 34) 0 (choose (eqb b 117) 6 (choose (eqb b 85) 8 2))))
    (choose (eqb q 2) 2
    (choose (hex b) (choose (eqb q 3) 0 (q - 1)) 2)))

unfoldable pub is_string : List ℕ → Bool
is_string t = eqb (run escape_step 0 t) 0 && is_utf8 t

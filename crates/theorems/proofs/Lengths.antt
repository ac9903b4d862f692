-- Lengths of encodings: an error record by its Ids, and a whole against its parts.
use mathlib.Core.Path.{◌≡◌, refl, ◌∙◌}
use mathlib.Core.List.{[], ◌∷◌, ◌++◌}
use mathlib.Core.Bool.{Bool}
use mathlib.Core.Option.{Option, none}
use Prim.Native.Nat.{◌+◌, ◌≤◌}
use native.Mathlib.Omega.{arith}
use lib.ListN.{length, length-append}
use Rattle.records.specs.Bytes.{to_be}
use Rattle.records.specs.Tree.{Key, Named, Pattern, pattern, Elements, more, Element, placeable, Expression, inline, select, Inline, variable, nested, Arguments, with_arguments, Inlines, and, Variants, or, Variant, variant}
use Rattle.records.specs.Encode.{enc_str, enc_optional, enc_sized, enc_counted, enc_named, enc_flag, enc_key, count_elements, count_inlines, count_variants, enc_pattern, enc_elements, enc_element, enc_expression, enc_inline, enc_arguments, enc_inlines, enc_variants, enc_variant}
use Rattle.records.specs.Errors.{Referred, reference, no_value, missing_default, cyclic, too_many_placeables, enc_record, enc_error}
use Rattle.layout.proofs.Numbers.{length_to_be}
use Rattle.resolution.specs.Effect.{Bytes}

-- the records of errors
pub record_length : (b : Bytes) → length (enc_record b) ≡ 2 + length b
unfolding enc_record
record_length b = omega (arith, length-append (to_be 2 (length b)) b, length_to_be 2 (length b))

pub str_length : (b : Bytes) → length (enc_str b) ≡ 2 + length b
unfolding enc_str
str_length b = omega (arith, length-append (to_be 2 (length b)) b, length_to_be 2 (length b))

pub small_length : (length (enc_error missing_default) ≡ 3) × (length (enc_error cyclic) ≡ 3) × (length (enc_error too_many_placeables) ≡ 3)
unfolding enc_error
small_length = (record_length (4 ∷ []), record_length (5 ∷ []), record_length (6 ∷ []))

pub reference_length : (k : Referred) (i : Bytes) (a : Option Bytes) → length (enc_error (reference k i a)) ≡ 6 + length i + length (enc_optional enc_str a)
unfolding enc_error
reference_length k i a = record_length _ ∙ omega (arith, length-append (enc_str i) (enc_optional enc_str a), str_length i)

pub no_value_length : (i : Bytes) → length (enc_error (no_value i)) ≡ 5 + length i
unfolding enc_error
no_value_length i = record_length _ ∙ omega (arith, str_length i)

pub none_length : length (enc_optional enc_str none) ≡ 1
unfolding enc_optional
none_length = refl

-- the encoding of a whole is no shorter than those of its parts
pub elements_size : (b : Bytes) (es : Elements) → length (enc_elements es) ≤ length (enc_pattern (pattern b es))
unfolding enc_pattern enc_sized
elements_size b es =
    let r : Bytes = to_be 2 (count_elements es) ++ enc_elements es in
    omega (arith, length-append (to_be 4 (length r)) r, length-append (to_be 2 (count_elements es)) (enc_elements es))

pub more_size : (e : Element) (es : Elements) → length (enc_elements (more e es)) ≡ length (enc_element e) + length (enc_elements es)
unfolding enc_pattern
more_size e es = length-append (enc_element e) (enc_elements es)

pub placeable_size : (x : Expression) → length (enc_element (placeable x)) ≡ 1 + length (enc_expression x)
unfolding enc_pattern
placeable_size x = omega arith

pub inline_size : (x : Inline) → length (enc_expression (inline x)) ≡ length (enc_inline x)
unfolding enc_pattern
inline_size x = refl

pub select_size : (x : Inline) (vs : Variants) → 1 + length (enc_inline x) + length (enc_variants vs) ≤ length (enc_expression (select x vs))
unfolding enc_pattern
select_size x vs =
    let r : Bytes = to_be 2 (count_variants vs) ++ enc_variants vs in
    omega (arith, length-append (enc_inline x) r, length-append (to_be 2 (count_variants vs)) (enc_variants vs))

pub or_size : (v : Variant) (vs : Variants) → length (enc_variants (or v vs)) ≡ length (enc_variant v) + length (enc_variants vs)
unfolding enc_pattern
or_size v vs = length-append (enc_variant v) (enc_variants vs)

pub variant_size : (k : Key) (d : Bool) (p : Pattern) → length (enc_pattern p) ≤ length (enc_variant (variant k d p))
unfolding enc_pattern
variant_size k d p = omega (arith, length-append (enc_key k) (enc_flag d ++ enc_pattern p), length-append (enc_flag d) (enc_pattern p))

pub variable_size : (i : Bytes) → length (enc_inline (variable i)) ≡ 3 + length i
unfolding enc_pattern
variable_size i = omega (arith, str_length i)

pub function_size : (i : Bytes) (xs : Inlines) (ns : Named) → 3 + length i + length (enc_inlines xs) ≤ length (enc_inline (Inline.function i xs ns))
unfolding enc_pattern
function_size i xs ns =
    let r : Bytes = enc_inlines xs ++ enc_counted enc_named ns in
    omega (arith, str_length i, length-append (enc_str i) (to_be 2 (count_inlines xs) ++ r), length-append (to_be 2 (count_inlines xs)) r, length-append (enc_inlines xs) (enc_counted enc_named ns))

pub message_size : (i : Bytes) (a : Option Bytes) → length (enc_inline (Inline.message i a)) ≡ 3 + length i + length (enc_optional enc_str a)
unfolding enc_pattern
message_size i a = omega (arith, str_length i, length-append (enc_str i) (enc_optional enc_str a))

pub term_size : (i : Bytes) (a : Option Bytes) (r : Arguments)
    → length (enc_inline (Inline.term i a r)) ≡ 3 + length i + length (enc_optional enc_str a) + length (enc_arguments r)
unfolding enc_pattern
term_size i a r = omega (arith, str_length i, length-append (enc_str i) (enc_optional enc_str a ++ enc_arguments r), length-append (enc_optional enc_str a) (enc_arguments r))

pub nested_size : (x : Expression) → length (enc_inline (nested x)) ≡ 1 + length (enc_expression x)
unfolding enc_pattern
nested_size x = omega arith

pub arguments_size : (xs : Inlines) (ns : Named) → length (enc_inlines xs) ≤ length (enc_arguments (with_arguments xs ns))
unfolding enc_pattern
arguments_size xs ns =
    let r : Bytes = enc_inlines xs ++ enc_counted enc_named ns in
    omega (arith, length-append (to_be 2 (count_inlines xs)) r, length-append (enc_inlines xs) (enc_counted enc_named ns))

pub and_size : (x : Inline) (xs : Inlines) → length (enc_inlines (and x xs)) ≡ length (enc_inline x) + length (enc_inlines xs)
unfolding enc_pattern
and_size x xs = length-append (enc_inline x) (enc_inlines xs)

-- Resolution: what a pattern, an expression, an inline expression writes and lists, and in what order. It follows the Rust's resolver function by
-- function (resolver/*.rs, types/mod.rs); document 01, "resolver (six files), types/mod.rs".
use Rattle.std.specs.Prelude.{List, [], ◌∷◌, ◌++◌, Bool, true, false, ◌&&◌, ◌||◌, not, ℕ, zero, suc}
use Rattle.std.proofs.Math.Option.{Option, none, some}
use Rattle.decimals.specs.Ascii.{ascii}
use Rattle.numbers.specs.Number.{Number, literal, same_number}
use Rattle.numbers.specs.Value.{Value, textual, numeric, nothing, wrong, value_text, number_function, minimum_fraction_digits_name, to_count}
use Rattle.plural.specs.Plural.{category, keyword}
use Rattle.unescape.specs.Unescape.{unescape, has_backslash}
use Rattle.decimals.specs.Bytes.{same_bytes}
use Rattle.records.specs.Tree.{Literal, Key, Named, Pattern, pattern, Elements, no_more, more, Element, text, placeable, Expression, inline, select, Inline, variable, nested, Arguments, without, with_arguments, Inlines, no_inline, and, Variants, no_variant, or, Variant, variant}
use Rattle.records.specs.Images.{Kind, Entry}
use Rattle.records.specs.Errors.{Error, Referred, reference, no_value, missing_default, cyclic}
use Rattle.entries.specs.Lookup.{Holder, Find, part_of}
use Rattle.records.specs.Optional.{or_else}
use Rattle.resolution.specs.Effect.{Bytes, report, unfound, merged, Locals, M, Done, ret, ◌>>=◌, ◌>>◌, emit, write, is_dirty, get_locals, set_locals, only_if, entered, capture, release}
use Rattle.records.specs.Names.{first_named}

-- what does not change while a message is formatted: locale, isolating Flag, arguments
pub record Setting : Type 0 where
  pub locale : ℕ
  pub isolating : Bool
  pub arguments : List (Bytes × Value)

-- `Scope::traveled`: the patterns that are being resolved, by their bytes
abbrev pub Trail : Type 0
Trail = List Bytes

-- `self.traveled.contains(&pattern)`; "Equal patterns means equal bytes"
unfoldable pub on_trail : Bytes → Trail → Bool
on_trail p [] = false
on_trail p (q ∷ qs) = same_bytes q p || on_trail p qs

unfoldable pub bytes_of : Pattern → Bytes
bytes_of (pattern b es) = b

-- `id.attribute` in an error's text; 46 is `.`
unfoldable pub dotted : Bytes → Option Bytes → Bytes
dotted i none = i
dotted i (some a) = i ++ (46 ∷ a)

-- `write_error` of an inline expression; "Where the Rust panics in `write_error` (literal or inline placeable), `???` is written"; 36 is `$`, 45 is
-- `-`
unfoldable pub error_text : Inline → Bytes
error_text (Inline.string s) = ascii "???"
error_text (Inline.number s) = ascii "???"
error_text (variable i) = 36 ∷ i
error_text (Inline.function i xs ns) = i ++ ascii "()"
error_text (Inline.message i a) = dotted i a
error_text (Inline.term i a r) = 45 ∷ dotted i a
error_text (nested x) = ascii "???"

-- `write_error` of an expression: of a select, its selector's
unfoldable pub error_of : Expression → Bytes
error_of (inline x) = error_text x
error_of (select x vs) = error_text x

-- an error's text in braces: 123 is `{`, 125 is `}`
unfoldable pub braced : Bytes → Bytes
braced b = 123 ∷ b ++ (125 ∷ [])

-- `needs_isolation`: a direct message, term or string literal is not isolated
unfoldable pub bare_inline : Inline → Bool
bare_inline (Inline.string s) = true
bare_inline (Inline.number s) = false
bare_inline (variable i) = false
bare_inline (Inline.function i xs ns) = false
bare_inline (Inline.message i a) = true
bare_inline (Inline.term i a r) = true
bare_inline (nested x) = false

unfoldable pub bare : Expression → Bool
bare (inline x) = bare_inline x
bare (select x vs) = false

-- U+2068 FIRST STRONG ISOLATE and U+2069 POP DIRECTIONAL ISOLATE
unfoldable pub fsi : Bytes
fsi = 0xe2 ∷ 0x81 ∷ 0xa8 ∷ []

unfoldable pub pdi : Bytes
pdi = 0xe2 ∷ 0x81 ∷ 0xa9 ∷ []

-- something written only where a condition holds
unfoldable pub mark : Bool → Bytes → M Done
mark true b = write b
mark false b = ret tt

-- the end of `maybe_track`: where the scope became dirty, the error text of the expression stands after what was written
unfoldable pub cut_short : Bytes → M Done
cut_short b = is_dirty >>= λ d. mark d b

-- a text in the workspace, as a value
unfoldable pub held : M Bytes → M Value
held m = m >>= λ b. ret (textual b)

-- `resolve` of a string literal: "a string literal with a backslash, goes to the workspace"
unfoldable pub string_if : Bool → Bytes → M Value
string_if true s = held (capture (write (unescape s)))
string_if false s = ret (textual s)

unfoldable pub string_value : Bytes → M Value
string_value s = string_if (has_backslash s) s

unfoldable pub literal_value : Literal → M Value
literal_value (Literal.string s) = string_value s
literal_value (Literal.number n) = ret (numeric (literal n))

-- the named arguments of a call, in stored order
unfoldable pub named_values : Named → M (List (Bytes × Value))
named_values [] = ret []
named_values (e ∷ es) = do
  v ← literal_value e.1
  r ← named_values es
  ret ((e.0, v) ∷ r)

-- `write_ref_error`: the error is listed, then its text written in braces
unfoldable pub write_ref_error : Error → Bytes → M Done
write_ref_error e shown = emit (report e) >> write (braced shown)

-- `FluentValue::matches` of a variant's key and the selector: "An Id key matches equal text, or a number whose category it names; a literal key an
-- equal number."
unfoldable pub matches : ℕ → Key → Value → Bool
matches locale (Key.name k) (textual s) = same_bytes k s
matches locale (Key.name k) (numeric n) = same_bytes k (keyword (category locale n))
matches locale (Key.name k) nothing = false
matches locale (Key.name k) wrong = false
matches locale (Key.number k) (textual s) = false
matches locale (Key.number k) (numeric n) = same_number (literal k) n
matches locale (Key.number k) nothing = false
matches locale (Key.number k) wrong = false

-- the position of the first variant of a kind
unfoldable pub next : Option ℕ → Option ℕ
next none = none
next (some n) = some (suc n)

unfoldable pub this_or : Bool → Option ℕ → Option ℕ
this_or true o = some 0
this_or false o = next o

unfoldable pub first_by : (Variant → Bool) → Variants → Option ℕ
first_by test no_variant = none
first_by test (or v vs) = this_or (test v) (first_by test vs)

unfoldable pub has_key : ℕ → Value → Variant → Bool
has_key locale v (variant k d p) = matches locale k v

unfoldable pub is_default : Variant → Bool
is_default (variant k d p) = d

-- "The first variant whose key matches is taken and the search stops; without one, the first default"
unfoldable pub chosen : ℕ → Value → Variants → Option ℕ
chosen locale v vs = or_else (first_by (has_key locale v) vs) (first_by is_default vs)

-- `bundle.get_entry_…`: the only part that looks an id up. Unfound: "lookups, for a message, term or function reference, of an id with no entry of
-- any kind"
unfoldable pub look_for : Option Holder → M (Option Holder)
look_for none s = record { trace = unfound ∷ []; text = []; kept = 0; state = s; value = none }
look_for (some e) s = record { trace = []; text = []; kept = 0; state = s; value = some e }

unfoldable pub look_up : Find → Bytes → M (Option Holder)
look_up find i = look_for (find i)

-- an entry of a kind
unfoldable pub message_only : Kind → Entry → Option Entry
message_only Kind.message e = some e
message_only Kind.term e = none

unfoldable pub term_only : Kind → Entry → Option Entry
term_only Kind.message e = none
term_only Kind.term e = some e

-- `get_entry_message`, `get_entry_term`: "A reference finds only its own kind"
unfoldable pub as_message : Option Holder → Option Entry
as_message none = none
as_message (some Holder.function) = none
as_message (some (Holder.entry e)) = message_only e.kind e

unfoldable pub as_term : Option Holder → Option Entry
as_term none = none
as_term (some Holder.function) = none
as_term (some (Holder.entry e)) = term_only e.kind e

module _ (cross : Pattern → Trail → M Done) (trail : Trail) where
  -- `Scope::track`: a pattern that is being resolved already is Cyclic, any other is resolved under a longer trail
  unfoldable pub track_if : Bool → Bytes → Pattern → M Done
  track_if true shown p = write_ref_error cyclic shown
  track_if false shown p = cross p (bytes_of p ∷ trail)

  unfoldable pub track : Bytes → Pattern → M Done
  track shown p = track_if (on_trail (bytes_of p) trail) shown p

  -- the part of an entry that a reference names, or what stands for one that is missing
  unfoldable pub on_part : Error → Bytes → Option Pattern → M Done
  on_part e shown none = write_ref_error e shown
  on_part e shown (some p) = track shown p

  -- a message without a value is NoValue, one without the attribute a Reference
  unfoldable pub missing_piece : Bytes → Option Bytes → Error
  missing_piece i none = no_value i
  missing_piece i (some a) = reference Referred.message i (some a)

  unfoldable pub message_found : Bytes → Option Bytes → Option Entry → M Done
  message_found i a none = write_ref_error (reference Referred.message i a) (dotted i a)
  message_found i a (some e) = on_part (missing_piece i a) (dotted i a) (part_of a e)

  -- 45 is `-`
  unfoldable pub term_found : Bytes → Option Bytes → Option Entry → M Done
  term_found i a none = write_ref_error (reference Referred.term i a) (45 ∷ dotted i a)
  term_found i a (some e) = on_part (reference Referred.term i a) (45 ∷ dotted i a) (part_of a e)

  -- a message reference
  unfoldable pub write_message : Find → Bytes → Option Bytes → M Done
  write_message find i a = look_up find i >>= λ o. message_found i a (as_message o)

  -- a term reference, its arguments known: they are the local arguments while it is written, and there are none after it (the Rust clears them)
  unfoldable pub write_term : Find → Bytes → Option Bytes → List (Bytes × Value) → M Done
  write_term find i a named = do
    set_locals (some named)
    o ← look_up find i
    term_found i a (as_term o)
    set_locals none

-- the values of a call's arguments, positional and named
pub record Given : Type 0 where
  pub positional : List Value
  pub named : List (Bytes × Value)

unfoldable pub pushed : Value → Given → Given
pushed v g = record { positional = v ∷ g.positional; named = g.named }

-- "17 a merged minimumFractionDigits above 19, met at the merge": each one merged, in order
unfoldable pub note_if : Bool → Number → M Done
note_if true n = emit (merged (to_count n))
note_if false n = ret tt

unfoldable pub note_one : Bytes → Value → M Done
note_one name (textual s) = ret tt
note_one name (numeric n) = note_if (same_bytes name minimum_fraction_digits_name) n
note_one name nothing = ret tt
note_one name wrong = ret tt

unfoldable pub note_merges : List (Bytes × Value) → M Done
note_merges [] = ret tt
note_merges (e ∷ es) = note_one e.0 e.1 >> note_merges es

unfoldable pub merges_of : List Value → List (Bytes × Value) → M Done
merges_of [] named = ret tt
merges_of (textual s ∷ vs) named = ret tt
merges_of (numeric n ∷ vs) named = note_merges named
merges_of (nothing ∷ vs) named = ret tt
merges_of (wrong ∷ vs) named = ret tt

-- a call of what was found: the Rust's NUMBER, the one function; none where the id is no function's
unfoldable pub call : Given → Option Holder → M (Option Value)
call g none = ret none
call g (some (Holder.entry e)) = ret none
call g (some Holder.function) = merges_of g.positional g.named >> ret (some (number_function g.positional g.named))

unfoldable pub call_function : Find → Bytes → Given → M (Option Value)
call_function find i g = look_up find i >>= λ o. call g o

-- a function's result as text: a missing function is a Reference, and where NUMBER gives Error its name stands without braces
unfoldable pub write_result : Bytes → Option Value → M Done
write_result i none = write_ref_error (reference Referred.function i none) (i ++ ascii "()")
write_result i (some (textual s)) = write s
write_result i (some (numeric n)) = write (value_text (numeric n))
write_result i (some nothing) = write (value_text nothing)
write_result i (some wrong) = write (i ++ ascii "()")

-- a value, or Error where there is none
unfoldable pub or_wrong : Option Value → M Value
or_wrong none = ret wrong
or_wrong (some v) = ret v

-- a variable: among the term's arguments where there are any, else among the formatting's; only there a missing one is listed
unfoldable pub found_or : M Done → Option Value → M (Option Value)
found_or missing none = missing >> ret none
found_or missing (some v) = ret (some v)

unfoldable pub variable_in : List (Bytes × Value) → Bytes → Locals → M (Option Value)
variable_in args i (some l) = found_or (ret tt) (first_named i l)
variable_in args i none = found_or (emit (report (reference Referred.variable i none))) (first_named i args)

unfoldable pub get_variable : List (Bytes × Value) → Bytes → M (Option Value)
get_variable args i = get_locals >>= λ l. variable_in args i l

-- 36 is `$`
unfoldable pub write_variable : Bytes → Option Value → M Done
write_variable i none = write (braced (36 ∷ i))
write_variable i (some v) = write (value_text v)

-- `len > 1`: a lone element is not isolated
unfoldable pub several_of : Elements → Bool
several_of no_more = false
several_of (more e no_more) = false
several_of (more e (more e' es)) = true

-- Patterns, expressions and inline expressions write each other. `cross` resolves the pattern of a reference.
module _ (st : Setting) (find : Find) (cross : Pattern → Trail → M Done) (trail : Trail) where
  unfoldable mutual
    -- `Pattern::write`
    pub write_pattern : Pattern → M Done
    write_pattern (pattern b es) = write_elements es (several_of es && st.isolating)

    pub write_elements : Elements → Bool → M Done
    write_elements no_more iso = ret tt
    write_elements (more e es) iso = write_element e iso >> write_elements es iso

    -- one turn of the loop of `Pattern::write`, with `maybe_track`; a dirty scope writes nothing more
    pub write_element : Element → Bool → M Done
    write_element (text t) iso = is_dirty >>= λ d. only_if (not d) (write t)
    write_element (placeable x) iso =
        entered (mark (iso && not (bare x)) fsi) (write_expression x >> (cut_short (braced (error_of x)) >> mark (iso && not (bare x)) pdi))

    -- `Expression::write`: "A selector's text is freed when its variant, or none, is chosen"
    pub write_expression : Expression → M Done
    write_expression (inline x) = write_inline x
    write_expression (select x vs) = release (resolve_inline x) >>= λ v. write_nth vs (chosen st.locale v vs)

    -- the variant at a position; "without that, MissingDefault"
    pub write_nth : Variants → Option ℕ → M Done
    write_nth no_variant none = emit (report missing_default)
    write_nth no_variant (some n) = ret tt
    write_nth (or v vs) none = emit (report missing_default)
    write_nth (or v vs) (some zero) = write_variant v
    write_nth (or v vs) (some (suc n)) = write_nth vs (some n)

    pub write_variant : Variant → M Done
    write_variant (variant k d p) = write_pattern p

    -- `InlineExpression::write`. "A function's arguments once its result, or that it is missing, is known" are freed; "a term's when all its text is
    -- written"
    pub write_inline : Inline → M Done
    write_inline (Inline.string s) = write (unescape s)
    write_inline (Inline.number n) = write (value_text (numeric (literal n)))
    write_inline (variable i) = get_variable st.arguments i >>= λ v. write_variable i v
    write_inline (Inline.function i xs ns) = release (get_arguments xs ns >>= λ g. call_function find i g) >>= λ v. write_result i v
    write_inline (Inline.message i a) = write_message cross trail find i a
    write_inline (Inline.term i a r) = release (term_arguments r >>= λ g. write_term cross trail find i a g.named)
    write_inline (nested x) = write_expression x

    -- `InlineExpression::resolve`: a message, a term and an inline placeable become text in the workspace
    pub resolve_inline : Inline → M Value
    resolve_inline (Inline.string s) = string_value s
    resolve_inline (Inline.number n) = ret (numeric (literal n))
    resolve_inline (variable i) = get_variable st.arguments i >>= λ v. or_wrong v
    resolve_inline (Inline.function i xs ns) = release (get_arguments xs ns >>= λ g. call_function find i g) >>= λ v. or_wrong v
    resolve_inline (Inline.message i a) = held (capture (write_message cross trail find i a))
    resolve_inline (Inline.term i a r) = held (capture (release (term_arguments r >>= λ g. write_term cross trail find i a g.named)))
    resolve_inline (nested x) = held (capture (write_expression x))

    -- `Scope::get_arguments`
    pub term_arguments : Arguments → M Given
    term_arguments without = ret (record { positional = []; named = [] })
    term_arguments (with_arguments xs ns) = get_arguments xs ns

    pub get_arguments : Inlines → Named → M Given
    get_arguments no_inline ns = named_values ns >>= λ n. ret (record { positional = []; named = n })
    get_arguments (and x xs) ns = resolve_inline x >>= λ v. (get_arguments xs ns >>= λ g. ret (pushed v g))

-- a pattern, where references nest at most n deep
unfoldable pub resolve : Setting → Find → ℕ → Pattern → Trail → M Done
resolve st find zero p trail = ret tt
resolve st find (suc n) p trail = write_pattern st find (λ q t. resolve st find n q t) trail p

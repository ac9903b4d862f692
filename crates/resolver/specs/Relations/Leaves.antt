-- What one step of a writer ensures: a text put, an error listed, a value found, a variant chosen, NUMBER called.
use Rattle.state.specs.Progress.{refused_of}
use Rattle.std.specs.Prelude.{◌≡◌, List, [], ◌∷◌, ◌++◌, Bool, true, false, ℕ, ◌-◌, ◌≤◌, length}
use Rattle.std.proofs.Math.Option.{Option, none, some}
use Rattle.numbers.specs.Number.{Number, in_range}
use Rattle.numbers.specs.Value.{Value, textual, numeric, number_function}
use Rattle.decimals.specs.Relations.Shown.{shown}
use Rattle.unescape.specs.Unescape.{unescape}
use Rattle.records.specs.Got.{got}
use Rattle.records.specs.Bytes.{part}
use Rattle.records.specs.Tree.{Literal, Named, Expression, Inline, Arguments}
use Rattle.records.specs.Decode.{many, id_at, optional_at, named_at, expression, inline}
use Rattle.records.specs.Errors.{Referred, reference, too_many_placeables}
use Rattle.records.specs.Optional.{option_of}
use Rattle.state.specs.declared.Progress.{Progress}
use Rattle.values.specs.declared.Value as CodeValue
use Rattle.values.specs.declared.Value.TheVariants as val
use Rattle.std.specs.Prelude as rust
use Rattle.state.specs.declared.Referring.{Referring}
use Rattle.resolver.specs.declared.scope.error.Pieces.{Pieces}
use Rattle.arguments.specs.Relations.Given.{between}
use Rattle.state.specs.Setters.{begun_s, locals_s}
use Rattle.decimals.specs.declared.types.Number as CodeNumber
use Rattle.resolution.specs.Effect.{Bytes, Locals, State, ret, ◌>>=◌, ◌>>◌, emit, write, report}
use Rattle.resolution.specs.Resolve.{dotted, braced, error_text, error_of, cut_short, string_value, named_values, merges_of, write_ref_error, get_variable, write_variable, or_wrong, write_result}
use Rattle.records.specs.Names.{first_named}
use Rattle.resolution.specs.Exec.{Machine, Limits}
use Rattle.resolver.specs.Relations.Meets.{World, world, named_texts, TextIn, NamedIn, Live, Runs, Kept, Acts, Holds, Env, Setup, setting_of}

-- a variable's value, or that it is missing
pub data LocalIs (i a w : List ℕ) (low : ℕ) (r : rust.Option CodeValue.Value) (o : Option Value) : Type 0 where
  is_there : (c : CodeValue.Value) (v : Value) → r ≡ rust.Some c → o ≡ some v → Holds i a w low c v → LocalIs i a w low r o
  is_missing : r ≡ rust.None → o ≡ none → LocalIs i a w low r o

-- the value that a variable has: among the term's arguments where there are any, else among the formatting's
unfoldable pub variable_of : List (Bytes × Value) → Bytes → Locals → Option Value
variable_of args i none = first_named i args
variable_of args i (some l) = first_named i l

-- the words that stand in the place of an expression: `{???{-{$.()`
abbrev pub error_words : List ℕ
error_words = 123 ∷ 63 ∷ 63 ∷ 63 ∷ 123 ∷ 45 ∷ 123 ∷ 36 ∷ 46 ∷ 40 ∷ 41 ∷ []

-- a part of the words, one of the store, one of the words, one of the store, and what closes
unfoldable pub pieces_text : List ℕ → List ℕ → Pieces → List ℕ
pieces_text w i p = (between w p.head p.head_end ++ (between i p.from p.to ++ between w p.joint p.joint_end)) ++ (between i p.start p.end ++ (125 ∷ []))

abbrev pub nameless : Pieces
nameless = record { head = 0; head_end = 4; from = 0; to = 0; joint = 0; joint_end = 0; start = 0; end = 0 }

-- by whether there is an attribute
unfoldable pub parted_pieces : rust.Option (ℕ × ℕ) → ℕ → ℕ → Referring → Pieces
parted_pieces (rust.Some s) h k x = record { head = h; head_end = k; from = x.from; to = x.to; joint = 8; joint_end = 9; start = s.0; end = s.1 }
parted_pieces rust.None h k x = record { head = h; head_end = k; from = x.from; to = x.to; joint = 0; joint_end = 0; start = 0; end = 0 }

unfoldable pub reference_pieces : ℕ → ℕ → rust.Option Referring → Pieces
reference_pieces h k (rust.Some x) = parted_pieces x.attribute h k x
reference_pieces h k rust.None = nameless

-- the pieces of the inline expression at `at`
pub record PiecesAt (i : List ℕ) (at : ℕ) (p : Pieces) : Type 0 where
  pub reads : (d : ℕ) (y : Inline) (f : ℕ) → inline d i at ≡ got y f → braced (error_text y) ≡ pieces_text error_words i p

-- what stands in the place of an inline expression that has an error
pub record ErrorAt (i : List ℕ) (at : ℕ) (x w : List ℕ) (st : Progress) (x' w' : List ℕ) (r : Progress) : Type 0 where
  pub kept : (l t : List ℕ) → Kept (world i x l w t st) (world i x' l w' t r)
  pub runs : (l t : List ℕ) (d : ℕ) (y : Inline) (f : ℕ) → inline d i at ≡ got y f → Runs (write (braced (error_text y))) (world i x l w t st) (world i x' l w' t r)

-- where an expression was cut short, its error
pub record CutAt (i : List ℕ) (at : ℕ) (x w : List ℕ) (st : Progress) (x' w' : List ℕ) (r : Progress) : Type 0 where
  pub kept : (l t : List ℕ) → Kept (world i x l w t st) (world i x' l w' t r)
  pub runs : (l t : List ℕ) (d : ℕ) (y : Expression) (f : ℕ) → expression d i at ≡ got y f → Runs (cut_short (braced (error_of y))) (world i x l w t st) (world i x' l w' t r)

-- the 101st placeable
pub record TooMany (l : List ℕ) (st : Progress) (l' : List ℕ) (r : Progress) : Type 0 where
  pub acts : (i x w t : List ℕ) → Acts (emit (report too_many_placeables)) (world i x l w t (begun_s 101 true st)) (world i x l' w t r)

-- what NUMBER sees of the first positional value: a number, or something else
pub data FirstIs (c : CodeValue.Value) : List Value → Type 0 where
  first_none : {vs : List Value} → vs ≡ [] → c ≡ val.Wrong → FirstIs c vs
  first_number : {vs : List Value} (n : Number) (l : List Value) → vs ≡ numeric n ∷ l → c ≡ val.Number (shown n) → in_range n ≡ true → FirstIs c vs
  first_other : {vs : List Value} (v : Value) (l : List Value) → vs ≡ v ∷ l → ((n : Number) → v ≡ numeric n → ⊥) → ((m : CodeNumber.Number) → c ≡ val.Number m → ⊥) → FirstIs c vs

-- what a call answers: none where the id is no function's
pub data ResultIs (i a w : List ℕ) (low : ℕ) (found : Bool) (c : CodeValue.Value) (o : Option Value) : Type 0 where
  has_result : (v : Value) → found ≡ true → o ≡ some v → Holds i a w low c v → ResultIs i a w low found c o
  is_no_function : found ≡ false → c ≡ val.Wrong → o ≡ none → ResultIs i a w low found c o

-- a string literal's value
pub record StringAt (i : List ℕ) (a e : ℕ) (w : List ℕ) (st : Progress) (w' : List ℕ) (r : Progress) (c : CodeValue.Value) : Type 0 where
  pub kept : (x l t : List ℕ) → Kept (world i x l w t st) (world i x l w' t r)
  pub runs : a ≤ e → e ≤ length i → (x l t : List ℕ) → Runs (string_value (part i a (e - a))) (world i x l w t st) (world i x l w' t r)
  pub size : length w' ≡ length w
  pub holds : a ≤ e → e ≤ length i → (args x l t : List ℕ) (L : Limits) (s : State) (k : Machine) → Live L (world i x l w t st) s k → (refused_of r) ≡ 0
      → Holds i args w' r.back c (textual (unescape (part i a (e - a))))
  pub text : a ≤ e → e ≤ length i → (x l t : List ℕ) (L : Limits) (s : State) (k : Machine) → Live L (world i x l w t st) s k → (refused_of r) ≡ 0
      → TextIn w' st.back (Literal.string (part i a (e - a)))

-- named arguments, in stored order
pub record NamedAt (i : List ℕ) (at count : ℕ) (w : List ℕ) (st : Progress) (w' : List ℕ) (r : Progress) : Type 0 where
  pub kept : (x l t : List ℕ) → Kept (world i x l w t st) (world i x l w' t r)
  pub runs : (ns : Named) (f : ℕ) → many [] ◌∷◌ count named_at i at ≡ got ns f → (x l t : List ℕ) → Runs (named_values ns) (world i x l w t st) (world i x l w' t r)
  pub named : (ns : Named) (f : ℕ) → many [] ◌∷◌ count named_at i at ≡ got ns f → (x l t : List ℕ) (L : Limits) (s : State) (k : Machine) → Live L (world i x l w t st) s k
      → (refused_of r) ≡ 0 → NamedIn w' r.back st.back ns

-- the same, and they are a term's from here on
pub record NamedSet (i : List ℕ) (at count : ℕ) (w : List ℕ) (st : Progress) (w' : List ℕ) (r : Progress) : Type 0 where
  pub between : Progress
  pub named : NamedAt i at count w st w' between
  pub sets : r ≡ locals_s at count st.back between

-- a call of NUMBER: its named options merged, or refused with 17
pub record NumberAt (i : List ℕ) (w : List ℕ) (st : Progress) (at count base : ℕ) (first : CodeValue.Value) (r : Progress) (c : CodeValue.Value) : Type 0 where
  pub kept : (x l t : List ℕ) → Kept (world i x l w t st) (world i x l w t r)
  pub runs : (ns : Named) (f : ℕ) (vs : List Value) (low : ℕ) → many [] ◌∷◌ count named_at i at ≡ got ns f → FirstIs first vs → NamedIn w low base ns → (x l t : List ℕ)
      → Runs (merges_of vs (named_texts ns) >> ret (some (number_function vs (named_texts ns)))) (world i x l w t st) (world i x l w t r)
  pub holds : (ns : Named) (f : ℕ) (vs : List Value) (low : ℕ) → many [] ◌∷◌ count named_at i at ≡ got ns f → FirstIs first vs → NamedIn w low base ns → (args : List ℕ) (back : ℕ)
      → (refused_of st) ≡ 0 → (refused_of r) ≡ 0 → Holds i args w back c (number_function vs (named_texts ns))

-- a missing variable: nothing inside a term, outside it is listed
pub record MissingAt (l : List ℕ) (st : Progress) (name : Bytes) (l' : List ℕ) (r : Progress) : Type 0 where
  pub kept : (i x w t : List ℕ) → Kept (world i x l w t st) (world i x l' w t r)
  pub inside : st.local ≡ true → (r ≡ st) × (l' ≡ l)
  pub outside : st.local ≡ false → length name ≤ 255 → (i x w t : List ℕ) → Acts (emit (report (reference Referred.variable name none))) (world i x l w t st) (world i x l' w t r)

-- a variable, its name from a to b in the store: written, or its value
pub record VariableAt (e : Env) (a b : ℕ) (w v : World) : Type 0 where
  pub kept : Kept w v
  pub runs : (u : Setup e) → a ≤ b → b ≤ length e.store → b - a ≤ 255 → w.store ≡ e.store
      → Runs (get_variable (setting_of e u).arguments (part e.store a (b - a)) >>= λ o. write_variable (part e.store a (b - a)) o) w v

pub record VariableValueAt (e : Env) (a b : ℕ) (w v : World) (c : CodeValue.Value) : Type 0 where
  pub kept : Kept w v
  pub runs : (u : Setup e) → a ≤ b → b ≤ length e.store → b - a ≤ 255 → w.store ≡ e.store
      → Runs (get_variable (setting_of e u).arguments (part e.store a (b - a)) >>= λ o. or_wrong o) w v
  pub holds : (u : Setup e) → a ≤ b → b ≤ length e.store → b - a ≤ 255 → w.store ≡ e.store → (L : Limits) (s : State) (k : Machine) → Live L w s k → (refused_of v.st) ≡ 0
      → Holds e.store e.given.args v.work v.st.back c ((get_variable (setting_of e u).arguments (part e.store a (b - a)) >>= λ o. or_wrong o) s).value

-- a function's result, written: w is the world in which it was known
pub record ResultAt (e : Env) (a b : ℕ) (found : Bool) (c : CodeValue.Value) (w v : World) : Type 0 where
  pub kept : Kept w v
  pub runs : (o : Option Value) → ResultIs e.store e.given.args w.work w.st.back found c o → a ≤ b → b ≤ length e.store → b - a ≤ 255
      → Runs (write_result (part e.store a (b - a)) o) w v

-- `write_ref_error` of the message or term reference at `at`
pub record RefErrorAt (i : List ℕ) (at : ℕ) (kind : Referred) (x l w : List ℕ) (st : Progress) (x' l' w' : List ℕ) (r : Progress) : Type 0 where
  pub kept : (t : List ℕ) → Kept (world i x l w t st) (world i x' l' w' t r)
  pub message : kind ≡ Referred.message → (t : List ℕ) (d : ℕ) (n : Bytes) (a : Option Bytes) (f : ℕ) → inline d i at ≡ got (Inline.message n a) f
      → Runs (write_ref_error (reference Referred.message n a) (dotted n a)) (world i x l w t st) (world i x' l' w' t r)
  pub term : kind ≡ Referred.term → (t : List ℕ) (d : ℕ) (n : Bytes) (a : Option Bytes) (q : Arguments) (f : ℕ) → inline d i at ≡ got (Inline.term n a q) f
      → Runs (write_ref_error (reference Referred.term n a) (45 ∷ dotted n a)) (world i x l w t st) (world i x' l' w' t r)

-- the bytes of an attribute, by the positions that the code has of it
abbrev pub attribute_in : List ℕ → rust.Option (ℕ × ℕ) → Option Bytes
attribute_in i (rust.Some s) = some (between i s.0 s.1)
attribute_in i rust.None = none

-- such positions, with a mark that says whether they are there
abbrev pub span_if : Bool → ℕ → ℕ → rust.Option (ℕ × ℕ)
span_if true start end = rust.Some (start, end)
span_if false start end = rust.None

-- the Id and the attribute of the reference whose Id is at `at`, by positions
pub data ReferenceIs (i : List ℕ) (at : ℕ) (r : rust.Option Referring) : Type 0 where
  reads : (from to : ℕ) (has : Bool) (start end : ℕ) → r ≡ rust.Some (record { from = from; to = to; attribute = span_if has start end; end = end })
      → from ≤ to → to ≤ length i → start ≤ end → end ≤ length i
      → ((n : Bytes) (p : ℕ) (a : Option Bytes) (f : ℕ) → id_at i at ≡ got n p → optional_at id_at i p ≡ got a f
      → (n ≡ part i from (to - from)) × (to - from ≤ 255) × (a ≡ option_of has (part i start (end - start))) × (end - start ≤ 255) × (end ≡ f))
      → ReferenceIs i at r
  unread : r ≡ rust.None → ((n : Bytes) (p : ℕ) (a : Option Bytes) (f : ℕ) → id_at i at ≡ got n p → optional_at id_at i p ≡ got a f → ⊥) → ReferenceIs i at r

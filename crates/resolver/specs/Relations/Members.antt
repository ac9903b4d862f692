-- What each of the writers that call each other ensures: it runs the definition of what stands at its position.
use Rattle.state.specs.Progress.{refused_of}
use Rattle.std.specs.Prelude.{◌≡◌, List, [], ◌∷◌, Bool, true, ℕ, suc, ◌+◌, ◌≤◌}
use Rattle.std.proofs.Math.Option.{Option}
use Rattle.numbers.specs.Value.{Value}
use Rattle.records.specs.Got.{got}
use Rattle.records.specs.Bytes.{byte_at, number_at}
use Rattle.records.specs.Tree.{Named, Pattern, Elements, Element, Expression, Inline, Inlines, no_inline, and, Arguments}
use Rattle.records.specs.Decode.{id_at, element_at, elements_at, pattern_at, entry_pattern_at, inlines_at, arguments_at, select_at, expression, inline}
use Rattle.entries.specs.Lookup.{Find}
use Rattle.heads.specs.Tags.{text_tag}
use Rattle.values.specs.declared.Value as CodeValue
use Rattle.resolution.specs.Effect.{Bytes, State, M, Done, ret, ◌>>=◌, capture, release}
use Rattle.resolution.specs.Resolve.{Setting, Trail, error_text, held, track, look_up, as_term, term_found, write_message, write_term, call_function, write_pattern, write_elements, write_element, write_expression, write_inline, resolve_inline, term_arguments, get_arguments}
use Rattle.resolution.specs.Exec.{Machine, Limits}
use Rattle.resolver.specs.Relations.Meets.{World, Live, Runs, Kept, Holds, Env, Setup, setting_of, find_of, cross_of, trail_of}
use Rattle.resolver.specs.Relations.Leaves.{FirstIs, ResultIs}

-- where a call stands: n patterns more may be entered, under the trail t; g is 1 before a placeable is begun
pub record Here (e : Env) (w : World) (g n : ℕ) (t : Trail) : Type 0 where
  pub on : t ≡ trail_of e.store w.trail w.st.depth
  pub fuel : 102 ≤ g + n + w.st.begun
  pub room : w.st.depth ≤ w.st.begun + g
  pub same : w.store ≡ e.store

-- what the members of the cycle ensure
pub record PatternAt (e : Env) (left at : ℕ) (w v : World) : Type 0 where
  pub kept : Kept w v
  pub runs : (u : Setup e) (p : Pattern) (f : ℕ) → pattern_at (expression left) e.store at ≡ got p f
      → (n : ℕ) (t : Trail) → Here e w 1 n t → Runs (write_pattern (setting_of e u) (find_of e u) (cross_of e u n) t p) w v

pub record ElementsAt (e : Env) (left : ℕ) (iso : Bool) (k at : ℕ) (w v : World) : Type 0 where
  pub kept : Kept w v
  pub runs : (u : Setup e) (es : Elements) (f : ℕ) → elements_at (expression left) k e.store at ≡ got es f
      → (n : ℕ) (t : Trail) → Here e w 1 n t → Runs (write_elements (setting_of e u) (find_of e u) (cross_of e u n) t es iso) w v

pub record ElementAt (e : Env) (left : ℕ) (iso : Bool) (at : ℕ) (w v : World) : Type 0 where
  pub kept : Kept w v
  pub runs : (u : Setup e) (x : Element) (f : ℕ) → element_at (expression left) e.store at ≡ got x f
      → (n : ℕ) (t : Trail) → Here e w 1 n t → Runs (write_element (setting_of e u) (find_of e u) (cross_of e u n) t x iso) w v

pub record ExpressionAt (e : Env) (left at : ℕ) (w v : World) : Type 0 where
  pub kept : Kept w v
  pub runs : (u : Setup e) (x : Expression) (f : ℕ) → expression left e.store at ≡ got x f
      → (n : ℕ) (t : Trail) → Here e w 0 n t → Runs (write_expression (setting_of e u) (find_of e u) (cross_of e u n) t x) w v

pub record InlineAt (e : Env) (left at : ℕ) (w v : World) : Type 0 where
  pub kept : Kept w v
  pub runs : (u : Setup e) (x : Inline) (f : ℕ) → inline left e.store at ≡ got x f
      → (n : ℕ) (t : Trail) → Here e w 0 n t → Runs (write_inline (setting_of e u) (find_of e u) (cross_of e u n) t x) w v

pub record ValueAt (e : Env) (left at : ℕ) (w v : World) (x : CodeValue.Value) : Type 0 where
  pub kept : Kept w v
  pub runs : (u : Setup e) (y : Inline) (f : ℕ) → inline left e.store at ≡ got y f
      → (n : ℕ) (t : Trail) → Here e w 0 n t → Runs (resolve_inline (setting_of e u) (find_of e u) (cross_of e u n) t y) w v
  pub holds : (u : Setup e) (y : Inline) (f : ℕ) → inline left e.store at ≡ got y f
      → (n : ℕ) (t : Trail) → Here e w 0 n t → (L : Limits) (s : State) (k : Machine) → Live L w s k → (refused_of v.st) ≡ 0
      → Holds e.store e.given.args v.work v.st.back x (resolve_inline (setting_of e u) (find_of e u) (cross_of e u n) t y s).value

-- a select, past its tag, whose parts nest at most `left` deep
pub record SelectAt (e : Env) (left at : ℕ) (w v : World) : Type 0 where
  pub kept : Kept w v
  pub runs : (u : Setup e) (x : Expression) (f : ℕ) → select_at (expression left) (inline left) e.store at ≡ got x f
      → (n : ℕ) (t : Trail) → Here e w 0 n t → Runs (write_expression (setting_of e u) (find_of e u) (cross_of e u n) t x) w v

-- `track`: the pattern at q, for the reference at `at`
pub record TrackAt (e : Env) (at q : ℕ) (w v : World) : Type 0 where
  pub kept : Kept w v
  pub runs : (u : Setup e) (d : ℕ) (y : Inline) (f : ℕ) → inline d e.store at ≡ got y f → (p : Pattern) (g : ℕ) → entry_pattern_at e.store q ≡ got p g
      → (n : ℕ) (t : Trail) → Here e w 0 n t → Runs (track (cross_of e u n) t (error_text y) p) w v

-- a message reference at `at`
pub record MessageAt (e : Env) (at : ℕ) (w v : World) : Type 0 where
  pub kept : Kept w v
  pub runs : (u : Setup e) (d : ℕ) (i : Bytes) (a : Option Bytes) (f : ℕ) → inline d e.store at ≡ got (Inline.message i a) f
      → (n : ℕ) (t : Trail) → Here e w 0 n t → Runs (write_message (cross_of e u n) t (find_of e u) i a) w v

-- the term that the reference at `at` names, its arguments known
pub record FoundTermAt (e : Env) (at : ℕ) (w v : World) : Type 0 where
  pub kept : Kept w v
  pub runs : (u : Setup e) (d : ℕ) (i : Bytes) (a : Option Bytes) (r : Arguments) (f : ℕ) → inline d e.store at ≡ got (Inline.term i a r) f
      → (n : ℕ) (t : Trail) → Here e w 0 n t → Runs (look_up (find_of e u) i >>= λ o. term_found (cross_of e u n) t i a (as_term o)) w v

-- a term reference at `at`, whose arguments nest at most `left` deep
pub record TermAt (e : Env) (left at : ℕ) (w v : World) : Type 0 where
  pub kept : Kept w v
  pub runs : (u : Setup e) (i : Bytes) (a : Option Bytes) (r : Arguments) (f : ℕ) → inline (suc left) e.store at ≡ got (Inline.term i a r) f
      → (n : ℕ) (t : Trail) → Here e w 0 n t
      → Runs (release (term_arguments (setting_of e u) (find_of e u) (cross_of e u n) t r >>= λ g. write_term (cross_of e u n) t (find_of e u) i a g.named)) w v

-- the values of positional arguments, one after the other
unfoldable pub positional_values : Setting → Find → (Pattern → Trail → M Done) → Trail → Inlines → M (List Value)
positional_values st find cross trail no_inline = ret []
positional_values st find cross trail (and x xs) = resolve_inline st find cross trail x >>= λ v. (positional_values st find cross trail xs >>= λ vs. ret (v ∷ vs))

-- the positional arguments at `at`: their count, then each
pub record PositionalAt (e : Env) (left at : ℕ) (w v : World) (first : CodeValue.Value) (end : ℕ) : Type 0 where
  pub kept : Kept w v
  pub runs : (u : Setup e) (k c : ℕ) (xs : Inlines) (f : ℕ) → number_at 2 e.store at ≡ got k c → inlines_at (inline left) k e.store c ≡ got xs f
      → (n : ℕ) (t : Trail) → Here e w 0 n t → Runs (positional_values (setting_of e u) (find_of e u) (cross_of e u n) t xs) w v
  pub ends : (k c : ℕ) (xs : Inlines) (f : ℕ) → number_at 2 e.store at ≡ got k c → inlines_at (inline left) k e.store c ≡ got xs f → end ≡ f
  pub first_is : (u : Setup e) (k c : ℕ) (xs : Inlines) (f : ℕ) → number_at 2 e.store at ≡ got k c → inlines_at (inline left) k e.store c ≡ got xs f
      → (n : ℕ) (t : Trail) → Here e w 0 n t → (L : Limits) (s : State) (m : Machine) → Live L w s m → (refused_of v.st) ≡ 0
      → FirstIs first (positional_values (setting_of e u) (find_of e u) (cross_of e u n) t xs s).value

-- the same, where the first value is not kept
abbrev pub PassedAt : Env → ℕ → ℕ → World → World → ℕ → Type 0
PassedAt e left at w v end = (first : CodeValue.Value) × PositionalAt e left at w v first end

-- a call, its Id at `at`, whose arguments nest at most `left` deep
pub record CalledAt (e : Env) (left at : ℕ) (w v : World) (found : Bool) (c : CodeValue.Value) : Type 0 where
  pub kept : Kept w v
  pub runs : (u : Setup e) (i : Bytes) (p : ℕ) (xs : Inlines) (ns : Named) (f : ℕ) → id_at e.store at ≡ got i p → arguments_at (inline left) e.store p ≡ got (xs, ns) f
      → (n : ℕ) (t : Trail) → Here e w 0 n t
      → Runs (release (get_arguments (setting_of e u) (find_of e u) (cross_of e u n) t xs ns >>= λ g. call_function (find_of e u) i g)) w v
  pub result : (u : Setup e) (i : Bytes) (p : ℕ) (xs : Inlines) (ns : Named) (f : ℕ) → id_at e.store at ≡ got i p → arguments_at (inline left) e.store p ≡ got (xs, ns) f
      → (n : ℕ) (t : Trail) → Here e w 0 n t → (L : Limits) (s : State) (m : Machine) → Live L w s m → (refused_of v.st) ≡ 0
      → ResultIs e.store e.given.args v.work v.st.back found c
      (release (get_arguments (setting_of e u) (find_of e u) (cross_of e u n) t xs ns >>= λ g. call_function (find_of e u) i g) s).value

-- a message, a term or an inline placeable as a text of its own
pub record TextValueAt (e : Env) (left at : ℕ) (w v : World) (x : CodeValue.Value) : Type 0 where
  pub kept : Kept w v
  pub runs : (u : Setup e) (y : Inline) (f : ℕ) → inline left e.store at ≡ got y f
      → (n : ℕ) (t : Trail) → Here e w 0 n t → Runs (held (capture (write_inline (setting_of e u) (find_of e u) (cross_of e u n) t y))) w v
  pub holds : (u : Setup e) (y : Inline) (f : ℕ) → inline left e.store at ≡ got y f
      → (n : ℕ) (t : Trail) → Here e w 0 n t → (L : Limits) (s : State) (k : Machine) → Live L w s k → (refused_of v.st) ≡ 0
      → Holds e.store e.given.args v.work v.st.back x (held (capture (write_inline (setting_of e u) (find_of e u) (cross_of e u n) t y)) s).value

-- the same, where its tag is known, and that it is one of these
abbrev pub TextAt : Env → ℕ → ℕ → ℕ → ℕ → World → World → CodeValue.Value → Type 0
TextAt e left at tag p w v x = byte_at e.store at ≡ got tag p → text_tag tag ≡ true → TextValueAt e left at w v x

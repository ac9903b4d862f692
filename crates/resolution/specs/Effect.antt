-- What resolution does, in order: its effects, the state that it threads, and the actions that it is made of.
use Rattle.std.specs.Prelude.{List, [], ◌∷◌, ◌++◌, Bool, true, false, ℕ, suc, ◌+◌, length, ltb}
use Rattle.std.proofs.Math.Option.{Option}
use Rattle.numbers.specs.Value.{Value}
use Rattle.records.specs.Errors.{Error, too_many_placeables}

abbrev pub Bytes : Type 0
Bytes = List ℕ

-- Text written; an error listed (`Scope::add_error`); a placeable begun; its expression started on; a lookup of an id with no entry of any kind;
-- a workspace text opened at the front; that text finished, and moved to the back; bytes freed at the back; a minimumFractionDigits merged.
pub data Effect : Type 0 where
  put : Bytes → Effect
  report : Error → Effect
  begin expand unfound open_text keep_text : Effect
  free merged : ℕ → Effect

abbrev pub Trace : Type 0
Trace = List Effect

-- `Scope::local_args`: the named arguments of the term that is being written
abbrev pub Locals : Type 0
Locals = Option (List (Bytes × Value))

-- the parts of the Rust's Scope that change: `placeables`, `dirty`, `local_args`
pub record State : Type 0 where
  pub begun : ℕ
  pub dirty : Bool
  pub locals : Locals

-- What an action gives: its effects in order, the text that it wrote at its own level, the bytes that it left at the workspace's back, the state
-- afterwards, and a value.
pub record Out (A : Type 0) : Type 0 where
  pub trace : Trace
  pub text : Bytes
  pub kept : ℕ
  pub state : State
  pub value : A

abbrev pub M : Type 0 → Type 0
M A = State → Out A

abbrev pub Done : Type 0
Done = Unit {0}

unfoldable pub ret : {A : Type 0} → A → M A
ret a s = record { trace = []; text = []; kept = 0; state = s; value = a }

-- one action, then another
infixl 10 ◌>>=◌
infixl 10 ◌>>◌
unfoldable pub ◌>>=◌ : {A B : Type 0} → M A → (A → M B) → M B
◌>>=◌ m f s =
    let r = m s in
    let q = f r.value r.state in
    record { trace = r.trace ++ q.trace; text = r.text ++ q.text; kept = r.kept + q.kept; state = q.state; value = q.value }

unfoldable pub ◌>>◌ : {A B : Type 0} → M A → M B → M B
◌>>◌ m f = m >>= λ x. f

-- an effect that changes no state
unfoldable pub emit : Effect → M Done
emit e s = record { trace = e ∷ []; text = []; kept = 0; state = s; value = tt }

-- `w.write_str`
unfoldable pub write : Bytes → M Done
write b s = record { trace = put b ∷ []; text = b; kept = 0; state = s; value = tt }

unfoldable pub is_dirty : M Bool
is_dirty s = record { trace = []; text = []; kept = 0; state = s; value = s.dirty }

unfoldable pub get_locals : M Locals
get_locals s = record { trace = []; text = []; kept = 0; state = s; value = s.locals }

unfoldable pub set_locals : Locals → M Done
set_locals l s = record { trace = []; text = []; kept = 0; state = record { begun = s.begun; dirty = s.dirty; locals = l }; value = tt }

-- the Rust's MAX_PLACEABLES
unfoldable pub max_placeables : ℕ
max_placeables = 100

-- A placeable is reached: is it expanded? By whether the scope is dirty, and whether fewer than 100 were begun. "One is begun each time resolution
-- reaches it while no 101st was begun"; the 101st lists TooManyPlaceables and makes the scope dirty.
unfoldable pub enter_if : Bool → Bool → M Bool
enter_if true few s = record { trace = []; text = []; kept = 0; state = s; value = false }
enter_if false true s =
    record { trace = begin ∷ []; text = []; kept = 0; state = record { begun = suc s.begun; dirty = false; locals = s.locals }; value = true }
enter_if false false s =
    record { trace = begin ∷ report too_many_placeables ∷ []; text = []; kept = 0; state = record { begun = suc s.begun; dirty = true; locals = s.locals }; value = false }

unfoldable pub enter : M Bool
enter s = enter_if s.dirty (ltb s.begun max_placeables) s

unfoldable pub only_if : Bool → M Done → M Done
only_if true m = m
only_if false m = ret tt

-- A placeable: what is done before its expression is started on, and then ("expanded if resolving its expression then starts").
unfoldable pub entered : M Done → M Done → M Done
entered before m = enter >>= λ go. only_if go (before >> (emit expand >> m))

-- a text of its own, in the workspace: "once made, it moves to the back"
unfoldable pub capture : M Done → M Bytes
capture m s =
    let r = m s in
    record { trace = open_text ∷ r.trace ++ (keep_text ∷ []); text = []; kept = r.kept + length r.text; state = r.state; value = r.text }

-- what m left at the workspace's back is freed where m ends
unfoldable pub release : {A : Type 0} → M A → M A
release m s =
    let r = m s in
    record { trace = r.trace ++ (free r.kept ∷ []); text = r.text; kept = 0; state = r.state; value = r.value }

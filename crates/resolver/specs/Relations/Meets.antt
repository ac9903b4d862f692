-- What the code's buffers and state say of the definition's machine and state, and what it is for the code to run an action.
use Rattle.state.specs.Progress.{refused_of}
use Rattle.std.specs.Prelude.{◌≡◌, List, [], ◌∷◌, ◌++◌, Bool, true, false, ℕ, ◌+◌, ◌-◌, ◌≤◌, min, length, take, drop, ltb}
use Rattle.std.proofs.Math.Option.{none, some}
use Rattle.numbers.specs.Number.{Number, literal, in_range}
use Rattle.numbers.specs.Value.{Value, textual, numeric, nothing, wrong}
use Rattle.decimals.specs.Relations.Shown.{shown, told}
use Rattle.decimals.specs.Text.{ranged_text}
use Rattle.unescape.specs.Unescape.{unescape, has_backslash}
use Rattle.records.specs.Got.{got}
use Rattle.records.specs.Bytes.{part}
use Rattle.records.specs.Tree.{Literal, Named, Pattern}
use Rattle.records.specs.Decode.{many, named_at}
use Rattle.records.specs.Images.{Store, Argument, store_of}
use Rattle.order.specs.Accepted.{accepted, judge}
use Rattle.records.specs.Errors.{enc_error}
use Rattle.records.specs.Encode.{enc_all}
use Rattle.entries.specs.Lookup.{Find, find_in}
unfoldable pub use Rattle.trail.specs.Relations.Trail.{prefixed, pattern_bytes, trail_of}
use Rattle.state.specs.declared.Progress.{Progress}
use Rattle.values.specs.declared.Value as CodeValue
use Rattle.values.specs.declared.Value.TheVariants as val
use Rattle.arguments.specs.Relations.Given.{between}
use Rattle.arguments.specs.Relations.Places.{Noted}
use Rattle.state.specs.Setters.{max_unfound}
use Rattle.resolution.specs.Effect.{Bytes, Locals, State, Out, M, Done}
use Rattle.resolution.specs.Resolve.{Setting, Trail, resolve}
use Rattle.resolution.specs.Exec.{Machine, Limits, ran, refused, exec}
use Rattle.resolution.specs.Format.{values_of}

-- what the code works on: the store, the three buffers, the positions of the patterns being resolved, and the state
pub record World : Type 0 where
  pub store : List ℕ
  pub text : List ℕ
  pub list : List ℕ
  pub work : List ℕ
  pub trail : List ℕ
  pub st : Progress

abbrev pub world : List ℕ → List ℕ → List ℕ → List ℕ → List ℕ → Progress → World
world i t l w r s = record { store = i; text = t; list = l; work = w; trail = r; st = s }

-- the bytes that a literal takes at the workspace's back: those of its text, where it has a backslash
unfoldable pub takes_if : Bool → List ℕ → ℕ
takes_if true s = length (unescape s)
takes_if false s = 0

unfoldable pub takes : Literal → ℕ
takes (Literal.string s) = takes_if (has_backslash s) s
takes (Literal.number s) = 0

-- the value of a literal
unfoldable pub literal_text : Literal → Value
literal_text (Literal.string s) = textual (unescape s)
literal_text (Literal.number n) = numeric (literal n)

-- the values of named arguments
unfoldable pub named_texts : Named → List (Bytes × Value)
named_texts [] = []
named_texts (a ∷ l) = (a.0, literal_text a.1) ∷ named_texts l

-- the text of a literal with a backslash lies in the workspace, up to `base`
unfoldable pub TextIn : List ℕ → ℕ → Literal → Type 0
TextIn w base (Literal.string s) = has_backslash s ≡ true → part w (base - takes (Literal.string s)) (takes (Literal.string s)) ≡ unescape s
TextIn w base (Literal.number s) = Unit {0}

-- the texts of named arguments lie in the workspace, one below the other from `base` down to `low`
pub data NamedIn (w : List ℕ) (low : ℕ) : ℕ → Named → Type 0 where
  named_none : {base : ℕ} → low ≤ base → base ≤ length w → NamedIn w low base []
  named_more : {base : ℕ} {a : List ℕ × Literal} {l : Named} → takes a.1 ≤ base → base ≤ length w → TextIn w base a.1 → NamedIn w low (base - takes a.1) l → NamedIn w low base (a ∷ l)

-- the term's arguments, as the state says: none, or named ones in the store whose texts lie at the workspace's back
pub data LocalsAt (w : World) (l : Locals) : Type 0 where
  no_locals : w.st.local ≡ false → l ≡ none → LocalsAt w l
  some_locals : (ns : Named) (f low : ℕ) → w.st.local ≡ true → many [] ◌∷◌ w.st.local_count named_at w.store w.st.local_at ≡ got ns f
      → l ≡ some (named_texts ns) → w.st.back ≤ low → NamedIn w.work low w.st.local_base ns → LocalsAt w l

-- the world is at the machine k, and at the state s of the resolution
pub record Live (L : Limits) (w : World) (s : State) (k : Machine) : Type 0 where
  pub go : (refused_of w.st) ≡ 0
  pub text_len : length w.text ≡ L.text_len
  pub list_len : length w.list ≡ L.list_len
  pub work_len : length w.work ≡ L.work_len
  pub trail_len : length w.trail ≡ 102
  pub text_in : w.st.text_at ≤ length w.text
  pub header_in : 5 ≤ w.st.list_at
  pub list_in : w.st.list_at ≤ length w.list
  pub list_u32 : w.st.list_at ≤ 4294967295
  pub front_in : w.st.front ≤ w.st.back
  pub back_in : w.st.back ≤ length w.work
  pub written : k.written ≡ take w.st.text_at w.text
  pub listed : enc_all enc_error k.errors ≡ part w.list 5 (w.st.list_at - 5)
  pub errors : w.st.errors ≡ length k.errors
  pub nest : w.st.aside ≡ ltb 0 k.nest
  pub uses : k.used ≡ w.st.front + (length w.work - w.st.back)
  pub high : k.high ≡ w.st.high
  pub unfounds : w.st.unfound ≡ min k.unfounds max_unfound
  pub begun : s.begun ≡ w.st.begun
  pub machine_begun : k.begun ≡ w.st.begun
  pub dirty : s.dirty ≡ w.st.dirty
  pub few : s.dirty ≡ false → s.begun ≤ 100
  pub most : s.begun ≤ 101
  pub locals : LocalsAt w s.locals

unfoldable pub if_aside : Bool → Bytes → Bytes
if_aside true t = t
if_aside false t = []

-- what becomes of the term's arguments in the state: they stay, or are cleared
pub data LocalsStay (a b : Progress) : Type 0 where
  locals_same : b.local ≡ a.local → b.local_at ≡ a.local_at → b.local_count ≡ a.local_count → b.local_base ≡ a.local_base → LocalsStay a b
  locals_cleared : b.local ≡ false → LocalsStay a b

-- text and list only grow, and their bytes past what is written are as before
pub record Outs (w v : World) : Type 0 where
  pub text_up : w.st.text_at ≤ v.st.text_at
  pub list_up : w.st.list_at ≤ v.st.list_at
  pub text_rest : drop v.st.text_at v.text ≡ drop v.st.text_at w.text
  pub list_rest : drop v.st.list_at v.list ≡ drop v.st.list_at w.list

-- what the workspace and the trail keep, where an action gave r
pub record Moved {A : Type 0} (w v : World) (r : Out A) : Type 0 where
  pub store : v.store ≡ w.store
  pub front : take v.st.front v.work ≡ take w.st.front w.work ++ if_aside w.st.aside r.text
  pub back : v.st.back + r.kept ≡ w.st.back
  pub rest : drop w.st.back v.work ≡ drop w.st.back w.work
  pub aside : v.st.aside ≡ w.st.aside
  pub depth : v.st.depth ≡ w.st.depth
  pub trail : (store : List ℕ) → trail_of store v.trail v.st.depth ≡ trail_of store w.trail w.st.depth
  pub stay : LocalsStay w.st v.st
  pub outs : Outs w v

-- from w at the machine k, an action that gave r ended in v: at the machine that its trace leads to, or refused as the trace is
pub data Ended {A : Type 0} (L : Limits) (w v : World) (r : Out A) (k : Machine) : Type 0 where
  ended : (k' : Machine) → exec L r.trace k ≡ ran k' → Live L v r.state k' → k'.nest ≡ k.nest → Moved w v r → Ended L w v r k
  stopped : (n : ℕ) → exec L r.trace k ≡ refused n → (n ≡ 0 → ⊥) → (refused_of v.st) ≡ n → Ended L w v r k

abbrev pub Runs : {A : Type 0} → M A → World → World → Type 0
Runs m w v = (L : Limits) (s : State) (k : Machine) → Live L w s k → Ended L w v (m s) k

-- what holds of every step: what was begun stays so, and what was refused
pub record Kept (w v : World) : Type 0 where
  pub begun : w.st.begun ≤ v.st.begun
  pub over : ((refused_of w.st) ≡ 0 → ⊥) → (refused_of v.st) ≡ (refused_of w.st)

-- w becomes v as the action says
pub record Acts {A : Type 0} (m : M A) (w v : World) : Type 0 where
  pub kept : Kept w v
  pub runs : Runs m w v

-- where a value lies: its text in the store, in the arguments or in the workspace, not below `low`, or a number as the code holds it
pub data Holds (i a w : List ℕ) (low : ℕ) (c : CodeValue.Value) (v : Value) : Type 0 where
  in_store : (b e : ℕ) → c ≡ val.Store b e → b ≤ e → e ≤ length i → v ≡ textual (part i b (e - b)) → Holds i a w low c v
  in_args : (b e : ℕ) → c ≡ val.Args b e → b ≤ e → e ≤ length a → v ≡ textual (part a b (e - b)) → Holds i a w low c v
  in_work : (b e : ℕ) → c ≡ val.Work b e → low ≤ b → b ≤ e → e ≤ length w → v ≡ textual (part w b (e - b)) → Holds i a w low c v
  a_number : (n : Number) → c ≡ val.Number (shown n) → in_range n ≡ true → v ≡ numeric n → Holds i a w low c v
  is_nothing : c ≡ val.Nothing → v ≡ nothing → Holds i a w low c v
  a_wrong : c ≡ val.Wrong → v ≡ wrong → Holds i a w low c v

-- a value's text as a part of the store or of the arguments; empty where it has none in either
unfoldable pub text_inside : List ℕ → List ℕ → CodeValue.Value → List ℕ
text_inside i a (val.Store b e) = between i b e
text_inside i a (val.Args b e) = between a b e
text_inside i a (val.Work b e) = []
text_inside i a (val.Number n) = []
text_inside i a val.Nothing = []
text_inside i a val.Wrong = []

-- the bytes that are written for a value: its text in the workspace, a number's text, or its text as a part of the store or of the arguments
unfoldable pub bytes_of : List ℕ → List ℕ → List ℕ → CodeValue.Value → List ℕ
bytes_of i a w (val.Store b e) = text_inside i a (val.Store b e)
bytes_of i a w (val.Args b e) = text_inside i a (val.Args b e)
bytes_of i a w (val.Work b e) = between w b e
bytes_of i a w (val.Number n) = ranged_text (told n)
bytes_of i a w val.Nothing = text_inside i a val.Nothing
bytes_of i a w val.Wrong = text_inside i a val.Wrong

-- the value that the code holds
unfoldable pub held_value : List ℕ → List ℕ → List ℕ → CodeValue.Value → Value
held_value i a w (val.Store b e) = textual (between i b e)
held_value i a w (val.Args b e) = textual (between a b e)
held_value i a w (val.Work b e) = textual (between w b e)
held_value i a w (val.Number n) = numeric (told n)
held_value i a w val.Nothing = nothing
held_value i a w val.Wrong = wrong

-- an arguments image, and the places of its arguments
pub record Lent : Type 0 where
  pub args : List ℕ
  pub places : List ℕ

-- the two, as they are lent
abbrev pub lent : List ℕ → List ℕ → Lent
lent a p = record { args = a; places = p }

-- what is read, and what the definition makes of it
pub record Env : Type 0 where
  pub store : List ℕ
  pub given : Lent

abbrev pub env : List ℕ → Lent → Env
env i g = record { store = i; given = g }

pub record Setup (e : Env) : Type 0 where
  pub held : Store
  pub used : ℕ
  pub held_at : store_of e.store ≡ got held used
  pub given : List (List ℕ × Argument)
  pub given_at : judge e.given.args ≡ accepted given
  pub noted : Noted e.given.args e.given.places

abbrev pub setting_of : (e : Env) → Setup e → Setting
setting_of e u = record { locale = u.held.locale; isolating = u.held.isolating; arguments = values_of u.given }

abbrev pub find_of : (e : Env) → Setup e → Find
find_of e u i = find_in u.held.items i

abbrev pub cross_of : (e : Env) → Setup e → ℕ → Pattern → Trail → M Done
cross_of e u n p t = resolve (setting_of e u) (find_of e u) n p t

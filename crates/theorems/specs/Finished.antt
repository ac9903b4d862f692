-- What is said of a formatting that finished: its parts and the machine that its run led to, the errors of a trace, and the placeables.
use Rattle.std.specs.Prelude.{◌≡◌, List, [], ◌∷◌, ◌++◌, true, ◌&&◌, ℕ, ◌+◌, ◌≤◌, min, length, take, leb}
use Rattle.std.proofs.Math.Option.{Option, some}
use Rattle.records.specs.Got.{got}
use Rattle.records.specs.Bytes.{be}
use Rattle.rules.specs.Rules.{is_id}
use Rattle.records.specs.Tree.{Pattern}
use Rattle.records.specs.Images.{Entry, Store, Argument, store_of}
use Rattle.order.specs.Accepted.{accepted, judge}
use Rattle.records.specs.Errors.{Error, overriding, reference, no_value, missing_default, cyclic, too_many_placeables, enc_errors, list_header}
use Rattle.entries.specs.Lookup.{Find, find_in, part_of}
use Rattle.growth.specs.Items.{at_front}
use Rattle.resolution.specs.Effect.{Bytes, Effect, put, report, begin, expand, unfound, open_text, keep_text, free, merged, Trace, Out, Done}
use Rattle.resolution.specs.Resolve.{Setting, bytes_of, as_message, resolve}
use Rattle.resolution.specs.Exec.{Machine, ran}
use Rattle.resolution.specs.Format.{Answer, finished, refused_before, refused_running, Buffers, values_of, limits_of, is_id_or_none, max_patterns, fresh, zeros, run_pattern, format}

-- the errors that a trace reports, in order
abbrev pub reported : Effect → List Error
reported (put b) = []
reported (report e) = e ∷ []
reported begin = []
reported expand = []
reported unfound = []
reported open_text = []
reported keep_text = []
reported (free n) = []
reported (merged n) = []

abbrev pub reports : Trace → List Error
reports [] = []
reports (e ∷ t) = reported e ++ reports t

-- the trace of a formatting's pattern
abbrev pub trace_of : Setting → Find → Pattern → Trace
trace_of st find p = (resolve st find max_patterns p (bytes_of p ∷ []) fresh).trace

-- how often TooManyPlaceables is in a list
abbrev pub is_too_many : Error → ℕ
is_too_many (overriding k i) = 0
is_too_many (reference k i a) = 0
is_too_many (no_value i) = 0
is_too_many missing_default = 0
is_too_many cyclic = 0
is_too_many too_many_placeables = 1

abbrev pub too_many_in : List Error → ℕ
too_many_in [] = 0
too_many_in (e ∷ es) = is_too_many e + too_many_in es

-- The number expanded is the number begun, or 100 if that is 101; TooManyPlaceables is listed exactly when a 101st was begun, then once.
pub record Placeables (m : Machine) : Type 0 where
  pub expanded : m.expanded ≡ min m.begun 100
  pub few : m.begun ≤ 101
  pub once : m.begun ≡ 101 → too_many_in m.errors ≡ 1
  pub never : m.begun ≤ 100 → too_many_in m.errors ≡ 0

-- what a bundle and the arguments set for a formatting
abbrev pub setting_of : Store → List (Bytes × Argument) → Setting
setting_of store args = record { locale = store.locale; isolating = store.isolating; arguments = values_of args }

-- a formatting that reaches its run: every test before it passes
pub record Reached (s : Bytes) (id : Bytes) (a : Option Bytes) (image : Bytes) (b : Buffers) : Type 0 where
  pub store : Store
  pub store_end : ℕ
  pub stored : store_of s ≡ got store store_end
  pub ids : is_id id && is_id_or_none a ≡ true
  pub entry : Entry
  pub found : as_message (find_in store.items id) ≡ some entry
  pub part : Pattern
  pub has : part_of a entry ≡ some part
  pub arguments : List (Bytes × Argument)
  pub given : judge image ≡ accepted arguments
  pub header : leb list_header (length b.list) ≡ true

-- a formatting that finishes: it reaches its run, and the run leads to a machine
pub record Finished (s : Bytes) (id : Bytes) (a : Option Bytes) (image : Bytes) (b : Buffers) : Type 0 where
  pub reached : Reached s id a image b
  pub machine : Machine
  pub runs : run_pattern (setting_of reached.store reached.arguments) (find_in reached.store.items) (limits_of b) reached.part ≡ ran machine

-- the five numbers of an answer are those of a machine
pub record Says (m : Machine) (t e k u w : ℕ) : Type 0 where
  pub text : t ≡ length m.written
  pub errors : e ≡ length m.errors
  pub begun : k ≡ m.begun
  pub unfound : u ≡ m.unfounds
  pub work : w ≡ m.high

-- the bytes of an error list, up to the length that its header states
unfoldable pub list_of : Bytes → Bytes
list_of l = take (be (take 4 l)) l

-- what resolution gives for a formatting that finishes
abbrev pub out_of : {s id : Bytes} {a : Option Bytes} {image : Bytes} {b : Buffers} → Finished s id a image b → Out Done
out_of f = resolve (setting_of f.reached.store f.reached.arguments) (find_in f.reached.store.items) max_patterns f.reached.part (bytes_of f.reached.part ∷ []) fresh

-- What is so of every formatting that answers finished with five numbers: it has its parts; the numbers are its machine's; the text is what
-- resolution wrote; the list is that of the errors that resolution reported, in order, and its header states its length; the workspace is zero;
-- placeables.
pub record Sound (s : Bytes) (id : Bytes) (a : Option Bytes) (image : Bytes) (b : Buffers) (t e k u w : ℕ) : Type 0 where
  pub parts : Finished s id a image b
  pub says : Says parts.machine t e k u w
  pub text : (format s id a image b).buffers.text ≡ at_front (out_of parts).text b.text
  pub list : (format s id a image b).buffers.list ≡ at_front (enc_errors (reports (out_of parts).trace)) b.list
  pub listed : list_of (format s id a image b).buffers.list ≡ enc_errors (reports (out_of parts).trace)
  pub work : (format s id a image b).buffers.work ≡ zeros b.work
  pub errors : parts.machine.errors ≡ reports (out_of parts).trace
  pub placeables : Placeables parts.machine

-- each buffer as long as it was
pub record Sized (b b' : Buffers) : Type 0 where
  pub text : length b'.text ≡ length b.text
  pub list : length b'.list ≡ length b.list
  pub work : length b'.work ≡ length b.work

-- the refusals that change nothing, and those that the run meets
pub data Before : ℕ → Type 0 where
  store : Before 4
  ids : Before 8
  message : Before 11
  part : Before 12
  arguments : Before 13
  order : Before 19
  header : Before 7

pub data Running : ℕ → Type 0 where
  text : Running 15
  list : Running 7
  work : Running 16
  merge : Running 17

-- each refusal in its place
abbrev pub Numbered : Answer → Type 0
Numbered (finished t e k u w) = Unit {0}
Numbered (refused_before n) = Before n
Numbered (refused_running n) = Running n

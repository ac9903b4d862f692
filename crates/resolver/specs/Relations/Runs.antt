-- The parts of a formatting: the message that is found, the run, and what the buffers hold in the end.
use Rattle.state.specs.Progress.{refused_of}
use Rattle.std.specs.Prelude.{◌≡◌, Bool, true, false, ℕ, ◌-◌, ◌≤◌, ◌<◌, ◌%◌, min, length, take, drop, eqb, Result, Ok, Err}
use Rattle.std.proofs.Math.Option.{Option, none, some}
use Rattle.records.specs.Got.{got}
use Rattle.records.specs.Bytes.{part}
use Rattle.records.specs.Tree.{Pattern}
use Rattle.records.specs.Decode.{entry_pattern_at}
use Rattle.records.specs.Images.{Entry, Store, store_of}
use Rattle.order.specs.Accepted.{judge}
use Rattle.records.specs.Encode.{enc_all}
use Rattle.records.specs.Errors.{enc_error}
use Rattle.texts.specs.Relations.Report.{headed}
use Rattle.entries.specs.Lookup.{find_in, part_of}
use Rattle.entries.specs.Outline.{Location, part_in, locate}
use Rattle.resolution.specs.Effect.{Bytes}
use Rattle.resolution.specs.Resolve.{as_message}
use Rattle.resolution.specs.Exec.{Machine, Ran, ran, refused, exec}
use Rattle.resolution.specs.Format.{Answer, finished, refused_before, refused_running, Buffers, Formatted, limits_of, zeros, refuse, format_arguments, format}
use Rattle.theorems.specs.Finished.{trace_of}
use Rattle.state.specs.declared.Progress.{Progress}
use Rattle.refusals.specs.declared.Refusal.{Refusal}
use Rattle.refusals.specs.declared.Refusal.TheVariants as refusal
use Rattle.refusals.specs.Numbers.{number_of}
use Rattle.resolver.specs.Relations.Meets.{Env, Setup, setting_of, find_of}
use Rattle.state.specs.Setters.{max_unfound}

-- the same with a count of lookups unfound that stops at 2^64 - 1, as the code counts; no store reaches that
unfoldable pub stopped_of : Answer → Answer
stopped_of (finished t e b u w) = finished t e b (min u max_unfound) w
stopped_of (refused_before n) = refused_before n
stopped_of (refused_running n) = refused_running n

unfoldable pub stopped : Formatted → Formatted
stopped f = record { answer = stopped_of f.answer; buffers = f.buffers }

-- where a pattern stands in the store, or the refusal
abbrev pub Part : Type 0
Part = Result ℕ Refusal

-- the part of an entry by its position, or 12
unfoldable pub part_answer : Option ℕ → Part
part_answer none = Err refusal.NoPattern
part_answer (some q) = Ok q

-- the part of the message that an id has, or 11
unfoldable pub message_at : Option Location → Bytes → Option Bytes → Part
message_at (some (Location.message q)) s a = part_answer (part_in a s q)
message_at (some (Location.term q)) s a = Err refusal.NoMessage
message_at (some Location.function) s a = Err refusal.NoMessage
message_at none s a = Err refusal.NoMessage

unfoldable pub message_in : Bytes → Bytes → Option Bytes → Part
message_in s id a = message_at (locate s id) s a

-- the same of a store that was read: 11, 12, or the pattern that is asked for
pub data MessageFound (s : Bytes) (v : Store) (id : Bytes) (a : Option Bytes) (r : Part) : Type 0 where
  no_message : r ≡ Err refusal.NoMessage → as_message (find_in v.items id) ≡ none → MessageFound s v id a r
  no_such_part : (e : Entry) → r ≡ Err refusal.NoPattern → as_message (find_in v.items id) ≡ some e → part_of a e ≡ none → MessageFound s v id a r
  pattern_found : (e : Entry) (q : ℕ) (p : Pattern) (f : ℕ) → r ≡ Ok q → as_message (find_in v.items id) ≡ some e → part_of a e ≡ some p
      → entry_pattern_at s q ≡ got p f → MessageFound s v id a r

-- the pattern that is asked for, by its position, or the refusal before the run: 4, 8, 11, 12
pub data PatternFound (s id : Bytes) (a : Option Bytes) (r : Part) : Type 0 where
  refuses : (n : Refusal) → r ≡ Err n → ((image : Bytes) (b : Buffers) → format s id a image b ≡ refuse (number_of n) b) → PatternFound s id a r
  finds : (q : ℕ) (st : Store) (used : ℕ) (p : Pattern) (f : ℕ) → r ≡ Ok q → store_of s ≡ got st used → entry_pattern_at s q ≡ got p f
      → ((image : Bytes) (b : Buffers) → format s id a image b ≡ format_arguments st p (judge image) b) → PatternFound s id a r

-- the state and the buffers are at the machine k, and no message is being formatted: no workspace text is open, and nothing is in use
pub record Rests (x l w : Bytes) (p : Progress) (k : Machine) : Type 0 where
  pub go : (refused_of p) ≡ 0
  pub text_in : p.text_at ≤ length x
  pub header_in : 5 ≤ p.list_at
  pub list_in : p.list_at ≤ length l
  pub list_u32 : p.list_at ≤ 4294967295
  pub front : p.front ≡ 0
  pub back : p.back ≡ length w
  pub aside : p.aside ≡ false
  pub written : k.written ≡ take p.text_at x
  pub listed : enc_all enc_error k.errors ≡ part l 5 (p.list_at - 5)
  pub errors : p.errors ≡ length k.errors
  pub nest : k.nest ≡ 0
  pub used : k.used ≡ 0
  pub high : k.high ≡ p.high
  pub unfounds : p.unfound ≡ min k.unfounds max_unfound

-- text and list only grow, and their bytes past what is written are as before
pub record Grown (x l : Bytes) (p : Progress) (x' l' : Bytes) (r : Progress) : Type 0 where
  pub text_up : p.text_at ≤ r.text_at
  pub list_up : p.list_at ≤ r.list_at
  pub text_rest : drop r.text_at x' ≡ drop r.text_at x
  pub list_rest : drop r.list_at l' ≡ drop r.list_at l

-- what the state, the buffers and a number of placeables begun say of a run's outcome
pub data RanAs (o : Ran) (x l : Bytes) (p : Progress) (x' l' w' : Bytes) (r : Progress) (begun : ℕ) : Type 0 where
  ran_as : (m : Machine) → o ≡ ran m → Rests x' l' w' r m → begun ≡ m.begun → Grown x l p x' l' r → RanAs o x l p x' l' w' r begun
  refused_as : (n : ℕ) → o ≡ refused n → (n ≡ 0 → ⊥) → n < 256 → (refused_of r) ≡ n → RanAs o x l p x' l' w' r begun

-- the run of the pattern at q, from a machine at rest with nothing begun
pub record RunOn (e : Env) (q : ℕ) (x l w : Bytes) (p : Progress) (x' l' w' : Bytes) (r : Progress) : Type 0 where
  pub text_size : length x' ≡ length x
  pub list_size : length l' ≡ length l
  pub work_size : length w' ≡ length w
  pub runs : (u : Setup e) (t : Pattern) (f : ℕ) → entry_pattern_at e.store q ≡ got t f → (k : Machine) → k.begun ≡ 0 → Rests x l w p k
      → RanAs (exec (limits_of (record { text = x; list = l; work = w })) (trace_of (setting_of e u) (find_of e u) t) k) x l p x' l' w' r r.begun × ((refused_of r) ≡ 0 → r.begun ≤ 101)

-- what is answered, and what the buffers hold in the end: the list gets its header, or all three are cleared
unfoldable pub closed_if : Bool → Progress → ℕ → Buffers → Formatted
closed_if true p n b = record { answer = finished p.text_at p.errors n p.unfound p.high; buffers = record { text = b.text; list = headed b.list p.list_at; work = zeros b.work } }
closed_if false p n b = record { answer = refused_running (refused_of p % 256); buffers = record { text = zeros b.text; list = zeros b.list; work = zeros b.work } }

unfoldable pub closed : Progress → ℕ → Buffers → Formatted
closed p n b = closed_if (eqb (refused_of p) 0) p n b

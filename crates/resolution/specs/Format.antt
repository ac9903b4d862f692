-- Formatting: document 01, "Format (message id, perhaps an attribute)" and "Success". From the lent slices to the answer and what they hold then.
use Rattle.std.specs.Prelude.{List, [], ◌∷◌, Bool, true, false, ◌&&◌, ℕ, length, replicate, leb}
use Rattle.std.proofs.Math.Option.{Option, none, some}
use Rattle.numbers.specs.Number.{default_options}
use Rattle.numbers.specs.Value.{Value, textual, numeric}
use Rattle.records.specs.Got.{Got, got, bad}
use Rattle.rules.specs.Rules.{is_id}
use Rattle.records.specs.Tree.{Pattern}
use Rattle.records.specs.Images.{Entry, Store, Argument, store_of}
use Rattle.order.specs.Accepted.{Judged, accepted, refused_for, judge}
use Rattle.records.specs.Errors.{enc_errors, list_header}
use Rattle.entries.specs.Lookup.{Find, find_in, part_of}
use Rattle.growth.specs.Items.{at_front}
use Rattle.resolution.specs.Effect.{Bytes, State}
use Rattle.resolution.specs.Resolve.{Setting, bytes_of, as_message, resolve}
use Rattle.resolution.specs.Exec.{Limits, Ran, ran, refused, exec, start}

-- an argument as the Rust's FluentValue: "arguments have none" of the options
unfoldable pub value_of : Argument → Value
value_of (Argument.string t) = textual t
value_of (Argument.number f d k) = numeric (record { negative = f; digits = d; scale = k; options = default_options })
value_of Argument.nothing = Value.nothing

unfoldable pub values_of : List (Bytes × Argument) → List (Bytes × Value)
values_of [] = []
values_of (e ∷ es) = (e.0, value_of e.1) ∷ values_of es

-- "the SmallVec of patterns a fixed array of 102 positions": references nest no deeper
unfoldable pub max_patterns : ℕ
max_patterns = 102

-- nothing begun, not dirty, no term's arguments
unfoldable pub fresh : State
fresh = record { begun = 0; dirty = false; locals = none }

-- a pattern's trace, run against the three lengths
unfoldable pub run_pattern : Setting → Find → Limits → Pattern → Ran
run_pattern st find L p = exec L (resolve st find max_patterns p (bytes_of p ∷ []) fresh).trace start

-- "A formatting's carries text length, error count, placeables begun (0 to 101), unfound and a workspace figure" (exactly the highest use: document 02, Card 8). A
-- refusal before the run changes nothing, one in the run clears the three buffers.
pub data Answer : Type 0 where
  finished : (text errors begun unfound work : ℕ) → Answer
  refused_before refused_running : ℕ → Answer

-- the three buffers that are lent
pub record Buffers : Type 0 where
  pub text : Bytes
  pub list : Bytes
  pub work : Bytes

pub record Formatted : Type 0 where
  pub answer : Answer
  pub buffers : Buffers

unfoldable pub limits_of : Buffers → Limits
limits_of b = record { text_len = length b.text; list_len = length b.list; work_len = length b.work }

unfoldable pub zeros : Bytes → Bytes
zeros b = replicate (length b) 0

-- "all these change nothing"
unfoldable pub refuse : ℕ → Buffers → Formatted
refuse n b = record { answer = refused_before n; buffers = b }

unfoldable pub or_refuse : Bool → ℕ → Buffers → Formatted → Formatted
or_refuse true n b f = f
or_refuse false n b f = refuse n b

-- "Success: text and list at the front, later bytes as before; workspace zero." "These fill text, list and workspace with zeros."
unfoldable pub ended : Ran → Buffers → Formatted
ended (ran m) b = record {
  answer = finished (length m.written) (length m.errors) m.begun m.unfounds m.high;
  buffers = record { text = at_front m.written b.text; list = at_front (enc_errors m.errors) b.list; work = zeros b.work };
}
ended (refused n) b = record { answer = refused_running n; buffers = record { text = zeros b.text; list = zeros b.list; work = zeros b.work } }

-- an absent attribute is an Id enough
unfoldable pub is_id_or_none : Option Bytes → Bool
is_id_or_none none = true
is_id_or_none (some a) = is_id a

-- "7 list buffer under 5 bytes", and then the run
unfoldable pub format_with : Store → Pattern → List (Bytes × Argument) → Buffers → Formatted
format_with store p args b =
    or_refuse (leb list_header (length b.list)) 7 b
    (ended (run_pattern (record { locale = store.locale; isolating = store.isolating; arguments = values_of args }) (find_in store.items) (limits_of b) p) b)

-- "13 malformed arguments", and 19 "directly after 13": what an arguments image is refused with
unfoldable pub format_arguments : Store → Pattern → Judged → Buffers → Formatted
format_arguments store p (refused_for n) b = refuse n b
format_arguments store p (accepted args) b = format_with store p args b

-- "12 no such value or attribute"
unfoldable pub format_part : Store → Option Pattern → Bytes → Buffers → Formatted
format_part store none image b = refuse 12 b
format_part store (some p) image b = format_arguments store p (judge image) b

-- "11 no such message"
unfoldable pub format_entry : Store → Option Entry → Option Bytes → Bytes → Buffers → Formatted
format_entry store none a image b = refuse 11 b
format_entry store (some e) a image b = format_part store (part_of a e) image b

-- "4; 8"
unfoldable pub format_store : Got Store → Bytes → Option Bytes → Bytes → Buffers → Formatted
format_store bad id a image b = refuse 4 b
format_store (got store used) id a image b =
    or_refuse (is_id id && is_id_or_none a) 8 b (format_entry store (as_message (find_in store.items id)) a image b)

-- a formatting: the bundle's slice, a message id, perhaps an attribute, an arguments image, and the three buffers
unfoldable pub format : Bytes → Bytes → Option Bytes → Bytes → Buffers → Formatted
format s id a image b = format_store (store_of s) id a image b

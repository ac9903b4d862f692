-- A sheet's formatting: each message's trace is run on the one machine that the messages before it led to. So text and list go on where they stand,
-- under one header; the counts add up; the highest use is the largest; and whichever refusal comes first is the sheet's.
use Rattle.std.specs.Prelude.{List, [], ◌∷◌, length, leb}
use Rattle.std.proofs.Math.Option.{Option, none, some}
use Rattle.records.specs.Got.{Got, got, bad}
use Rattle.records.specs.Tree.{Pattern}
use Rattle.records.specs.Images.{Entry, Store, store_of}
use Rattle.order.specs.Accepted.{Judged, accepted, refused_for, judge}
use Rattle.records.specs.Errors.{list_header}
use Rattle.entries.specs.Lookup.{find_in, part_of}
use Rattle.resolution.specs.Effect.{Bytes}
use Rattle.resolution.specs.Resolve.{as_message}
use Rattle.resolution.specs.Exec.{Machine, Limits, Ran, ran, refused, exec, and_then, start}
use Rattle.resolution.specs.Format.{Buffers, Formatted, limits_of, refuse, or_refuse, ended}
use Rattle.theorems.specs.Finished.{trace_of, setting_of}
use Rattle.requests.specs.Image.{Request, sheet_of}

-- One message, from a machine on: 13, "what is wrong inside is its message's 13", or 19, "directly after 13", and then its run. "Each message starts with no placeables begun": its
-- trace is that of a formatting, from a fresh state. "The workspace is empty at each message's start": every trace leaves it so.
unfoldable pub run_arguments : Store → Limits → Pattern → Judged → Machine → Ran
run_arguments v L p (refused_for n) m = refused n
run_arguments v L p (accepted args) m = exec L (trace_of (setting_of v args) (find_in v.items) p) m

-- 12, where it has no such value or attribute
unfoldable pub run_part : Store → Limits → Option Pattern → Bytes → Machine → Ran
run_part v L none image m = refused 12
run_part v L (some p) image m = run_arguments v L p (judge image) m

-- 11, where there is no such message
unfoldable pub run_entry : Store → Limits → Option Entry → Option Bytes → Bytes → Machine → Ran
run_entry v L none a image m = refused 11
run_entry v L (some e) a image m = run_part v L (part_of a e) image m

-- a message that a sheet asks for; its Ids were judged with the sheet image, so that it cannot meet 8
unfoldable pub run_message : Store → Limits → Request → Machine → Ran
run_message v L r m = run_entry v L (as_message (find_in v.items r.id)) r.attribute r.image m

-- the messages, one after the other: "The first refusal that a message meets is the sheet's"
unfoldable pub run_sheet : Store → Limits → List Request → Machine → Ran
run_sheet v L [] m = ran m
run_sheet v L (r ∷ rs) m = and_then (run_message v L r m) (λ n. run_sheet v L rs n)

-- "Refusals 4 and 18, and 7 for a list buffer under 5 bytes, come before any message and change nothing." Here 7,
-- and then the messages, from nothing written, listed or begun.
-- A refusal that one of them meets "fills the three buffers with zeros".
unfoldable pub sheet_with : Store → List Request → Buffers → Formatted
sheet_with v rs b = or_refuse (leb list_header (length b.list)) 7 b (ended (run_sheet v (limits_of b) rs start) b)

-- "18 malformed sheet image, directly after 4"
unfoldable pub sheet_read : Store → Got (List Request) → Buffers → Formatted
sheet_read v bad b = refuse 18 b
sheet_read v (got rs e) b = sheet_with v rs b

-- 4, where the bundle is malformed: it is judged once a sheet
unfoldable pub sheet_store : Got Store → Bytes → Buffers → Formatted
sheet_store bad image b = refuse 4 b
sheet_store (got v e) image b = sheet_read v (sheet_of image) b

-- a sheet: the bundle's slice, a sheet image, and the three buffers
unfoldable pub format_sheet : Bytes → Bytes → Buffers → Formatted
format_sheet s image b = sheet_store (store_of s) image b

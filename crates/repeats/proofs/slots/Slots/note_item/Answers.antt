-- `repeats::slots::Slots::note_item` meets its contract: a function's Id, or the ids of a resource's entries.
use Rattle.records.proofs.Views.{num_is, num_none}
use Rattle.repeats.proofs.Notes.{function_noted, function_unread, item_unread, resource_noted, resource_unread}
use Rattle.repeats.proofs.slots.Slots.note_item.Goals as goal

pub returns-in_default : goal.returns-in_default
returns-in_default c = item_unread _ _ _ (num_none c.read_byte.ensures c.in_default.is)

pub returns-in_default-read_str_behind : goal.returns-in_default-read_str_behind
returns-in_default-read_str_behind c =
    let mode = num_is c.read_byte.ensures c.in-Some.is in
    function_unread _ _ _ mode c.if-mode-eq3.true (num_none c.read_str_behind.ensures c.in_default-read_str_behind.is)

pub returns-then-mode-eq3 : goal.returns-then-mode-eq3
returns-then-mode-eq3 c =
    let mode = num_is c.read_byte.ensures c.in-Some.is in
    let span = num_is c.read_str_behind.ensures c.in-Some-read_str_behind.is in
    function_noted _ _ _ mode c.if-mode-eq3.true span c.note.ensures

pub returns-in_default-read_u16_behind : goal.returns-in_default-read_u16_behind
returns-in_default-read_u16_behind c =
    let mode = num_is c.read_byte.ensures c.in-Some.is in
    resource_unread _ _ _ mode c.if-mode-eq3.false (num_none c.read_u16_behind.ensures c.in_default-read_u16_behind.is)

pub returns : goal.returns
returns c =
    let mode = num_is c.read_byte.ensures c.in-Some.is in
    resource_noted _ _ _ mode c.if-mode-eq3.false (num_is c.read_u16_behind.ensures c.in-Some-read_u16_behind.is) c.note_entries.ensures

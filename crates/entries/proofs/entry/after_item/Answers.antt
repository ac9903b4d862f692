-- `entries::entry::after_item` meets its contract: by the item's mode.
use Rattle.entries.proofs.Headers.{resource_bad, resource_start}
use Rattle.entries.proofs.Held.{after_bad, after_empty, after_first, after_function, after_last, or_held}
use Rattle.entries.proofs.entry.after_item.Goals as goal

pub returns-in_default : goal.returns-in_default
returns-in_default c = after_bad _ _ _ c.read_byte.ensures _ c.in_default.is

pub returns-then-mode-eq3 : goal.returns-then-mode-eq3
returns-then-mode-eq3 c = after_function _ _ _ c.read_byte.ensures _ _ _ c.in-Some.is c.if-mode-eq3.true c.function_in.ensures (or_held _ _ c.or.ensures)

pub returns-in_default-read_u16_behind : goal.returns-in_default-read_u16_behind
returns-in_default-read_u16_behind c = after_empty _ _ _ c.read_byte.ensures _ _ _ c.in-Some.is c.if-mode-eq3.false (resource_bad _ _ c.read_u16_behind.ensures c.in_default-read_u16_behind.is)

pub returns-then-mode-eq2 : goal.returns-then-mode-eq2
returns-then-mode-eq2 c = after_last _ _ _ c.read_byte.ensures _ _ _ c.in-Some.is c.if-mode-eq3.false (resource_start _ _ c.read_u16_behind.ensures c.in-Some-read_u16_behind.is) c.if-mode-eq2.true c.find_last.ensures (or_held _ _ c.or-then-mode-eq2.ensures)

pub returns : goal.returns
returns c = after_first _ _ _ c.read_byte.ensures _ _ _ c.in-Some.is c.if-mode-eq3.false (resource_start _ _ c.read_u16_behind.ensures c.in-Some-read_u16_behind.is) c.if-mode-eq2.false c.find_first.ensures (or_held _ _ c.or-2.ensures)

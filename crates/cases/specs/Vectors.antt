-- A few of the oracle's formatting vectors: the bundle's bytes, the arguments image and the answer as they stand there. Text and list are the Rust's own;
-- of the last two, where the Rust panics, they are document 01's. No byte is lent that is not needed.
use Rattle.std.specs.Prelude.{◌≡◌, refl, [], ◌++◌, ℕ, length, replicate}
use Rattle.std.proofs.Math.Option.{none}
use Rattle.resolution.specs.Format.{finished, Formatted, format}
use Rattle.cases.specs.Opened.{opened}
use Rattle.resolution.specs.Case.{⟨, ⟩, filled}
use Rattle.cases.specs.Text.{Bytes, ascii, hex}

-- Given: the bundle, the message, the arguments image, the lengths of the three buffers. Expected: the text, the error list with its header and how many
-- records it has, placeables begun, lookups unfound, workspace bytes.
pub record Vector : Type 0 where
  pub bundle : Bytes
  pub message : Bytes
  pub arguments : Bytes
  pub text_lent : ℕ
  pub list_lent : ℕ
  pub work_lent : ℕ
  pub text : Bytes
  pub list : Bytes
  pub errors : ℕ
  pub begun : ℕ
  pub unfound : ℕ
  pub work : ℕ

unfoldable pub given : Vector → Formatted
given v = format v.bundle v.message none v.arguments (record { text = replicate v.text_lent 0xAA; list = replicate v.list_lent 0xBB; work = replicate v.work_lent 0xCC })

unfoldable pub expected : Vector → Formatted
expected v = record {
  answer = finished (length v.text) v.errors v.begun v.unfound v.work;
  buffers = record { text = filled v.text_lent 0xAA v.text; list = filled v.list_lent 0xBB v.list; work = replicate v.work_lent 0 };
}

abbrev pub Agrees : Vector → Type 0
Agrees v = given v ≡ expected v

-- `a = { b.x } { b.y }`, `b = v`, `.x = { b.y }`, `.y = { b.x }`, `.x = late`: {b.x} {b.y}; Cyclic twice; begun 6. Of equal attributes the first
-- counts.
unfoldable pub attributes_cyclic : Vector
attributes_cyclic = record {
  bundle = hex "000000880100010002030000000E010100064E554D424552010000006F010002010001610100000018000302040001620100017801000120020400016201000179000001000162010000000600010100017600030001780000000B00010204000162010001790001790000000B00010204000162010001780001780000000900010100046C617465";
  message = ascii "a";
  arguments = hex "0000002201000300016D0300016E02000000000000000002000001730100036F6E65";
  text_lent = 11;
  list_lent = 11;
  work_lent = 0;
  text = ascii "{b.x} {b.y}";
  list = hex "0000000B01000105000105";
  errors = 2;
  begun = 6;
  unfound = 0;
  work = 0;
}

-- `a = { -t(n: 1) } { $n }`, `-t = { $n } { b }`, `b = { $n }{ $q }`, n 2: ⟨1⟩ ⟨1⟩⟨{$q}⟩ ⟨2⟩; no error. A term's arguments reach the messages that
-- it refers to, and no missing one is listed there.
unfoldable pub arguments_go_down : Vector
arguments_go_down = record {
  bundle = hex "0000007B0100010002030000000E010100064E554D424552010000006201000301000161010000001D0003020500017400010000000100016E0200013101000120020600016E00000200017401000000110003020600016E01000120020400016200000001000162010000000C0002020600016E02060001710000";
  message = ascii "a";
  arguments = hex "0000002201000300016D0300016E02000000000000000002000001730100036F6E65";
  text_lent = 33;
  list_lent = 5;
  work_lent = 0;
  text = ⟨ ++ ascii "1" ++ ⟩ ++ ascii " " ++ ⟨ ++ ascii "1" ++ ⟩ ++ ⟨ ++ ascii "{$q}" ++ ⟩ ++ ascii " " ++ ⟨ ++ ascii "2" ++ ⟩;
  list = hex "0000000501";
  errors = 0;
  begun = 6;
  unfound = 0;
  work = 0;
}

-- `a = { -t(n: 1) }`, `-t = { $n -> [one] { -u } *[o] y }{ $n }`, `-u = { $n }`, n 2: ⟨{$n}⟩⟨2⟩. The inner term, in a variant, clears the outer
-- arguments.
unfoldable pub cleared_in_variant : Vector
cleared_in_variant = record {
  bundle = hex "0000008E0100010002030000000E010100064E554D42455201000000750100030100016101000000140001020500017400010000000100016E020001310000020001740100000032000202080600016E00020100036F6E6500000000090001020500017500000100016F0100000006000101000179020600016E00000200017501000000070001020600016E0000";
  message = ascii "a";
  arguments = hex "0000002201000300016D0300016E02000000000000000002000001730100036F6E65";
  text_lent = 17;
  list_lent = 5;
  work_lent = 0;
  text = ⟨ ++ ascii "{$n}" ++ ⟩ ++ ⟨ ++ ascii "2" ++ ⟩;
  list = hex "0000000501";
  errors = 0;
  begun = 5;
  unfound = 0;
  work = 0;
}

-- `a = { -t(n: "\u0041\\", m: "x\u0042") }`, `-t = { $n -> [A] y *[o] { $n }{ $m } }`: ⟨A\⟩⟨xB⟩; workspace 4.
unfoldable pub escapes_in_arguments : Vector
escapes_in_arguments = record {
  bundle = hex "0000008C0100010002030000000E010100064E554D42455201000000730100020100016101000000280001020500017400010000000200016E0100085C75303034315C5C00016D010007785C7530303432000002000174010000002E000102080600016E00020100014100000000060001010001790100016F010000000C0002020600016E020600016D0000";
  message = ascii "a";
  arguments = hex "0000002201000300016D0300016E02000000000000000002000001730100036F6E65";
  text_lent = 16;
  list_lent = 5;
  work_lent = 4;
  text = ⟨ ++ ascii "A\\" ++ ⟩ ++ ⟨ ++ ascii "xB" ++ ⟩;
  list = hex "0000000501";
  errors = 0;
  begun = 4;
  unfound = 0;
  work = 4;
}

-- `a = { -t(p, { "x" }, n: "\u0041") -> [pA] y *[o] z }`, `-t = { p }{ $n }`, `p = p`: z. The selector is p⟨A⟩, over the term's arguments p, x, A:
-- workspace 11.
unfoldable pub texts_at_once : Vector
texts_at_once = record {
  bundle = hex "000000A10100010003030000000E010100064E554D424552010000006F01000201000161010000004500010208050001740001000204000170000701000178000100016E0100065C75303034310002010002704100000000060001010001790100016F010000000600010100017A000002000174010000000D0002020400017000020600016E000001000000180100010100017001000000060001010001700000";
  message = ascii "a";
  arguments = hex "0000002201000300016D0300016E02000000000000000002000001730100036F6E65";
  text_lent = 1;
  list_lent = 5;
  work_lent = 11;
  text = ascii "z";
  list = hex "0000000501";
  errors = 0;
  begun = 3;
  unfound = 0;
  work = 11;
}

-- `a = { NUMBER(-t(p, n: "\\"), p) }`, `-t = { NUMBER(p, p) -> *[o] { $n } }`, `p = p`: NUMBER(); workspace 4.
unfoldable pub arguments_freed : Vector
arguments_freed = record {
  bundle = hex "000000A80100010003030000000E010100064E554D424552010000007601000201000161010000002C0001020300064E554D424552000205000174000100010400017000000100016E0100025C5C04000170000000000002000174010000002D000102080300064E554D424552000204000170000400017000000000010100016F01000000070001020600016E000001000000180100010100017001000000060001010001700000";
  message = ascii "a";
  arguments = hex "0000002201000300016D0300016E02000000000000000002000001730100036F6E65";
  text_lent = 8;
  list_lent = 5;
  work_lent = 4;
  text = ascii "NUMBER()";
  list = hex "0000000501";
  errors = 0;
  begun = 3;
  unfound = 0;
  work = 4;
}

-- In Welsh, `a = { $n -> [other] x [2] y *[two] z }`, n 2: y.
unfoldable pub first_match : Vector
first_match = record {
  bundle = hex "000000680103010002030000000E010100064E554D424552010000004F01000101000161010000003D000102080600016E00030100056F74686572000000000600010100017802000132000000000600010100017901000374776F010000000600010100017A0000";
  message = ascii "a";
  arguments = hex "0000002201000300016D0300016E02000000000000000002000001730100036F6E65";
  text_lent = 1;
  list_lent = 5;
  work_lent = 0;
  text = ascii "y";
  list = hex "0000000501";
  errors = 0;
  begun = 1;
  unfound = 0;
  work = 0;
}

-- `a = { $n -> [2.0] x *[one] y *[few] z }`, n 2: y.
unfoldable pub first_default : Vector
first_default = record {
  bundle = hex "000000680100010002030000000E010100064E554D424552010000004F01000101000161010000003D000102080600016E0003020003322E3000000000060001010001780100036F6E650100000006000101000179010003666577010000000600010100017A0000";
  message = ascii "a";
  arguments = hex "0000002201000300016D0300016E02000000000000000002000001730100036F6E65";
  text_lent = 1;
  list_lent = 5;
  work_lent = 0;
  text = ascii "y";
  list = hex "0000000501";
  errors = 0;
  begun = 1;
  unfound = 0;
  work = 0;
}

-- `a = { $q -> [x] x }`, no q: no text; Reference variable q, then MissingDefault.
unfoldable pub no_default : Vector
no_default = record {
  bundle = hex "000000440100010002030000000E010100064E554D424552010000002B010001010001610100000019000102080600017100010100017800000000060001010001780000";
  message = ascii "a";
  arguments = hex "0000002201000300016D0300016E02000000000000000002000001730100036F6E65";
  text_lent = 0;
  list_lent = 16;
  work_lent = 0;
  text = [];
  list = hex "00000010010006020400017100000104";
  errors = 2;
  begun = 1;
  unfound = 0;
  work = 0;
}

-- `a = { NUMBER(1, type: "ordinal") -> [1] x [one] y *[o] z }`: y. Equality compares the options too.
unfoldable pub ordinal : Vector
ordinal = record {
  bundle = hex "0000009A0100010003030000000E010100064E554D4245520100000068010001010001610100000056000102080300064E554D42455200010200013100010004747970650100076F7264696E616C00030200013100000000060001010001780100036F6E6500000000060001010001790100016F010000000600010100017A000001000000180100010100017001000000060001010001700000";
  message = ascii "a";
  arguments = hex "0000002201000300016D0300016E02000000000000000002000001730100036F6E65";
  text_lent = 1;
  list_lent = 5;
  work_lent = 0;
  text = ascii "y";
  list = hex "0000000501";
  errors = 0;
  begun = 1;
  unfound = 0;
  work = 0;
}

-- `a = { NUMBER(5, minimumFractionDigits: 19.99) } { NUMBER(5.5, minimumFractionDigits: -20) }`: ⟨5.0000000000000000000⟩ ⟨5.5⟩.
unfoldable pub digit_counts : Vector
digit_counts = record {
  bundle = hex "000000930100010002030000000E010100064E554D424552010000007A0100010100016101000000680003020300064E554D424552000102000135000100156D696E696D756D4672616374696F6E44696769747302000531392E393901000120020300064E554D4245520001020003352E35000100156D696E696D756D4672616374696F6E4469676974730200032D32300000";
  message = ascii "a";
  arguments = hex "0000002201000300016D0300016E02000000000000000002000001730100036F6E65";
  text_lent = 37;
  list_lent = 5;
  work_lent = 0;
  text = ⟨ ++ ascii "5.0000000000000000000" ++ ⟩ ++ ascii " " ++ ⟨ ++ ascii "5.5" ++ ⟩;
  list = hex "0000000501";
  errors = 0;
  begun = 2;
  unfound = 0;
  work = 0;
}

-- `a = { NUMBER(5, minimumFractionDigits: "20") } { NUMBER("5", minimumFractionDigits: 20) }`: ⟨5⟩ ⟨NUMBER()⟩. Neither merges a count, so neither
-- is refused.
unfoldable pub no_merge : Vector
no_merge = record {
  bundle = hex "0000008D0100010002030000000E010100064E554D42455201000000740100010100016101000000620003020300064E554D424552000102000135000100156D696E696D756D4672616374696F6E446967697473010002323001000120020300064E554D424552000101000135000100156D696E696D756D4672616374696F6E44696769747302000232300000";
  message = ascii "a";
  arguments = hex "0000002201000300016D0300016E02000000000000000002000001730100036F6E65";
  text_lent = 22;
  list_lent = 5;
  work_lent = 0;
  text = ⟨ ++ ascii "5" ++ ⟩ ++ ascii " " ++ ⟨ ++ ascii "NUMBER()" ++ ⟩;
  list = hex "0000000501";
  errors = 0;
  begun = 2;
  unfound = 0;
  work = 0;
}

-- `a = { b } { b.x } { b.y } { NUMBER } { -b } { a() } { p.x }`, `b` with `.x = y` alone, `p = p`: {b} y {b.y} {NUMBER} {-b} ⟨{a()}⟩ {p.x};
-- NoValue, then five References; unfound 0.
unfoldable pub every_missing : Vector
every_missing = record {
  bundle = hex "000000AE0100010003030000000E010100064E554D424552010000007C010002010001610100000056000D020400016200010001200204000162010001780100012002040001620100017901000120020400064E554D42455200010001200205000162000001000120020300016100000000010001200204000170010001780000010001620000010001780000000600010100017901000000180100010100017001000000060001010001700000";
  message = ascii "a";
  arguments = hex "0000002201000300016D0300016E02000000000000000002000001730100036F6E65";
  text_lent = 43;
  list_lent = 62;
  work_lent = 0;
  text = ascii "{b} y {b.y} {NUMBER} {-b} " ++ ⟨ ++ ascii "{a()}" ++ ⟩ ++ ascii " {p.x}";
  list = hex "0000003E010004030001620009020100016201000179000B020100064E554D42455200000602020001620000060203000161000009020100017001000178";
  errors = 6;
  begun = 7;
  unfound = 0;
  work = 0;
}

-- `a = { "\uD800\UFFFFFF\U01F40B\"" } { { "\\" } }`: U+FFFD twice, U+1F40B, a quotation mark; then ⟨\⟩.
unfoldable pub scalars : Vector
scalars = record {
  bundle = hex "000000540100010002030000000E010100064E554D424552010000003B0100010100016101000000290003020100185C75443830305C554646464646465C553031463430425C220100012002070100025C5C0000";
  message = ascii "a";
  arguments = hex "0000002201000300016D0300016E02000000000000000002000001730100036F6E65";
  text_lent = 19;
  list_lent = 5;
  work_lent = 0;
  text = hex "EFBFBDEFBFBDF09F908B" ++ ascii "\" " ++ ⟨ ++ ascii "\\" ++ ⟩;
  list = hex "0000000501";
  errors = 0;
  begun = 2;
  unfound = 0;
  work = 0;
}

-- `a = x { { g } }`, g of 9 times `{ h }` and `{ k }`, h of 9 and k of 10 elements `{ "w" }`: x ⟨, 89 w, {k}{???}⟩; TooManyPlaceables; begun 101.
unfoldable pub cut_short : Vector
cut_short = record {
  bundle = hex "000001140100010003030000000E010100064E554D424552010000002001000101000161010000000E0002010002782002070400016700000001000000DA01000401000167010000003E000A020400016800020400016800020400016800020400016800020400016800020400016800020400016800020400016800020400016800020400016B00000001000168010000002F000902010001770201000177020100017702010001770201000177020100017702010001770201000177020100017700000100016B0100000034000A020100017702010001770201000177020100017702010001770201000177020100017702010001770201000177020100017700000100017001000000060001010001700000";
  message = ascii "a";
  arguments = hex "0000002201000300016D0300016E02000000000000000002000001730100036F6E65";
  text_lent = 105;
  list_lent = 8;
  work_lent = 0;
  text = ascii "x " ++ ⟨ ++ replicate 89 0x77 ++ ascii "{k}{???}" ++ ⟩;
  list = hex "0000000801000106";
  errors = 1;
  begun = 101;
  unfound = 0;
  work = 0;
}

-- `a = x { { g } -> [x] y }`, the same g: x ⟨{???}⟩; TooManyPlaceables, then MissingDefault. What was cut short was the selector: 89 w and {k} in
-- the workspace.
unfoldable pub cut_short_selector : Vector
cut_short_selector = record {
  bundle = hex "000001260100010003030000000E010100064E554D42455201000000320100010100016101000000200002010002782002080704000167000001010001780000000006000101000179000001000000DA01000401000167010000003E000A020400016800020400016800020400016800020400016800020400016800020400016800020400016800020400016800020400016800020400016B00000001000168010000002F000902010001770201000177020100017702010001770201000177020100017702010001770201000177020100017700000100016B0100000034000A020100017702010001770201000177020100017702010001770201000177020100017702010001770201000177020100017700000100017001000000060001010001700000";
  message = ascii "a";
  arguments = hex "0000002201000300016D0300016E02000000000000000002000001730100036F6E65";
  text_lent = 13;
  list_lent = 11;
  work_lent = 92;
  text = ascii "x " ++ ⟨ ++ ascii "{???}" ++ ⟩;
  list = hex "0000000B01000106000104";
  errors = 2;
  begun = 101;
  unfound = 0;
  work = 92;
}

pub record Vectors : Type 0 where
  pub attributes_cyclic_agrees : Agrees attributes_cyclic
  pub arguments_go_down_agrees : Agrees arguments_go_down
  pub cleared_in_variant_agrees : Agrees cleared_in_variant
  pub escapes_in_arguments_agrees : Agrees escapes_in_arguments
  pub texts_at_once_agrees : Agrees texts_at_once
  pub arguments_freed_agrees : Agrees arguments_freed
  pub first_match_agrees : Agrees first_match
  pub first_default_agrees : Agrees first_default
  pub no_default_agrees : Agrees no_default
  pub ordinal_agrees : Agrees ordinal
  pub digit_counts_agrees : Agrees digit_counts
  pub no_merge_agrees : Agrees no_merge
  pub every_missing_agrees : Agrees every_missing
  pub scalars_agrees : Agrees scalars
  pub cut_short_agrees : Agrees cut_short
  pub cut_short_selector_agrees : Agrees cut_short_selector

pub vectors : Vectors
unfolding opened filled given expected attributes_cyclic arguments_go_down cleared_in_variant escapes_in_arguments texts_at_once arguments_freed first_match first_default no_default ordinal digit_counts no_merge every_missing scalars cut_short cut_short_selector
vectors = record {
  attributes_cyclic_agrees = refl;
  arguments_go_down_agrees = refl;
  cleared_in_variant_agrees = refl;
  escapes_in_arguments_agrees = refl;
  texts_at_once_agrees = refl;
  arguments_freed_agrees = refl;
  first_match_agrees = refl;
  first_default_agrees = refl;
  no_default_agrees = refl;
  ordinal_agrees = refl;
  digit_counts_agrees = refl;
  no_merge_agrees = refl;
  every_missing_agrees = refl;
  scalars_agrees = refl;
  cut_short_agrees = refl;
  cut_short_selector_agrees = refl;
}

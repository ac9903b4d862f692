-- One write and one error more, on any state whatsoever. Document 01, "Format": "15 the next write passes the text buffer; 7 the next record passes the
-- list buffer; 16 the next write passes the workspace".
use Rattle.state.specs.Progress.{refused_of}
use Rattle.refusals.specs.declared.Refusal.TheVariants as refusal
use Rattle.std.specs.Prelude.{Ok, Err, List, [], ◌∷◌, Bool, true, false, ◌&&◌, ℕ, ◌+◌, ◌-◌, max, length, leb, eqb}
use Rattle.std.proofs.Math.Option.{none}
use Rattle.records.specs.Errors.{Error, Referred, reference}
use Rattle.decimals.specs.Bytes.{given}
use Rattle.buffers.specs.Relations.Append.{Wrote, attempt, appended}
use Rattle.texts.specs.Relations.Report.{recorded}
use Rattle.state.specs.declared.Progress.{Progress}
use Rattle.state.specs.Setters.{refuse_s, text_s, list_s, front_s, max_unfound, up_to}

-- the text's end after a write to the text buffer; "15 the next write passes the text buffer"
unfoldable pub text_after : Wrote → Progress → Progress
text_after (Ok e) s = text_s e s
text_after (Err _) s = refuse_s refusal.ShortText s

-- the front of a workspace of n bytes after a write there, and its highest use ("Use is the bytes of both"); "16 the next write passes the workspace"
unfoldable pub work_after : ℕ → Wrote → Progress → Progress
work_after n (Ok e) s = front_s e (max s.high (e + (n - s.back))) s
work_after n (Err _) s = refuse_s refusal.ShortWorkspace s

-- the list's end after a record, and the count of errors; "7 the next record passes the list buffer"
unfoldable pub list_after : Wrote → Progress → Progress
list_after (Ok e) s = list_s e (up_to max_unfound s.errors) s
list_after (Err _) s = refuse_s refusal.ShortList s

-- n bytes fit between the front and the back of a workspace of `size` bytes
unfoldable pub has_room : Progress → ℕ → ℕ → Bool
has_room s n size = leb (s.front + n) s.back && leb s.back size

-- a buffer after an attempt to write there, and what the state then is
abbrev pub leaves : Wrote × List ℕ → (Wrote → Progress → Progress) → Progress → List ℕ × Progress
leaves p f s = (p.1, f p.0 s)

-- bytes to the text buffer, bytes to the workspace's front, a record to the list
unfoldable pub to_text : List ℕ → List ℕ → Progress → List ℕ × Progress
to_text b t s = leaves (appended t s.text_at b) text_after s

unfoldable pub to_work : List ℕ → List ℕ → Progress → List ℕ × Progress
to_work b w s = leaves (attempt (has_room s (length b) (length w)) w s.front b) (work_after (length w)) s

unfoldable pub to_list : Error → List ℕ → Progress → List ℕ × Progress
to_list e l s = leaves (recorded l s.list_at e) list_after s

-- aside to the workspace, else to the text buffer
unfoldable pub written_aside : Bool → List ℕ → List ℕ → List ℕ → Progress → List ℕ × List ℕ × Progress
written_aside true b t w s = (t, (to_work b w s).0, (to_work b w s).1)
written_aside false b t w s = ((to_text b t s).0, w, (to_text b t s).1)

unfoldable pub written_if : Bool → List ℕ → List ℕ → List ℕ → Progress → List ℕ × List ℕ × Progress
written_if true b t w s = written_aside s.aside b t w s
written_if false b t w s = (t, w, s)

-- Bytes written: the text buffer, the workspace and the state that they leave. Once refused, nothing is written.
unfoldable pub written : List ℕ → List ℕ → List ℕ → Progress → List ℕ × List ℕ × Progress
written b t w s = written_if (eqb (refused_of s) 0) b t w s

-- parts written one after the other
unfoldable pub written_all : List (List ℕ) → List ℕ × List ℕ × Progress → List ℕ × List ℕ × Progress
written_all [] p = p
written_all (b ∷ bs) p = written_all bs (written b p.0 p.1 p.2)

-- bytes written only where a condition holds
unfoldable pub written_where : Bool → List ℕ → List ℕ → List ℕ → Progress → List ℕ × List ℕ × Progress
written_where on b t w s = given on (written b t w s) (t, w, s)

unfoldable pub listed_if : Bool → Error → List ℕ → Progress → List ℕ × Progress
listed_if true e l s = to_list e l s
listed_if false e l s = (l, s)

-- An error listed: the list and the state that it leaves. Once refused, nothing is listed.
unfoldable pub listed : Error → List ℕ → Progress → List ℕ × Progress
listed e l s = listed_if (eqb (refused_of s) 0) e l s

-- a missing variable: within a term nothing, else its reference is listed
unfoldable pub listed_missing : List ℕ → List ℕ → Progress → List ℕ × Progress
listed_missing i l s = given s.local (l, s) (listed (reference Referred.variable i none) l s)

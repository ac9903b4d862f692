-- The measures, and what each loop keeps.
use Prim.Native.Nat.{◌*◌, ◌+◌, ◌-◌, ℕ, ◌≤◌}
use Rattle.state.specs.declared.Progress.{Progress}
use Rattle.resolver.proofs.Calls.{InlinesAt, Taken}
use Rattle.resolver.specs.Relations.Meets.{lent, World, env, world}
use lib.ListN.{length}
use mathlib.Core.Path.{◌≡◌}
use Rattle.resolver.specs.Relations.Members.{ElementsAt}
use Rattle.values.specs.declared.Value as CodeValue
use Rattle.resolver.proofs.+write.Given as goal

-- "placeables left, then nesting and stage, give the falling number"
abbrev pub measure : Progress → ℕ → ℕ
measure s stage = (102 - s.begun) * 2000 + stage

abbrev pub decreases-call::each : goal.decreases-call::each
decreases-call::each l = measure l.st.now (1000 + l.left * 10 + 7)

abbrev pub decreases-call::function : goal.decreases-call::function
decreases-call::function l = measure l.st.now (1000 + l.left * 10 + 8)

abbrev pub decreases-expression::select : goal.decreases-expression::select
decreases-expression::select l = measure l.st.now (1000 + l.left * 10 + 7)

abbrev pub decreases-expression::write : goal.decreases-expression::write
decreases-expression::write l = measure l.st.now (1000 + l.left * 10 + 9)

abbrev pub decreases-inline::as_text : goal.decreases-inline::as_text
decreases-inline::as_text l = measure l.st.now (1000 + l.left * 10 + 5)

abbrev pub decreases-inline::message : goal.decreases-inline::message
decreases-inline::message l = measure l.st.now 330

abbrev pub decreases-inline::resolve : goal.decreases-inline::resolve
decreases-inline::resolve l = measure l.st.now (1000 + l.left * 10 + 6)

abbrev pub decreases-inline::write : goal.decreases-inline::write
decreases-inline::write l = measure l.st.now (1000 + l.left * 10 + 4)

abbrev pub decreases-pattern::element : goal.decreases-pattern::element
decreases-pattern::element l = measure l.st.now (l.left * 10)

abbrev pub decreases-pattern::track : goal.decreases-pattern::track
decreases-pattern::track l = measure l.st.now 325

abbrev pub decreases-pattern::write : goal.decreases-pattern::write
decreases-pattern::write l = measure l.st.now (l.left * 10 + 1)

abbrev pub decreases-term::each : goal.decreases-term::each
decreases-term::each l = measure l.st.now (1000 + l.left * 10 + 7)

abbrev pub decreases-term::found : goal.decreases-term::found
decreases-term::found l = measure l.st.now 330

abbrev pub decreases-term::refer : goal.decreases-term::refer
decreases-term::refer l = measure l.st.now (1000 + l.left * 10 + 8)

abbrev pub invariant-call::each-loop-i : goal.invariant-call::each-loop-i
invariant-call::each-loop-i l =
    (length l.text ≡ length l.initial.text) × (length l.list ≡ length l.initial.list) × (length l.work ≡ length l.initial.work) × (l.initial.st.begun ≤ l.st.begun)
    × Taken (env l.store (lent l.args l.places)) l.left l.n l.initial.p (world l.store l.initial.text l.initial.list l.initial.work l.initial.trail l.initial.st) (l.n - l.i) l.p l.first (world l.store l.text l.list l.work l.trail l.st)
    × ((v : World) (end : ℕ) → InlinesAt (env l.store (lent l.args l.places)) l.left (l.n - l.i) l.p (world l.store l.text l.list l.work l.trail l.st) v end → InlinesAt (env l.store (lent l.args l.places)) l.left l.n l.initial.p (world l.store l.initial.text l.initial.list l.initial.work l.initial.trail l.initial.st) v end)

abbrev pub invariant-pattern::write-loop : goal.invariant-pattern::write-loop
invariant-pattern::write-loop l =
    (length l.text ≡ length l.initial.text) × (length l.list ≡ length l.initial.list) × (length l.work ≡ length l.initial.work) × (l.initial.st.begun ≤ l.st.begun)
    × ((v : World) → ElementsAt (env l.store (lent l.args l.places)) l.left l.iso (l.n - l.counter) l.p (world l.store l.text l.list l.work l.trail l.st) v → ElementsAt (env l.store (lent l.args l.places)) l.left l.iso l.n l.initial.p (world l.store l.initial.text l.initial.list l.initial.work l.initial.trail l.initial.st) v)

abbrev pub invariant-term::each-loop : goal.invariant-term::each-loop
invariant-term::each-loop l =
    (length l.text ≡ length l.initial.text) × (length l.list ≡ length l.initial.list) × (length l.work ≡ length l.initial.work) × (l.initial.st.begun ≤ l.st.begun)
    × ((first : CodeValue.Value) × Taken (env l.store (lent l.args l.places)) l.left l.n l.initial.p (world l.store l.initial.text l.initial.list l.initial.work l.initial.trail l.initial.st) (l.n - l.counter) l.p first (world l.store l.text l.list l.work l.trail l.st))
    × ((v : World) (end : ℕ) → InlinesAt (env l.store (lent l.args l.places)) l.left (l.n - l.counter) l.p (world l.store l.text l.list l.work l.trail l.st) v end → InlinesAt (env l.store (lent l.args l.places)) l.left l.n l.initial.p (world l.store l.initial.text l.initial.list l.initial.work l.initial.trail l.initial.st) v end)

-- Whether the name is among those left is whether it is among all.
use Prim.Native.Nat.{◌+◌, ◌-◌, ℕ}
use Rattle.records.proofs.Laws.{str_in}
use Rattle.records.proofs.Named.{among_here, among_later, clash, meet, named_read, named_turn}
use Rattle.records.proofs.Views.{many_nil}
use Rattle.records.specs.Decode.{many, named_at}
use Rattle.records.specs.Got.{got}
use Rattle.records.specs.Names.{among}
use mathlib.Core.List.{[], ◌∷◌}
use mathlib.Core.Path.{◌∙◌, ◌≡◌, ap, refl, subst, sym}
use native.Mathlib.Omega.{arith}
use Rattle.records.proofs.call_arguments.name_among.Goals as goal

pub loop-init : goal.loop-init
loop-init c = let z : c.args.count - 0 ≡ c.args.count = omega arith in rw z (λ l f h. (l, h, refl))

pub returns-in_default : goal.returns-in_default
returns-in_default c =
    λ l f h. let i = c.loop.invariant l f h in
    named_read c.args.s.now (c.args.count - c.loop.counter) c.loop.at (omega arith) i.1 c.read_str.ensures c.in_default.is

pub slice_bounds-same_bytes-count : goal.slice_bounds-same_bytes-count
slice_bounds-same_bytes-count c = omega arith

pub slice_bounds-same_bytes-start : goal.slice_bounds-same_bytes-start
slice_bounds-same_bytes-start c = omega arith

pub slice_bounds-same_bytes-end : goal.slice_bounds-same_bytes-end
slice_bounds-same_bytes-end c = omega arith

pub slice_bounds-same_bytes-count-in-loop : goal.slice_bounds-same_bytes-count-in-loop
slice_bounds-same_bytes-count-in-loop c = let h = str_in c.args.s.now c.loop.at c.read_str.ensures c.in-Some.is in omega arith

pub slice_bounds-same_bytes-start-in-loop : goal.slice_bounds-same_bytes-start-in-loop
slice_bounds-same_bytes-start-in-loop c = let h = str_in c.args.s.now c.loop.at c.read_str.ensures c.in-Some.is in omega arith

pub slice_bounds-same_bytes-end-in-loop : goal.slice_bounds-same_bytes-end-in-loop
slice_bounds-same_bytes-end-in-loop c = let h = str_in c.args.s.now c.loop.at c.read_str.ensures c.in-Some.is in omega arith

pub returns-then-same_bytes : goal.returns-then-same_bytes
returns-then-same_bytes c =
    λ l f h. let i = c.loop.invariant l f h in
    named_turn c.args.s.now (c.args.count - c.loop.counter) c.loop.at (omega arith) i.1 c.read_str.ensures c.in-Some.is
    (λ x g t lit rest w. sym (i.2 ∙ ap (among _) w ∙ among_here _ _ x t (sym c.same_bytes.ensures ∙ c.if-same_bytes.true)))

pub returns-in_default-skip_literal : goal.returns-in_default-skip_literal
returns-in_default-skip_literal c =
    λ l f h. let i = c.loop.invariant l f h in
    named_turn c.args.s.now (c.args.count - c.loop.counter) c.loop.at (omega arith) i.1 c.read_str.ensures c.in-Some.is
    (λ x g t lit rest w. clash (c.skip_literal.ensures x g lit) c.in_default-skip_literal.is)

pub loop-preserved : goal.loop-preserved
loop-preserved c =
    let m : c.args.count - (c.loop.counter + 1) ≡ c.args.count - c.loop.counter - 1 = omega arith in
    rw m (λ l f h. let i = c.loop.invariant l f h in
    named_turn c.args.s.now (c.args.count - c.loop.counter) c.loop.at (omega arith) i.1 c.read_str.ensures c.in-Some.is
    (λ x g t lit rest w. (t, subst (λ (k : ℕ). many [] ◌∷◌ (c.args.count - c.loop.counter - 1) named_at c.args.s.now k ≡ got t f) (meet (c.skip_literal.ensures x g lit) c.in-Some-skip_literal.is) rest, i.2 ∙ ap (among _) w ∙ among_later _ _ x t (sym c.same_bytes.ensures ∙ c.if-same_bytes.false))))

pub returns : goal.returns
unfolding among
returns c =
    λ l f h. let i = c.loop.invariant l f h in
    many_nil [] ◌∷◌ named_at c.args.s.now (c.args.count - c.loop.counter) c.loop.at (omega arith) i.1 (λ e _. sym (i.2 ∙ ap (among _) e))

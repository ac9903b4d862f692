-- Whether a name is given twice among those left is whether one is given twice at all.
use Prim.Native.Nat.{◌-◌, ℕ}
use Rattle.records.proofs.Laws.{str_in}
use Rattle.records.proofs.Named.{clash, meet, named_read, named_turn, once, twice}
use Rattle.records.proofs.Views.{many_nil}
use Rattle.records.specs.Decode.{many, named_at}
use Rattle.records.specs.Got.{got}
use Rattle.records.specs.Names.{distinct}
use mathlib.Core.List.{[], ◌∷◌}
use mathlib.Core.Path.{◌∙◌, ◌≡◌, ap, refl, subst, sym}
use Rattle.records.proofs.call_arguments.names_distinct.Goals as goal

pub loop-left-init : goal.loop-left-init
loop-left-init c = λ l f h. (l, h, refl)

pub returns-in_default : goal.returns-in_default
returns-in_default c =
    λ l f h. let i = c.loop-left.invariant l f h in
    named_read c.args.s.now c.loop-left.left c.loop-left.at c.loop-left-test.true i.1 c.read_str.ensures c.in_default.is

pub returns-in_default-skip_literal : goal.returns-in_default-skip_literal
returns-in_default-skip_literal c =
    λ l f h. let i = c.loop-left.invariant l f h in
    named_turn c.args.s.now c.loop-left.left c.loop-left.at c.loop-left-test.true i.1 c.read_str.ensures c.in-Some.is
    (λ x g t lit rest w. clash (c.skip_literal.ensures x g lit) c.in_default-skip_literal.is)

pub name_among-requires : goal.name_among-requires
name_among-requires c = str_in c.args.s.now c.loop-left.at c.read_str.ensures c.in-Some.is

pub returns-then-name_among : goal.returns-then-name_among
returns-then-name_among c =
    λ l f h. let i = c.loop-left.invariant l f h in
    named_turn c.args.s.now c.loop-left.left c.loop-left.at c.loop-left-test.true i.1 c.read_str.ensures c.in-Some.is
    (λ x g t lit rest w.
    let rest' = subst (λ (k : ℕ). many [] ◌∷◌ (c.loop-left.left - 1) named_at c.args.s.now k ≡ got t f) (meet (c.skip_literal.ensures x g lit) c.in-Some-skip_literal.is) rest in
    sym (i.2 ∙ ap distinct w ∙ twice _ x t (sym (c.name_among.ensures t f rest') ∙ c.if-name_among.true)))

pub loop-left-preserved : goal.loop-left-preserved
loop-left-preserved c =
    λ l f h. let i = c.loop-left.invariant l f h in
    named_turn c.args.s.now c.loop-left.left c.loop-left.at c.loop-left-test.true i.1 c.read_str.ensures c.in-Some.is
    (λ x g t lit rest w.
    let rest' = subst (λ (k : ℕ). many [] ◌∷◌ (c.loop-left.left - 1) named_at c.args.s.now k ≡ got t f) (meet (c.skip_literal.ensures x g lit) c.in-Some-skip_literal.is) rest in
    (t, rest', i.2 ∙ ap distinct w ∙ once _ x t (sym (c.name_among.ensures t f rest') ∙ c.if-name_among.false)))

pub returns : goal.returns
unfolding distinct
returns c =
    λ l f h. let i = c.loop-left.invariant l f h in
    many_nil [] ◌∷◌ named_at c.args.s.now c.loop-left.left c.loop-left.at c.loop-left-test.false i.1 (λ e _. sym (i.2 ∙ ap distinct e))

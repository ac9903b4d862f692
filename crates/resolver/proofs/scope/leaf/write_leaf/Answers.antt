-- `resolver::scope::leaf::write_leaf` meets its contract: for each tag that it knows the law of the expression stands; no inline expression has another.
use Rattle.records.proofs.Laws.{str_in}
use Rattle.records.proofs.Views.{str_bad}
use Rattle.resolver.proofs.Inlines.{inline_number, inline_other, inline_string, inline_variable, inline_worse}
use Rattle.resolver.proofs.Single.Acting.{value_acts, written_acts}
use Rattle.resolver.proofs.Single.Named.{literal_number_is}
use native.Mathlib.Omega.{arith}
use Rattle.resolver.proofs.scope.leaf.write_leaf.Goals as goal

pub returns-in_default : goal.returns-in_default
returns-in_default c = λ t left at hb lone. inline_worse _ _ _ _ _ hb _ lone.no_nested lone.no_message lone.no_term (str_bad _ _ c.read_str.ensures c.in_default.is)

pub slice_bounds-put_literal-count : goal.slice_bounds-put_literal-count
slice_bounds-put_literal-count c =
    let str-inside = str_in _ _ c.read_str.ensures c.in-Some.is in
    omega (arith, str-inside)

pub slice_bounds-put_literal-start : goal.slice_bounds-put_literal-start
slice_bounds-put_literal-start c =
    let str-inside = str_in _ _ c.read_str.ensures c.in-Some.is in
    omega (arith, str-inside)

pub slice_bounds-put_literal-end : goal.slice_bounds-put_literal-end
slice_bounds-put_literal-end c =
    let str-inside = str_in _ _ c.read_str.ensures c.in-Some.is in
    omega (arith, str-inside)

pub returns-then-tag-eq1 : goal.returns-then-tag-eq1
returns-then-tag-eq1 c = λ t left at hb lone. inline_string _ _ _ _ _ hb c.read_str.ensures c.in-Some.is c.if-tag-eq1.true (written_acts _ c.put_literal.ensures _ _ _)

pub returns-then-tag-eq2 : goal.returns-then-tag-eq2
returns-then-tag-eq2 c = λ t left at hb lone. inline_number _ _ _ _ _ hb c.read_str.ensures c.in-Some.is c.if-tag-eq2.true (literal_number_is _ _ _ c.literal_number.ensures) ((value_acts _ _ _ c.put_value.ensures).0 _ _) (λ x h. (value_acts _ _ _ c.put_value.ensures).1 x h _ _)

pub returns-then-tag-eq6 : goal.returns-then-tag-eq6
returns-then-tag-eq6 c = λ t left at hb lone. inline_variable _ _ _ _ _ hb c.read_str.ensures c.in-Some.is c.if-tag-eq6.true (c.write_variable.ensures _)

pub returns-else-tag-eq6 : goal.returns-else-tag-eq6
returns-else-tag-eq6 c = λ t left at hb lone. inline_other _ _ _ _ _ hb _ lone.no_nested lone.no_message lone.no_term lone.no_call c.if-tag-eq1.false c.if-tag-eq2.false c.if-tag-eq6.false

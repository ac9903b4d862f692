-- `resolver::scope::leaf::resolve_leaf` meets its contract: for each tag that it knows the law of the value stands; no inline expression has another.
use Rattle.records.proofs.Laws.{str_in}
use Rattle.records.proofs.Views.{str_bad, str_is}
use Rattle.resolver.proofs.Single.Named.{literal_number_is}
use Rattle.resolver.proofs.Values.{value_as, value_number, value_other, value_string, value_variable, value_worse}
use Rattle.resolver.proofs.scope.leaf.resolve_leaf.Goals as goal

pub returns-in_default : goal.returns-in_default
returns-in_default c = λ x t left at hb lone. value_worse _ _ _ _ _ hb _ _ lone.no_message lone.no_term lone.no_nested (str_bad _ _ c.read_str.ensures c.in_default.is)

pub returns-then-tag-eq1 : goal.returns-then-tag-eq1
returns-then-tag-eq1 c =
    let str-inside = str_in _ _ c.read_str.ensures c.in-Some.is in
    λ x t left at hb lone. value_as c.hold.ensures.0 (value_string _ _ _ _ _ hb (str_is _ _ c.read_str.ensures c.in-Some.is) str-inside.0 str-inside.1 _ _ _ c.if-tag-eq1.true c.literal_string-v.ensures)

pub returns-then-tag-eq2 : goal.returns-then-tag-eq2
returns-then-tag-eq2 c =
    let str-inside = str_in _ _ c.read_str.ensures c.in-Some.is in
    λ x t left at hb lone. value_as c.hold-then-tag-eq2.ensures.0 (value_number _ _ _ _ _ hb (str_is _ _ c.read_str.ensures c.in-Some.is) str-inside.0 str-inside.1 _ c.if-tag-eq2.true (literal_number_is _ _ _ c.literal_number.ensures))

pub returns-then-tag-eq6 : goal.returns-then-tag-eq6
returns-then-tag-eq6 c =
    let str-inside = str_in _ _ c.read_str.ensures c.in-Some.is in
    λ x t left at hb lone. value_as c.hold-then-tag-eq6.ensures.0 (value_variable _ _ _ _ _ hb (str_is _ _ c.read_str.ensures c.in-Some.is) str-inside.0 str-inside.1 c.if-tag-eq6.true (c.resolve_variable-v.ensures _ _ _))

pub returns-else-tag-eq6 : goal.returns-else-tag-eq6
returns-else-tag-eq6 c = λ x t left at hb lone. value_other _ _ _ _ _ hb _ _ lone.no_message lone.no_term lone.no_nested c.if-tag-eq1.false c.if-tag-eq2.false lone.no_call c.if-tag-eq6.false

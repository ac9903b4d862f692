-- What is left of each function.
use Rattle.state.proofs.Laws.{refused_no, refused_yes}
use Rattle.state.specs.declared.Progress.{Progress}
use Rattle.records.proofs.Views.{num_is, num_none, str_bad, str_is}
use Rattle.resolver.proofs.Calls.{inlines_more, inlines_none, inlines_stop, none_yet, positional_all, positional_none, taken_first, taken_later, called_none}
use Rattle.resolver.proofs.Parts.{positional_as, positional_stop, text_deep, lone_other, lone_variable, taken_next, flag_is, flag_none}
use Rattle.resolver.specs.Relations.Meets.{world}
use Rattle.walks.proofs.Passing.{inline_passed, element_passed}
use mathlib.Core.Path.{◌∙◌, refl, ap, sym}
use native.Mathlib.Nat.{le_trans, sub-add-eq, sub-zero}
use native.Mathlib.Omega.{arith}
use Rattle.resolver.proofs.Selects.{select_chosen, select_default, select_never, select_over, select_stopped}
use Rattle.resolver.proofs.Single.Acting.{plain_acts, no_value_acts, fsi_acts, pdi_acts, too_many_acts, written_acts}
use Rattle.texts.specs.Relations.Report.{plain_of}
use Rattle.resolver.proofs.Expressions.{expression_deep, expression_inline, expression_none, expression_over, expression_select}
use Rattle.heads.proofs.Heads.{text_tag_law, marks_are, isolating_is}
use Rattle.resolver.proofs.Inlines.{inline_message, inline_nested, inline_term, inline_deep, inline_none, inline_over}
use Rattle.resolver.proofs.References.{message_over, found_term_over}
use Rattle.resolver.proofs.Targets.{message_inside, message_listed, message_missed, message_nowhere, message_tracked, term_missed, term_nowhere, term_tracked, term_valued}
use Rattle.resolver.proofs.Values.{value_deep, value_function, value_none, value_of_text, value_over}
use Rattle.records.proofs.Laws.{str_in}
use Rattle.resolver.proofs.Elements.{element_dirty, element_far, element_full, element_none, element_over, element_placeable, element_text, element_text_none, elements_more, elements_none, elements_stop, pattern_all, pattern_none, pattern_worse}
use Rattle.state.proofs.Laws.{begin_may, begin_not, begin_one}
use mathlib.Core.List.{[]}
use Rattle.resolver.proofs.Tracks.{track_cross, track_cyclic, track_far, track_over}
use Rattle.trail.proofs.Trail.{trail_within}
use Rattle.resolver.proofs.Terms.{term_bare, term_freed, term_over, term_refused, term_stopped, term_unnamed}
use Rattle.texts.specs.declared.errors.Plain.TheVariants as plain
use Rattle.values.specs.declared.Value.TheVariants as val
use Rattle.resolver.proofs.+write.Goals as goal
use Rattle.resolver.proofs.+write.Goals.{call::each-then-i-eq0, call::each-else-i-eq0}

pub call::each-returns-in_default : goal.call::each-returns-in_default
call::each-returns-in_default t c = positional_none _ _ _ (world c.args.store.now c.args.text.now c.args.list.now c.args.work.now c.args.trail.now c.args.st.now) _ _ (num_none c.read_u16.ensures c.in_default.is)

pub call::each-loop-i-init : goal.call::each-loop-i-init
call::each-loop-i-init t c = rw (sub-zero c.in-Some.n) (refl, refl, refl, omega arith, none_yet refl refl refl refl, λ v e h. h)

pub call::each-resolve-requires : goal.call::each-resolve-requires
call::each-resolve-requires t c = let j = c.loop-i.invariant.3 in (omega (arith, c.decreases), tt)

pub call::each-returns-in_default-skip_expression : goal.call::each-returns-in_default-skip_expression
call::each-returns-in_default-skip_expression t c = positional_stop _ _ _ (num_is c.read_u16.ensures c.in-Some.is) (λ end. c.loop-i.invariant.5 _ end (inlines_stop _ _ _ _ (omega (arith, c.loop-i-test.true)) c.resolve.ensures (inline_passed _ _ _ c.skip_expression.ensures) c.in_default-skip_expression.is end)) _ _

pub call::each-loop-i-preserved : goal.call::each-loop-i-preserved
call::each-loop-i-preserved t c = rw (sub-add-eq c.in-Some.n c.loop-i.i 1) (
  c.resolve.auto.text ∙ c.loop-i.invariant.0,
  c.resolve.auto.list ∙ c.loop-i.invariant.1,
  c.resolve.auto.work ∙ c.loop-i.invariant.2,
  le_trans c.loop-i.invariant.3 c.resolve.ensures.kept.begun,
  elim c.if-i-eq0.branch [ call::each-then-i-eq0 y ↦ rw y.first-is (taken_first _ (omega (arith, c.loop-i-test.true)) (omega (arith, y.if-i-eq0.true)) c.loop-i.invariant.4 c.resolve.ensures) | call::each-else-i-eq0 y ↦ rw y.first-is (taken_later _ (omega (arith, c.loop-i-test.true)) (λ e. y.if-i-eq0.false (omega (arith, e, c.loop-i-test.true))) c.loop-i.invariant.4 c.resolve.ensures) ],
  λ v e h. c.loop-i.invariant.5 v e (inlines_more _ _ _ _ (omega (arith, c.loop-i-test.true)) c.resolve.ensures (inline_passed _ _ _ c.skip_expression.ensures) c.in-Some-skip_expression.is v e h),
)

pub call::each-returns : goal.call::each-returns
call::each-returns t c = positional_as _ _ _ c.hold.ensures.0 refl (positional_all _ _ _ (num_is c.read_u16.ensures c.in-Some.is) (λ e. omega (arith, c.loop-i-test.false)) c.loop-i.invariant.4 (c.loop-i.invariant.5 _ _ (inlines_none _ _ _ _ _ (omega (arith, c.loop-i-test.false)))))

pub call::function-returns-in_default : goal.call::function-returns-in_default
call::function-returns-in_default t c = called_none _ _ _ (world c.args.store.now c.args.text.now c.args.list.now c.args.work.now c.args.trail.now c.args.st.now) _ _ (num_none c.read_str.ensures c.in_default.is)

pub call::function-each-requires : goal.call::function-each-requires
call::function-each-requires t c = (omega (arith, c.decreases), tt)

pub call::function-returns : goal.call::function-returns
call::function-returns t c =
    let span-is = num_is c.read_str.ensures c.in-Some.is in
    c.apply.ensures.called _ _ _ _ span-is (world c.args.store.now c.args.text.now c.args.list.now c.args.work.now c.args.trail.now c.args.st.now) _ _ _ c.each.ensures refl

pub expression::select-returns-then-is_refused : goal.expression::select-returns-then-is_refused
expression::select-returns-then-is_refused t c = select_over _ _ _ (world c.args.store.now c.args.text.now c.args.list.now c.args.work.now c.args.trail.now c.args.st.now) (refused_yes c.is_refused.ensures c.if-is_refused.true)

pub expression::select-resolve-requires : goal.expression::select-resolve-requires
expression::select-resolve-requires t c = (omega (arith, c.decreases), tt)

pub expression::select-returns-then-is_refused-2 : goal.expression::select-returns-then-is_refused-2
expression::select-returns-then-is_refused-2 t c = select_stopped _ _ _ (world c.args.store.now c.args.text.now c.args.list.now c.args.work.now c.args.trail.now c.args.st.now) _ _ c.resolve.ensures (refused_yes c.is_refused-2.ensures c.if-is_refused-2.true)

pub expression::select-returns-in_default : goal.expression::select-returns-in_default
expression::select-returns-in_default t c = select_never _ _ _ (world c.args.store.now c.args.text.now c.args.list.now c.args.work.now c.args.trail.now c.args.st.now) _ _ c.resolve.ensures c.set_back.ensures (inline_passed _ _ _ c.skip_expression.ensures) c.in_default.is

pub expression::select-returns-in_default-choose : goal.expression::select-returns-in_default-choose
unfolding plain_of
expression::select-returns-in_default-choose t c = select_default _ _ _ (world c.args.store.now c.args.text.now c.args.list.now c.args.work.now c.args.trail.now c.args.st.now) _ _ c.resolve.ensures c.set_back.ensures (inline_passed _ _ _ c.skip_expression.ensures) _ c.in-Some.is c.choose.ensures c.in_default-choose.is (plain_acts plain.MissingDefault c.list_plain.ensures _ _ _ _)

pub expression::select-write-requires : goal.expression::select-write-requires
expression::select-write-requires t c = let k = ap (λ (s : Progress). s.begun) c.set_back.ensures in let j = c.resolve.ensures.kept.begun in (omega (arith, c.decreases), tt)

pub expression::select-returns : goal.expression::select-returns
expression::select-returns t c = select_chosen _ _ _ (world c.args.store.now c.args.text.now c.args.list.now c.args.work.now c.args.trail.now c.args.st.now) _ _ c.resolve.ensures c.set_back.ensures (inline_passed _ _ _ c.skip_expression.ensures) _ c.in-Some.is c.choose.ensures c.in-Some-choose.is c.write.ensures

pub expression::write-returns-then-is_refused : goal.expression::write-returns-then-is_refused
expression::write-returns-then-is_refused t c = expression_over _ _ _ (world c.args.store.now c.args.text.now c.args.list.now c.args.work.now c.args.trail.now c.args.st.now) (refused_yes c.is_refused.ensures c.if-is_refused.true)

pub expression::write-returns-then-left-eq0 : goal.expression::write-returns-then-left-eq0
expression::write-returns-then-left-eq0 t c = expression_deep _ _ _ (world c.args.store.now c.args.text.now c.args.list.now c.args.work.now c.args.trail.now c.args.st.now) c.if-left-eq0.true

pub expression::write-returns-in_default : goal.expression::write-returns-in_default
expression::write-returns-in_default t c = expression_none _ _ _ (world c.args.store.now c.args.text.now c.args.list.now c.args.work.now c.args.trail.now c.args.st.now) (num_none c.read_byte.ensures c.in_default.is)

pub expression::write-select-requires : goal.expression::write-select-requires
expression::write-select-requires t c = (omega (arith, c.decreases, c.if-left-eq0.false), tt)

pub expression::write-returns-then-tag-eq8 : goal.expression::write-returns-then-tag-eq8
expression::write-returns-then-tag-eq8 t c =
    let tag_is = num_is c.read_byte.ensures c.in-Some.is in
    expression_select _ _ _ _ _ {w = (world c.args.store.now c.args.text.now c.args.list.now c.args.work.now c.args.trail.now c.args.st.now)} tag_is c.if-tag-eq8.true c.select.ensures

pub expression::write-write-requires : goal.expression::write-write-requires
expression::write-write-requires t c = (omega (arith, c.decreases), tt)

pub expression::write-returns : goal.expression::write-returns
expression::write-returns t c =
    let tag_is = num_is c.read_byte.ensures c.in-Some.is in
    expression_inline _ _ _ _ _ {w = (world c.args.store.now c.args.text.now c.args.list.now c.args.work.now c.args.trail.now c.args.st.now)} tag_is c.if-tag-eq8.false c.write.ensures

pub inline::as_text-message-requires : goal.inline::as_text-message-requires
inline::as_text-message-requires t c = let k = ap (λ (s : Progress). s.begun) c.set_aside.ensures in (omega (arith, c.decreases), tt)

pub inline::as_text-returns-then-tag-eq4 : goal.inline::as_text-returns-then-tag-eq4
inline::as_text-returns-then-tag-eq4 t c = λ hb ht. c.keep_text.ensures.kept _ _ _ c.args.text.now c.args.list.now c.args.work.now c.args.trail.now c.args.st.now c.set_aside.ensures _ _ _ _ (inline_message _ _ _ _ _ hb c.if-tag-eq4.true c.message.ensures) refl refl

pub inline::as_text-returns-then-left-eq0 : goal.inline::as_text-returns-then-left-eq0
inline::as_text-returns-then-left-eq0 t c = λ hb ht. text_deep _ _ _ c.args.text.now c.args.list.now c.args.work.now c.args.trail.now c.args.st.now _ c.set_aside.ensures c.if-left-eq0.true

pub inline::as_text-refer-requires : goal.inline::as_text-refer-requires
inline::as_text-refer-requires t c = let k = ap (λ (s : Progress). s.begun) c.set_aside.ensures in (omega (arith, c.decreases, c.if-left-eq0.false), tt)

pub inline::as_text-returns-then-tag-eq5 : goal.inline::as_text-returns-then-tag-eq5
inline::as_text-returns-then-tag-eq5 t c = λ hb ht. c.keep_text-then-tag-eq5.ensures.kept _ _ _ c.args.text.now c.args.list.now c.args.work.now c.args.trail.now c.args.st.now c.set_aside.ensures _ _ _ _ (inline_term _ _ _ _ _ hb c.if-tag-eq5.true c.refer.ensures) refl refl

pub inline::as_text-write-requires : goal.inline::as_text-write-requires
inline::as_text-write-requires t c = let k = ap (λ (s : Progress). s.begun) c.set_aside.ensures in (omega (arith, c.decreases, c.if-left-eq0.false), tt)

pub inline::as_text-returns : goal.inline::as_text-returns
inline::as_text-returns t c = λ hb ht. c.keep_text-2.ensures.kept _ _ _ c.args.text.now c.args.list.now c.args.work.now c.args.trail.now c.args.st.now c.set_aside.ensures _ _ _ _ (inline_nested _ _ _ _ _ hb (text_tag_law _ ht (λ q. absurd (c.if-tag-eq4.false q)) (λ q. absurd (c.if-tag-eq5.false q)) (λ q. q)) c.write.ensures) refl refl

pub inline::message-returns-then-is_refused : goal.inline::message-returns-then-is_refused
inline::message-returns-then-is_refused t c = message_over _ _ (world c.args.store.now c.args.text.now c.args.list.now c.args.work.now c.args.trail.now c.args.st.now) (refused_yes c.is_refused.ensures c.if-is_refused.true)

pub inline::message-track-requires : goal.inline::message-track-requires
inline::message-track-requires t c = (omega (arith, c.decreases), tt)

pub inline::message-slice_bounds-list_no_value-count : goal.inline::message-slice_bounds-list_no_value-count
inline::message-slice_bounds-list_no_value-count t c =
    let inside = message_inside c.target_of.ensures c.in-NoValue.is in
    omega (arith, inside)

pub inline::message-returns-in-At : goal.inline::message-returns-in-At
inline::message-returns-in-At t c = message_tracked c.target_of.ensures c.in-At.is _ c.track.ensures

pub inline::message-returns-in-NoValue : goal.inline::message-returns-in-NoValue
inline::message-returns-in-NoValue t c = message_listed c.target_of.ensures c.in-NoValue.is _ _ (no_value_acts _ c.list_no_value.ensures) c.put_error.ensures

pub inline::message-returns-in-Missing : goal.inline::message-returns-in-Missing
inline::message-returns-in-Missing t c = message_missed c.target_of.ensures c.in-Missing.is _ _ c.count_if.ensures c.ref_error.ensures

pub inline::message-returns-in-Bad : goal.inline::message-returns-in-Bad
inline::message-returns-in-Bad t c = message_nowhere c.target_of.ensures c.in-Bad.is _ _

pub inline::resolve-returns-then-is_refused : goal.inline::resolve-returns-then-is_refused
inline::resolve-returns-then-is_refused t c = value_over _ _ _ (world c.args.store.now c.args.text.now c.args.list.now c.args.work.now c.args.trail.now c.args.st.now) _ (refused_yes c.is_refused.ensures c.if-is_refused.true)

pub inline::resolve-returns-then-left-eq0 : goal.inline::resolve-returns-then-left-eq0
inline::resolve-returns-then-left-eq0 t c = value_deep _ _ _ (world c.args.store.now c.args.text.now c.args.list.now c.args.work.now c.args.trail.now c.args.st.now) _ c.if-left-eq0.true

pub inline::resolve-returns-in_default : goal.inline::resolve-returns-in_default
inline::resolve-returns-in_default t c = value_none _ _ _ (world c.args.store.now c.args.text.now c.args.list.now c.args.work.now c.args.trail.now c.args.st.now) _ (num_none c.read_byte.ensures c.in_default.is)

pub inline::resolve-returns-then-tag-eq6 : goal.inline::resolve-returns-then-tag-eq6
inline::resolve-returns-then-tag-eq6 t c =
    let tag_is = num_is c.read_byte.ensures c.in-Some.is in
    c.resolve_leaf.ensures _ _ _ _ tag_is (lone_variable c.if-tag-eq6.true)

pub inline::resolve-as_text-requires : goal.inline::resolve-as_text-requires
inline::resolve-as_text-requires t c = (omega (arith, c.decreases), tt)

pub inline::resolve-returns-then-gives_text : goal.inline::resolve-returns-then-gives_text
inline::resolve-returns-then-gives_text t c =
    let tag_is = num_is c.read_byte.ensures c.in-Some.is in
    let gives = sym c.gives_text.ensures ∙ c.if-gives_text.true in
    value_of_text _ _ _ _ _ tag_is {w = (world c.args.store.now c.args.text.now c.args.list.now c.args.work.now c.args.trail.now c.args.st.now)} (c.as_text.ensures tag_is gives) gives

pub inline::resolve-function-requires : goal.inline::resolve-function-requires
inline::resolve-function-requires t c = (omega (arith, c.decreases, c.if-left-eq0.false), tt)

pub inline::resolve-returns-then-tag-eq3 : goal.inline::resolve-returns-then-tag-eq3
inline::resolve-returns-then-tag-eq3 t c =
    let tag_is = num_is c.read_byte.ensures c.in-Some.is in
    let three = c.if-tag-eq3.true in
    value_function _ _ _ _ _ tag_is {w = (world c.args.store.now c.args.text.now c.args.list.now c.args.work.now c.args.trail.now c.args.st.now)} (λ q. omega (arith, three)) (λ q. omega (arith, three)) (λ q. omega (arith, three)) (λ q. omega (arith, three)) (λ q. omega (arith, three)) (λ q. omega (arith, three)) c.function.ensures

pub inline::resolve-returns : goal.inline::resolve-returns
inline::resolve-returns t c =
    let tag_is = num_is c.read_byte.ensures c.in-Some.is in
    c.resolve_leaf-2.ensures _ _ _ _ tag_is (lone_other _ c.if-tag-eq3.false (sym c.gives_text.ensures ∙ c.if-gives_text.false))

pub inline::write-returns-then-is_refused : goal.inline::write-returns-then-is_refused
inline::write-returns-then-is_refused t c = inline_over _ _ _ (world c.args.store.now c.args.text.now c.args.list.now c.args.work.now c.args.trail.now c.args.st.now) (refused_yes c.is_refused.ensures c.if-is_refused.true)

pub inline::write-returns-then-left-eq0 : goal.inline::write-returns-then-left-eq0
inline::write-returns-then-left-eq0 t c = inline_deep _ _ _ (world c.args.store.now c.args.text.now c.args.list.now c.args.work.now c.args.trail.now c.args.st.now) c.if-left-eq0.true

pub inline::write-returns-in_default : goal.inline::write-returns-in_default
inline::write-returns-in_default t c = inline_none _ _ _ (world c.args.store.now c.args.text.now c.args.list.now c.args.work.now c.args.trail.now c.args.st.now) (num_none c.read_byte.ensures c.in_default.is)

pub inline::write-write-requires : goal.inline::write-write-requires
inline::write-write-requires t c = (omega (arith, c.decreases, c.if-left-eq0.false), tt)

pub inline::write-returns-then-tag-eq7 : goal.inline::write-returns-then-tag-eq7
inline::write-returns-then-tag-eq7 t c =
    let tag_is = num_is c.read_byte.ensures c.in-Some.is in
    inline_nested _ _ _ _ _ tag_is {w = (world c.args.store.now c.args.text.now c.args.list.now c.args.work.now c.args.trail.now c.args.st.now)} c.if-tag-eq7.true c.write.ensures

pub inline::write-message-requires : goal.inline::write-message-requires
inline::write-message-requires t c = (omega (arith, c.decreases), tt)

pub inline::write-returns-then-tag-eq4 : goal.inline::write-returns-then-tag-eq4
inline::write-returns-then-tag-eq4 t c =
    let tag_is = num_is c.read_byte.ensures c.in-Some.is in
    inline_message _ _ _ _ _ tag_is {w = (world c.args.store.now c.args.text.now c.args.list.now c.args.work.now c.args.trail.now c.args.st.now)} c.if-tag-eq4.true c.message.ensures

pub inline::write-refer-requires : goal.inline::write-refer-requires
inline::write-refer-requires t c = (omega (arith, c.decreases, c.if-left-eq0.false), tt)

pub inline::write-returns-then-tag-eq5 : goal.inline::write-returns-then-tag-eq5
inline::write-returns-then-tag-eq5 t c =
    let tag_is = num_is c.read_byte.ensures c.in-Some.is in
    inline_term _ _ _ _ _ tag_is {w = (world c.args.store.now c.args.text.now c.args.list.now c.args.work.now c.args.trail.now c.args.st.now)} c.if-tag-eq5.true c.refer.ensures

pub inline::write-function-requires : goal.inline::write-function-requires
inline::write-function-requires t c = (omega (arith, c.decreases, c.if-left-eq0.false), tt)

pub inline::write-returns-then-tag-eq3 : goal.inline::write-returns-then-tag-eq3
inline::write-returns-then-tag-eq3 t c =
    let tag_is = num_is c.read_byte.ensures c.in-Some.is in
    c.write_called.ensures _ _ _ _ _ (world c.args.store.now c.args.text.now c.args.list.now c.args.work.now c.args.trail.now c.args.st.now) tag_is c.if-tag-eq3.true c.function.ensures

pub inline::write-returns : goal.inline::write-returns
inline::write-returns t c =
    let tag_is = num_is c.read_byte.ensures c.in-Some.is in
    c.write_leaf.ensures _ _ _ tag_is (record { no_call = c.if-tag-eq3.false; no_message = c.if-tag-eq4.false; no_term = c.if-tag-eq5.false; no_nested = c.if-tag-eq7.false })

pub pattern::element-returns-then-is_refused : goal.pattern::element-returns-then-is_refused
pattern::element-returns-then-is_refused t c = element_over _ _ _ _ (world c.args.store.now c.args.text.now c.args.list.now c.args.work.now c.args.trail.now c.args.st.now) (refused_yes c.is_refused.ensures c.if-is_refused.true)

pub pattern::element-returns-then-st : goal.pattern::element-returns-then-st
pattern::element-returns-then-st t c = element_dirty _ _ _ _ _ c.args.text.now c.args.list.now c.args.work.now c.args.trail.now c.args.st.now c.if-st.true

pub pattern::element-returns-in_default : goal.pattern::element-returns-in_default
pattern::element-returns-in_default t c = element_none _ _ _ _ (world c.args.store.now c.args.text.now c.args.list.now c.args.work.now c.args.trail.now c.args.st.now) (num_none c.read_byte.ensures c.in_default.is)

pub pattern::element-returns-in_default-read_str : goal.pattern::element-returns-in_default-read_str
pattern::element-returns-in_default-read_str t c =
    let tag_is = num_is c.read_byte.ensures c.in-Some.is in
    element_text_none _ _ _ _ _ _ tag_is (world c.args.store.now c.args.text.now c.args.list.now c.args.work.now c.args.trail.now c.args.st.now) c.if-tag-eq1.true (str_bad _ _ c.read_str.ensures c.in_default-read_str.is)

pub pattern::element-slice_bounds-put-count : goal.pattern::element-slice_bounds-put-count
pattern::element-slice_bounds-put-count t c =
    let str-inside = str_in _ _ c.read_str.ensures c.in-Some-read_str.is in
    omega (arith, str-inside)

pub pattern::element-slice_bounds-put-start : goal.pattern::element-slice_bounds-put-start
pattern::element-slice_bounds-put-start t c =
    let str-inside = str_in _ _ c.read_str.ensures c.in-Some-read_str.is in
    omega (arith, str-inside)

pub pattern::element-slice_bounds-put-end : goal.pattern::element-slice_bounds-put-end
pattern::element-slice_bounds-put-end t c =
    let str-inside = str_in _ _ c.read_str.ensures c.in-Some-read_str.is in
    omega (arith, str-inside)

pub pattern::element-returns-then-tag-eq1 : goal.pattern::element-returns-then-tag-eq1
pattern::element-returns-then-tag-eq1 t c =
    let tag_is = num_is c.read_byte.ensures c.in-Some.is in
    element_text _ _ _ _ _ _ tag_is {w = (world c.args.store.now c.args.text.now c.args.list.now c.args.work.now c.args.trail.now c.args.st.now)} c.if-tag-eq1.true (str_is _ _ c.read_str.ensures c.in-Some-read_str.is) c.if-st.false (written_acts _ c.put.ensures _ _ _)

pub pattern::element-returns-then-st-gt100 : goal.pattern::element-returns-then-st-gt100
pattern::element-returns-then-st-gt100 t c =
    let tag_is = num_is c.read_byte.ensures c.in-Some.is in
    element_far _ _ _ _ _ _ tag_is (world c.args.store.now c.args.text.now c.args.list.now c.args.work.now c.args.trail.now c.args.st.now) c.if-st.false c.if-st-gt100.true

pub pattern::element-returns-then-not-may_begin : goal.pattern::element-returns-then-not-may_begin
pattern::element-returns-then-not-may_begin t c =
    let tag_is = num_is c.read_byte.ensures c.in-Some.is in
    element_full _ _ _ _ _ _ tag_is c.args.text.now c.args.list.now c.args.work.now c.args.trail.now c.args.st.now c.if-tag-eq1.false (refused_no c.is_refused.ensures c.if-is_refused.false) c.if-st.false (let n = begin_not c.args.st.now (sym c.may_begin.ensures ∙ c.if-not-may_begin.true) in omega (arith, n, c.if-st-gt100.false)) (too_many_acts c.list_too_many.ensures)

pub pattern::element-write-requires : goal.pattern::element-write-requires
pattern::element-write-requires t c = let k = ap (λ (s : Progress). s.begun) (c.begin.ensures ∙ begin_one c.args.st.now (sym c.may_begin.ensures ∙ c.if-not-may_begin.false)) in let j = (fsi_acts _ c.put_fsi.ensures [] [] []).kept.begun in let b = begin_may c.args.st.now (sym c.may_begin.ensures ∙ c.if-not-may_begin.false) in (omega (arith, c.decreases, b), tt)

pub pattern::element-returns : goal.pattern::element-returns
pattern::element-returns t c =
    let tag_is = num_is c.read_byte.ensures c.in-Some.is in
    element_placeable _ _ _ _ _ _ tag_is c.args.text.now c.args.list.now c.args.work.now c.args.trail.now c.args.st.now c.if-tag-eq1.false (refused_no c.is_refused.ensures c.if-is_refused.false) c.if-st.false (begin_may c.args.st.now (sym c.may_begin.ensures ∙ c.if-not-may_begin.false)) (c.begin.ensures ∙ begin_one c.args.st.now (sym c.may_begin.ensures ∙ c.if-not-may_begin.false)) (marks_are _ _ _ c.has_marks-marks.ensures) (fsi_acts _ c.put_fsi.ensures _ _ _) c.write.ensures c.put_cut.ensures (pdi_acts _ c.put_pdi.ensures _ _ _)

pub pattern::track-returns-then-is_refused : goal.pattern::track-returns-then-is_refused
pattern::track-returns-then-is_refused t c = track_over _ _ _ (world c.args.store.now c.args.text.now c.args.list.now c.args.work.now c.args.trail.now c.args.st.now) (refused_yes c.is_refused.ensures c.if-is_refused.true)

pub pattern::track-returns-then-d-ge102 : goal.pattern::track-returns-then-d-ge102
pattern::track-returns-then-d-ge102 t c = track_far _ _ _ (world c.args.store.now c.args.text.now c.args.list.now c.args.work.now c.args.trail.now c.args.st.now) c.if-d-ge102.true

pub pattern::track-returns-then-on_trail : goal.pattern::track-returns-then-on_trail
pattern::track-returns-then-on_trail t c = track_cyclic _ _ _ c.args.text.now c.args.list.now c.args.work.now c.args.trail.now c.args.st.now _ (trail_within _ _ _ _ (omega (arith, c.if-d-ge102.false)) c.on_trail.ensures) c.if-on_trail.true (plain_acts _ c.list_plain.ensures) c.put_error.ensures

pub pattern::track-write-requires : goal.pattern::track-write-requires
pattern::track-write-requires t c = let k = ap (λ (s : Progress). s.begun) c.set_depth.ensures in (omega (arith, c.decreases), tt)

pub pattern::track-returns : goal.pattern::track-returns
pattern::track-returns t c = track_cross _ _ _ c.args.text.now c.args.list.now c.args.work.now c.args.trail.now c.args.st.now _ (trail_within _ _ _ _ (omega (arith, c.if-d-ge102.false)) c.on_trail.ensures) (refused_no c.is_refused.ensures c.if-is_refused.false) c.if-on_trail.false c.if-d-ge102.false c.set_depth.ensures c.write.ensures c.set_depth-2.ensures

pub pattern::write-returns-in_default : goal.pattern::write-returns-in_default
pattern::write-returns-in_default t c = pattern_none _ _ _ (world c.args.store.now c.args.text.now c.args.list.now c.args.work.now c.args.trail.now c.args.st.now) (num_none c.read_u32.ensures c.in_default.is)

pub pattern::write-returns-in_default-read_u16 : goal.pattern::write-returns-in_default-read_u16
pattern::write-returns-in_default-read_u16 t c = pattern_worse _ _ _ _ (num_is c.read_u32.ensures c.in-Some.is) (num_none c.read_u16.ensures c.in_default-read_u16.is)

pub pattern::write-loop-init : goal.pattern::write-loop-init
pattern::write-loop-init t c = rw (sub-zero c.in-Some-read_u16.n) (refl, refl, refl, omega arith, λ v h. h)

pub pattern::write-element-requires : goal.pattern::write-element-requires
pattern::write-element-requires t c = let j = c.loop.invariant.3 in (omega (arith, c.decreases), tt)

pub pattern::write-returns-in_default-skip_element : goal.pattern::write-returns-in_default-skip_element
pattern::write-returns-in_default-skip_element t c = pattern_all _ _ _ _ _ _ _ _ (num_is c.read_u32.ensures c.in-Some.is) (num_is c.read_u16.ensures c.in-Some-read_u16.is) (isolating_is _ _ c.isolates-iso.ensures) (c.loop.invariant.4 _ (elements_stop _ _ _ _ _ (omega (arith, c.loop-test.true)) c.element.ensures (element_passed _ _ _ c.skip_element.ensures) c.in_default-skip_element.is))

pub pattern::write-loop-preserved : goal.pattern::write-loop-preserved
pattern::write-loop-preserved t c = rw (sub-add-eq c.in-Some-read_u16.n c.loop.counter 1) (
  c.element.auto.text ∙ c.loop.invariant.0,
  c.element.auto.list ∙ c.loop.invariant.1,
  c.element.auto.work ∙ c.loop.invariant.2,
  le_trans c.loop.invariant.3 c.element.ensures.kept.begun,
  λ v h. c.loop.invariant.4 v (elements_more _ _ _ _ _ (omega (arith, c.loop-test.true)) c.element.ensures (element_passed _ _ _ c.skip_element.ensures) c.in-Some-skip_element.is v h),
)

pub pattern::write-returns : goal.pattern::write-returns
pattern::write-returns t c = pattern_all _ _ _ _ _ _ _ _ (num_is c.read_u32.ensures c.in-Some.is) (num_is c.read_u16.ensures c.in-Some-read_u16.is) (isolating_is _ _ c.isolates-iso.ensures) (c.loop.invariant.4 _ (elements_none _ _ _ _ _ _ (omega (arith, c.loop-test.false))))

pub term::each-returns-in_default : goal.term::each-returns-in_default
term::each-returns-in_default t c = (val.Wrong, positional_none _ _ _ (world c.args.store.now c.args.text.now c.args.list.now c.args.work.now c.args.trail.now c.args.st.now) _ _ (num_none c.read_u16.ensures c.in_default.is))

pub term::each-loop-init : goal.term::each-loop-init
term::each-loop-init t c = rw (sub-zero c.in-Some.n) (refl, refl, refl, omega arith, (val.Wrong, none_yet refl refl refl refl), λ v e h. h)

pub term::each-resolve-requires : goal.term::each-resolve-requires
term::each-resolve-requires t c = let j = c.loop.invariant.3 in (omega (arith, c.decreases), tt)

pub term::each-returns-in_default-skip_expression : goal.term::each-returns-in_default-skip_expression
term::each-returns-in_default-skip_expression t c = (val.Wrong, positional_stop _ _ _ (num_is c.read_u16.ensures c.in-Some.is) (λ end. c.loop.invariant.5 _ end (inlines_stop _ _ _ _ (omega (arith, c.loop-test.true)) c.resolve.ensures (inline_passed _ _ _ c.skip_expression.ensures) c.in_default-skip_expression.is end)) _ _)

pub term::each-loop-preserved : goal.term::each-loop-preserved
term::each-loop-preserved t c = rw (sub-add-eq c.in-Some.n c.loop.counter 1) (
  c.resolve.auto.text ∙ c.loop.invariant.0,
  c.resolve.auto.list ∙ c.loop.invariant.1,
  c.resolve.auto.work ∙ c.loop.invariant.2,
  le_trans c.loop.invariant.3 c.resolve.ensures.kept.begun,
  taken_next _ (omega (arith, c.loop-test.true)) c.loop.invariant.4.1 c.resolve.ensures,
  λ v e h. c.loop.invariant.5 v e (inlines_more _ _ _ _ (omega (arith, c.loop-test.true)) c.resolve.ensures (inline_passed _ _ _ c.skip_expression.ensures) c.in-Some-skip_expression.is v e h),
)

pub term::each-returns : goal.term::each-returns
term::each-returns t c = (c.loop.invariant.4.0, positional_all _ _ _ (num_is c.read_u16.ensures c.in-Some.is) (λ e. omega (arith, c.loop-test.false)) c.loop.invariant.4.1 (c.loop.invariant.5 _ _ (inlines_none _ _ _ _ _ (omega (arith, c.loop-test.false)))))

pub term::found-returns-then-is_refused : goal.term::found-returns-then-is_refused
term::found-returns-then-is_refused t c = found_term_over _ _ (world c.args.store.now c.args.text.now c.args.list.now c.args.work.now c.args.trail.now c.args.st.now) (refused_yes c.is_refused.ensures c.if-is_refused.true)

pub term::found-track-requires : goal.term::found-track-requires
term::found-track-requires t c = (omega (arith, c.decreases), tt)

pub term::found-returns-in-At : goal.term::found-returns-in-At
term::found-returns-in-At t c = term_tracked c.target_of.ensures c.in-At.is _ c.track.ensures

pub term::found-returns-in-NoValue : goal.term::found-returns-in-NoValue
term::found-returns-in-NoValue t c = term_valued c.target_of.ensures c.in-NoValue.is

pub term::found-returns-in-Missing : goal.term::found-returns-in-Missing
term::found-returns-in-Missing t c = term_missed c.target_of.ensures c.in-Missing.is _ _ c.count_if.ensures c.ref_error.ensures

pub term::found-returns-in-Bad : goal.term::found-returns-in-Bad
term::found-returns-in-Bad t c = term_nowhere c.target_of.ensures c.in-Bad.is _ _

pub term::refer-returns-then-is_refused : goal.term::refer-returns-then-is_refused
term::refer-returns-then-is_refused t c = term_over _ _ _ (world c.args.store.now c.args.text.now c.args.list.now c.args.work.now c.args.trail.now c.args.st.now) (refused_yes c.is_refused.ensures c.if-is_refused.true)

pub term::refer-returns-in_default : goal.term::refer-returns-in_default
term::refer-returns-in_default t c = flag_none c.term_flag.ensures c.in_default.is _ _ _

pub term::refer-found-requires : goal.term::refer-found-requires
term::refer-found-requires t c = let k = ap (λ (s : Progress). s.begun) c.set_locals.ensures in (omega (arith, c.decreases), tt)

pub term::refer-returns-then-flag-eq0 : goal.term::refer-returns-then-flag-eq0
term::refer-returns-then-flag-eq0 t c = flag_is c.term_flag.ensures c.in-Some.is (λ q y rd er hb. term_bare _ _ _ rd _ er hb c.args.text.now c.args.list.now c.args.work.now c.args.trail.now c.args.st.now (refused_no c.is_refused.ensures c.if-is_refused.false) c.if-flag-eq0.true c.set_locals.ensures c.found.ensures c.clear_locals.ensures)

pub term::refer-each-requires : goal.term::refer-each-requires
term::refer-each-requires t c = (omega (arith, c.decreases), tt)

pub term::refer-returns-then-is_refused-2 : goal.term::refer-returns-then-is_refused-2
term::refer-returns-then-is_refused-2 t c = flag_is c.term_flag.ensures c.in-Some.is (λ q y rd er hb. term_stopped _ _ _ rd _ er hb c.if-flag-eq0.false (world c.args.store.now c.args.text.now c.args.list.now c.args.work.now c.args.trail.now c.args.st.now) c.each.ensures.1 (refused_yes c.is_refused-2.ensures c.if-is_refused-2.true))

pub term::refer-returns-in_default-read_u16 : goal.term::refer-returns-in_default-read_u16
term::refer-returns-in_default-read_u16 t c = flag_is c.term_flag.ensures c.in-Some.is (λ q y rd er hb. term_unnamed _ _ _ rd _ er hb c.if-flag-eq0.false (world c.args.store.now c.args.text.now c.args.list.now c.args.work.now c.args.trail.now c.args.st.now) c.each.ensures.1 (num_none c.read_u16.ensures c.in_default-read_u16.is))

pub term::refer-found-requires-2 : goal.term::refer-found-requires-2
term::refer-found-requires-2 t c = let k = ap (λ (s : Progress). s.begun) c.set_named.ensures.sets in let j = c.each.ensures.1.kept.begun in let i = (c.set_named.ensures.named.kept [] [] []).begun in (omega (arith, c.decreases), tt)

pub term::refer-returns-then-is_refused-3 : goal.term::refer-returns-then-is_refused-3
term::refer-returns-then-is_refused-3 t c = flag_is c.term_flag.ensures c.in-Some.is (λ q y rd er hb. term_refused _ _ _ rd _ er hb c.if-flag-eq0.false (world c.args.store.now c.args.text.now c.args.list.now c.args.work.now c.args.trail.now c.args.st.now) c.each.ensures.1 (num_is c.read_u16.ensures c.in-Some-read_u16.is) c.set_named.ensures.named c.set_named.ensures.sets c.found-2.ensures c.clear_locals-2.ensures (refused_yes c.is_refused-3.ensures c.if-is_refused-3.true))

pub term::refer-returns : goal.term::refer-returns
term::refer-returns t c = flag_is c.term_flag.ensures c.in-Some.is (λ q y rd er hb. term_freed _ _ _ rd _ er hb c.if-flag-eq0.false (world c.args.store.now c.args.text.now c.args.list.now c.args.work.now c.args.trail.now c.args.st.now) c.each.ensures.1 (num_is c.read_u16.ensures c.in-Some-read_u16.is) c.set_named.ensures.named c.set_named.ensures.sets c.found-2.ensures c.clear_locals-2.ensures c.set_back.ensures)

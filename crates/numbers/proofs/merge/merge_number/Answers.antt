-- `numbers::merge::merge_number` meets its contract: a name names the place of its count, and only the fraction's minimum has a limit.
use Prim.Native.Nat.{ℕ}
use Rattle.decimals.specs.Decimal.{fraction_limit}
use Rattle.decimals.specs.Relations.Shown.{told}
use Rattle.numbers.proofs.Places.{count_place, long_named, merge_named}
use Rattle.numbers.specs.Relations.Shown.{merged_of}
use Rattle.numbers.specs.Value.{merge_one, to_count}
use lib.Dec.{eqb, ltb}
use mathlib.Core.Bool.{◌&&◌}
use mathlib.Core.Path.{◌∙◌, ap, sym}
use Rattle.numbers.proofs.merge.merge_number.Goals as goal

pub returns-then-too_long : goal.returns-then-too_long
unfolding merged_of
returns-then-too_long c =
    let name = c.args.name.now in
    let place = c.count_place-at.ensures ∙ count_place name in
    let limit = sym (long_named name (told c.args.value)) ∙ sym (ap (λ (n : ℕ). eqb n 1 && ltb fraction_limit (to_count (told c.args.value))) place) ∙ ap (λ (k : ℕ). eqb c.count_place-at.result 1 && ltb fraction_limit k) (sym c.to_count-count.ensures) ∙ sym c.too_long.ensures in
    rw (limit ∙ c.if-too_long.true, merged_of)

pub returns : goal.returns
unfolding merged_of merge_one
returns c =
    let name = c.args.name.now in
    let place = c.count_place-at.ensures ∙ count_place name in
    let limit = sym (long_named name (told c.args.value)) ∙ sym (ap (λ (n : ℕ). eqb n 1 && ltb fraction_limit (to_count (told c.args.value))) place) ∙ ap (λ (k : ℕ). eqb c.count_place-at.result 1 && ltb fraction_limit k) (sym c.to_count-count.ensures) ∙ sym c.too_long.ensures in
    rw (limit ∙ c.if-too_long.false, merged_of) (rw (c.with_count.ensures, place, c.to_count-count.ensures, merge_named name (to_count (told c.args.value)) c.args.o))

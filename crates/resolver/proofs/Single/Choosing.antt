-- Steps of choosing a variant: the value that chooses, and the choice that the definition makes by it.
use Rattle.records.specs.Relations.Answer.{Next}
use mathlib.Core.Path.{◌≡◌, refl, ap, sym, subst, ◌∙◌}
use mathlib.Core.List.{List}
use mathlib.Core.Option.{Option}
use Prim.Native.Nat.{ℕ}
use Rattle.decimals.specs.Relations.Shown.{shown, told}
use Rattle.decimals.specs.declared.types.Number as CodeNumber
use Rattle.numbers.specs.Value.{Value, textual, numeric}
use Rattle.records.specs.Got.{got}
use Rattle.records.specs.Images.{Store, store_of}
use Rattle.arguments.specs.Relations.Given.{between}
use Rattle.arguments.proofs.Laws.{between_in}
use Rattle.resolution.specs.Resolve.{chosen}
use Rattle.variants.specs.Outline.{variants_at}
use Rattle.variants.specs.Choice.{first_of, is_default, chosen_at}
use Rattle.variants.specs.Relations.Sought.{pattern_place}
use Rattle.variants.specs.Relations.Pick.{Pick, PickAt}
use Rattle.variants.proofs.Keys.{nothing_chosen, wrong_chosen}
use Rattle.variants.proofs.Choosing.{chosen_picks, shown_chosen}
use Rattle.values.specs.declared.Value as CodeValue
use Rattle.values.specs.declared.Value.TheVariants as val
use Rattle.resolver.specs.Relations.Meets.{Holds, in_store, in_args, in_work, a_number, is_nothing, a_wrong, text_inside, held_value}

module _ (i a w : List ℕ) (at : ℕ) (c : CodeValue.Value) (r : Next) where
  -- r is the choice by what the code holds
  abbrev pub ByHeld : ℕ → Type 0
  ByHeld locale = r ≡ pattern_place (chosen_at locale (held_value i a w c) i at)

  abbrev ByText : List ℕ → Type 0
  ByText t = (locale : ℕ) → r ≡ pattern_place (chosen_at locale (textual t) i at)

  abbrev ByDefault : Type 0
  ByDefault = r ≡ pattern_place (first_of is_default (variants_at i at))

  held_as : (locale : ℕ) {v : Value} → held_value i a w c ≡ v → r ≡ pattern_place (chosen_at locale v i at) → ByHeld locale
  held_as locale ev er = er ∙ ap (λ (v : Value). pattern_place (chosen_at locale v i at)) (sym ev)

  pub by_work : {b e : ℕ} {t : List ℕ} → c ≡ val.Work b e → t ≡ between w b e → ByText t → (locale : ℕ) → ByHeld locale
  unfolding held_value
  by_work ec et h locale = held_as locale (ap (held_value i a w) ec ∙ ap textual (sym et)) (h locale)

  -- a value that is no part of the workspace, no number, no nothing and no error
  abbrev pub OnlyText : CodeValue.Value → Type 0
  OnlyText x = ((b e : ℕ) → x ≡ val.Work b e → ⊥) × ((n : CodeNumber.Number) → x ≡ val.Number n → ⊥) × (x ≡ val.Nothing → ⊥) × (x ≡ val.Wrong → ⊥)

  text_held : (x : CodeValue.Value) → OnlyText x → held_value i a w x ≡ textual (text_inside i a x)
  unfolding held_value text_inside
  text_held (val.Store b e) k = refl
  text_held (val.Args b e) k = refl
  text_held (val.Work b e) k = absurd (k.0 b e refl)
  text_held (val.Number n) k = absurd (k.1 n refl)
  text_held val.Nothing k = absurd (k.2 refl)
  text_held val.Wrong k = absurd (k.3 refl)

  pub by_text : {t : List ℕ} → OnlyText c → t ≡ text_inside i a c → ByText t → (locale : ℕ) → ByHeld locale
  by_text k et h locale = held_as locale (text_held c k ∙ ap textual (sym et)) (h locale)

  pub by_number : {n : CodeNumber.Number} {l locale : ℕ} → c ≡ val.Number n → r ≡ pattern_place (chosen_at l (numeric (told n)) i at) → l ≡ locale → ByHeld locale
  unfolding held_value
  by_number {n} {l} {locale} ec er el = held_as locale (ap (held_value i a w) ec) (er ∙ ap (λ (j : ℕ). pattern_place (chosen_at j (numeric (told n)) i at)) el)

  pub by_nothing : c ≡ val.Nothing → ByDefault → (locale : ℕ) → ByHeld locale
  unfolding held_value
  by_nothing ec er locale = held_as locale (ap (held_value i a w) ec) (er ∙ nothing_chosen locale i at)

  pub by_wrong : c ≡ val.Wrong → ByDefault → (locale : ℕ) → ByHeld locale
  unfolding held_value
  by_wrong ec er locale = held_as locale (ap (held_value i a w) ec) (er ∙ wrong_chosen locale i at)

  -- where the value is held, the choice by what is held is the choice by the value
  pick_as : (locale : ℕ) (v : Value) → held_value i a w c ≡ v → ByHeld locale → PickAt i at (chosen locale v) r
  pick_as locale v ev er = subst (λ (x : Next). PickAt i at (chosen locale v) x) (sym (er ∙ ap (λ (y : Value). pattern_place (chosen_at locale y i at)) ev)) (chosen_picks i at locale v)

  held_picks : (locale low : ℕ) (v : Value) → Holds i a w low c v → ByHeld locale → PickAt i at (chosen locale v) r
  unfolding held_value
  held_picks locale low v (in_store b e ec lo hi ev) er = pick_as locale v (ap (held_value i a w) ec ∙ ap textual (between_in i b e lo hi) ∙ sym ev) er
  held_picks locale low v (in_args b e ec lo hi ev) er = pick_as locale v (ap (held_value i a w) ec ∙ ap textual (between_in a b e lo hi) ∙ sym ev) er
  held_picks locale low v (in_work b e ec _ lo hi ev) er = pick_as locale v (ap (held_value i a w) ec ∙ ap textual (between_in w b e lo hi) ∙ sym ev) er
  held_picks locale low v (a_number x ec _ ev) er = λ d k f vs g hk hv.
      subst (λ (o : Option ℕ). Pick i d o vs r) (shown_chosen locale x vs ∙ ap (λ (y : Value). chosen locale y vs) (sym ev)) (pick_as locale (numeric (told (shown x))) (ap (held_value i a w) ec) er d k f vs g hk hv)
  held_picks locale low v (is_nothing ec ev) er = pick_as locale v (ap (held_value i a w) ec ∙ sym ev) er
  held_picks locale low v (a_wrong ec ev) er = pick_as locale v (ap (held_value i a w) ec ∙ sym ev) er

  abbrev pub Choice : Type 0
  Choice = (v : Value) (low : ℕ) (st : Store) (f : ℕ) → Holds i a w low c v → store_of i ≡ got st f → PickAt i at (chosen st.locale v) r

  pub choice_is : ((st : Store) (f : ℕ) → store_of i ≡ got st f → ByHeld st.locale) → Choice
  choice_is h v low st f hc hs = held_picks st.locale low v hc (h st f hs)

-- What every text that resolution writes and every error that it reports are, where joining texts keeps it.
use mathlib.Core.Path.{◌≡◌, refl, ap, sym, subst}
use mathlib.Core.List.{[], ◌∷◌, ◌++◌, append_assoc}
use mathlib.Core.Bool.{Bool, true, false}
use mathlib.Core.Option.{Option, none, some}
use lib.Dec.{ltb}
use Rattle.records.specs.Errors.{Error, too_many_placeables}
use Rattle.records.specs.Valid.{All}
use Rattle.entries.specs.Lookup.{Holder, Find}
use Rattle.resolution.specs.Effect.{Bytes, put, Trace, keep_text, free, expand, State, Out, M, Done, ret, ◌>>=◌, ◌>>◌, emit, write, is_dirty, get_locals, set_locals, max_placeables, enter_if, enter, only_if, entered, capture, release}
use Rattle.resolution.specs.Resolve.{fsi, pdi, mark, look_for, look_up}
use Rattle.theorems.specs.Finished.{reported, reports}
use Rattle.theorems.proofs.Every.{all_append}
use Rattle.theorems.proofs.WalkLeaves.{Pred, Any, FineLocals, Closed}

pub reports_append : (a b : Trace) → reports (a ++ b) ≡ reports a ++ reports b
reports_append [] b = refl
reports_append (e ∷ a) b = rw (reports_append a b) (sym (append_assoc (reported e) (reports a) (reports b)))

-- what is asked of texts: nothing written will do, two that do make one that does, and so do the isolation marks with one between them
pub record Joins (T : Bytes → Type 0) : Type 0 where
  pub none : T []
  pub both : (a b : Bytes) → T a → T b → T (a ++ b)
  pub isolated : (a : Bytes) → T a → T (fsi ++ (a ++ pdi))

module _ (T : Bytes → Type 0) (E : Error → Type 0) where
  -- an action's text, its reports, its value and the term's arguments after it
  pub record Good {A : Type 0} (Ok : A → Type 0) (o : Out A) : Type 0 where
    pub text : T o.text
    pub listed : All E (reports o.trace)
    pub value : Ok o.value
    pub locals : FineLocals T o.state.locals

  abbrev pub Goods : Pred
  Goods A Ok m = (s : State) → FineLocals T s.locals → Good Ok (m s)

  joined : (a b : Trace) → All E (reports a) → All E (reports b) → All E (reports (a ++ b))
  joined a b h k = rw (reports_append a b) (all_append E (reports a) (reports b) h k)

  module _ (j : Joins T) (over : E too_many_placeables) where
    quiet : {A : Type 0} {Ok : A → Type 0} (a : A) → Ok a → Goods A Ok (ret a)
    unfolding ret
    quiet a h s l = record { text = j.none; listed = tt; value = h; locals = l }

    bind : {A B : Type 0} {Ok : A → Type 0} {Ok' : B → Type 0} {m : M A} {f : A → M B} → Goods A Ok m → ((a : A) → Ok a → Goods B Ok' (f a))
        → Goods B Ok' (m >>= f)
    unfolding ◌>>=◌
    bind {A} {B} {Ok} {Ok'} {m} {f} h k s l =
        let r : Good Ok (m s) = h s l in
        let q : Good Ok' (f (m s).value (m s).state) = k (m s).value r.value (m s).state r.locals in
        record {
          text = j.both (m s).text (f (m s).value (m s).state).text r.text q.text;
          listed = joined (m s).trace (f (m s).value (m s).state).trace r.listed q.listed;
          value = q.value;
          locals = q.locals;
        }

    next : {m n : M Done} → Goods Done Any m → Goods Done Any n → Goods Done Any (m >> n)
    unfolding ◌>>◌
    next h k = bind h (λ a q. k)

    expanded : Goods Done Any (emit expand)
    unfolding emit
    expanded s l = record { text = j.none; listed = tt; value = tt; locals = l }

    entering : (d few : Bool) → Goods Bool Any (enter_if d few)
    unfolding enter_if
    entering true few s l = record { text = j.none; listed = tt; value = tt; locals = l }
    entering false true s l = record { text = j.none; listed = tt; value = tt; locals = l }
    entering false false s l = record { text = j.none; listed = (over, tt); value = tt; locals = l }

    enters : Goods Bool Any enter
    unfolding enter
    enters s l = entering s.dirty (ltb s.begun max_placeables) s l

    only_if_law : (b : Bool) {m : M Done} → Goods Done Any m → Goods Done Any (only_if b m)
    unfolding only_if
    only_if_law true h = h
    only_if_law false h = quiet tt tt

    -- a placeable that is expanded: the marks, if it has them, about what its expression and the cut write
    inside : (c : Bool) {x y : M Done} → Goods Done Any x → Goods Done Any y → Goods Done Any (mark c fsi >> (emit expand >> (x >> (y >> mark c pdi))))
    unfolding mark write ret emit ◌>>=◌ ◌>>◌
    inside false h k s l = next (quiet tt tt) (next expanded (next h (next k (quiet tt tt)))) s l
    inside true {x} {y} h k s l =
        let r : Good Any (x s) = h s l in
        let q : Good Any (y (x s).state) = k (x s).state r.locals in
        let between : Bytes = (x s).text ++ (y (x s).state).text in
        record {
          text = subst T (ap (λ (t : Bytes). fsi ++ t) (append_assoc (x s).text (y (x s).state).text pdi)) (j.isolated between (j.both (x s).text (y (x s).state).text r.text q.text));
          listed = joined (x s).trace _ r.listed (joined (y (x s).state).trace (put pdi ∷ []) q.listed tt);
          value = tt;
          locals = q.locals;
        }

    placeable : (c : Bool) {x y : M Done} → Goods Done Any x → Goods Done Any y → Goods Done Any (entered (mark c fsi) (x >> (y >> mark c pdi)))
    unfolding entered
    placeable c h k = bind enters (λ go q. only_if_law go (inside c h k))

    captured : {m : M Done} → Goods Done Any m → Goods Bytes T (capture m)
    unfolding capture
    captured {m} h s l =
        let r : Good Any (m s) = h s l in
        record { text = j.none; listed = joined (m s).trace (keep_text ∷ []) r.listed tt; value = r.text; locals = r.locals }

    released : {A : Type 0} {Ok : A → Type 0} {m : M A} → Goods A Ok m → Goods A Ok (release m)
    unfolding release
    released {A} {Ok} {m} h s l =
        let r : Good Ok (m s) = h s l in
        record { text = r.text; listed = joined (m s).trace (free (m s).kept ∷ []) r.listed tt; value = r.value; locals = r.locals }

    pub goods_closed : Closed T E Goods
    unfolding emit write is_dirty get_locals set_locals
    goods_closed = record {
      k_ret = λ {A} {Ok} a h. quiet a h;
      k_bind = λ {A} {B} {Ok} {Ok'} {m} {f} h k. bind h k;
      k_report = λ e h s l. record { text = j.none; listed = (h, tt); value = tt; locals = l };
      k_merged = λ n s l. record { text = j.none; listed = tt; value = tt; locals = l };
      k_write = λ b h s l. record { text = h; listed = tt; value = tt; locals = l };
      k_dirty = λ s l. record { text = j.none; listed = tt; value = tt; locals = l };
      k_get = λ s l. record { text = j.none; listed = tt; value = l; locals = l };
      k_set = λ v h s l. record { text = j.none; listed = tt; value = tt; locals = h };
      k_entered = λ c {x} {y} h k. placeable c h k;
      k_capture = λ {m} h. captured h;
      k_release = λ {A} {Ok} {m} h. released h;
    }

    look_for_law : (o : Option Holder) → Goods (Option Holder) (λ r. r ≡ o) (look_for o)
    unfolding look_for
    look_for_law none s l = record { text = j.none; listed = tt; value = refl; locals = l }
    look_for_law (some e) s l = record { text = j.none; listed = tt; value = refl; locals = l }

    pub goods_look : (find : Find) (i : Bytes) → Goods (Option Holder) (λ r. r ≡ find i) (look_up find i)
    unfolding look_up
    goods_look find i = look_for_law (find i)

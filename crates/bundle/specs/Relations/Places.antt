-- The place of an item, or its refusal, in document 01's order.
use Rattle.std.specs.Prelude.{ℕ, ◌+◌, ◌≡◌, true, false, List, length, Result, Ok, Err}
use Rattle.records.specs.Got.{got, bad}
use Rattle.rules.specs.Rules.{is_id}
use Rattle.records.specs.Images.{Entry, Store, is_some, store_of, resource_of}
use Rattle.entries.specs.Lookup.{find_in}
use Rattle.growth.specs.Items.{has_room}
use Rattle.refusals.specs.declared.Refusal.{Refusal}
use Rattle.refusals.specs.declared.Refusal.TheVariants as refusal
use Rattle.bundle.specs.declared.Place.{Place}

-- of a resource
pub data ResourcePlace (s image : List ℕ) (r : Result Place Refusal) : Type 0 where
  resource_4 : store_of s ≡ bad → r ≡ Err refusal.MalformedStore → ResourcePlace s image r
  resource_5 : (st : Store) (u : ℕ) → store_of s ≡ got st u → resource_of image ≡ bad → r ≡ Err refusal.MalformedResource → ResourcePlace s image r
  resource_6 : (st : Store) (u : ℕ) (es : List Entry) (e : ℕ) → store_of s ≡ got st u → resource_of image ≡ got es e
      → has_room (length s) u (length st.items) (1 + length image) ≡ false → r ≡ Err refusal.FullStore → ResourcePlace s image r
  is_resource_at : (st : Store) (u : ℕ) (es : List Entry) (e : ℕ) → store_of s ≡ got st u → resource_of image ≡ got es e
      → has_room (length s) u (length st.items) (1 + length image) ≡ true → r ≡ Ok (record { used = u; count = length st.items }) → ResourcePlace s image r

-- of a function
pub data FunctionPlace (s id : List ℕ) (code : ℕ) (r : Result Place Refusal) : Type 0 where
  function_4 : store_of s ≡ bad → r ≡ Err refusal.MalformedStore → FunctionPlace s id code r
  function_8 : (st : Store) (u : ℕ) → store_of s ≡ got st u → is_id id ≡ false → r ≡ Err refusal.NoId → FunctionPlace s id code r
  function_9 : (st : Store) (u : ℕ) → store_of s ≡ got st u → is_id id ≡ true → (code ≡ 1 → ⊥) → r ≡ Err refusal.NoCode → FunctionPlace s id code r
  function_10 : (st : Store) (u : ℕ) → store_of s ≡ got st u → is_id id ≡ true → code ≡ 1 → is_some (find_in st.items id) ≡ true → r ≡ Err refusal.HeldId → FunctionPlace s id code r
  function_6 : (st : Store) (u : ℕ) → store_of s ≡ got st u → is_id id ≡ true → code ≡ 1 → is_some (find_in st.items id) ≡ false
      → has_room (length s) u (length st.items) (9 + length id) ≡ false → r ≡ Err refusal.FullStore → FunctionPlace s id code r
  is_function_at : (st : Store) (u : ℕ) → store_of s ≡ got st u → is_id id ≡ true → code ≡ 1 → is_some (find_in st.items id) ≡ false
      → has_room (length s) u (length st.items) (9 + length id) ≡ true → r ≡ Ok (record { used = u; count = length st.items }) → FunctionPlace s id code r

-- What an accepted addition leaves: the store with one item more, behind the others.
use Rattle.std.specs.Prelude.{◌≡◌, List, [], ◌∷◌, ◌++◌, ℕ, ◌+◌, length, eqb}
use Rattle.records.specs.Got.{got}
use Rattle.records.specs.Images.{Entry, Item, Store, store_of, resource_of}
use Rattle.records.specs.Encode.{enc_item}
use Rattle.layout.specs.Exact.{Octets}

-- a store with one item more, behind the others
abbrev pub with_more : Store → Item → Store
with_more v x = record { locale = v.locale; isolating = v.isolating; items = v.items ++ (x ∷ []) }

-- s' has the length of s and is the store v with the item x behind, where s is v
pub record Grown (s s' : List ℕ) (v : Store) (used : ℕ) (x : Item) : Type 0 where
  pub reads : store_of s' ≡ got (with_more v x) (used + length (enc_item x))
  pub size : length s' ≡ length s
  pub octets : Octets s'

-- "an accepted one has put its item after the others": s is a store, and s' that store with the item x behind, in a slice of the same length
pub record Accepted (s s' : List ℕ) (x : Item) : Type 0 where
  pub store : Store
  pub used : ℕ
  pub stored : store_of s ≡ got store used
  pub grown : Grown s s' store used x

-- an accepted resource: the entries of its image are the new item's, in its mode
pub record AcceptedResource (s image s' : List ℕ) (mode : List Entry → Item) : Type 0 where
  pub entries : List Entry
  pub end : ℕ
  pub read : resource_of image ≡ got entries end
  pub accepted : Accepted s s' (mode entries)

-- an accepted new bundle: a store with no item, in a slice of the same length
pub record Founded (s s' : List ℕ) (locale isolating : ℕ) : Type 0 where
  pub reads : store_of s' ≡ got (record { locale = locale; isolating = eqb isolating 1; items = [] }) 9
  pub size : length s' ≡ length s
  pub octets : Octets s'

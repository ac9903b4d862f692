-- The sentences of the four languages have no mark, by computing.
use mathlib.Core.Path.{◌≡◌, refl}
use mathlib.Core.Bool.{Bool, true, ◌&&◌}
use lib.Dec.{ltb}
use borrow.Author.Tests.{ltb-true}
use Rattle.decimals.proofs.Tests.{and_true}
use Rattle.scalars.specs.Scalars.{hex_value}
use Rattle.records.specs.Got.{Got}
use Rattle.records.specs.Images.{Store, store_of}
use Rattle.resolution.specs.Effect.{Bytes}
use Rattle.nesting.specs.Cases.{counted}
use Rattle.nesting.proofs.Decided.{every, read_as, is_byte, store_unmarked, octets_true, bundle_unmarked, tests}
use Rattle.languages.specs.Languages.{hex, en, da, ru, cy}
use Rattle.languages.specs.Unmarked.{made, entries_of, entries_in, UnmarkedStore, LanguagesUnmarked}

-- the tests of a store in one, so that it is read once
unfoldable store_test : Got Store → Bool
store_test g = ltb 0 (entries_in g) && read_as store_unmarked g

-- and those of a slice
unfoldable test : Bytes → Bool
test s = every is_byte s && store_test (store_of s)

test_true : (s : Bytes) → test s ≡ true → UnmarkedStore s
unfolding test store_test
test_true s h =
    let a = and_true (every is_byte s) (store_test (store_of s)) h in
    let b = and_true (ltb 0 (entries_in (store_of s))) (read_as store_unmarked (store_of s)) a.1 in
    record { octets = octets_true s a.0; entries = ltb-true 0 _ b.0; unmarked = bundle_unmarked s b.1 }

unfoldable tested : Unit {0}
unfolding counted tests hex_value hex made entries_of entries_in store_test test
tested = tt

english_tested : test (made 0 en) ≡ true
unfolding tested en
english_tested = refl

danish_tested : test (made 1 da) ≡ true
unfolding tested da
danish_tested = refl

russian_tested : test (made 2 ru) ≡ true
unfolding tested ru
russian_tested = refl

welsh_tested : test (made 3 cy) ≡ true
unfolding tested cy
welsh_tested = refl

pub languages_unmarked : LanguagesUnmarked
languages_unmarked = record {
  english = test_true (made 0 en) english_tested;
  danish = test_true (made 1 da) danish_tested;
  russian = test_true (made 2 ru) russian_tested;
  welsh = test_true (made 3 cy) welsh_tested;
}

-- What a sheet image asks for cannot meet 8, and a u16 counts it.
use mathlib.Core.Path.{◌≡◌, refl, ap₂}
use mathlib.Core.List.{List}
use mathlib.Core.Bool.{true, ◌&&◌}
use mathlib.Core.Option.{Option, none, some}
use Prim.Native.Nat.{ℕ, ◌≤◌}
use native.Mathlib.Omega.{arith}
use lib.ListN.{length}
use Rattle.rules.specs.Rules.{is_id}
use Rattle.records.specs.Got.{got}
use Rattle.records.specs.Valid.{IfAny}
use Rattle.layout.specs.Exact.{Octets}
use Rattle.resolution.specs.Effect.{Bytes}
use Rattle.resolution.specs.Format.{is_id_or_none}
use Rattle.requests.specs.Image.{Request, sheet_of}
use Rattle.requests.specs.Valid.{ValidSheet}
use Rattle.requests.proofs.Exact.{RequestOk, sheet_sound}

attribute_ok : (a : Option Bytes) → IfAny (λ i. is_id i ≡ true) a → is_id_or_none a ≡ true
unfolding is_id_or_none
attribute_ok none h = refl
attribute_ok (some a) h = h

-- its Ids are Ids
pub request_ids : (r : Request) → RequestOk r → is_id r.id && is_id_or_none r.attribute ≡ true
request_ids r ok = ap₂ ◌&&◌ ok.id (attribute_ok r.attribute ok.attribute)

-- "u16 count": there are no more than it can state
pub requests_few : (s : Bytes) → Octets s → (rs : List Request) (e : ℕ) → sheet_of s ≡ got rs e → length rs ≤ 65535
unfolding ValidSheet
requests_few s os rs e h = omega (arith, (sheet_sound os h).0.0.1)

-- 0 means done: no refusal of any operation has the number 0.
use Rattle.std.specs.Prelude.{◌≡◌}
use Rattle.bundle.specs.Additions as additions
use Rattle.bundle.specs.Additions.{done, refused}
use Rattle.resolution.specs.Format as formatting
use Rattle.resolution.specs.Format.{finished, refused_before, refused_running}

-- an addition's answer, if it is a refusal, has a number that is not 0
abbrev pub Told : additions.Answer → Type 0
Told (done n) = Unit
Told (refused n) = n ≡ 0 → ⊥

-- a formatting's
abbrev pub FormatTold : formatting.Answer → Type 0
FormatTold (finished t e b u w) = Unit
FormatTold (refused_before n) = n ≡ 0 → ⊥
FormatTold (refused_running n) = n ≡ 0 → ⊥

-- `exports::weszlagyo_add_resource_overriding` meets its contract: the two cases of what the bundle's `add_resource_overriding` answers.
use Rattle.exports.proofs.Told.{done_told, refused_told}
use Rattle.exports.proofs.weszlagyo_add_resource_overriding.Goals as goal

pub returns-in-Ok : goal.returns-in-Ok
returns-in-Ok c =
    let t = done_told 0 c.add_resource_overriding.ensures c.in-Ok.is in
    record { value = t.0; slice_after = t.1 }

pub returns-in-Err : goal.returns-in-Err
returns-in-Err c =
    let t = refused_told 0 c.add_resource_overriding.ensures c.in-Err.is c.number.ensures in
    record { value = t.0; slice_after = t.1 }

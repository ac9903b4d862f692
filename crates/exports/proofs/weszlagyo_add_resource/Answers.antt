-- `exports::weszlagyo_add_resource` meets its contract: the two cases of what the bundle's `add_resource` answers.
use Rattle.exports.proofs.Told.{done_told, refused_told}
use Rattle.exports.proofs.weszlagyo_add_resource.Goals as goal

pub returns-in-Ok : goal.returns-in-Ok
returns-in-Ok c = let all = done_told _ c.add_resource.ensures c.in-Ok.is in record { value = all.0; slice_after = all.1; list_after = all.2; count_after = all.3 }

pub returns-in-Err : goal.returns-in-Err
returns-in-Err c = let all = refused_told _ c.add_resource.ensures c.in-Err.is c.number.ensures in record { value = all.0; slice_after = all.1; list_after = all.2; count_after = all.3 }

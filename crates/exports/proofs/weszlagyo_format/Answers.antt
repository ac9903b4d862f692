-- `exports::weszlagyo_format` meets its contract: the two cases of what `format` answers.
use Rattle.exports.proofs.Finished.{asked_by, failed_figure, failed_told, finished_figure, finished_told}
use Rattle.exports.proofs.Zero.{format_told}
use Rattle.exports.proofs.weszlagyo_format.Goals as goal

pub returns-in-Ok : goal.returns-in-Ok
returns-in-Ok c =
    let all = asked_by _ _ _ _ _ _ _ _ c.named.ensures c.format.ensures.work_after c.format.ensures.figure_is in
    record { used_value = finished_told _ all.0 c.in-Ok.is; used_after = finished_figure _ _ all.1 c.in-Ok.is }

pub returns-in-Err : goal.returns-in-Err
returns-in-Err c =
    let all = asked_by _ _ _ _ _ _ _ _ c.named.ensures c.format.ensures.work_after c.format.ensures.figure_is in
    record { used_value = failed_told _ all.0 c.in-Err.is c.number.ensures; used_after = failed_figure _ _ _ _ _ _ _ _ _ all.0 (format_told _ _ _ _ _) c.in-Err.is c.number.ensures }

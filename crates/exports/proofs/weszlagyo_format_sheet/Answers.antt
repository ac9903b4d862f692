-- `exports::weszlagyo_format_sheet` meets its contract: the two cases of what `format_sheet` answers.
use Rattle.exports.proofs.Finished.{failed_figure, failed_told, finished_figure, finished_told}
use Rattle.exports.proofs.Zero.{sheet_told}
use Rattle.exports.proofs.weszlagyo_format_sheet.Goals as goal

pub returns-in-Ok : goal.returns-in-Ok
returns-in-Ok c = record { used_value = finished_told _ c.format_sheet.ensures.work_after c.in-Ok.is; used_after = finished_figure _ _ c.format_sheet.ensures.figure_is c.in-Ok.is }

pub returns-in-Err : goal.returns-in-Err
returns-in-Err c = record { used_value = failed_told _ c.format_sheet.ensures.work_after c.in-Err.is c.number.ensures; used_after = failed_figure _ _ _ _ _ _ _ _ _ c.format_sheet.ensures.work_after (sheet_told _ _ _) c.in-Err.is c.number.ensures }

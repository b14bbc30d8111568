use Rattle.std.proofs.Common.{sym}
use Rattle.bh_maintenance.proofs.Found.{nothing_is_sound}
use Rattle.bh_command_line.proofs.lines.carry_line.Goals as goal

pub carry_task-requires-clause-host : goal.carry_task-requires-clause-host
carry_task-requires-clause-host c = nothing_is_sound _

pub carry_task-requires-clause-other : goal.carry_task-requires-clause-other
carry_task-requires-clause-other c = nothing_is_sound _

pub returns : goal.returns
returns c = rw (sym c.in_ok-task.ensures) c.in_ok-printed.ensures

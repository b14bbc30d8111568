use Rattle.std.proofs.Common.{sym}
use Rattle.bh_command_line.proofs.files.work_in.Goals as goal

pub returns : goal.returns
returns g c =
    (c.in_ok-work.work, rw (sym c.as_str.ensures.value) c.in_ok-work.ensures, c.in_ok-work_in_file.field-0.files, rw c.into_printed.ensures c.in_ok-work_in_file.ensures)

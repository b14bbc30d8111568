use Rattle.std.proofs.Common.{sym}
use Rattle.bh_command_line.proofs.files.export_in.Goals as goal

pub returns : goal.returns
returns g c =
    let it = c.in_ok-exported.exported in
    (it.files, it.packs, it.made, it.copy, rw (sym c.as_str-2.ensures.value, c.into_printed.ensures) c.in_ok-exported.ensures)

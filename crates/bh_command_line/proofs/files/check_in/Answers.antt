use Rattle.bh_command_line.proofs.files.check_in.Goals as goal

pub returns : goal.returns
returns g c =
    let it = c.in_ok-check_file.field-0 in
    (it.files, it.packs, rw c.into_printed.ensures c.in_ok-check_file.ensures)

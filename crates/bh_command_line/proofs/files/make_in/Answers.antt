use Rattle.bh_command_line.proofs.files.make_in.Goals as goal

pub returns : goal.returns
returns g c =
    rw c.in_ok-digest.ensures (c.in_ok-init_file.field-0.files, rw c.into_printed.ensures c.in_ok-init_file.ensures)

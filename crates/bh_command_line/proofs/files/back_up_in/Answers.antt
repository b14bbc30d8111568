use Rattle.bh_command_line.proofs.files.back_up_in.Goals as goal

pub returns : goal.returns
returns g c =
    let it = c.in_ok-copied.copied in
    (it.files, it.copy, rw c.into_printed.ensures c.in_ok-copied.ensures)

use Rattle.bh_commands.proofs.files.on_files.Goals as goal

pub returns : goal.returns
returns g c = let (new, done, left) = c.in_ok-printed.ensures in record { new = new; carried_out = done; closed = c.close.ensures new left }

use Rattle.std.proofs.Common.{refl}
use Rattle.bh_command_line.proofs.files.import_in.Goals as goal

pub returns : goal.returns
returns g c =
    let it = c.in_ok-imported.imported in
    (record { reading = c.in_ok-reading.reading; leap = c.args.leap }, refl, it.files, it.packs, it.given, it.given_packs, rw c.into_printed.ensures c.in_ok-imported.ensures)

use Rattle.std.proofs.Common.{refl, sym, subst}
use Rattle.sqlite.specs.Files.{over_files}
use Rattle.bh_maintenance.specs.Moves.{Imports}
use Rattle.bh_maintenance.specs.declared.printed.Printed.{Printed}
use Rattle.bh_maintenance.proofs.imports.import_into.Goals as goal

pub returns : goal.returns
returns g c =
    let from = c.import_from.new.from.connection in
    let to = c.import_from.new.to.connection in
    record {
      new = to;
      imports = subst (λ (p : Printed). Imports c.args.clock g.S.Store g.P.Shelf over_files g.Q.Shelf c.args.from.now c.args.to from to p) (sym c.leave-printed.ensures.printed) c.in_ok-printed.ensures;
      parted = record { closed = c.close.ensures to.database c.leave-printed.ensures.left; packs = refl };
    }

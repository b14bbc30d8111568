use Rattle.std.proofs.Common.{sym, subst}
use Rattle.bh_commands.specs.Subcommands.{CarriesOut}
use Rattle.bh_maintenance.specs.declared.printed.Printed.{Printed}
use Rattle.bh_commands.proofs.hosts.on_connection.Goals as goal

pub returns : goal.returns
returns g c =
    let carried : Printed → Type 0 = λ p. CarriesOut g.K.Open.Shelf (g.K.ClosedPacks.has c.args.closed) c.args.asked c.args.connection c.in_ok-done.done.connection p in
    (c.in_ok-done.done.connection, subst carried (sym c.leave.ensures.printed) c.in_ok-done.ensures, c.leave.ensures.left)

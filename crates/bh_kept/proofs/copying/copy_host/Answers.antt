use Rattle.bh_kept.proofs.Reopened.{reopened, copied}
use Rattle.bh_kept.proofs.copying.copy_host.Goals as goal

pub returns-clause-again : goal.returns-clause-again
returns-clause-again g c =
    reopened g.P.Shelf c.args.connection (record { database = c.in_ok-database.database; packs = c.copy_and_open-copy.new.packs }) c.copy_and_open-copy.result.connection c.in_ok-database.was
    c.copy_and_open-copy.ensures.again c.copy_and_open-copy.ensures.stay

pub returns-clause-copied : goal.returns-clause-copied
returns-clause-copied g c =
    copied g.P.Shelf c.args.connection (record { database = c.in_ok-database.database; packs = c.copy_and_open-copy.new.packs }) c.copy_and_open-copy.result.connection c.in_ok-database.was _ g.P.Copy.Shelf
    c.copy_and_open-copy.result.copy c.copy_and_open-copy.ensures.copied c.copy_and_open-copy.ensures.has_all

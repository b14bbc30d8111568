use Rattle.bh_maintenance.proofs.Saved.{copied_to}
use Rattle.bh_maintenance.proofs.backups.save_host.Goals as goal

pub returns-in-Ok : goal.returns-in-Ok
returns-in-Ok g c has is =
    copied_to g.P.Shelf _ g.P.Copy.Shelf has c.args.connection c.in_ok-printed.printed c.in-Ok.saved.files (record { from = c.save.new.packs; file = c.in-Ok.saved.copy.file; packs = c.in-Ok.saved.copy.packs }) c.args.packs
    c.in_ok-printed.ensures c.in-Ok.ensures.kept c.in-Ok.ensures.copied c.save.ensures.stay c.in-Ok.ensures.has_all is

use Rattle.bh_maintenance.proofs.backups.without_host.Goals as goal

pub returns-clause-files : goal.returns-clause-files
returns-clause-files g c = c.close.ensures c.args.done.connection c.leave-printed.ensures.left

use Rattle.bh_commands.proofs.hosts.work_by.Goals as goal

pub work_in_time-requires : goal.work_in_time-requires
work_in_time-requires g c = rw c.into_host.ensures c.requires

pub returns : goal.returns
returns g c = rw c.into_host.ensures at c.work_in_time.ensures

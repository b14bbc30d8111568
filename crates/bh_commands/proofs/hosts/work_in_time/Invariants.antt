use Rattle.bh_commands.proofs.hosts.work_in_time.Given as goal

abbrev pub ghosts-work_on : goal.ghosts-work_on
ghosts-work_on g a = record { size = a.host.cache.tuning.block_size }

use Rattle.std.proofs.Common.{inl}
use Rattle.sqlite.specs.Files.{file_state}
use Rattle.bh_commands.proofs.Refused.{untouched}
use Rattle.bh_commands.proofs.hosts.make.Goals as goal

pub returns-then-not-is_autocommit : goal.returns-then-not-is_autocommit
returns-then-not-is_autocommit g c =
    let told = c.in_ok-refused.ensures in
    rw told.0 (inl (untouched (file_state c.args.connection) _ told.1))

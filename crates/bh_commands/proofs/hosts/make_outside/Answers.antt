use Rattle.std.proofs.Common.{refl, ap, inl, inr}
use Rattle.sqlite_store.specs.declared.store.FileStore.{FileStore}
use Rattle.sqlite.specs.Files.{file_state, over_files}
use Rattle.bh_shelf.specs.declared.no_shelf.NoShelf.{NoShelf}
use Rattle.bh_base.specs.declared.connection.Connection.{Connection}
use Rattle.bh_base.proofs.Lifting.{clean_shown}
use Rattle.bh_bare.specs.Bare.{no_packs}
use Rattle.bh_maintenance.proofs.Standing.{follows_alone, new_alone}
use Rattle.bh_commands.proofs.Making.{back_made}
use Rattle.bh_commands.proofs.Refused.{not_made}
use Rattle.bh_commands.proofs.hosts.make_outside.Goals as goal

pub returns-in-Ok : goal.returns-in-Ok
returns-in-Ok g c =
    let it = c.in-Ok.ensures in
    let old = file_state c.args.connection in
    let new = file_state c.in-Ok.host.connection.database in
    rw c.into_connection.ensures (inr (record {
      was_empty = it.empty;
      follows = follows_alone old new it.follows;
      made = new_alone c.args.limits c.args.digest new it.made;
      line = c.requires.line;
    }))

pub returns-in_ok-refused-in-Err : goal.returns-in_ok-refused-in-Err
returns-in_ok-refused-in-Err g c =
    let it = c.in-Err.ensures in
    let told = c.in_ok-refused-in-Err.ensures in
    let error = c.in-Err.error in
    let old = file_state c.args.connection in
    let new = file_state error.connection.database in
    rw told.0 (inl (not_made over_files c.args.connection error.connection.database error.refusal _ told.1
    (λ h. (ap (λ (j : Connection (FileStore _ _) NoShelf). j.database) (it.refused h).0, (it.refused h).1))
    (λ h.
    let f = it.failed h in
    let keeps = follows_alone old new f.2 in
    (f.0, f.1, keeps, λ clean. back_made c.args.connection new c.requires.live c.requires.settled f.1 (keeps.clean clean) (f.3 (clean_shown no_packs new clean refl))))))

use Rattle.std.proofs.Common.{◌∷◌, []}
use Rattle.sqlite.specs.Held.{state}
use Rattle.sqlite_typed.specs.Tests.{bytes_eq}
use Rattle.bh_tables.specs.Rows.{number}
use Rattle.bh_tables.proofs.Places.{blocks}
use Rattle.bh_tables.proofs.Statements.{selected}
use Rattle.bh_tables.proofs.BlockTexts.{ords_shown}
use Rattle.bh_base.specs.Connections.{backing}
use Rattle.bh_base.specs.Shown.{named, shown}
use Rattle.bh_base.proofs.Beneath.{told}
use Rattle.bh_base.proofs.Calls.{question, ready}
use Rattle.bh_base.proofs.Placed.{names_alike}
use Rattle.bh_blocks.proofs.rows.blocks_of.Goals as goal

pub returns : goal.returns
returns g c =
    let h = rw c.to_sql.ensures at c.query_all.ensures in
    let old = state g.S.Store c.args.connection.now.database in
    let a = backing g.P.Shelf c.args.connection.now.packs in
    let new = state g.S.Store c.query_all.new.self in
    let q = question (shown a old) (shown a new) (λ v. v.items) _ c.query_all.result c.requires.inside (told a old new (ready (shown a old) c.requires.inside) (λ v. v.items) _ c.query_all.result h.survives
    (λ host. names_alike (named a old.in_transaction) old.now host (λ n. bytes_eq n.0 c.args.digest.now) (λ n. number n.1 ∷ [])) (λ bare.
    selected (blocks _) old new bare (λ v. v.items) c.query_all.result _ _ _ _ (ords_shown c.args.digest.now) h.ok h.err h.survives)) in
    record { reads = record { within = q.within; opens = q.opens; same = q.same }; rows = q.rows; trouble = q.trouble }

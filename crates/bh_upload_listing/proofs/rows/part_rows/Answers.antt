use Rattle.std.proofs.Common.{map}
use Rattle.sqlite.specs.Held.{state}
use Rattle.bh_base.proofs.Calls.{ready, question}
use Rattle.bh_upload_listing.specs.Rows.{shown_part, parts_from}
use Rattle.bh_upload_listing.proofs.Texts.{parts_shown, listed_alike}
use Rattle.bh_base.specs.Connections.{backing}
use Rattle.bh_base.specs.Shown.{named, shown}
use Rattle.bh_base.proofs.Beneath.{told}
use Rattle.bh_upload_listing.proofs.rows.part_rows.Goals as goal

pub returns : goal.returns
returns g c =
    let h = rw (c.to_sql.ensures, c.number.ensures, c.number-2.ensures, c.number-3.ensures) at c.query_all.ensures in
    let old = state g.S.Store c.args.connection.now.database in
    let a = backing g.P.Shelf c.args.connection.now.packs in
    let new = state g.S.Store c.query_all.new.self in
    let q = question (shown a old) (shown a new) (λ v. v.items) (λ t. map shown_part (parts_from c.args.tenant.now c.args.upload c.args.after c.args.count t.parts)) c.query_all.result c.requires.inside
    (told a old new (ready (shown a old) c.requires.inside) (λ v. v.items) (λ t. map shown_part (parts_from c.args.tenant.now c.args.upload c.args.after c.args.count t.parts)) c.query_all.result h.survives (λ _. listed_alike c.args.tenant.now c.args.upload c.args.after c.args.count (named a old.in_transaction) old.now) (λ bare.
    parts_shown c.args.tenant.now c.args.upload c.args.after c.args.count old new bare (λ v. v.items) c.query_all.result h.ok h.err h.survives)) in
    record { reads = record { within = q.within; opens = q.opens; same = q.same }; rows = q.rows; trouble = q.trouble }

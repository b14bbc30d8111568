use Rattle.std.proofs.Common.{map}
use Rattle.sqlite.specs.Held.{state}
use Rattle.bh_base.specs.Connections.{backing}
use Rattle.bh_base.specs.Shown.{named, shown}
use Rattle.bh_base.proofs.Beneath.{told}
use Rattle.bh_base.proofs.Calls.{ready, question}
use Rattle.bh_listing.specs.Rows.{shown_listed, listed_rows}
use Rattle.bh_listing.proofs.RowLemmas.{listed_shown, listed_alike}
use Rattle.bh_listing.proofs.lines.object_rows.Goals as goal

pub returns : goal.returns
returns g c =
    let at = c.args.at.now in
    let old = state g.S.Store c.args.connection.now.database in
    let a = backing g.P.Shelf c.args.connection.now.packs in
    let new = state g.S.Store c.query.new.database in
    let h = c.query.ensures in
    let q = question (shown a old) (shown a new) (λ v. v.items) (λ t. map shown_listed (listed_rows at.tenant.now at.bucket.now at.from.now at.upto.now at.count t.versions)) c.query.result c.requires.inside (told a old new (ready (shown a old) c.requires.inside) (λ v. v.items) (λ t. map shown_listed (listed_rows at.tenant.now at.bucket.now at.from.now at.upto.now at.count t.versions)) c.query.result h.survives (λ _. listed_alike at.tenant.now at.bucket.now at.from.now at.upto.now at.count (named a old.in_transaction) old.now) (λ bare.
    listed_shown at.tenant.now at.bucket.now at.from.now at.upto.now at.count old new bare (λ v. v.items) c.query.result h.ok h.err h.survives)) in
    record { reads = record { within = q.within; opens = q.opens; same = q.same }; rows = q.rows; trouble = q.trouble }

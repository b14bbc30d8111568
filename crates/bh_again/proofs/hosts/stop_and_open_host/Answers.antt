use Rattle.std.proofs.Math.Logic.{∥∥₁_map}
use Rattle.sqlite.specs.Files.{file_state}
use Rattle.bh_shelf.specs.Contents.{Contents}
use Rattle.bh_base.specs.Connections.{backing}
use Rattle.bh_base.specs.Layer.{standing, IsIntact}
use Rattle.bh_base.proofs.Lifting.{intact_shown, open_shown}
use Rattle.bh_again.proofs.Back.{comes_back, left_alone, was_intact, found_left, found_kept, never_none}
use Rattle.bh_again.proofs.Packs.{keeps_bytes}
use Rattle.bh_again.proofs.hosts.stop_and_open_host.Goals as goal

pub returns-in-Ok-open_host-clause-settled : goal.returns-in-Ok-open_host-clause-settled
returns-in-Ok-open_host-clause-settled g c up =
    let l = rw c.into_connection-database.ensures at c.look.ensures in
    let old = file_state c.args.host.connection.database in
    let bare = open_shown (backing g.P.Shelf c.args.host.connection.packs) old up in
    left_alone old l.live bare (l.settled bare)

pub returns-in-Err-open_host-clause-settled : goal.returns-in-Err-open_host-clause-settled
returns-in-Err-open_host-clause-settled g c up =
    let l = rw c.into_connection-database.ensures at c.look.ensures in
    let old = file_state c.args.host.connection.database in
    let bare = open_shown (backing g.P.Shelf c.args.host.connection.packs) old up in
    left_alone old l.live bare (l.settled bare)

pub returns-in-Err-clause-settled : goal.returns-in-Err-clause-settled
returns-in-Err-clause-settled g c up =
    let l = rw c.into_connection-database.ensures at c.look.ensures in
    let old = file_state c.args.host.connection.database in
    let bare = open_shown (backing g.P.Shelf c.args.host.connection.packs) old up in
    left_alone old l.live bare (l.settled bare)

pub returns-in-Ok-open_host-clause-bytes : goal.returns-in-Ok-open_host-clause-bytes
returns-in-Ok-open_host-clause-bytes g c = keeps_bytes g.P.Shelf c.args.host (record { kept = g.met.P.Shelf.kept_stands; leaves = g.met.P.Shelf.leaves_standing })

pub returns-in-Err-open_host-clause-bytes : goal.returns-in-Err-open_host-clause-bytes
returns-in-Err-open_host-clause-bytes g c = keeps_bytes g.P.Shelf c.args.host (record { kept = g.met.P.Shelf.kept_stands; leaves = g.met.P.Shelf.leaves_standing })

pub returns-in-Err-clause-bytes : goal.returns-in-Err-clause-bytes
returns-in-Err-clause-bytes g c = keeps_bytes g.P.Shelf c.args.host (record { kept = g.met.P.Shelf.kept_stands; leaves = g.met.P.Shelf.leaves_standing })

pub returns-in-Ok-open_host-clause-intact : goal.returns-in-Ok-open_host-clause-intact
returns-in-Ok-open_host-clause-intact g c clean honest =
    let h = rw c.into_connection-database.ensures at c.in-Ok.ensures in
    let o = c.in-Ok-open_host.ensures in
    let old = file_state c.args.host.connection.database in
    let bare = was_intact old (file_state c.in-Ok.connection) (file_state c.in-Ok-open_host.opened.connection) o.follows h.opened h.intact clean in
    intact_shown (backing g.P.Shelf c.args.host.connection.packs) old bare honest

pub returns-in-Ok-open_host-clause-came_back : goal.returns-in-Ok-open_host-clause-came_back
returns-in-Ok-open_host-clause-came_back g c clean up packs =
    let h = rw c.into_connection-database.ensures at c.in-Ok.ensures in
    let l = rw c.into_connection-database.ensures at c.look.ensures in
    let o = c.in-Ok-open_host.ensures in
    let opened = c.in-Ok-open_host.opened in
    let old = file_state c.args.host.connection.database in
    let bare = open_shown (backing g.P.Shelf c.args.host.connection.packs) old up in
    comes_back packs opened clean (standing (file_state c.in-Ok.connection)).now o.schema (λ x. o.shows packs x) (λ d x. o.rest packs d x) (λ d x. o.latest packs d x) (λ d x. o.named packs d x) _
    (found_kept old (file_state c.in-Ok.connection) (file_state opened.connection) o.follows h.opened h.found l.live l.settled clean bare)

pub returns-in-Ok-open_host-clause-merely : goal.returns-in-Ok-open_host-clause-merely
returns-in-Ok-open_host-clause-merely g c clean =
    let h = rw c.into_connection-database.ensures at c.in-Ok.ensures in
    let o = c.in-Ok-open_host.ensures in
    let opened = c.in-Ok-open_host.opened in
    ∥∥₁_map (found_left (file_state c.args.host.connection.database) (file_state c.in-Ok.connection) (file_state opened.connection) o.follows h.opened h.left clean)
    (λ it. (it.0, it.1, λ (packs : Contents). comes_back packs opened clean (standing (file_state c.in-Ok.connection)).now o.schema (λ x. o.shows packs x) (λ d x. o.rest packs d x) (λ d x. o.latest packs d x) (λ d x. o.named packs d x) it.0 it.2))

pub returns-in-Err-open_host-clause-never : goal.returns-in-Err-open_host-clause-never
unfolding IsIntact
returns-in-Err-open_host-clause-never g c digest honest sound clean none =
    let h = rw c.into_connection-database.ensures at c.in-Ok.ensures in
    let o = c.in-Err-open_host.ensures in
    let mid = (o.keeps.clean clean).intact in
    let shelf = c.args.host.connection.packs in
    let old = file_state c.args.host.connection.database in
    let whole = intact_shown (backing g.P.Shelf shelf) old (h.intact mid) honest in
    let stays = g.met.P.Shelf.may_stay shelf honest in
    never_none digest stays.0 old (file_state c.in-Ok.connection) (h.left mid) (h.opened mid) (λ db it. sound whole db it stays.0 (record { clean = honest; may = stays.1 }))
    (o.refused none clean).1 (o.without stays.0 none clean)

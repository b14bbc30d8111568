use Rattle.std.proofs.Common.{◌∙◌, ap}
use Rattle.bh_shelf.specs.Contents.{Contents}
use Rattle.bh_shelf.specs.contracts.shelved.ShelvedShelf.TheImpl.{ghosts}
use Rattle.bh_pack_shelf.proofs.StayLemmas.{stays_then}
use Rattle.bh_pack_shelf.proofs.copying.file_of_copy.Goals as goal

pub returns-clause-written : goal.returns-clause-written
returns-clause-written g c = λ clean bytes has.
    let first = c.linked.ensures.stays in
    c.in_ok-fill.ensures.written clean bytes
    (ap (λ (it : Contents). it c.args.pack 0 c.args.mark) (first.kept (c.fill.ensures.stays.clean clean)) ∙ has)

pub returns-clause-stays : goal.returns-clause-stays
returns-clause-stays g c =
    stays_then (ghosts g.row.D g.row.F g.D.Disk g.D.Disk-dict g.F.Folder g.F.Folder-dict g.D.Destruct-dict) c.args.shelf.now
    c.linked.new.shelf c.fill.new.shelf c.linked.ensures.stays c.fill.ensures.stays

use Rattle.bh_blocks.specs.Digests.{digest_by}
use Rattle.bh_maintenance.proofs.Moving.{settled, moves_of}
use Rattle.bh_maintenance.proofs.moves.move_with.Goals as goal

pub move_tenant-requires-clause-reading : goal.move_tenant-requires-clause-reading
move_tenant-requires-clause-reading g c = settled g.S.Store g.P.Shelf (digest_by c.args.from.now.digest) c.args.from.now c.requires.from

pub move_tenant-requires-clause-ready : goal.move_tenant-requires-clause-ready
move_tenant-requires-clause-ready g c = settled g.T.Store g.Q.Shelf g.D.Digester.digest_of c.args.to.now c.requires.to

pub returns : goal.returns
returns g c =
    let it = c.move_tenant.ensures in
    moves_of g.S.Store g.P.Shelf g.T.Store g.Q.Shelf g.met.Q.Shelf.kept_stands (digest_by c.args.from.now.digest) g.D.Digester.digest_of c.args.from.now c.args.to.now c.requires.from c.requires.to c.args.tenant.now
    c.move_tenant.new.from c.move_tenant.new.to it.from_follows it.from_back it.follows c.move_tenant.result it.back it.committed it.host it.moved it.exists it.missing

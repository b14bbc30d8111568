use Rattle.std.proofs.Common.{inr}
use Rattle.std.proofs.lemmas.Result.{IfOk-weaker}
use Rattle.bh_blocks.specs.Digests.{digest_by}
use Rattle.bh_maintenance.proofs.Moving.{settled, named_of}
use Rattle.bh_maintenance.proofs.imports.name_in.Goals as goal

pub sole_tenant-found-requires : goal.sole_tenant-found-requires
sole_tenant-found-requires g c = record { ready = settled g.S.Store g.P.Shelf (digest_by c.args.host.now.digest) c.args.host.now c.requires.ready }

pub returns-clause-stays : goal.returns-clause-stays
returns-clause-stays g c = let it = c.sole_tenant-found in record { follows = it.ensures.follows; stands = λ clean. inr (it.ensures.back clean) }

pub returns-clause-name : goal.returns-clause-name
returns-clause-name g c =
    let it = c.sole_tenant-found in
    IfOk-weaker c.name_or_told.result _ _ (λ told tells. named_of g.S.Store g.P.Shelf (digest_by c.args.host.now.digest) c.args.host.now c.requires.ready it.new.connection it.ensures.follows it.result told tells it.ensures.sole) c.name_or_told.ensures

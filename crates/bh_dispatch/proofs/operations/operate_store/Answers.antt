use Rattle.std.proofs.Common.{rules}
use Rattle.bh_base.specs.Connections.{state}
use Rattle.bh_machine.specs.Machine.{store_operated}
use Rattle.bh_model.specs.Operations.{put_object}
use Rattle.bh_model.specs.Uploads.{upload_part}
use Rattle.bh_http.specs.Answers.{response_view}
use Rattle.bh_storage.specs.Answers.{stored_answer}
use Rattle.bh_cache.proofs.Agreeing.{copies}
use Rattle.bh_schema.specs.Working.{tables_at}
use Rattle.bh_dispatch.proofs.Operating.{received}
use Rattle.bh_dispatch.proofs.Receiving.{kept_operated}
use Rattle.bh_dispatch.proofs.operations.operate_store.Goals as goal

pub put_object-stored-requires : goal.put_object-stored-requires
put_object-stored-requires g c = record {
  may = record {
    working = search rules;
    copies = λ clean. copies c.args.blocks.now.cache.now (tables_at (state g.S.Store g.P.Shelf c.args.connection.now)).blocks (c.requires.working clean).sound.stored.once (c.requires.blocks.kept clean);
    digests = search rules;
    positive = search rules;
    early = search rules;
    going = search rules;
  };
}

pub put_part-stored-requires : goal.put_part-stored-requires
put_part-stored-requires g c = record {
  may = record {
    working = search rules;
    copies = λ clean. copies c.args.blocks.now.cache.now (tables_at (state g.S.Store g.P.Shelf c.args.connection.now)).blocks (c.requires.working clean).sound.stored.once (c.requires.blocks.kept clean);
    digests = search rules;
    positive = search rules;
    early = search rules;
    going = search rules;
  };
}

pub returns-in-PutObject : goal.returns-in-PutObject
unfolding store_operated
returns-in-PutObject g c =
    let it = c.put_object-stored in
    let at = c.in-PutObject in
    let done = received g.S.Store g.P.Shelf c.args.asked.now.tenant.now c.args.connection.now it.new.connection stored_answer g.D.Digester.digest_of (λ bytes. put_object c.args.asked.now.at at.object.bucket at.object.key bytes at.checksum at.date) _ _ _ it.result c.received.result c.received.ensures it.ensures.works.within it.ensures.works.opens it.ensures.works.working
    (rw c.bytes_of-given.ensures at it.ensures.operates) in
    rw at.is (record {
      operated = done;
      kept = kept_operated c.args.blocks.now.cache.now response_view _ _ _ _ _ _ (state g.S.Store g.P.Shelf c.args.connection.now) (state g.S.Store g.P.Shelf it.new.connection) (λ clean. c.requires.blocks.kept (it.ensures.works.within.follows.clean clean)) done.operates;
    })

pub returns-in-UploadPart : goal.returns-in-UploadPart
unfolding store_operated
returns-in-UploadPart g c =
    let it = c.put_part-stored in
    let at = c.in-UploadPart in
    let done = received g.S.Store g.P.Shelf c.args.asked.now.tenant.now c.args.connection.now it.new.connection _ g.D.Digester.digest_of (λ bytes. upload_part c.args.asked.now.at at.object.bucket at.object.key at.upload at.number bytes at.checksum) _ _ _ it.result c.received-in-UploadPart.result c.received-in-UploadPart.ensures it.ensures.works.within it.ensures.works.opens it.ensures.works.working
    (rw c.bytes_of-given-in-UploadPart.ensures at it.ensures.operates) in
    rw at.is (record {
      operated = done;
      kept = kept_operated c.args.blocks.now.cache.now response_view _ _ _ _ _ _ (state g.S.Store g.P.Shelf c.args.connection.now) (state g.S.Store g.P.Shelf it.new.connection) (λ clean. c.requires.blocks.kept (it.ensures.works.within.follows.clean clean)) done.operates;
    })

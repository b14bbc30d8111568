use Rattle.std.proofs.Common.{◌++◌, refl, ap, ◌∙◌}
use Rattle.bh_base.specs.Connections.{state}
use Rattle.bh_view.specs.Bodies.{pieces, body_stored}
use Rattle.bh_schema.specs.Working.{tables_at}
use Rattle.bh_blocks.specs.Drafts.{drafted}
use Rattle.bh_blocks.proofs.Drafting.{goes_on, whole_added}
use Rattle.bh_blocks.proofs.drafts.push_known.Goals as goal

pub returns-clause-goes : goal.returns-clause-goes
returns-clause-goes g c = λ clean.
    let digest = g.D.Digester.digest_of in
    let draft = c.args.draft.now in
    let now = tables_at (state g.S.Store g.P.Shelf c.args.connection.now) in
    let then = tables_at (state g.S.Store g.P.Shelf c.store_known.new.connection) in
    let new = record draft { place = c.in_ok-draft.field-0 } in
    goes_on digest draft new c.args.block.now now then refl refl
    (λ more. ap (λ n. body_stored digest (drafted draft) n (pieces draft.size (draft.waiting.items ++ more)) then) c.in_ok-draft.ensures.next
    ∙ whole_added digest (drafted draft) draft.size draft.place draft.waiting.items c.args.block.now now then c.requires.size c.requires.whole c.requires.none
    (c.in_ok-store_known.ensures.stored digest c.digest_known-digest.ensures clean).is more)

pub returns-clause-inside : goal.returns-clause-inside
returns-clause-inside g c = λ clean. (c.in_ok-store_known.ensures.stored g.D.Digester.digest_of c.digest_known-digest.ensures clean).within

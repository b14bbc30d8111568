use Rattle.std.proofs.Common.{IsTrue, inl, inr, subst}
use Rattle.sqlite.specs.Files.{file_state, over_files}
use Rattle.bh_view.specs.Bodies.{IsSoundHost}
use Rattle.bh_shelf.specs.Listed.{HasListed}
use Rattle.bh_base.specs.Layer.{standing, IsStateClean}
use Rattle.bh_blocks.specs.Digests.{digest_by}
use Rattle.bh_open.specs.Packed.{seen_beside, tables_beside}
use Rattle.bh_open.specs.Versions.{IsTypedIfEarlier}
use Rattle.bh_maintenance.specs.Found.{IsOpenedAs}
use Rattle.bh_maintenance.proofs.Found.{is_clean, opened_as, typed_when, shows_seen, row_seen, sound_seen}
use Rattle.bh_maintenance.proofs.Refused.{not_found}
use Rattle.bh_commands.proofs.Beside.{shows_here, rests_here, reads_here}
use Rattle.bh_commands.proofs.hosts.find.Goals as goal

pub work_by_digest-requires : goal.work_by_digest-requires
work_by_digest-requires g c =
    let it = c.in-Ok.ensures in
    let opened = c.in-Ok.opened in
    let shelf = c.in_ok-packs-in-Ok.ensures in
    let p = g.K.Open.Shelf in
    let has = g.K.ClosedPacks.has c.args.closed in
    let kept : IsTrue (p.is_clean c.in_ok-packs-in-Ok.packs) → HasListed opened.listed.items has (p.kept c.in_ok-packs-in-Ok.packs) = λ pure.
    subst (λ rows. HasListed rows has (p.kept c.in_ok-packs-in-Ok.packs)) c.as_slice.ensures.value (shelf.kept pure) in
    let old = file_state c.args.connection in
    let new = file_state opened.connection in
    let found : IsOpenedAs has old new = opened_as has opened.limits old new it.schema it.same it.brought (it.shows has) it.follows it.crash in
    let typed : IsStateClean new → IsTypedIfEarlier (standing old).now = typed_when has opened.limits old new c.requires found in
    let sound : IsStateClean new → IsSoundHost (digest_by opened.digest) (seen_beside has opened.limits new).now = sound_seen has opened.limits old new c.requires found opened.digest (it.named has) in
    record {
      rest = λ clean. rests_here p has (digest_by opened.digest) opened.limits opened.tuning opened.listed.items old new c.in_ok-packs-in-Ok.packs typed sound it.listed kept shelf.seen (is_clean clean) it.rest;
      read = λ clean. reads_here p has (digest_by opened.digest) opened.limits opened.tuning opened.listed.items old new c.in_ok-packs-in-Ok.packs typed sound it.listed kept shelf.seen (is_clean clean) opened.latest it.latest;
    }

pub returns-in_ok-work_by_digest-in-Ok : goal.returns-in_ok-work_by_digest-in-Ok
returns-in_ok-work_by_digest-in-Ok g c =
    let it = c.in-Ok.ensures in
    let opened = c.in-Ok.opened in
    let packs = c.in_ok-packs-in-Ok.packs in
    let shelf = c.in_ok-packs-in-Ok.ensures in
    let p = g.K.Open.Shelf in
    let has = g.K.ClosedPacks.has c.args.closed in
    let kept : IsTrue (p.is_clean c.in_ok-packs-in-Ok.packs) → HasListed opened.listed.items has (p.kept c.in_ok-packs-in-Ok.packs) = λ pure.
    subst (λ rows. HasListed rows has (p.kept c.in_ok-packs-in-Ok.packs)) c.as_slice.ensures.value (shelf.kept pure) in
    let old = file_state c.args.connection in
    let new = file_state opened.connection in
    let found : IsOpenedAs has old new = opened_as has opened.limits old new it.schema it.same it.brought (it.shows has) it.follows it.crash in
    let typed : IsStateClean new → IsTypedIfEarlier (standing old).now = typed_when has opened.limits old new c.requires found in
    let sound : IsStateClean new → IsSoundHost (digest_by opened.digest) (seen_beside has opened.limits new).now = sound_seen has opened.limits old new c.requires found opened.digest (it.named has) in
    inr (record {
      opened = opened;
      packs = packs;
      tuned = it.given;
      row = row_seen has opened.limits old new c.requires found opened.digest (it.named has);
      found = record {
        opened = found;
        shows = λ clean. shows_here p has (digest_by opened.digest) opened.limits opened.tuning opened.listed.items old new packs typed sound it.listed kept shelf.seen (is_clean clean) (tables_beside has (standing old).now) (shows_seen has opened.limits old new c.requires found);
        rest = λ clean. rests_here p has (digest_by opened.digest) opened.limits opened.tuning opened.listed.items old new packs typed sound it.listed kept shelf.seen (is_clean clean) it.rest;
      };
      worked = c.in_ok-work_by_digest-in-Ok.ensures;
    })

pub returns-in_ok-refused-in-Err : goal.returns-in_ok-refused-in-Err
returns-in_ok-refused-in-Err g c =
    let it = c.in-Err.ensures in
    let told = c.in_ok-refused-in-Err.ensures in
    rw told.0 (inl (not_found over_files c.args.connection c.in-Err.error.connection _ _ told.1 it.refused it.without it.failed it.keeps it.quiet it.leaves))

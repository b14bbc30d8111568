use Rattle.std.proofs.Common.{sym, ◌∙◌}
use Rattle.bh_commands.proofs.Kept.{rests_kept, left_of}
use Rattle.bh_commands.proofs.hosts.work_on.Goals as goal

pub do_work-requires : goal.do_work-requires
do_work-requires g c = rests_kept g.P.Shelf g.G.Digester.digest_of c.new-kept.result c.args.host c.new-kept.ensures c.requires.rest

pub returns-in-Some : goal.returns-in-Some
returns-in-Some g c =
    let (it, last, left) = left_of _ c.do_work.new.host.storage c.in-Some.connection (sym c.into_connection.ensures ∙ c.in-Some.is) in
    record {
      first = c.new-kept.result;
      last = c.do_work.new.host;
      left_host = it;
      begun = c.new-kept.ensures;
      stays = c.do_work.ensures.stays;
      done = c.in_ok-printed.ensures.done;
      ended = last;
      left = left;
    }

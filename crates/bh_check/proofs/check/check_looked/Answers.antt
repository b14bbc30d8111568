use Rattle.std.proofs.Common.{sym, subst, subst₂, ◌∙◌}
use Rattle.bh_shelf.specs.Contents.{Contents}
use Rattle.bh_check.specs.Checked.{IsHostRowIn}
use Rattle.bh_check.specs.Looked.{AreShown}
use Rattle.bh_check.proofs.check.check_looked.Goals as goal

pub returns-clause-checked : goal.returns-clause-checked
returns-clause-checked g c clean d read shown fits by_name lengths digest digests =
    let s = c.args.stored.now in
    let measures = c.in_ok-measures.measures in
    let all = c.in_ok-measures.ensures.totals d read by_name in
    let mid = c.in_ok-check_once.ensures.reads.clean clean in
    record {
      latest = measures.latest;
      host = subst₂ (λ n rows. IsHostRowIn n rows measures.latest) c.version_of.ensures read.host_is c.in_ok-measures.ensures.host;
      fits = fits;
      rows = c.in_ok-check_all_tables.ensures.rows d read all;
      dates = c.in_ok-check_all_tables.ensures.dates d read all;
      bodies = c.in_ok-check_bodies.ensures.bodies mid d read shown all;
      bytes = record {
        digests = digests;
        once = c.in_ok-check_once.ensures.once clean (d 10) (subst (λ (p : Contents). AreShown p s c.args.known.now s.blocks.items (d 10)) (sym (c.in_ok-check_bodies.ensures.reads.seen mid)) shown) digest digests;
      };
      counts = c.in_ok-check_counts.ensures.uses d read all;
      tallies = c.in_ok-check_counts.ensures.tallies d read;
      garbage = c.in_ok-check_counts.ensures.garbage d read (c.deref.ensures.value ∙ lengths);
    }

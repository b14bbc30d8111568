use Rattle.bh_packs.specs.Packs.{pack_at}
use Rattle.bh_packs.proofs.PackLemmas.{settled_written_in}
use Rattle.bh_packs.proofs.packs.Packs.crash.Goals as goal

pub returns-clause-kept : goal.returns-clause-kept
returns-clause-kept g c = λ place bytes k. record {
  settled = c.loop-number.invariant.settled place.pack place.offset bytes k.settled;
  size = k.size;
  sum = k.sum;
}

pub returns-clause-given : goal.returns-clause-given
returns-clause-given g c = λ place bytes k. record {
  written = settled_written_in g.D.Disk (pack_at c.loop-number.self place.pack) place.offset bytes
      (c.loop-number.invariant.settled place.pack place.offset bytes k.settled);
  size = k.size;
  sum = k.sum;
}

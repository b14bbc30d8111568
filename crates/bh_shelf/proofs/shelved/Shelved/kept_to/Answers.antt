use Rattle.std.proofs.Common.{◌≡◌, arith}
use Rattle.bh_shelf.specs.Laws.{range_is, range_some}
use Rattle.bh_shelf.specs.Marks.{kept_of}
use Rattle.bh_shelf.specs.Ranges.{file_of, part_of}
use Rattle.bh_shelf.proofs.shelved.Shelved.kept_to.Goals as goal

pub returns-clause-ends : goal.returns-clause-ends
returns-clause-ends g c = λ offset size bytes has.
    let it = c.args.self.now in
    let same : c.kept_to.result ≡ kept_of it.marks c.args.pack = c.kept_to.ensures in
    let found = range_some (file_of g.D.Disk it.packs c.args.pack) (kept_of it.marks c.args.pack) offset size bytes has in
    omega (arith, found.1, same)

pub returns-clause-whole : goal.returns-clause-whole
returns-clause-whole g c = λ some.
    let it = c.args.self.now in
    let same : c.kept_to.result ≡ kept_of it.marks c.args.pack = c.kept_to.ensures in
    let file = file_of g.D.Disk it.packs c.args.pack in
    (part_of file 0 c.kept_to.result, range_is file (kept_of it.marks c.args.pack) 0 c.kept_to.result some (omega (arith, same)))

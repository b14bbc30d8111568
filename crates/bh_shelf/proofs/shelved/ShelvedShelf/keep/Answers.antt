use Rattle.std.proofs.Common.{arith, sym, ap}
use Rattle.bh_shelf.specs.declared.marks.Ends.{Ends}
use Rattle.bh_shelf.specs.Marks.{seen_of, stood_of}
use Rattle.bh_shelf.proofs.SoundLemmas.{sound_kept, kept_all, contents_same, within_same}
use Rattle.bh_shelf.proofs.shelved.ShelvedShelf.keep.Goals as goal

pub invariant_of-self : goal.invariant_of-self
invariant_of-self g c = record { sound = sound_kept g.D.Disk c.args.self.now.packs c.args.self.now.marks c.keep.new.self c.args.self.now.sound c.keep.ensures }

pub returns-clause-kept : goal.returns-clause-kept
returns-clause-kept g c = λ clean.
    kept_all g.D.Disk c.args.self.now.packs c.args.self.now.marks c.keep.new.self c.args.self.now.sound c.keep.ensures (c.requires clean)

pub returns-clause-seen : goal.returns-clause-seen
returns-clause-seen g c = λ clean.
    contents_same g.D.Disk c.args.self.now.packs (seen_of c.keep.new.self) (seen_of c.args.self.now.marks) (λ n. ap (λ (ends : Ends). ends.seen) (c.keep.ensures n))

pub returns-clause-stood : goal.returns-clause-stood
returns-clause-stood g c = λ clean.
    let same = contents_same g.D.Disk c.args.self.now.packs (stood_of c.keep.new.self) (stood_of c.args.self.now.marks)
    (λ n. ap (λ (ends : Ends). ends.stood) (c.keep.ensures n)) in within_same _ _ (sym same)

pub returns-clause-ends : goal.returns-clause-ends
returns-clause-ends g c = λ n. let same = ap (λ (ends : Ends). ends.written) (c.keep.ensures n) in omega (arith, same)

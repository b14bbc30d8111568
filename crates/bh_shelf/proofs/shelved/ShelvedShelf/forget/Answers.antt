use Rattle.std.proofs.Common.{arith, sym, ap}
use Rattle.bh_shelf.specs.declared.marks.Ends.{Ends}
use Rattle.bh_shelf.specs.Marks.{kept_of, seen_of, stood_of}
use Rattle.bh_shelf.proofs.SoundLemmas.{sound_forgot, contents_same, within_same}
use Rattle.bh_shelf.proofs.shelved.ShelvedShelf.forget.Goals as goal

pub invariant_of-self : goal.invariant_of-self
invariant_of-self g c = record { sound = sound_forgot g.D.Disk c.args.self.now.packs c.args.self.now.marks c.forget.new.self c.args.self.now.sound c.forget.ensures }

pub returns-clause-seen : goal.returns-clause-seen
returns-clause-seen g c = λ clean.
    contents_same g.D.Disk c.args.self.now.packs (seen_of c.forget.new.self) (kept_of c.args.self.now.marks) (λ n. ap (λ (ends : Ends). ends.seen) (c.forget.ensures n))

pub returns-clause-kept : goal.returns-clause-kept
returns-clause-kept g c = λ clean.
    contents_same g.D.Disk c.args.self.now.packs (kept_of c.forget.new.self) (kept_of c.args.self.now.marks) (λ n. ap (λ (ends : Ends). ends.kept) (c.forget.ensures n))

pub returns-clause-stood : goal.returns-clause-stood
returns-clause-stood g c = λ clean.
    let same = contents_same g.D.Disk c.args.self.now.packs (stood_of c.forget.new.self) (stood_of c.args.self.now.marks)
    (λ n. ap (λ (ends : Ends). ends.stood) (c.forget.ensures n)) in within_same _ _ (sym same)

pub returns-clause-ends : goal.returns-clause-ends
returns-clause-ends g c = λ n. let same = ap (λ (ends : Ends). ends.written) (c.forget.ensures n) in omega (arith, same)

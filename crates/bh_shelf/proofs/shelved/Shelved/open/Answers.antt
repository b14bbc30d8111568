use Rattle.std.proofs.Common.{◌≡◌, ◌∙◌, ℕ, IsTrue, refl, ap, arith}
use Rattle.std.proofs.lemmas.Result.{on_ok_weaker}
use Rattle.bh_packs.specs.Packs.{pack_at}
use Rattle.bh_shelf.specs.declared.marks.Ends.{Ends}
use Rattle.bh_shelf.specs.Laws.{clean_at}
use Rattle.bh_shelf.specs.Marks.{ends_of, ends_at, kept_of, seen_of}
use Rattle.bh_shelf.specs.Ranges.{range_of, file_of, clean_of, contents_of}
use Rattle.bh_shelf.proofs.SoundLemmas.{outcome, sound_same, sound_keeps, sound_opens, others_stay, others_keep, opened_ranges, clean_keeps}
use Rattle.bh_shelf.proofs.shelved.Shelved.open.Goals as goal

pub invariant_of-self : goal.invariant_of-self
invariant_of-self g c = let old = c.args.self.now in record { sound = sound_same g.D.Disk old.packs old.marks c.reach.new.self old.sound c.reach.ensures }

pub invariant_of-self-in-Break-branch-2 : goal.invariant_of-self-in-Break-branch-2
invariant_of-self-in-Break-branch-2 g c =
    let old = c.args.self.now in
    let reached = sound_same g.D.Disk old.packs old.marks c.reach.new.self old.sound c.reach.ensures in
    record { sound = sound_keeps g.D.Disk old.packs c.open.new.self c.open.ensures.keeps c.reach.new.self reached }

pub invariant_of-self-2 : goal.invariant_of-self-2
invariant_of-self-2 g c =
    let old = c.args.self.now in
    let new = c.open.new.self in
    let mid = c.reach.new.self in
    let after = c.open-2.new.self in
    let reached = sound_same g.D.Disk old.packs old.marks mid old.sound c.reach.ensures in
    let sound = sound_keeps g.D.Disk old.packs new c.open.ensures.keeps mid reached in
    let opened = c.in_ok-open.ensures in
    record {
      sound = outcome c.open-2.result c.open-2.ensures.opened c.open-2.ensures.opened c.open-2.ensures.failed
          (λ to _. sound_opens g.D.Disk new mid after sound c.args.pack c.args.file c.args.mark c.requires opened.settled opened.end opened.long to c.open-2.ensures.others)
          (λ same. sound_same g.D.Disk new mid after sound same);
    }

pub returns-clause-opened : goal.returns-clause-opened
returns-clause-opened g c =
    let new = c.open.new.self in
    let after = c.open-2.new.self in
    let pack = c.args.pack in
    let mark = c.args.mark in
    let opened = c.in_ok-open.ensures in
    let has : ends_of after pack ≡ ends_at mark → IsTrue (clean_of g.D.Disk new) → (offset size : ℕ)
    → contents_of g.D.Disk new (kept_of after) pack offset size ≡ range_of (g.D.Disk.seen c.args.file) mark offset size =
    λ to clean offset size. ap (λ (ends : Ends). range_of (file_of g.D.Disk new pack) ends.kept offset size) to
    ∙ opened_ranges g.D.Disk (pack_at new pack) c.args.file mark c.requires opened.settled opened.end (opened.long (clean_at g.D.Disk new clean pack)) offset size in
    on_ok_weaker c.open-2.result has c.open-2.ensures.opened

pub returns-in_err-open-clause-clean : goal.returns-in_err-open-clause-clean
returns-in_err-open-clause-clean g c = clean_keeps g.D.Disk c.args.self.now.packs c.open.new.self c.open.ensures.keeps c.open.ensures.removed

pub returns-clause-clean : goal.returns-clause-clean
returns-clause-clean g c = clean_keeps g.D.Disk c.args.self.now.packs c.open.new.self c.open.ensures.keeps c.open.ensures.removed

pub returns-in_err-reach-clause-others : goal.returns-in_err-reach-clause-others
returns-in_err-reach-clause-others g c = λ clean.
    let old = c.args.self.now in
    others_stay g.D.Disk old.packs old.packs (kept_of old.marks) (kept_of c.reach.new.self) c.args.pack (λ n other. refl) (λ n other. ap (λ (ends : Ends). ends.kept) (c.reach.ensures n))

pub returns-in_err-open-clause-others : goal.returns-in_err-open-clause-others
returns-in_err-open-clause-others g c = λ clean.
    let old = c.args.self.now in
    others_keep g.D.Disk old.packs c.open.new.self c.open.ensures.keeps old.marks old.sound clean (kept_of old.marks) (kept_of c.reach.new.self)
    (λ n. let at = old.sound n in omega (arith, at.kept_seen, at.seen_written)) c.args.pack (λ n other. ap (λ (ends : Ends). ends.kept) (c.reach.ensures n))

pub returns-clause-others : goal.returns-clause-others
returns-clause-others g c = λ clean.
    let old = c.args.self.now in
    others_keep g.D.Disk old.packs c.open.new.self c.open.ensures.keeps old.marks old.sound clean (kept_of old.marks) (kept_of c.open-2.new.self)
    (λ n. let at = old.sound n in omega (arith, at.kept_seen, at.seen_written)) c.args.pack
    (λ n other. ap (λ (ends : Ends). ends.kept) (c.open-2.ensures.others n other) ∙ ap (λ (ends : Ends). ends.kept) (c.reach.ensures n))

pub returns-in_err-reach-clause-seen : goal.returns-in_err-reach-clause-seen
returns-in_err-reach-clause-seen g c = λ clean.
    let old = c.args.self.now in
    others_stay g.D.Disk old.packs old.packs (seen_of old.marks) (seen_of c.reach.new.self) c.args.pack (λ n other. refl) (λ n other. ap (λ (ends : Ends). ends.seen) (c.reach.ensures n))

pub returns-in_err-open-clause-seen : goal.returns-in_err-open-clause-seen
returns-in_err-open-clause-seen g c = λ clean.
    let old = c.args.self.now in
    others_keep g.D.Disk old.packs c.open.new.self c.open.ensures.keeps old.marks old.sound clean (seen_of old.marks) (seen_of c.reach.new.self)
    (λ n. let at = old.sound n in at.seen_written) c.args.pack (λ n other. ap (λ (ends : Ends). ends.seen) (c.reach.ensures n))

pub returns-clause-seen : goal.returns-clause-seen
returns-clause-seen g c = λ clean.
    let old = c.args.self.now in
    others_keep g.D.Disk old.packs c.open.new.self c.open.ensures.keeps old.marks old.sound clean (seen_of old.marks) (seen_of c.open-2.new.self)
    (λ n. let at = old.sound n in at.seen_written) c.args.pack
    (λ n other. ap (λ (ends : Ends). ends.seen) (c.open-2.ensures.others n other) ∙ ap (λ (ends : Ends). ends.seen) (c.reach.ensures n))

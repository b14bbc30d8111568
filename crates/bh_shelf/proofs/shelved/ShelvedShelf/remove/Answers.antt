use Rattle.std.proofs.Common.{◌≡◌, ℕ, refl, ap, arith}
use Rattle.bh_packs.specs.Packs.{pack_at}
use Rattle.bh_shelf.specs.declared.marks.Ends.{Ends}
use Rattle.bh_shelf.specs.Marks.{kept_of, seen_of, stood_of}
use Rattle.bh_shelf.proofs.MarkLemmas.{one_and_others}
use Rattle.bh_shelf.proofs.SoundLemmas.{sound_stays, sound_removed, clean_stays, clean_removed, contents_stay, none_seen, others_stay}
use Rattle.bh_shelf.proofs.shelved.ShelvedShelf.remove.Goals as goal

pub invariant_of-self : goal.invariant_of-self
invariant_of-self g c =
    let old = c.args.self.now in
    let new = c.remove.new.self in
    let P : ℕ → Type 0 = λ n. pack_at new n ≡ pack_at old.packs n in
    record { sound = sound_stays g.D.Disk old.packs new old.marks (one_and_others P c.args.pack c.in_err-file.ensures.stays c.remove.ensures.others) old.sound }

pub returns-in_err-file-clause-held : goal.returns-in_err-file-clause-held
returns-in_err-file-clause-held g c = λ some clean.
    let old = c.args.self.now in
    let new = c.remove.new.self in
    let P : ℕ → Type 0 = λ n. pack_at new n ≡ pack_at old.packs n in
    contents_stay g.D.Disk old.packs new (seen_of old.marks) (one_and_others P c.args.pack c.in_err-file.ensures.stays c.remove.ensures.others)

pub returns-in_err-file-clause-seen : goal.returns-in_err-file-clause-seen
returns-in_err-file-clause-seen g c = λ clean.
    let old = c.args.self.now in
    others_stay g.D.Disk old.packs c.remove.new.self (seen_of old.marks) (seen_of c.args.self.now.marks) c.args.pack c.remove.ensures.others (λ n other. refl)

pub returns-in_err-file-clause-kept : goal.returns-in_err-file-clause-kept
returns-in_err-file-clause-kept g c = λ clean.
    let old = c.args.self.now in
    others_stay g.D.Disk old.packs c.remove.new.self (kept_of old.marks) (kept_of c.args.self.now.marks) c.args.pack c.remove.ensures.others (λ n other. refl)

pub returns-in_err-file-clause-stood : goal.returns-in_err-file-clause-stood
returns-in_err-file-clause-stood g c = λ clean.
    let old = c.args.self.now in
    others_stay g.D.Disk old.packs c.remove.new.self (stood_of old.marks) (stood_of c.args.self.now.marks) c.args.pack c.remove.ensures.others (λ n other. refl)

pub returns-in_err-delete-clause-seen : goal.returns-in_err-delete-clause-seen
returns-in_err-delete-clause-seen g c = λ clean.
    let old = c.args.self.now in
    others_stay g.D.Disk old.packs c.remove.new.self (seen_of old.marks) (seen_of c.clear.new.self) c.args.pack c.remove.ensures.others (λ n other. ap (λ (ends : Ends). ends.seen) (c.clear.ensures.others n other))

pub returns-in_err-delete-clause-kept : goal.returns-in_err-delete-clause-kept
returns-in_err-delete-clause-kept g c = λ clean.
    let old = c.args.self.now in
    others_stay g.D.Disk old.packs c.remove.new.self (kept_of old.marks) (kept_of c.clear.new.self) c.args.pack c.remove.ensures.others (λ n other. ap (λ (ends : Ends). ends.kept) (c.clear.ensures.others n other))

pub returns-in_err-delete-clause-stood : goal.returns-in_err-delete-clause-stood
returns-in_err-delete-clause-stood g c = λ clean.
    let old = c.args.self.now in
    others_stay g.D.Disk old.packs c.remove.new.self (stood_of old.marks) (stood_of c.clear.new.self) c.args.pack c.remove.ensures.others (λ n other. ap (λ (ends : Ends). ends.stood) (c.clear.ensures.others n other))

pub returns-clause-seen : goal.returns-clause-seen
returns-clause-seen g c = λ clean.
    let old = c.args.self.now in
    others_stay g.D.Disk old.packs c.remove.new.self (seen_of old.marks) (seen_of c.clear.new.self) c.args.pack c.remove.ensures.others (λ n other. ap (λ (ends : Ends). ends.seen) (c.clear.ensures.others n other))

pub returns-clause-kept : goal.returns-clause-kept
returns-clause-kept g c = λ clean.
    let old = c.args.self.now in
    others_stay g.D.Disk old.packs c.remove.new.self (kept_of old.marks) (kept_of c.clear.new.self) c.args.pack c.remove.ensures.others (λ n other. ap (λ (ends : Ends). ends.kept) (c.clear.ensures.others n other))

pub returns-clause-stood : goal.returns-clause-stood
returns-clause-stood g c = λ clean.
    let old = c.args.self.now in
    others_stay g.D.Disk old.packs c.remove.new.self (stood_of old.marks) (stood_of c.clear.new.self) c.args.pack c.remove.ensures.others (λ n other. ap (λ (ends : Ends). ends.stood) (c.clear.ensures.others n other))

pub returns-in_err-file-clause-clean : goal.returns-in_err-file-clause-clean
returns-in_err-file-clause-clean g c =
    let old = c.args.self.now in
    let new = c.remove.new.self in
    let P : ℕ → Type 0 = λ n. pack_at new n ≡ pack_at old.packs n in
    clean_stays g.D.Disk old.packs new (one_and_others P c.args.pack c.in_err-file.ensures.stays c.remove.ensures.others) c.in_err-file.ensures.none

pub returns-in_err-delete-clause-clean : goal.returns-in_err-delete-clause-clean
returns-in_err-delete-clause-clean g c =
    let file = c.in_ok-file in
    clean_removed g.D.Disk c.args.self.now.packs c.remove.new.self c.args.pack file.file file.ensures.file file.ensures.noted c.remove.ensures.others

pub returns-clause-clean : goal.returns-clause-clean
returns-clause-clean g c =
    let file = c.in_ok-file in
    clean_removed g.D.Disk c.args.self.now.packs c.remove.new.self c.args.pack file.file file.ensures.file file.ensures.noted c.remove.ensures.others

pub returns-in_err-delete-clause-held : goal.returns-in_err-delete-clause-held
returns-in_err-delete-clause-held g c = λ some. absurd (omega (arith, some, c.in_ok-file.ensures.unheld))

pub returns-clause-held : goal.returns-clause-held
returns-clause-held g c = λ some. absurd (omega (arith, some, c.in_ok-file.ensures.unheld))

pub invariant_of-self-2 : goal.invariant_of-self-2
invariant_of-self-2 g c =
    let old = c.args.self.now in
    record {
      sound = sound_removed g.D.Disk old.packs old.marks c.clear.new.self old.sound c.remove.new.self c.args.pack c.clear.ensures.cleared c.clear.ensures.others
          c.remove.ensures.others;
    }

pub returns-clause-gone : goal.returns-clause-gone
returns-clause-gone g c = none_seen g.D.Disk c.remove.new.self c.clear.new.self c.args.pack c.clear.ensures.cleared

pub returns-in_err-delete-clause-ends : goal.returns-in_err-delete-clause-ends
returns-in_err-delete-clause-ends g c = λ n other. let same = ap (λ (ends : Ends). ends.written) (c.clear.ensures.others n other) in omega (arith, same)

pub returns-clause-ends : goal.returns-clause-ends
returns-clause-ends g c = λ n other. let same = ap (λ (ends : Ends). ends.written) (c.clear.ensures.others n other) in omega (arith, same)

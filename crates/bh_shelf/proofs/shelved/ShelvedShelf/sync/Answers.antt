use Rattle.std.proofs.Common.{◌∙◌, ap, arith}
use Rattle.bh_shelf.specs.declared.marks.Ends.{Ends}
use Rattle.bh_shelf.specs.declared.marks.Marks.{Marks}
use Rattle.bh_shelf.specs.Marks.{all_stood, ends_of, kept_of, seen_of, stood_of, written_of}
use Rattle.bh_shelf.proofs.SoundLemmas.{clean_keeps, seen_turns, kept_turns, stood_adds, seen_stands}
use Rattle.bh_shelf.proofs.shelved.ShelvedShelf.sync.Goals as goal

pub returns-in_err-settle-clause-seen : goal.returns-in_err-settle-clause-seen
returns-in_err-settle-clause-seen g c = λ clean.
    let old = c.args.self.now in
    let mid = c.settle.new.self in
    seen_turns g.D.Disk old.packs mid.packs c.settle.ensures.keeps old.marks mid.marks old.sound clean (λ n. ap (λ (marks : Marks). seen_of marks n) c.settle.ensures.marks)

pub returns-in_err-settle-clause-kept : goal.returns-in_err-settle-clause-kept
returns-in_err-settle-clause-kept g c = λ clean.
    let old = c.args.self.now in
    let mid = c.settle.new.self in
    kept_turns g.D.Disk old.packs mid.packs c.settle.ensures.keeps old.marks mid.marks old.sound clean (λ n. ap (λ (marks : Marks). kept_of marks n) c.settle.ensures.marks)

pub returns-in_err-settle-clause-stood : goal.returns-in_err-settle-clause-stood
returns-in_err-settle-clause-stood g c = λ clean.
    let old = c.args.self.now in
    let mid = c.settle.new.self in
    stood_adds g.D.Disk old.packs mid.packs c.settle.ensures.keeps old.marks mid.marks old.sound clean
    (λ n. let same = ap (λ (marks : Marks). stood_of marks n) c.settle.ensures.marks in omega (arith, same))

pub returns-in_err-settle-clause-ends : goal.returns-in_err-settle-clause-ends
returns-in_err-settle-clause-ends g c = λ n. let same = ap (λ (marks : Marks). written_of marks n) c.settle.ensures.marks in omega (arith, same)

pub returns-in_err-settle-clause-clean : goal.returns-in_err-settle-clause-clean
returns-in_err-settle-clause-clean g c = let old = c.args.self.now in let mid = c.settle.new.self in clean_keeps g.D.Disk old.packs mid.packs c.settle.ensures.keeps c.settle.ensures.removed

pub returns-clause-stands : goal.returns-clause-stands
returns-clause-stands g c = rw c.note.ensures.packs (
    let old = c.args.self.now in
    let mid = c.settle.new.self in
    let new = c.note.new.self in
    seen_stands g.D.Disk old.packs mid.packs c.settle.ensures.keeps old.marks new.marks old.sound
    (λ n. c.note.ensures.ends n ∙ ap (λ (marks : Marks). all_stood (ends_of marks n)) c.settle.ensures.marks))

pub returns-clause-seen : goal.returns-clause-seen
returns-clause-seen g c = rw c.note.ensures.packs (λ clean.
    let old = c.args.self.now in
    let mid = c.settle.new.self in
    let new = c.note.new.self in
    seen_turns g.D.Disk old.packs mid.packs c.settle.ensures.keeps old.marks new.marks old.sound clean
    (λ n. ap (λ (ends : Ends). ends.seen) (c.note.ensures.ends n) ∙ ap (λ (marks : Marks). seen_of marks n) c.settle.ensures.marks))

pub returns-clause-kept : goal.returns-clause-kept
returns-clause-kept g c = rw c.note.ensures.packs (λ clean.
    let old = c.args.self.now in
    let mid = c.settle.new.self in
    let new = c.note.new.self in
    kept_turns g.D.Disk old.packs mid.packs c.settle.ensures.keeps old.marks new.marks old.sound clean
    (λ n. ap (λ (ends : Ends). ends.kept) (c.note.ensures.ends n) ∙ ap (λ (marks : Marks). kept_of marks n) c.settle.ensures.marks))

pub returns-clause-stood : goal.returns-clause-stood
returns-clause-stood g c = rw c.note.ensures.packs (λ clean.
    let old = c.args.self.now in
    let mid = c.settle.new.self in
    let new = c.note.new.self in
    stood_adds g.D.Disk old.packs mid.packs c.settle.ensures.keeps old.marks new.marks old.sound clean (λ n.
    let to = ap (λ (ends : Ends). ends.stood) (c.note.ensures.ends n) in
    let same = ap (λ (marks : Marks). written_of marks n) c.settle.ensures.marks in
    let at = old.sound n in omega (arith, to, same, at.stood_written)))

pub returns-clause-ends : goal.returns-clause-ends
returns-clause-ends g c = λ n.
    let to = ap (λ (ends : Ends). ends.written) (c.note.ensures.ends n) in
    let same = ap (λ (marks : Marks). written_of marks n) c.settle.ensures.marks in omega (arith, to, same)

pub returns-clause-clean : goal.returns-clause-clean
returns-clause-clean g c = rw c.note.ensures.packs (
    let old = c.args.self.now in let mid = c.settle.new.self in clean_keeps g.D.Disk old.packs mid.packs c.settle.ensures.keeps c.settle.ensures.removed)

pub returns-clause-holds : goal.returns-clause-holds
returns-clause-holds g c = rw c.note.ensures.packs c.settle.ensures.holds

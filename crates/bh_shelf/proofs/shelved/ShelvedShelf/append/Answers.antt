use Rattle.std.proofs.Common.{◌≡◌, ◌≢◌, ℕ, IsTrue, length, ap, sym, ◌∙◌, arith}
use Rattle.std.proofs.lemmas.Bool.{eqb-false}
use Rattle.bh_shelf.specs.declared.marks.Ends.{Ends}
use Rattle.bh_shelf.specs.Marks.{seen_of}
use Rattle.bh_shelf.specs.Ranges.{clean_of, contents_of}
use Rattle.bh_shelf.proofs.SoundLemmas.{at_err, outcome, within_same, sound_keeps, sound_same, sound_writes, clean_keeps, seen_keeps, kept_keeps, stood_keeps}
use Rattle.bh_shelf.proofs.SoundLemmas.{seen_rises, written_rises, kept_stays, stood_stays, place_seen, seen_turns, kept_turns, seen_adds, stood_adds}
use Rattle.bh_shelf.proofs.shelved.ShelvedShelf.append.Goals as goal

pub invariant_of-self : goal.invariant_of-self
invariant_of-self g c = let old = c.args.self.now in record { sound = sound_keeps g.D.Disk old.packs c.append.new.self c.append.ensures.keeps old.marks old.sound }

pub returns-in_err-place-clause-failed : goal.returns-in_err-place-clause-failed
returns-in_err-place-clause-failed g c =
    let old = c.args.self.now in at_err _ (seen_keeps g.D.Disk old.packs c.append.new.self c.append.ensures.keeps old.marks old.sound)

pub returns-in_err-place-clause-seen : goal.returns-in_err-place-clause-seen
returns-in_err-place-clause-seen g c = λ clean.
    let old = c.args.self.now in
    within_same _ _ (sym (seen_keeps g.D.Disk old.packs c.append.new.self c.append.ensures.keeps old.marks old.sound clean))

pub returns-in_err-place-clause-kept : goal.returns-in_err-place-clause-kept
returns-in_err-place-clause-kept g c =
    let old = c.args.self.now in kept_keeps g.D.Disk old.packs c.append.new.self c.append.ensures.keeps old.marks old.sound

pub returns-in_err-place-clause-stood : goal.returns-in_err-place-clause-stood
returns-in_err-place-clause-stood g c =
    let old = c.args.self.now in stood_keeps g.D.Disk old.packs c.append.new.self c.append.ensures.keeps old.marks old.sound

pub returns-in_err-place-clause-clean : goal.returns-in_err-place-clause-clean
returns-in_err-place-clause-clean g c = clean_keeps g.D.Disk c.args.self.now.packs c.append.new.self c.append.ensures.keeps c.append.ensures.removed

pub invariant_of-self-2 : goal.invariant_of-self-2
invariant_of-self-2 g c =
    let old = c.args.self.now in
    let new = c.append.new.self in
    let after = c.write.new.self in
    let place = c.in_ok-place.place in
    let bytes = c.args.bytes.now in
    let sound = sound_keeps g.D.Disk old.packs new c.append.ensures.keeps old.marks old.sound in
    let many : length bytes ≢ 0 = eqb-false (length bytes) 0 (sym c.is_empty.ensures ∙ c.if-is_empty.false) in
    let given = c.in_ok-place.ensures.given (omega (arith, many)) in
    record {
      sound = outcome c.write.result c.write.ensures.from c.write.ensures.written c.write.ensures.failed
          (λ from to. sound_writes g.D.Disk new old.marks after sound place.pack place.offset bytes from to c.write.ensures.others given.written)
          (λ same. sound_same g.D.Disk new old.marks after sound same);
    }

pub returns-in_err-write-clause-failed : goal.returns-in_err-write-clause-failed
returns-in_err-write-clause-failed g c =
    let old = c.args.self.now in
    let new = c.append.new.self in
    let after = c.write.new.self in
    let same : IsTrue (clean_of g.D.Disk new) → contents_of g.D.Disk new (seen_of after) ≡ contents_of g.D.Disk old.packs (seen_of old.marks) =
    λ clean. seen_turns g.D.Disk old.packs new c.append.ensures.keeps old.marks after old.sound clean (λ n. ap (λ (ends : Ends). ends.seen) (c.in_err-write.ensures.failed n)) in
    at_err _ same

pub returns-in_err-write-clause-seen : goal.returns-in_err-write-clause-seen
returns-in_err-write-clause-seen g c = λ clean.
    let old = c.args.self.now in
    within_same _ _ (sym (seen_turns g.D.Disk old.packs c.append.new.self c.append.ensures.keeps old.marks c.write.new.self old.sound clean
    (λ n. ap (λ (ends : Ends). ends.seen) (c.in_err-write.ensures.failed n))))

pub returns-in_err-write-clause-kept : goal.returns-in_err-write-clause-kept
returns-in_err-write-clause-kept g c = λ clean.
    let old = c.args.self.now in
    kept_turns g.D.Disk old.packs c.append.new.self c.append.ensures.keeps old.marks c.write.new.self old.sound clean
    (λ n. ap (λ (ends : Ends). ends.kept) (c.in_err-write.ensures.failed n))

pub returns-in_err-write-clause-stood : goal.returns-in_err-write-clause-stood
returns-in_err-write-clause-stood g c = λ clean.
    let old = c.args.self.now in
    stood_adds g.D.Disk old.packs c.append.new.self c.append.ensures.keeps old.marks c.write.new.self old.sound clean
    (λ n. let same = ap (λ (ends : Ends). ends.stood) (c.in_err-write.ensures.failed n) in omega (arith, same))

pub returns-in_err-write-clause-clean : goal.returns-in_err-write-clause-clean
returns-in_err-write-clause-clean g c = clean_keeps g.D.Disk c.args.self.now.packs c.append.new.self c.append.ensures.keeps c.append.ensures.removed

pub returns-clause-placed : goal.returns-clause-placed
returns-clause-placed g c = λ some.
    let old = c.args.self.now in
    let new = c.append.new.self in
    let after = c.write.new.self in
    let place = c.in_ok-place.place in
    let bytes = c.args.bytes.now in
    let sound = sound_keeps g.D.Disk old.packs new c.append.ensures.keeps old.marks old.sound in
    let given = c.in_ok-place.ensures.given some in
    ap (λ (size : ℕ). contents_of g.D.Disk new (seen_of after) place.pack place.offset size) given.size
    ∙ place_seen g.D.Disk new old.marks after sound place.pack place.offset bytes c.in_ok-write.ensures.from c.in_ok-write.ensures.written c.write.ensures.others some given.written

pub returns-clause-size : goal.returns-clause-size
returns-clause-size g c = λ some. let given = c.in_ok-place.ensures.given some in given.size

pub returns-clause-sum : goal.returns-clause-sum
returns-clause-sum g c = λ some. let given = c.in_ok-place.ensures.given some in given.sum

pub returns-clause-apart : goal.returns-clause-apart
returns-clause-apart g c = let from = c.in_ok-write.ensures.from in omega (arith, from)

pub returns-in_err-write-clause-ends : goal.returns-in_err-write-clause-ends
returns-in_err-write-clause-ends g c = λ n. let same = ap (λ (ends : Ends). ends.written) (c.in_err-write.ensures.failed n) in omega (arith, same)

pub returns-clause-ends : goal.returns-clause-ends
returns-clause-ends g c =
    let old = c.args.self.now in
    let place = c.in_ok-place.place in
    let sound = sound_keeps g.D.Disk old.packs c.append.new.self c.append.ensures.keeps old.marks old.sound in
    written_rises g.D.Disk c.append.new.self old.marks c.write.new.self sound place.pack place.offset c.args.bytes.now
    c.in_ok-write.ensures.from c.in_ok-write.ensures.written c.write.ensures.others

pub returns-clause-seen : goal.returns-clause-seen
returns-clause-seen g c = λ clean.
    let old = c.args.self.now in
    let new = c.append.new.self in
    let after = c.write.new.self in
    let place = c.in_ok-place.place in
    let sound = sound_keeps g.D.Disk old.packs new c.append.ensures.keeps old.marks old.sound in
    seen_adds g.D.Disk old.packs new c.append.ensures.keeps old.marks after old.sound clean
    (seen_rises g.D.Disk new old.marks after sound place.pack place.offset c.args.bytes.now c.in_ok-write.ensures.from c.in_ok-write.ensures.written c.write.ensures.others)

pub returns-clause-kept : goal.returns-clause-kept
returns-clause-kept g c = λ clean.
    let old = c.args.self.now in
    let new = c.append.new.self in
    let after = c.write.new.self in
    let place = c.in_ok-place.place in
    let sound = sound_keeps g.D.Disk old.packs new c.append.ensures.keeps old.marks old.sound in
    kept_turns g.D.Disk old.packs new c.append.ensures.keeps old.marks after old.sound clean
    (kept_stays g.D.Disk new old.marks after sound place.pack place.offset c.args.bytes.now c.in_ok-write.ensures.from c.in_ok-write.ensures.written c.write.ensures.others)

pub returns-clause-stood : goal.returns-clause-stood
returns-clause-stood g c = λ clean.
    let old = c.args.self.now in
    let new = c.append.new.self in
    let after = c.write.new.self in
    let place = c.in_ok-place.place in
    let sound = sound_keeps g.D.Disk old.packs new c.append.ensures.keeps old.marks old.sound in
    let stays = stood_stays g.D.Disk new old.marks after sound place.pack place.offset c.args.bytes.now
    c.in_ok-write.ensures.from c.in_ok-write.ensures.written c.write.ensures.others in
    stood_adds g.D.Disk old.packs new c.append.ensures.keeps old.marks after old.sound clean (λ n. let same = stays n in omega (arith, same))

pub returns-clause-clean : goal.returns-clause-clean
returns-clause-clean g c = clean_keeps g.D.Disk c.args.self.now.packs c.append.new.self c.append.ensures.keeps c.append.ensures.removed

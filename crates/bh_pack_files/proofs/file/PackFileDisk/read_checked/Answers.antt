use Rattle.std.proofs.Common.{◌≡◌, length, sym, ◌∙◌, rules}
use Rattle.sqlite_disk.specs.Events.{replay}
use Rattle.sqlite_disk.proofs.EventLemmas.{Holds-agrees}
use Rattle.bh_pack_files.proofs.Tests.{right_if_honest, passed, failed}
use Rattle.bh_pack_files.proofs.file.PackFileDisk.read_checked.Goals as goal

pub returns-then-digest_of-want-clause-faults : goal.returns-then-digest_of-want-clause-faults
returns-then-digest_of-want-clause-faults g c =
    let m = replay (g.S.Held.held c.args.self.now.pack) c.args.self.now.log.events in
    let bytes = c.read_exact_at.new.buf in
    let len : length c.args.buf.now ≡ length bytes = search rules in
    rw (c.note-2.ensures, len) (failed c.args.key c.args.want c.args.at bytes m (rw (← len) c.requires.some) (λ same. c.if-digest_of-want.true (c.digest_of.ensures.value ∙ same)) (λ honest. rw (← len) (c.requires.want honest)))

pub returns-clause-read : goal.returns-clause-read
returns-clause-read g c =
    let m = replay (g.S.Held.held c.args.self.now.pack) c.args.self.now.log.events in
    let bytes = c.read_exact_at.new.buf in
    let len : length c.args.buf.now ≡ length bytes = search rules in
    rw (c.note-2.ensures, len) λ honest. Holds-agrees m.seen c.args.at bytes
    (right_if_honest c.args.key c.args.want c.args.at bytes m (rw (← len) c.requires.some) (sym c.digest_of.ensures.value ∙ c.if-digest_of-want.false) honest)

pub returns-clause-detects : goal.returns-clause-detects
returns-clause-detects g c honest within =
    let m = replay (g.S.Held.held c.args.self.now.pack) c.args.self.now.log.events in
    let bytes = c.read_exact_at.new.buf in
    let len : length c.args.buf.now ≡ length bytes = search rules in
    rw (c.note-2.ensures, len) (passed c.args.key c.args.want c.args.at bytes m (rw (← len) c.requires.some) (sym c.digest_of.ensures.value ∙ c.if-digest_of-want.false) (rw (← len) (c.requires.want honest)) (rw (← len) within) honest)

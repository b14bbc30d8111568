use Rattle.std.proofs.Common.{◌≡◌, ◌+◌, ◌<◌, ℕ, length, take, subst, rules}
use Rattle.std.proofs.lemmas.Result.{on_ok_weaker}
use Rattle.bh_backup.proofs.Copying.{appended}
use Rattle.bh_backup.proofs.disks.copy_piece.Goals as goal

pub returns-clause-copied : goal.returns-clause-copied
returns-clause-copied g c =
    let from = g.D.Disk.seen c.args.from.now in
    let bytes = c.read_at.new.buf in
    let same : length bytes ≡ length c.args.piece.now = search rules in
    let some : 0 < length bytes = search rules in
    on_ok_weaker c.write_at.result
    (λ written clean low there.
    subst (λ (n : ℕ). g.E.Disk.seen c.write_at.new.self ≡ take (c.args.at + n) from) same
    (appended from (g.E.Disk.seen c.args.to.now) (g.E.Disk.seen c.write_at.new.self) bytes c.args.at low there (c.in_ok-read_at.ensures.read clean c.requires.some) (written some) c.write_at.ensures.others))
    c.write_at.ensures.written

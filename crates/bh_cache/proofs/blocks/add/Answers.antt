use Rattle.std.proofs.Common.{◌≡◌, ◌<◌, ◌+◌, length, sym, ap, ◌∙◌, arith}
use Rattle.bh_cache.specs.Names.{name_of}
use Rattle.bh_cache.proofs.BlockNames.{same, exact}
use Rattle.bh_cache.proofs.Counting.{total, put_total}
use Rattle.bh_cache.proofs.Keeping.{put_in}
use Rattle.bh_cache.proofs.blocks.add.Goals as goal

pub returns-in-Ok-clause-bytes : goal.returns-in-Ok-clause-bytes
returns-in-Ok-clause-bytes c =
    let few : length c.args.kept.now.entries < c.args.kept.now.cap = omega (arith, c.if-len-get.false, c.len.ensures.len, c.get.ensures.value, c.cap.ensures) in
    let size : length c.args.bytes.items ≡ c.len-size.result = sym (c.len-size.ensures ∙ c.args.bytes.ok.0) in
    rw c.in-Ok.ensures.entries (put_total name_of (λ v. v.items) same c.args.kept.now c.args.name c.args.bytes (sym c.if-contains.ensures) few ∙ ap (λ n. n + total name_of (λ v. v.items) c.args.kept.now.entries) size)

pub returns-in-Ok-clause-entries : goal.returns-in-Ok-clause-entries
returns-in-Ok-clause-entries c = rw c.in-Ok.ensures.entries (put_in name_of (λ v. v.items) exact c.args.kept.now c.args.name c.args.bytes)

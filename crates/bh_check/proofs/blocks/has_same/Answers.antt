use Rattle.std.proofs.Common.{◌≡◌, false, sym, subst, ◌∙◌}
use Rattle.sqlite.specs.Order.{column}
use Rattle.sqlite_typed.specs.Columns.{bytes_of}
use Rattle.sqlite_typed.specs.Tests.{bytes_eq}
use Rattle.bh_check.proofs.OnceLemmas.{other_bytes}
use Rattle.bh_check.proofs.blocks.has_same.Goals as goal

pub returns-then-not-same_digest-clause-other : goal.returns-then-not-same_digest-clause-other
returns-then-not-same_digest-clause-other g c none clean shown are digest its row =
    let other : bytes_eq (bytes_of (column shown 1)) (bytes_of (column c.args.row.now 1)) ≡ false =
    subst (λ o. bytes_eq o (bytes_of (column c.args.row.now 1)) ≡ false) are.each.0.name.digest (sym c.same_digest.ensures ∙ c.if-not-same_digest.true) in
    other_bytes digest shown c.args.row.now its row other

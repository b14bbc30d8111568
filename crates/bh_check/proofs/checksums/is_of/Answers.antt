use Rattle.std.proofs.Common.{◌≡◌, pos, nat_eq, true, false, ◌&&◌, ap, sym, ◌∙◌}
use Rattle.std.specs.Cmp.Lexicographic.{pointwise}
use Rattle.std.specs.Ordering.{int_eq}
use Rattle.sqlite.specs.Order.{column}
use Rattle.sqlite_typed.specs.Columns.{bytes_of}
use Rattle.sqlite_typed.specs.Tests.{bytes_eq}
use Rattle.bh_tables.specs.Typed.{column_number}
use Rattle.bh_check.proofs.SameLemmas.{same_slices, same_counts}
use Rattle.bh_check.proofs.checksums.is_of.Goals as goal

pub returns-then-eq : goal.returns-then-eq
returns-then-eq c =
    let text = bytes_of (column c.args.row.now 1) in
    let number = column_number (column c.args.row.now 2) in
    let on : bytes_eq text c.args.text.now ≡ true = sym (c.if-eq.ensures ∙ (λ i. pointwise nat_eq (c.bytes_in.ensures i) c.args.text.now) ∙ same_slices text c.args.text.now) in
    ap (λ n. nat_eq n c.args.number) c.number_in.ensures ∙ same_counts number c.args.number ∙ sym (ap (λ b. b && int_eq (pos number) (pos c.args.number)) on)

pub returns-else-eq : goal.returns-else-eq
returns-else-eq c =
    let text = bytes_of (column c.args.row.now 1) in
    let number = column_number (column c.args.row.now 2) in
    let off : bytes_eq text c.args.text.now ≡ false = sym (c.if-eq.ensures ∙ (λ i. pointwise nat_eq (c.bytes_in.ensures i) c.args.text.now) ∙ same_slices text c.args.text.now) in
    c.if-eq.false ∙ sym (ap (λ b. b && int_eq (pos number) (pos c.args.number)) off)

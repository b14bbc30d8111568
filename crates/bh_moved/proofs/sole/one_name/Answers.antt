use Rattle.std.proofs.Common.{arith, [], ◌∷◌, map, ap, ◌∙◌}
use Rattle.std.specs.String.{string_bytes}
use Rattle.bh_tables.specs.Typed.{TenantRow}
use Rattle.bh_blocks.proofs.Loops.{at_row, drop_end}
use Rattle.bh_tenant_rows.specs.Shown.{shown_name}
use Rattle.bh_moved.proofs.Chains.{text_read}
use Rattle.bh_moved.proofs.sole.one_name.Goals as goal

pub returns-in_ok-get-in-len1-clause-sole : goal.returns-in_ok-get-in-len1-clause-sole
returns-in_ok-get-in-len1-clause-sole c ts is =
    let some = c.in-len1.len_at_least in
    let few = c.in-len1.len_below in
    let it = at_row shown_name ts c.args.rows.now 0 c.row-item.result (omega (arith, some)) c.row-item.is is in
    let last = drop_end shown_name ts c.args.rows.now 1 (λ low. omega (arith, few, low)) is in
    ap (map (λ (t : TenantRow). t.tenant)) (it.2 ∙ ap (λ l. it.0 ∷ l) last) ∙ ap (λ n. n ∷ []) (text_read it.0 c.row-item.result (string_bytes c.in_ok-get-in-len1.field-0) it.1 c.in_ok-get-in-len1.ensures.ok.1)

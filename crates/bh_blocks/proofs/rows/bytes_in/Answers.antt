use Rattle.std.proofs.Common.{[], ◌∷◌, map, sym, ap, ◌∙◌}
use Rattle.std.proofs.lemmas.Result.{IfOk-weaker, IfErr-weaker}
use Rattle.bh_tables.specs.Rows.{BlockRow}
use Rattle.bh_tables.specs.Shown.{shown_bytes}
use Rattle.bh_base.proofs.Placed.{only_one}
use Rattle.bh_blocks.proofs.rows.bytes_in.Goals as goal

pub returns-clause-bytes : goal.returns-clause-bytes
returns-clause-bytes c = IfOk-weaker c.read_bytes.result _ _ (λ bytes read bs is.
    let it = only_one shown_bytes bs c.in_ok-row.row.now (sym is ∙ c.in_ok-row.ensures.only) in
    ap (map (λ (b : BlockRow). b.bytes)) it.1 ∙ ap (λ x. x ∷ []) (read it.0 (sym it.2))) c.read_bytes.ensures.read

pub returns-clause-trouble : goal.returns-clause-trouble
returns-clause-trouble c = IfErr-weaker c.read_bytes.result _ _ (λ e trouble bs is.
    let it = only_one shown_bytes bs c.in_ok-row.row.now (sym is ∙ c.in_ok-row.ensures.only) in
    trouble it.0 (sym it.2)) c.read_bytes.ensures.trouble

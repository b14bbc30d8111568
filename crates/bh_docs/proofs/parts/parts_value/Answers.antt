use Rattle.std.proofs.Common.{◌∙◌}
use Rattle.std.proofs.lemmas.Result.{IfOk-weaker}
use Rattle.bh_docs.proofs.Markers.{parts-ordered}
use Rattle.bh_docs.proofs.parts.parts_value.Goals as goal

pub returns : goal.returns
returns c =
    IfOk-weaker c.with_entries.result _ _
    (λ value whole.
    whole ∙ rw (c.as_slice.ensures.value, c.in_ok-document-2.ensures, c.next_number.ensures, c.in_ok-document.ensures)
    (parts-ordered c.args.page.now _))
    c.with_entries.ensures

use Rattle.std.proofs.Common.{◌∙◌, refl}
use Rattle.std.proofs.lemmas.Result.{IfOk-weaker}
use Rattle.bh_docs.proofs.page.page_text.Goals as goal

pub print-requires : goal.print-requires
print-requires g c = rw (c.in_ok-document-2.ensures, c.as_slice-2.ensures.value, c.in_ok-document.ensures, c.as_slice.ensures.value) c.requires

pub returns : goal.returns
returns g c =
    IfOk-weaker c.print.result _ _
    (λ text is. is ∙ rw (c.in_ok-document-2.ensures, c.as_slice-2.ensures.value, c.in_ok-document.ensures, c.as_slice.ensures.value) refl)
    c.print.ensures.text

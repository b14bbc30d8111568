use Rattle.std.proofs.Common.{◌∙◌, refl}
use Rattle.std.proofs.lemmas.Result.{IfOk-weaker}
use Rattle.bh_docs.specs.Pages.{page_view}
use Rattle.bh_docs.proofs.Floats.{has_float-objects_data}
use Rattle.bh_docs.proofs.Markers.{objects-told}
use Rattle.bh_docs.proofs.objects.objects_document.Goals as goal

pub page_text-requires : goal.page_text-requires
page_text-requires c =
    rw (c.in_ok-document-3.ensures, c.next_token.ensures, c.in_ok-document-2.ensures, c.entry_count.ensures, c.in_ok-document.ensures, objects-told c.args.page.now)
    (has_float-objects_data (page_view c.args.page.now))

pub returns : goal.returns
returns c =
    IfOk-weaker c.page_text.result _ _
    (λ text is. is ∙ rw (c.in_ok-document-3.ensures, c.next_token.ensures, c.in_ok-document-2.ensures, c.entry_count.ensures, c.in_ok-document.ensures, objects-told c.args.page.now) refl)
    c.page_text.ensures

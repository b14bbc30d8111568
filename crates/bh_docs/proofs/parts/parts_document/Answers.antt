use Rattle.bh_docs.specs.Pages.{parts_view}
use Rattle.bh_docs.proofs.Floats.{has_float-parts_data}
use Rattle.bh_docs.proofs.parts.parts_document.Goals as goal

pub print-requires : goal.print-requires
print-requires c = rw (c.in_ok-document.ensures) (has_float-parts_data (parts_view c.args.page.now))

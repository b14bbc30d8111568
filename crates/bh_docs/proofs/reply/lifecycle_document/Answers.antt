use Rattle.std.proofs.Common.{◌≡◌, ◌≤◌, length, Some, sym, ap, ◌∙◌, subst, arith}
use Rattle.std.specs.String.{string_bytes}
use Rattle.serde_json.specs.Data.{Data, depth}
use Rattle.serde_json.specs.Read.{max_depth}
use Rattle.serde_json.specs.View.{view}
use Rattle.serde_json.specs.Written.{compact_text}
use Rattle.bh_docs.specs.Documents.{lifecycle_data}
use Rattle.bh_docs.specs.Requests.{document_end}
use Rattle.bh_docs.proofs.Lengths.{lifecycle_length}
use Rattle.bh_docs.proofs.Retained.{both_weaker, document_read, days_read}
use Rattle.bh_docs.proofs.reply.lifecycle_document.Goals as goal

pub returns-clause-reads_back : goal.returns-clause-reads_back
returns-clause-reads_back c least most =
    let is : view c.in_ok-document.document ≡ lifecycle_data c.args.days = c.in_ok-document.ensures in
    let flat : depth (view c.in_ok-document.document) ≤ max_depth = subst (λ (d : Data). depth d ≤ max_depth) (sym is) (omega arith) in
    both_weaker c.print.result _ _ _
    (λ text printed read. days_read c.args.days least most (string_bytes text)
    (document_read (string_bytes text) (lifecycle_data c.args.days) (subst (λ t. length t ≤ document_end) (sym (printed ∙ ap compact_text is)) (lifecycle_length c.args.days most)) (read flat ∙ ap Some is)))
    c.print.ensures.text c.print.ensures.reads_back

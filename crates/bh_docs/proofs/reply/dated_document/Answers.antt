use Rattle.std.proofs.Common.{◌≡◌, ℕ, ◌≤◌, List, length, Some, sym, ap, ◌∙◌, subst, arith}
use Rattle.std.specs.String.{string_bytes}
use Rattle.serde_json.specs.Data.{Data, depth}
use Rattle.serde_json.specs.Read.{max_depth}
use Rattle.serde_json.specs.View.{view}
use Rattle.serde_json.specs.Written.{compact_text}
use Rattle.bh_docs.specs.Documents.{retention_data}
use Rattle.bh_docs.specs.Requests.{document_end}
use Rattle.bh_docs.proofs.Lengths.{dated_length}
use Rattle.bh_docs.proofs.Retained.{retained, both_weaker}
use Rattle.bh_docs.proofs.reply.dated_document.Goals as goal

pub returns-clause-reads_back : goal.returns-clause-reads_back
returns-clause-reads_back c =
    let is : view c.in_ok-document.document ≡ retention_data (Some c.args.date) = c.in_ok-document.ensures in
    let flat : depth (view c.in_ok-document.document) ≤ max_depth = subst (λ (d : Data). depth d ≤ max_depth) (sym is) (omega arith) in
    let short : (text : List ℕ) → text ≡ compact_text (view c.in_ok-document.document) → length text ≤ document_end = λ text printed.
    subst (λ t. length t ≤ document_end) (sym (printed ∙ ap compact_text is)) (dated_length c.args.date) in
    both_weaker c.print.result _ _ _
    (λ text printed read. retained c.args.date (omega arith) (string_bytes text) (short (string_bytes text) printed) (read flat ∙ ap Some is)) c.print.ensures.text c.print.ensures.reads_back

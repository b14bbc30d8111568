use Rattle.std.proofs.Common.{◌≡◌, ◌≤◌, length, Some, sym, ap, ◌∙◌, subst}
use Rattle.std.specs.String.{string_bytes}
use Rattle.serde_json.specs.Data.{Data, depth}
use Rattle.serde_json.specs.Read.{max_depth}
use Rattle.serde_json.specs.View.{view}
use Rattle.serde_json.specs.Written.{compact_text}
use Rattle.bh_docs.specs.Documents.{versioning_data}
use Rattle.bh_docs.specs.Requests.{document_end}
use Rattle.bh_docs.proofs.Lengths.{versioning_length, flat_state}
use Rattle.bh_docs.proofs.Retained.{both_weaker, document_read, state_read}
use Rattle.bh_docs.proofs.reply.versioning_document.Goals as goal

pub returns-clause-reads_back : goal.returns-clause-reads_back
returns-clause-reads_back c is_versioned =
    let is : view c.in_ok-document.document ≡ versioning_data c.args.state = c.in_ok-document.ensures in
    let flat : depth (view c.in_ok-document.document) ≤ max_depth = subst (λ (d : Data). depth d ≤ max_depth) (sym is) (flat_state c.args.state) in
    both_weaker c.print.result _ _ _
    (λ text printed read. state_read c.args.state is_versioned (string_bytes text)
    (document_read (string_bytes text) (versioning_data c.args.state) (subst (λ t. length t ≤ document_end) (sym (printed ∙ ap compact_text is)) (versioning_length c.args.state)) (read flat ∙ ap Some is)))
    c.print.ensures.text c.print.ensures.reads_back

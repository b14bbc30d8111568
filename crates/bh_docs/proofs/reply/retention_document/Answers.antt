use Rattle.std.proofs.Common.{◌≡◌, ℕ, Option, Ok, sym, subst, ◌∙◌}
use Rattle.std.specs.String.{string_bytes}
use Rattle.std.specs.Result.{IfOk}
use Rattle.std.proofs.lemmas.Option.{same_Some}
use Rattle.bh_docs.specs.Documents.{retention_text}
use Rattle.bh_docs.specs.Requests.{retention_of}
use Rattle.bh_docs.proofs.reply.retention_document.Goals as goal

pub returns-in-Some-clause-reads_back : goal.returns-in-Some-clause-reads_back
returns-in-Some-clause-reads_back c = λ until is.
    let same : c.in-Some.date ≡ until = same_Some _ _ (sym c.in-Some.is ∙ is) in
    subst (λ (n : ℕ). IfOk c.dated_document.result (λ text. retention_of (string_bytes text) ≡ Ok n)) same c.dated_document.ensures.reads_back

pub returns-in-Some-clause-text : goal.returns-in-Some-clause-text
returns-in-Some-clause-text c = subst (λ (d : Option ℕ). IfOk c.dated_document.result (λ text. string_bytes text ≡ retention_text d)) (sym c.in-Some.is) c.dated_document.ensures.text

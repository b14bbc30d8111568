-- An answer, and how it is delivered.
use Rattle.std.proofs.Common.{◌≡◌, ℕ, Bool, true, false, List, [], ◌++◌, sym, ap, ◌∙◌, append-nil}
use Rattle.std.specs.Prelude.{codes, if◌then◌else◌}
use Rattle.std.specs.Str.{bytes_eq}
use Rattle.bh_http.specs.Responses.{Sent, crlf, fields_text, response_text, status_line}
use Rattle.bh_model.specs.State.{Octets}
use Rattle.bh_host.specs.Replies.{sent_for}
use Rattle.bh_storage.specs.Calls.{Seen, Within}
use Rattle.bh_host.specs.Offers.{IfFound}
use Rattle.bh_storage.specs.declared.answer.FoundVersion.{FoundVersion}
use Rattle.bh_host.specs.declared.offer.Offer.{Offer}
use Rattle.bh_host.specs.declared.offer.Offer.TheVariants.{Whole, Planned}
use Rattle.bh_tables.specs.Typed.{Tables}

-- one call after others
pub within_after : {H : Type 0} (IsIntact IsOpen : H → Type 0) (seen : H → Seen) (left : H → Tables → Type 0) (a b c : H) → Within IsIntact IsOpen seen left a b → Within IsIntact IsOpen seen left b c → (IsOpen a → IsIntact b → IsOpen b) → Within IsIntact IsOpen seen left a c
within_after IsIntact IsOpen seen left a b c one two opens = record {
  intact = λ i. one.intact (two.intact i);
  opened = λ i o. one.opened (two.intact i) (two.opened i o);
  survives = λ up i x l. (let j = two.intact i in one.survives up j x (two.survives (opens up j) i x l));
  kept = λ c. two.kept c ∙ one.kept (two.intact c.0, two.opened c.0 c.1);
  limits = two.limits ∙ one.limits;
}

-- a response is its head, and then its body
pub headed_body : (sent : Sent) → response_text (record sent { body = [] }) ++ sent.body ≡ response_text sent
headed_body sent = ap (λ l. l ++ sent.body) (append-nil (status_line sent.status ++ fields_text sent ++ crlf))

-- a response without its body, by what it is with it
pub bare_head : (head whole : Sent) (bytes : List ℕ) → head.body ≡ [] → record head { body = bytes } ≡ whole → head ≡ record whole { body = [] }
bare_head head whole bytes bare is = ap (λ (b : List ℕ). record head { body = b }) bare ∙ ap (λ (s : Sent). record s { body = [] }) is

-- a premise comes first
pub found_when : (offer : Offer) (P : Type 0) (Q : FoundVersion → Type 0) → IfFound offer (λ found. P → Q found) → P → IfFound offer Q
found_when (Whole response) P Q h p = tt
found_when (Planned found) P Q h p = h p

-- ---- the text of a response whose body follows

module _ (method : Octets) (sent : Sent) (bytes : List ℕ) (is : bytes ≡ response_text (record sent { body = [] })) where
  abbrev sent_as : Bool → List ℕ
  sent_as head = response_text (record sent { body = if head then [] else sent.body })

  -- to a request for the head alone none follows
  pub alone_text : bytes_eq method (codes "HEAD") ≡ true → bytes ≡ response_text (sent_for method sent)
  alone_text same = is ∙ ap sent_as (sym same)

  pub followed_text : bytes_eq method (codes "HEAD") ≡ false → bytes ++ sent.body ≡ response_text (sent_for method sent)
  followed_text other = ap (λ l. l ++ sent.body) is ∙ headed_body sent ∙ ap sent_as (sym other)

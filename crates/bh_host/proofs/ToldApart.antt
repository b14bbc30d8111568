-- The reply to an event with a stamp is no fixed text.
use Rattle.std.proofs.Common.{◌≡◌, ◌≢◌, ℕ, List, Bool, true, false, Option, Some, None, [], Ok, Err, Result, IfErr, refl, sym, ◌∙◌, ap, rules}
use Rattle.std.specs.Fmt.{digits}
use Rattle.bh_event.specs.Events.{Order, AddTenant, SetQuota, RemoveTenant, AddKey, RemoveKey, ShowUsage, ShowKeys, Message, Requested, Ordered, SweepOrdered, ReportOrdered, TenantsOrdered, Arrival}
use Rattle.bh_http.specs.Responses.{response_text}
use Rattle.bh_http.specs.Views.{Taken}
use Rattle.bh_machine.specs.Machine.{Act, RequestRead, Commanded, owner_of, step}
use Rattle.bh_machine.specs.Refused.{is_step_refusal}
use Rattle.bh_machine.proofs.Refused.{step_only}
use Rattle.bh_model.specs.Operations.{Answer}
use Rattle.bh_model.specs.State.{Octets, State}
use Rattle.bh_storage.specs.Calls.{Seen}
use Rattle.bh_storage.specs.Reports.{TenantTold, sweep_counts, store_counts, tenants_told}
use Rattle.bh_storage.specs.declared.report.SweepReport.{SweepReport}
use Rattle.bh_storage.specs.declared.report.StoreReport.{StoreReport}
use Rattle.bh_tables.specs.Typed.{Tables}
use Rattle.bh_types.specs.Limits.{HostLimits}
use Rattle.bh_types.specs.declared.refusal.Refusal.{Refusal}
use Rattle.bh_types.specs.declared.rejection.Rejection.{Rejection}
use Rattle.bh_view.specs.View.{view, limits_in, with_latest}
use Rattle.bh_host.specs.Replies.{text, sweep_text, report_text, tenants_text, response_to, document_for, range_told, allow_told, marker_told, refusal_to, body_for, caller_of, clock_text, wanting_text}
use Rattle.bh_host.specs.Turns.{IsActDoneFor, IsServed, AppliedTo, IsToldApart}
use Rattle.bh_host.specs.declared.reply.Caller.TheVariants.{Request, Operator}
use Rattle.bh_host.proofs.Apart.{is_fixed_response, is_fixed_line, answer_apart, refused_apart, line_apart}

abbrev Free : {X : Type 0} → Result X Rejection → Type 0
Free r = IfErr r (λ (rejection : Rejection). is_step_refusal rejection.refusal ≡ true)

rejection_apart : (target body : Octets) (e : Rejection) → is_step_refusal e.refusal ≡ true → is_fixed_response (response_text (record (refusal_to target e) { body = body })) ≡ false
rejection_apart target body e free =
    refused_apart e.refusal (document_for target e.refusal) (range_told e.detail) (allow_told target e.refusal e.detail) (marker_told e.detail) body free

answered_apart : (answer : Result Taken Refusal) (o : Result Answer Rejection) → Free o → is_fixed_response (text (RequestRead answer) o) ≡ false
unfolding text
answered_apart (Ok request) (Ok a) free = answer_apart a (body_for request.method (response_to a).body)
answered_apart (Ok request) (Err e) free = rejection_apart request.target (body_for request.method (refusal_to request.target e).body) e free
answered_apart (Err unread) (Ok a) free = answer_apart a (response_to a).body
answered_apart (Err unread) (Err e) free = rejection_apart [] (refusal_to [] e).body e free

ordered_apart : (order : Order) (o : Result Answer Rejection) → Free o → is_fixed_line (text (Commanded order) o) ≡ false
unfolding text
ordered_apart (AddTenant tenant quota) (Ok a) free = refl
ordered_apart (SetQuota tenant quota) (Ok a) free = refl
ordered_apart (RemoveTenant tenant with_objects) (Ok a) free = refl
ordered_apart (AddKey tenant name secret) (Ok a) free = refl
ordered_apart (RemoveKey tenant name) (Ok a) free = refl
ordered_apart (ShowUsage tenant) (Ok a) free = refl
ordered_apart (ShowKeys tenant) (Ok a) free = refl
ordered_apart (AddTenant tenant quota) (Err e) free = line_apart e.refusal free
ordered_apart (SetQuota tenant quota) (Err e) free = line_apart e.refusal free
ordered_apart (RemoveTenant tenant with_objects) (Err e) free = line_apart e.refusal free
ordered_apart (AddKey tenant name secret) (Err e) free = line_apart e.refusal free
ordered_apart (RemoveKey tenant name) (Err e) free = line_apart e.refusal free
ordered_apart (ShowUsage tenant) (Err e) free = line_apart e.refusal free
ordered_apart (ShowKeys tenant) (Err e) free = line_apart e.refusal free

sweep_apart : (report : SweepReport) → is_fixed_line (sweep_text report) ≡ false
sweep_apart report = refl

report_apart : (report : StoreReport) → is_fixed_line (report_text report) ≡ false
report_apart report = refl

tenants_apart : (tenants : List TenantTold) → is_fixed_line (tenants_text tenants) ≡ false
tenants_apart tenants = refl

clock_response : is_fixed_response (clock_text Request) ≡ true
unfolding digits
clock_response = refl

wanting_response : is_fixed_response (wanting_text Request) ≡ true
unfolding digits
wanting_response = refl

clock_line : is_fixed_line (clock_text Operator) ≡ true
unfolding digits
clock_line = refl

wanting_line : is_fixed_line (wanting_text Operator) ≡ true
unfolding digits
wanting_line = refl

true_is_false : (b : Bool) → b ≡ true → b ≡ false → ⊥
true_is_false b t f = search rules

differs : (test : Octets → Bool) (reply other : Octets) → test reply ≡ false → test other ≡ true → reply ≢ other
differs test reply other isnt is same = true_is_false (test other) is (ap test (sym same) ∙ isnt)

-- the text of a step, whoever the act belongs to
turned_reply : (limits : HostLimits) (o : Option Octets) (act : Act) (m : ℕ) (stamped new : Tables) (reply : Octets) → IsActDoneFor limits o m act stamped new reply
    → (s : Option State) × (reply ≡ text act (step limits m act s).0)
turned_reply limits (Some t) act m stamped new reply turned = (view stamped t, turned.told)
turned_reply limits None act m stamped new reply turned = (None, turned.told)

line_differs : (reply : Octets) → is_fixed_line reply ≡ false → (reply ≢ clock_text Operator) × (reply ≢ wanting_text Operator)
line_differs reply free =
    (differs is_fixed_line reply (clock_text Operator) free clock_line, differs is_fixed_line reply (wanting_text Operator) free wanting_line)

pub told_apart : (limits : HostLimits) (message : Message) (m : ℕ) (stamped new : Tables) (reply : Octets) → IsServed limits message m stamped new reply
    → (reply ≢ clock_text (caller_of message)) × (reply ≢ wanting_text (caller_of message))
told_apart limits (Requested bytes) m stamped new reply (act, (answer, reads, is), turned) =
    let found = turned_reply limits (owner_of act) act m stamped new reply turned.judged in
    let free = step_only limits (Requested bytes) m act found.0 (answer, reads, is) in
    let no : is_fixed_response reply ≡ false = ap is_fixed_response (found.1 ∙ ap (λ a. text a (step limits m act found.0).0) is) ∙ answered_apart answer (step limits m act found.0).0 free in
    (differs is_fixed_response reply (clock_text Request) no clock_response, differs is_fixed_response reply (wanting_text Request) no wanting_response)
told_apart limits (Ordered order) m stamped new reply (act, is, turned) =
    let found = turned_reply limits (owner_of act) act m stamped new reply turned.judged in
    let free = step_only limits (Ordered order) m act found.0 is in
    let no : is_fixed_line reply ≡ false = ap is_fixed_line (found.1 ∙ ap (λ a. text a (step limits m act found.0).0) is) ∙ ordered_apart order (step limits m act found.0).0 free in
    line_differs reply no
told_apart limits (SweepOrdered limit) m stamped new reply swept = line_differs reply (ap is_fixed_line swept.told ∙ sweep_apart (sweep_counts m limit stamped))
told_apart limits ReportOrdered m stamped new reply reported = line_differs reply (ap is_fixed_line reported.told ∙ report_apart (store_counts stamped))
told_apart limits TenantsOrdered m stamped new reply listed = line_differs reply (ap is_fixed_line listed.told ∙ tenants_apart (tenants_told stamped))

-- the same of a storage
pub apart_on : {H : Type 0} (IsOpen : H → Type 0) (seen : H → Seen) (event : Arrival) (m : ℕ) (old new : H) (reply : Octets) → AppliedTo IsOpen seen event old new (Some m) reply
    → IsToldApart event (Some m) reply
apart_on IsOpen seen event m old new reply (opened, still, (stamp, latest, turns)) =
    told_apart (limits_in (seen old).now) event.message m (with_latest m (seen old).now) (seen new).now reply turns

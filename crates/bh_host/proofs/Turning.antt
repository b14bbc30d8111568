-- From the stages of an event to what the event does.
use Rattle.std.proofs.Common.{◌≡◌, ℕ, List, ◌++◌, Option, Some, None, Ok, Err, Result, refl, sym, ◌∙◌, ap, subst, rules, IfOk, IfErr, inl, inr, Vec, Global}
use Rattle.std.specs.Prelude.{option_map, String}
use Rattle.std.specs.String.{string_bytes}
use Rattle.std.proofs.lemmas.Bool.{cases_Bool}
use Rattle.std.proofs.lemmas.Option.{same_Some}
use Rattle.bh_event.specs.Events.{Order, tenant_of, Message, Requested, Ordered, SweepOrdered, ReportOrdered, TenantsOrdered, Arrival, message_of, tenant_in}
use Rattle.bh_event.specs.declared.order.HostOrder.{HostOrder}
use Rattle.bh_event.specs.declared.order.HostOrder.TheVariants as host
use Rattle.bh_http.specs.Credentials.{key_given}
use Rattle.bh_http.specs.Responses.{Sent, refusal_text, response_text}
use Rattle.bh_http.specs.Views.{Taken}
use Rattle.bh_machine.specs.Machine.{Act, RequestRead, Commanded, owner_of, requested, ordered, change, step}
use Rattle.bh_machine.proofs.Nameless.{nameless}
use Rattle.bh_model.specs.Operations.{Answer, Outcome}
use Rattle.bh_model.specs.Runs.{settled, purged_tenant}
use Rattle.bh_model.specs.State.{Octets, State}
use Rattle.bh_storage.specs.Calls.{Seen, IsWorking, Unless, OthersSame, Stamps, Purges, GivesStep}
use Rattle.bh_storage.specs.declared.error.StepError.{StepError}
use Rattle.bh_storage.specs.declared.error.StepError.TheVariants.{Refused, Failed}
use Rattle.bh_tables.specs.Typed.{Tables}
use Rattle.bh_types.specs.AccessKeys.{tenant_named}
use Rattle.bh_types.specs.Limits.{HostLimits}
use Rattle.bh_types.specs.Names.{is_tenant_name}
use Rattle.bh_types.specs.Rejections.{plain, plainly}
use Rattle.bh_types.specs.declared.access_key.AccessKeyId.{AccessKeyId}
use Rattle.bh_types.specs.declared.refusal.Refusal.{Refusal}
use Rattle.bh_types.specs.declared.refusal.Refusal.TheVariants.{InvalidName}
use Rattle.bh_types.specs.declared.rejection.Rejection.{Rejection}
use Rattle.bh_view.specs.Becomes.{KeepsShared}
use Rattle.bh_view.specs.View.{view, latest_of, limits_in, rows_purged}
use Rattle.bh_view.proofs.SharedLemmas.{shared_none}
use Rattle.bh_host.specs.Offers.{responded}
use Rattle.bh_host.specs.Orders.{Does, with_line}
use Rattle.bh_host.specs.Replies.{caller_of, text, sent_for, line_of, line_end}
use Rattle.bh_host.specs.declared.reply.Caller.TheVariants.{Operator}
use Rattle.bh_host.specs.Turns.{owner_in, IsActDoneFor, IsActDone, IsServed, TellsLine, Applied}
use Rattle.bh_host.proofs.Responding.{responded_ok, responded_err}

-- ---- calls inside a transaction

pub limits_stay : {IsSound : Tables → Type 0} (old new : Seen) → IsWorking IsSound old → IsWorking IsSound new → new.limits ≡ old.limits → limits_in new.now ≡ limits_in old.now
limits_stay old new before after same = after.limits ∙ same ∙ sym before.limits

-- a reply to an order, by how it ended
pub if_told : {Y : Type 0} (r : Result (Vec ℕ Global) Y) (outcome : Result (String Global) (StepError Refusal)) (P : Type 0) (Q : List ℕ → Type 0)
    → IfOk r (λ bytes. TellsLine outcome bytes.items) → Unless outcome P → ((bytes : List ℕ) → P → TellsLine outcome bytes → Q bytes) → IfOk r (λ bytes. Q bytes.items)
if_told (Ok bytes) (Ok line) P Q told p go = go bytes.items p told
if_told (Ok bytes) (Err (Refused e)) P Q told p go = go bytes.items p told
if_told (Ok bytes) (Err (Failed trouble)) P Q told p go = absurd told
if_told (Err e) outcome P Q told p go = tt

-- ---- an act of a tenant: its stale uploads go, and then comes the change

-- no block goes with the stale uploads
shared_purged : (t : Octets) (m : ℕ) (old new : Tables) → KeepsShared (rows_purged t m old) new → KeepsShared old new
unfolding rows_purged
shared_purged t m old new k = record { added = k.added; grown = k.grown; named = k.named }

-- the tables in which the change found its owner
module _ (limits : HostLimits) (t : Octets) (m : ℕ) (act : Act) (old mid new : Tables) (reply : List ℕ) where
  changed : (result : Result Outcome Rejection) → Purges t m old mid → change limits m act (view mid t) ≡ result
      → step limits m act (view old t) ≡ settled (purged_tenant (view old t) m) result
  changed result purges is = ap (settled (purged_tenant (view old t) m)) (ap (change limits m act) (sym purges.own) ∙ is)

  pub turned_done : (answer : Answer) → owner_of act ≡ Some t → Purges t m old mid → change limits m act (view mid t) ≡ Ok (answer, view new t)
      → OthersSame t mid new → latest_of new ≡ latest_of mid → KeepsShared mid new → limits_in new ≡ limits_in old → reply ≡ text act (Ok answer) → IsActDone limits act m old new reply
  turned_done answer owner purges is others latest shared kept told =
      let stepped = changed (Ok (answer, view new t)) purges is in
      let P : Result Answer Rejection × Option State → Type 0 = λ s. IfErr s.0 (λ _. new ≡ rows_purged t m old) in
      let O : Option Octets → Type 0 = λ o. IsActDoneFor limits o m act old new reply in
      record {
        judged = subst O (sym owner) (record {
          told = told ∙ ap (λ s. text act s.0) (sym stepped);
          own = ap (λ s. s.1) (sym stepped);
          others = λ u other. others u other ∙ purges.others u other;
          refused = subst P (sym stepped) tt;
        });
        latest = latest ∙ purges.latest;
        same_limits = kept;
        shared = shared_purged t m old new (subst (λ (x : Tables). KeepsShared x new) purges.is shared);
      }

  pub turned_refused : (e : Rejection) → owner_of act ≡ Some t → Purges t m old mid → change limits m act (view mid t) ≡ Err e → new ≡ mid
      → limits_in new ≡ limits_in old → reply ≡ text act (Err e) → IsActDone limits act m old new reply
  turned_refused e owner purges is same kept told =
      let stepped = changed (Err e) purges is in
      let P : Result Answer Rejection × Option State → Type 0 = λ s. IfErr s.0 (λ _. new ≡ rows_purged t m old) in
      let O : Option Octets → Type 0 = λ o. IsActDoneFor limits o m act old new reply in
      record {
        judged = subst O (sym owner) (record {
          told = told ∙ ap (λ s. text act s.0) (sym stepped);
          own = ap (λ x. view x t) same ∙ purges.own ∙ ap (λ s. s.1) (sym stepped);
          others = λ u other. ap (λ x. view x u) same ∙ purges.others u other;
          refused = subst P (sym stepped) (same ∙ purges.is);
        });
        latest = ap latest_of same ∙ purges.latest;
        same_limits = kept;
        shared = shared_purged t m old new (shared_none (rows_purged t m old) new (same ∙ purges.is));
      }

owner_is : (r : Taken) (key : AccessKeyId) → key_given r ≡ Some key → owner_of (RequestRead (Ok r)) ≡ Some key.tenant
owner_is r key is = ap (option_map (λ (k : AccessKeyId). k.tenant)) is

module _ (limits : HostLimits) (key : AccessKeyId) (m : ℕ) (r : Taken) (old mid new : Tables) (reply : List ℕ) (is : key_given r ≡ Some key) (purges : Purges key.tenant m old mid) (kept : limits_in new ≡ limits_in old) where
  abbrev found : Option State
  found = view mid key.tenant

  -- a request is answered with the response of its step
  pub request_done : (sent : Sent) → GivesStep key.tenant (λ s. responded (requested limits m r s)) sent mid new → reply ≡ response_text (sent_for r.method sent) → IsActDone limits (RequestRead (Ok r)) m old new reply
  unfolding text
  request_done sent gives told =
      let (answer, step, shown) = responded_ok (requested limits m r found) sent (view new key.tenant) gives.gives in
      turned_done limits key.tenant m (RequestRead (Ok r)) old mid new reply answer (owner_is r key is) purges step gives.others gives.latest gives.shared kept (told ∙ ap (λ s. response_text (sent_for r.method s)) (sym shown))

  pub request_refused : (e : Rejection) → responded (requested limits m r found) ≡ Err e → new ≡ mid → reply ≡ text (RequestRead (Ok r)) (Err e) → IsActDone limits (RequestRead (Ok r)) m old new reply
  request_refused e step same told = turned_refused limits key.tenant m (RequestRead (Ok r)) old mid new reply e (owner_is r key is) purges (responded_err (requested limits m r found) e step) same kept told

none_is_none : {X : Type 0} (o : Option X) (x : X) → o ≡ None → o ≡ Some x → ⊥
none_is_none o x none some = search rules

-- a text that is a tenant's name is the name
named_is : (text name : Octets) → tenant_named text ≡ Some name → text ≡ name
named_is text name is = elim (cases_Bool (is_tenant_name text)) [
  | inl good ↦ same_Some text name (sym (rw good refl) ∙ is)
  | inr bad ↦ absurd (none_is_none (tenant_named text) name (rw bad refl) is)
]

-- the tenant of an order and the tenant that it names
-- an order's line tells the machine's answer
line_is : (order : Order) (r : Result Outcome Refusal) (line : Octets) (s : Option State) → with_line order r ≡ Ok (line, s) → (answer : Answer) × (r ≡ Ok (answer, s)) × (line ≡ line_of order ++ line_end answer)
line_is order (Ok (answer, s)) line t is = (answer, search rules, search rules)
line_is order (Err e) line t is = search rules

line_refused : (order : Order) (r : Result Outcome Refusal) (e : Refusal) → with_line order r ≡ Err e → r ≡ Err e
line_refused order (Ok (answer, s)) e is = search rules
line_refused order (Err e) f is = search rules

turned_order : (limits : HostLimits) (t : Octets) (m : ℕ) (order : Order) (old mid new : Tables) (outcome : Result (String Global) (StepError Refusal)) (reply : List ℕ)
    → owner_of (Commanded order) ≡ Some t → Purges t m old mid → Does m (Ordered order) mid new outcome → limits_in new ≡ limits_in old
    → TellsLine outcome reply → IsActDone limits (Commanded order) m old new reply
unfolding text
turned_order limits t m order old mid new (Ok line) reply owner purges gives kept told =
    let is : tenant_of order ≡ t = named_is (tenant_of order) t owner in
    let (answer, stepped, line_told) = line_is order (ordered m order (view mid (tenant_of order))) (string_bytes line) (view new (tenant_of order)) gives.gives in
    let G : Octets → Type 0 = λ u. ordered m order (view mid u) ≡ Ok (answer, view new u) in
    let O : Octets → Type 0 = λ u. OthersSame u mid new in
    turned_done limits t m (Commanded order) old mid new reply answer owner purges (ap plainly (subst G is stepped)) (subst O is gives.others) gives.latest gives.shared kept (told ∙ line_told)
turned_order limits t m order old mid new (Err (Refused r)) reply owner purges gives kept told =
    let is : tenant_of order ≡ t = named_is (tenant_of order) t owner in
    let G : Octets → Type 0 = λ u. ordered m order (view mid u) ≡ Err r in
    turned_refused limits t m (Commanded order) old mid new reply (plain r) owner purges (ap plainly (subst G is (line_refused order (ordered m order (view mid (tenant_of order))) r gives.0))) gives.1 kept told
turned_order limits t m order old mid new (Err (Failed trouble)) reply owner purges gives kept told = absurd told

-- an order on a tenant
pub turned_named : (limits : HostLimits) (t : Octets) (m : ℕ) (message : Message) (old mid new : Tables) (outcome : Result (String Global) (StepError Refusal)) (reply : List ℕ)
    → owner_in message ≡ Some t → Purges t m old mid → Does m message mid new outcome → limits_in new ≡ limits_in old → TellsLine outcome reply → IsServed limits message m old new reply
turned_named limits t m (Requested bytes) old mid new outcome reply owner purges does kept told = absurd does
turned_named limits t m (Ordered order) old mid new outcome reply owner purges does kept told = (Commanded order, refl, turned_order limits t m order old mid new outcome reply owner purges does kept told)
turned_named limits t m (SweepOrdered limit) old mid new outcome reply owner purges does kept told = absurd (none_is_none None t refl owner)
turned_named limits t m ReportOrdered old mid new outcome reply owner purges does kept told = absurd (none_is_none None t refl owner)
turned_named limits t m TenantsOrdered old mid new outcome reply owner purges does kept told = absurd (none_is_none None t refl owner)

-- an order on all tenants together
pub turned_shared : (limits : HostLimits) (m : ℕ) (message : Message) (old new : Tables) (outcome : Result (String Global) (StepError Refusal)) (reply : List ℕ)
    → tenant_in message ≡ None → Does m message old new outcome → limits_in new ≡ limits_in old → TellsLine outcome reply → IsServed limits message m old new reply
turned_shared limits m (Requested bytes) old new outcome reply none does kept told = absurd does
turned_shared limits m (Ordered order) old new outcome reply none does kept told = absurd (none_is_none (Some (tenant_of order)) (tenant_of order) none refl)
turned_shared limits m (SweepOrdered limit) old new (Ok line) reply none (is, sweeps) kept told = record { told = told ∙ is; is = sweeps.is; views = sweeps.views; latest = sweeps.latest; same_limits = kept }
turned_shared limits m (SweepOrdered limit) old new (Err (Refused r)) reply none does kept told = absurd does
turned_shared limits m (SweepOrdered limit) old new (Err (Failed trouble)) reply none does kept told = absurd told
turned_shared limits m ReportOrdered old new (Ok line) reply none (is, same) kept told = record { told = told ∙ is; same = same }
turned_shared limits m ReportOrdered old new (Err (Refused r)) reply none does kept told = absurd does
turned_shared limits m ReportOrdered old new (Err (Failed trouble)) reply none does kept told = absurd told
turned_shared limits m TenantsOrdered old new (Ok line) reply none (is, same) kept told = record { told = told ∙ is; same = same }
turned_shared limits m TenantsOrdered old new (Err (Refused r)) reply none does kept told = absurd does
turned_shared limits m TenantsOrdered old new (Err (Failed trouble)) reply none does kept told = absurd told

-- who sends an order
pub operator_asks : (order : HostOrder) → caller_of (message_of order) ≡ Operator
operator_asks (host.Command command) = refl
operator_asks (host.Sweep limit) = refl
operator_asks host.Report = refl
operator_asks host.Tenants = refl

-- ---- an act of nobody, which is refused

turned_stranger : (limits : HostLimits) (act : Act) (at : ℕ) (e : Rejection) (old : Tables) (reply : List ℕ) → owner_of act ≡ None → change limits at act None ≡ Err e → reply ≡ text act (Err e) → IsActDone limits act at old old reply
turned_stranger limits act at e old reply none is told =
    let O : Option Octets → Type 0 = λ o. IsActDoneFor limits o at act old old reply in
    record {
      judged = subst O (sym none) (record { told = told ∙ ap (λ (o : Result Outcome Rejection). text act (settled None o).0) (sym is); same = refl });
      latest = refl;
      same_limits = refl;
      shared = shared_none old old refl;
    }

pub turned_nobody : (limits : HostLimits) (at : ℕ) (r : Taken) (e : Rejection) (old : Tables) (reply : List ℕ) → key_given r ≡ None → ((m : ℕ) → requested limits m r None ≡ Err e)
    → reply ≡ text (RequestRead (Ok r)) (Err e) → IsActDone limits (RequestRead (Ok r)) at old old reply
turned_nobody limits at r e old reply none is told =
    turned_stranger limits (RequestRead (Ok r)) at e old reply (ap (option_map (λ (k : AccessKeyId). k.tenant)) none) (is at) told

-- bytes that are no request
pub turned_unread : (limits : HostLimits) (at : ℕ) (refusal : Refusal) (old : Tables) (reply : List ℕ) → reply ≡ text (RequestRead (Err refusal)) (Err (plain refusal)) → IsActDone limits (RequestRead (Err refusal)) at old old reply
turned_unread limits at refusal old reply told = turned_stranger limits (RequestRead (Err refusal)) at (plain refusal) old reply refl refl told

turned_nameless : (limits : HostLimits) (at : ℕ) (order : Order) (old : Tables) (reply : List ℕ) → owner_of (Commanded order) ≡ None → reply ≡ refusal_text InvalidName → IsActDone limits (Commanded order) at old old reply
unfolding text
turned_nameless limits at order old reply none told =
    turned_stranger limits (Commanded order) at (plain InvalidName) old reply none (ap plainly (nameless at order none)) told

pub turned_unnamed : (limits : HostLimits) (at : ℕ) (message : Message) (name : Octets) (old : Tables) (reply : List ℕ) → tenant_in message ≡ Some name → tenant_named name ≡ None → reply ≡ refusal_text InvalidName
    → IsServed limits message at old old reply
turned_unnamed limits at (Requested bytes) name old reply is none told = absurd (none_is_none None name refl is)
turned_unnamed limits at (Ordered order) name old reply is none told = (Commanded order, refl, turned_nameless limits at order old reply (ap tenant_named (same_Some (tenant_of order) name is) ∙ none) told)
turned_unnamed limits at (SweepOrdered limit) name old reply is none told = absurd (none_is_none None name refl is)
turned_unnamed limits at ReportOrdered name old reply is none told = absurd (none_is_none None name refl is)
turned_unnamed limits at TenantsOrdered name old reply is none told = absurd (none_is_none None name refl is)

-- ---- an event

-- the last stamp and the limits stay
turns_latest : (limits : HostLimits) (message : Message) (m : ℕ) (old new : Tables) (reply : List ℕ) → IsServed limits message m old new reply → latest_of new ≡ latest_of old
turns_latest limits (Requested bytes) m old new reply (act, acted, turned) = turned.latest
turns_latest limits (Ordered order) m old new reply (act, acted, turned) = turned.latest
turns_latest limits (SweepOrdered limit) m old new reply swept = swept.latest
turns_latest limits ReportOrdered m old new reply reported = ap latest_of reported.same
turns_latest limits TenantsOrdered m old new reply listed = ap latest_of listed.same

pub turns_limits : (limits : HostLimits) (message : Message) (m : ℕ) (old new : Tables) (reply : List ℕ) → IsServed limits message m old new reply → limits_in new ≡ limits_in old
turns_limits limits (Requested bytes) m old new reply (act, acted, turned) = turned.same_limits
turns_limits limits (Ordered order) m old new reply (act, acted, turned) = turned.same_limits
turns_limits limits (SweepOrdered limit) m old new reply swept = swept.same_limits
turns_limits limits ReportOrdered m old new reply reported = ap limits_in reported.same
turns_limits limits TenantsOrdered m old new reply listed = ap limits_in listed.same

-- from its stamp, and what it does after it
pub applied : (limits : HostLimits) (event : Arrival) (m : ℕ) (old mid new : Tables) (reply : List ℕ) → limits ≡ limits_in old → Stamps event.reading m old mid
    → IsServed limits event.message m mid new reply → Applied event old new (Some m) reply
applied limits event m old mid new reply is stamps turns =
    let L : HostLimits → Type 0 = λ l. IsServed l event.message m mid new reply in
    let T : Tables → Type 0 = λ x. IsServed (limits_in old) event.message m x new reply in
    (stamps.stamp, turns_latest limits event.message m mid new reply turns ∙ stamps.latest, subst T stamps.is (subst L is turns))

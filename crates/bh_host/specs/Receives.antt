-- The effect of a request whose head was read and whose body is received in pieces.
use Rattle.std.specs.Prelude.{◌≡◌, ◌≢◌, ◌⊎◌, ℕ, nat_le, length, List, if◌then◌else◌, Option, Some, None, Result, Ok, Err}
use Rattle.std.specs.Io.KnownBytes.{IsAtEnd}
use Rattle.bh_types.specs.Limits.{HostLimits}
use Rattle.bh_types.specs.declared.refusal.Refusal.{Refusal}
use Rattle.bh_types.specs.declared.refusal.Refusal.TheVariants.{IncompleteBody}
use Rattle.bh_types.specs.declared.rejection.Rejection.{Rejection}
use Rattle.bh_http.specs.Bodies.{Coming, Gives, IsWhole, MayBreak}
use Rattle.bh_http.specs.Credentials.{owner}
use Rattle.bh_http.specs.Views.{Taken, with_body}
use Rattle.bh_http.specs.declared.body.Break.TheVariants.{Failed}
use Rattle.bh_http.specs.declared.request.Head.{Head}
use Rattle.bh_machine.specs.Machine.{RequestRead, requested}
use Rattle.bh_model.specs.Runs.{stamp_of}
use Rattle.bh_model.specs.State.{Octets}
use Rattle.bh_storage.specs.Calls.{Seen, Clean, LeavesNothingNew, Purges}
use Rattle.bh_storage.specs.declared.error.Trouble.{Trouble}
use Rattle.bh_tables.specs.Typed.{Tables}
use Rattle.bh_view.specs.View.{view, latest_of, limits_in, with_latest, rows_purged}
use Rattle.bh_host.specs.Replies.{text, wanting_text}
use Rattle.bh_host.specs.declared.reply.Caller.TheVariants.{Request}
use Rattle.bh_host.specs.Answers.{composed_in, told_in}
use Rattle.bh_host.specs.Turns.{IsActDone}
use Rattle.bh_host.specs.declared.delivery.Served.{Served}
use Rattle.bh_host.specs.declared.delivery.Served.TheVariants.{Kept, TakenBack}
use Rattle.bh_host.specs.declared.delivery.Tried.{Tried}
use Rattle.bh_host.specs.declared.delivery.Tried.TheVariants as tried

-- a request, by its head and the received bytes of its body; it is incomplete if they are fewer
-- than announced
abbrev pub answered : Head → Octets → Result Taken Refusal
answered head given = if nat_le head.body_size (length given) then Ok (with_body head given) else Err IncompleteBody

-- a request with a stamp
abbrev pub AppliedAs : ℕ → Result Taken Refusal → Tables → Tables → ℕ → List ℕ → Type 0
AppliedAs reading answer old new m reply =
    (stamp_of reading (latest_of old) ≡ Ok m) × (latest_of new ≡ m)
    × IsActDone (limits_in old) (RequestRead answer) m (with_latest m old) new reply

-- the tables that its commit would have written
abbrev pub WouldApplyAs : ℕ → Result Taken Refusal → Tables → Tables → Type 0
WouldApplyAs reading answer old new = (m : ℕ) × (reply : List ℕ) × AppliedAs reading answer old new m reply

-- a tenant's request is refused so, on tables without its stale uploads
abbrev pub IsRefusedAs : HostLimits → Octets → Taken → ℕ → Tables → List ℕ → Type 0
IsRefusedAs limits t request m purged reply =
    (r : Rejection) × (requested limits m request (view purged t) ≡ Err r) × (reply ≡ text (RequestRead (Ok request)) (Err r))

-- nothing is left of a body: all of it was received, or its bytes ended
abbrev pub HasCome : Coming → Type 0
HasCome body = (body.due ≡ 0) ⊎ IsAtEnd body.left

abbrev pub IfKept : Served → Type 0 → Type 0
IfKept (Kept composed) P = P
IfKept (TakenBack t text) P = Unit {0}

abbrev pub IfApplied : Tried → Type 0 → Type 0
IfApplied (tried.Applied replied) P = P
IfApplied (tried.TakenBack t text) P = Unit {0}

-- ---- the stages

-- a request at the stamp m, before its transaction ends: answered as its turn, refused, failed, or
-- its body broke off
abbrev pub ServedAs : Type 0 → HostLimits → Head → Octets → ℕ → Tables → Tables → Coming → Result Served Trouble → Type 0
ServedAs clean limits head given m stamped new after (Ok (Kept composed)) =
    IsWhole after × (clean → IsActDone limits (RequestRead (Ok (with_body head given))) m stamped new (composed_in new composed))
ServedAs clean limits head given m stamped new after (Ok (TakenBack t text)) =
    IsWhole after × (owner (with_body head given) ≡ Some t)
    × (clean → IsRefusedAs limits t (with_body head given) m (rows_purged t m stamped) text.items)
ServedAs clean limits head given m stamped new after (Err trouble) = MayBreak after

pub record Serves (clean : Type 0) (limits : HostLimits) (head : Head) (m : ℕ) (before after : Coming) (stamped new : Tables)
    (result : Result Served Trouble) : Type 0 where
  pub given : Octets
  pub gives : Gives before after given
  pub served : ServedAs clean limits head given m stamped new after result

-- a stamp is written as the last one, and the stale uploads of a tenant are removed if it is named;
-- nothing else
abbrev pub Records : Option Octets → ℕ → Tables → Tables → Type 0
Records None m old new = (new ≡ with_latest m old) × (latest_of new ≡ m)
Records (Some t) m old new = Purges t m (with_latest m old) new × (latest_of new ≡ m)

-- the stamp of a reading
abbrev pub IsStamp : ℕ → Tables → ℕ → Type 0
IsStamp reading old m = stamp_of reading (latest_of old) ≡ Ok m

module _ {H : Type 0} (IsIntact IsOpen : H → Type 0) (seen : H → Seen) (left : H → Tables → Type 0) where
  -- a request was applied, at a stamp
  abbrev pub HasApplied : ℕ → Result Taken Refusal → H → H → Option ℕ → List ℕ → Type 0
  HasApplied reading answer old new None reply = ⊥
  HasApplied reading answer old new (Some m) reply =
      (IsIntact new → IsOpen old × IsOpen new × AppliedAs reading answer (seen old).now (seen new).now m reply)
      × (IsIntact new → (x : Tables) → left new x → x ≡ (seen new).now)

  -- the transaction of a request: committed; to be rolled back, with the text of its refusal; or
  -- failed
  abbrev pub TriedAs : ℕ → Head → Octets → Coming → H → H → Result Tried Trouble → Type 0
  TriedAs reading head given after old new (Ok (tried.Applied replied)) = IsWhole after
      × HasApplied reading (Ok (with_body head given)) old new (told_in (seen new).now replied).0 (told_in (seen new).now replied).1
  TriedAs reading head given after old new (Ok (tried.TakenBack t text)) =
      IsWhole after
      × (owner (with_body head given) ≡ Some t)
      × (Clean IsIntact IsOpen new → (m : ℕ) × IsStamp reading (seen old).now m
      × IsRefusedAs (limits_in (seen old).now) t (with_body head given) m (rows_purged t m (with_latest m (seen old).now)) text.items)
      × (IsIntact new → LeavesNothingNew left old new)
      × (Clean IsIntact IsOpen new → (seen new).kept ≡ (seen old).kept)
  TriedAs reading head given after old new (Err trouble) =
      MayBreak after
      × (IsIntact new → (x : Tables) → left new x → left old x
      ⊎ (IsWhole after × (IsOpen old × WouldApplyAs reading (Ok (with_body head given)) (seen old).now x)))
      × (Clean IsIntact IsOpen new → (seen new).kept ≡ (seen old).kept)

  pub record Tries (reading : ℕ) (head : Head) (before after : Coming) (old new : H) (result : Result Tried Trouble) : Type 0 where
    pub given : Octets
    pub gives : Gives before after given
    pub tried : TriedAs reading head given after old new result

  -- a stamp is recorded and a text returned, or nothing happens
  abbrev pub AnewAs : ℕ → Option Octets → List ℕ → H → H → Option ℕ → List ℕ → Type 0
  AnewAs reading tenant text old new None reply =
      (IsIntact new → IsOpen new → IsOpen old × ((seen new).now ≡ (seen old).now))
      × (reply ≡ wanting_text Request)
      × (IsIntact new → (x : Tables) → left new x → left old x
      ⊎ (IsOpen old × ((m : ℕ) × IsStamp reading (seen old).now m × Records tenant m (seen old).now x)))
  AnewAs reading tenant text old new (Some m) reply =
      (IsIntact new → IsOpen old × IsOpen new × IsStamp reading (seen old).now m × Records tenant m (seen old).now (seen new).now)
      × (reply ≡ text)
      × (IsIntact new → (x : Tables) → left new x → x ≡ (seen new).now)

  -- ---- an event

  -- with a stamp, the storage is open before and after, and the body has no bytes left; without
  -- one, the tables of an open storage are unchanged
  abbrev pub ToldAs : ℕ → Result Taken Refusal → Coming → H → H → Option ℕ → List ℕ → Type 0
  ToldAs reading answer after old new None reply =
      (IsIntact new → IsOpen new → IsOpen old × ((seen new).now ≡ (seen old).now))
      × (reply ≡ wanting_text Request)
      × (after.broken ≢ Some Failed)
      × (IsIntact new → (x : Tables) → left new x → left old x
      ⊎ (HasCome after × (IsOpen old × WouldApplyAs reading answer (seen old).now x)))
  ToldAs reading answer after old new (Some m) reply =
      HasCome after
      × (after.broken ≢ Some Failed)
      × (IsIntact new → IsOpen old × IsOpen new × AppliedAs reading answer (seen old).now (seen new).now m reply)
      × (IsIntact new → (x : Tables) → left new x → x ≡ (seen new).now)

  -- the reply to a request that is present as a whole
  abbrev pub ToldOf : ℕ → Result Taken Refusal → H → H → Option ℕ × List ℕ → Type 0
  ToldOf reading answer old new (None, reply) =
      (IsIntact new → IsOpen new → IsOpen old × ((seen new).now ≡ (seen old).now))
      × (reply ≡ wanting_text Request)
      × (IsIntact new → (x : Tables) → left new x → left old x ⊎ (IsOpen old × WouldApplyAs reading answer (seen old).now x))
  ToldOf reading answer old new (Some m, reply) =
      (IsIntact new → IsOpen old × IsOpen new × AppliedAs reading answer (seen old).now (seen new).now m reply)
      × (IsIntact new → (x : Tables) → left new x → x ≡ (seen new).now)

  -- the reader failed, and nothing changed; or the request was answered
  abbrev pub CameAs : ℕ → Result Taken Refusal → Coming → H → H → Option (Option ℕ × List ℕ) → Type 0
  CameAs reading answer after old new None =
      (after.broken ≡ Some Failed)
      × (IsIntact new → IsOpen new → IsOpen old × ((seen new).now ≡ (seen old).now))
      × (IsIntact new → LeavesNothingNew left old new)
  CameAs reading answer after old new (Some told) = ToldAs reading answer after old new told.0 told.1

  pub record Receives (reading : ℕ) (head : Head) (before after : Coming) (old new : H) (told : Option (Option ℕ × List ℕ)) : Type 0 where
    pub given : Octets
    pub gives : Gives before after given
    pub came : CameAs reading (answered head given) after old new told

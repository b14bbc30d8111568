-- Connections that are served together, and an acceptor's calls for them.
use Rattle.std.specs.Prelude.{◌≡◌, ◌⊎◌, ◌<◌, ℕ, Bool, true, false, List, [], ◌∷◌, ◌++◌, map, length, All, Option}
use Rattle.std.specs.List.{flat_map, zip}
use Rattle.bh_host.specs.declared.reply.Caller.{Caller}
use Rattle.bh_host.specs.declared.reply.Caller.TheVariants.{Request, Operator}
use Rattle.bh_http.specs.Transfers.{Logs}
use Rattle.bh_connection.specs.Connections.{Ends}
use Rattle.bh_connection.specs.Each.{IsGoing}
use Rattle.bh_connection.specs.Visits.{Visit, OfClient, OfOperator}
use Rattle.bh_connection.specs.declared.each.Arrival.{Arrival}
use Rattle.bh_connection.specs.declared.served.Served.{Served}

-- ---- the calls of an acceptor, with their results

pub data Call : Type 0 where
  Accepted : (caller : Caller) → Call
  NotAccepted : Call
  ToldReading : (reading : ℕ) → Call
  ToldNone : Call
  Opened : (ends : Ends) → Call
  Closed : (ends : Ends) (served : Served) → Call

-- another client's connection was accepted, or none
abbrev pub accepted_more : Bool → List Call
accepted_more false = []
accepted_more true = Accepted Request ∷ []

-- the calls that end serving: an accept failed, or the clock failed after one
abbrev pub IsFault : List Call → Type 0
IsFault calls = (calls ≡ NotAccepted ∷ []) ⊎ ((caller : Caller) × (calls ≡ Accepted caller ∷ ToldNone ∷ []))

-- ---- the calls of a group that was served

-- its first connection: after the accept the clock is read, which gives its reading
abbrev pub begins_with : Caller → Ends → List Call
begins_with caller before = Accepted caller ∷ ToldReading before.reading ∷ Opened before ∷ []

-- one that joins it
abbrev pub joins_with : Caller → Ends → List Call
joins_with caller before = Accepted caller ∷ Opened before ∷ []

-- a client's is served as a client's, and an operator's as an operator's
abbrev pub beginning : Visit → List Call
beginning (OfClient row) = begins_with Request row.before
beginning (OfOperator row) = begins_with Operator row.before

abbrev pub joining : Visit → List Call
joining (OfClient row) = joins_with Request row.before
joining (OfOperator row) = joins_with Operator row.before

abbrev pub closing : Visit → Call
closing (OfClient row) = Closed row.after row.served
closing (OfOperator row) = Closed row.after row.served

-- the first one begins it, the others join it, and then each is closed, in order
abbrev pub calls_of : List Visit → List Call
calls_of [] = []
calls_of (visit ∷ visits) = beginning visit ++ flat_map joining visits ++ map closing (visit ∷ visits)

-- ---- whose connections are served together

-- these are clients', at this reading
abbrev pub AllJoin : ℕ → List Visit → Type 0
AllJoin reading [] = Unit {0}
AllJoin reading (OfClient row ∷ visits) = (row.before.reading ≡ reading) × AllJoin reading visits
AllJoin reading (OfOperator row ∷ visits) = ⊥

-- at most 64 clients', at one reading of the clock; an operator's is a group of its own
abbrev pub IsGroup : List Visit → Type 0
IsGroup [] = ⊥
IsGroup (OfClient row ∷ visits) = AllJoin row.before.reading visits × (length visits < 64)
IsGroup (OfOperator row ∷ visits) = visits ≡ []

abbrev pub in_groups : List (List Visit) → List Visit
in_groups groups = flat_map (λ group. group) groups

-- ---- how a group comes

-- clients' connections were accepted after some, and opened at a reading
pub record HasJoined {R W : Type 0} (ends : Arrival R W → Ends) (reading : ℕ) (before after : Option (List Call))
    (arrivals all : List (Arrival R W)) : Type 0 where
  pub more : List (Arrival R W)
  pub is : all ≡ arrivals ++ more
  pub going : All IsGoing more
  pub at : All (λ arrival. (ends arrival).reading ≡ reading) more
  pub calls : Logs before after (flat_map (λ arrival. joins_with Request (ends arrival)) more)

-- these were closed, with these results
abbrev pub closes_with : List Ends → List Served → List Call
closes_with afters serveds = map (λ p. Closed p.0 p.1) (zip afters serveds)

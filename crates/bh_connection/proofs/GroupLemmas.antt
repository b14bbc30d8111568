-- Clients' connections that are served together, as visits.
use Rattle.std.proofs.Common.{◌≡◌, ◌⊎◌, ◌<◌, ◌≤◌, ℕ, Bool, true, false, List, [], ◌∷◌, ◌++◌, map, length, refl, sym, ap, subst, ◌∙◌, Option, inl, inr, arith, get_or, take, ◌+◌, append-nil, append_assoc, ◌||◌}
use Rattle.std.specs.Prelude.{All, filter_map}
use Rattle.std.specs.List.{flat_map, cons_option, list_any, zip}
use Rattle.std.proofs.lemmas.Bool.{false≢true}
use Rattle.std.proofs.lemmas.List.{length-map, map-append, take_more}
use Rattle.std.proofs.lemmas.List.Elements.{All-head, All-tail, All-append, All-nil, All-push}
use Rattle.std.proofs.lemmas.Grind.{flat_map-append}
use Rattle.bh_types.specs.Limits.{HostLimits}
use Rattle.bh_host.specs.declared.reply.Caller.TheVariants.{Request}
use Rattle.bh_http.specs.Transfers.{Logs}
use Rattle.bh_http.proofs.TransferLemmas.{logs_nothing, logs_then}
use Rattle.bh_connection.specs.Connections.{Ends}
use Rattle.bh_connection.specs.Each as each
use Rattle.bh_connection.specs.Each.{Row, EachCame, IsGoing}
use Rattle.bh_connection.specs.Groups.{Call, Accepted, Opened, Closed, AllJoin, HasJoined, IsGroup, begins_with, calls_of, closes_with, closing, joining, joins_with}
use Rattle.bh_connection.specs.Listening.{AllOpen, SomeShut, is_shut}
use Rattle.bh_connection.specs.Visits.{Visit, OfClient, AllCame, AllAdmitted, NoneStops, sweeps, event_of, told_of}
use Rattle.bh_connection.specs.declared.each.Arrival.{Arrival}
use Rattle.bh_connection.specs.declared.served.Served.{Served}

abbrev pub clients : List Row → List Visit
clients rows = map (λ row. OfClient row) rows

pub all_came : (secret : Option (List ℕ)) (limits : HostLimits) (rows : List Row) → EachCame limits rows → AllCame secret limits (clients rows)
all_came secret limits [] each = tt
all_came secret limits (row ∷ rows) (first, rest) = (first, all_came secret limits rows rest)

pub all_admitted : (operated : Bool) (rows : List Row) → AllAdmitted operated (clients rows)
all_admitted operated [] = tt
all_admitted operated (row ∷ rows) = (tt, all_admitted operated rows)

pub none_stop : (rows : List Row) → NoneStops (clients rows)
none_stop [] = tt
none_stop (row ∷ rows) = (refl, none_stop rows)

pub none_sweep : (rows : List Row) → list_any sweeps (clients rows) ≡ false
none_sweep [] = refl
none_sweep (row ∷ rows) = none_sweep rows

pub events_of : (rows : List Row) → filter_map event_of (clients rows) ≡ filter_map each.event_of rows
events_of [] = refl
events_of (row ∷ rows) = ap (cons_option (each.event_of row)) (events_of rows)

pub tolds_of : (rows : List Row) → filter_map told_of (clients rows) ≡ filter_map each.told_of rows
tolds_of [] = refl
tolds_of (row ∷ rows) = ap (cons_option (each.told_of row)) (tolds_of rows)

-- ---- a store that is shut

neither : (a b : Bool) → (a || b) ≡ false → (a ≡ false) × (b ≡ false)
neither true b is = absurd (false≢true (sym is))
neither false b is = (refl, is)

either_of : (a b : Bool) → (a || b) ≡ true → (a ≡ true) ⊎ (b ≡ true)
either_of true b is = inl refl
either_of false b is = inr is

pub all_open : (rows : List Row) → list_any (λ (s : Served). is_shut s.trouble) (map (λ (row : Row). row.served) rows) ≡ false → AllOpen (clients rows)
all_open [] none = tt
all_open (row ∷ rows) none =
    let p = neither (is_shut row.served.trouble) (list_any (λ (s : Served). is_shut s.trouble) (map (λ (row : Row). row.served) rows)) none in
    (p.0, all_open rows p.1)

pub some_shut : (rows : List Row) → list_any (λ (s : Served). is_shut s.trouble) (map (λ (row : Row). row.served) rows) ≡ true → SomeShut (clients rows)
some_shut [] some = absurd (false≢true some)
some_shut (row ∷ rows) some = elim (either_of (is_shut row.served.trouble) (list_any (λ (s : Served). is_shut s.trouble) (map (λ (row : Row). row.served) rows)) some) [
  | inl first ↦ inl first
  | inr rest ↦ inr (some_shut rows rest)
]

-- ---- their calls

abbrev pub calls_in : List Ends → List Ends → List Served → List Call
calls_in [] afters serveds = []
calls_in (first ∷ more) afters serveds = begins_with Request first ++ flat_map (joins_with Request) more ++ closes_with afters serveds

joins_in : (rows : List Row) → flat_map joining (clients rows) ≡ flat_map (joins_with Request) (map (λ (row : Row). row.before) rows)
joins_in [] = refl
joins_in (row ∷ rows) = ap (λ t. joins_with Request row.before ++ t) (joins_in rows)

closes_in : (rows : List Row) → map closing (clients rows) ≡ closes_with (map (λ (row : Row). row.after) rows) (map (λ (row : Row). row.served) rows)
closes_in [] = refl
closes_in (row ∷ rows) = ap (λ t. closing (OfClient row) ∷ t) (closes_in rows)

calls_in_rows : (rows : List Row) → calls_of (clients rows) ≡ calls_in (map (λ (row : Row). row.before) rows) (map (λ (row : Row). row.after) rows) (map (λ (row : Row). row.served) rows)
calls_in_rows [] = refl
calls_in_rows (row ∷ rows) =
    ap (λ t. begins_with Request row.before ++ t ++ map closing (clients (row ∷ rows))) (joins_in rows)
    ∙ ap (λ t. begins_with Request row.before ++ flat_map (joins_with Request) (map (λ (row : Row). row.before) rows) ++ t) (closes_in (row ∷ rows))

pub calls_are : (rows : List Row) (befores afters : List Ends) (serveds : List Served) → map (λ (row : Row). row.before) rows ≡ befores → map (λ (row : Row). row.after) rows ≡ afters
    → map (λ (row : Row). row.served) rows ≡ serveds → calls_of (clients rows) ≡ calls_in befores afters serveds
calls_are rows befores afters serveds a b c =
    calls_in_rows rows ∙ ap (λ t. calls_in t (map (λ (row : Row). row.after) rows) (map (λ (row : Row). row.served) rows)) a
    ∙ ap (λ t. calls_in befores t (map (λ (row : Row). row.served) rows)) b ∙ ap (calls_in befores afters) c

-- ---- that they were closed

pub closes_are : {A : Type 0} (ends : A → Ends) (arrivals : List A) (serveds : List Served) → closes_with (map ends arrivals) serveds ≡ map (λ p. Closed (ends p.0) p.1) (zip arrivals serveds)
closes_are ends [] serveds = refl
closes_are ends (a ∷ arrivals) [] = refl
closes_are ends (a ∷ arrivals) (s ∷ serveds) = ap (λ t. Closed (ends a) s ∷ t) (closes_are ends arrivals serveds)

-- one more was
pub closed_more : {P : Type 0} (f : P → Call) (pairs : List P) (i j : ℕ) (p : P) (a b c : Option (List Call)) → i < length pairs → p ≡ get_or pairs i p → j ≡ i + 1
    → Logs a b (map f (take i pairs)) → Logs b c (f p ∷ []) → Logs a c (map f (take j pairs))
closed_more f pairs i j p a b c lt at next so_far one =
    let more : take (i + 1) pairs ≡ take i pairs ++ p ∷ [] = take_more pairs i p lt ∙ ap (λ q. take i pairs ++ q ∷ []) (sym at) in
    let all : map f (take j pairs) ≡ map f (take i pairs) ++ f p ∷ [] = ap (λ k. map f (take k pairs)) next ∙ ap (map f) more ∙ map-append f (take i pairs) (p ∷ []) in
    subst (Logs a c) (sym all) (logs_then a b c (map f (take i pairs)) (f p ∷ []) so_far one)

-- ---- that they are a group

all_join : (reading : ℕ) (rows : List Row) → All (λ (e : Ends). e.reading ≡ reading) (map (λ (row : Row). row.before) rows) → AllJoin reading (clients rows)
all_join reading [] all = tt
all_join reading (row ∷ rows) all =
    let P : Ends → Type 0 = λ e. e.reading ≡ reading in
    let rest = map (λ (row : Row). row.before) rows in
    (All-head P row.before rest all, all_join reading rows (All-tail P row.before rest all))

pub is_group : (rows : List Row) (befores : List Ends) (reading : ℕ) → map (λ (row : Row). row.before) rows ≡ befores → 0 < length befores → length befores ≤ 64
    → All (λ (e : Ends). e.reading ≡ reading) befores → IsGroup (clients rows)
is_group [] befores reading same some few all = let none : 0 ≡ length befores = ap (λ (t : List Ends). length t) same in absurd (omega (arith, some, none))
is_group (row ∷ rows) befores reading same some few all =
    let P : Ends → Type 0 = λ e. e.reading ≡ reading in
    let rest = map (λ (row : Row). row.before) rows in
    let each : All P (row.before ∷ rest) = subst (All P) (sym same) all in
    let count : length (row.before ∷ rest) ≡ length befores = ap (λ (t : List Ends). length t) same in (
      subst (λ r. AllJoin r (clients rows)) (sym (All-head P row.before rest each)) (all_join reading rows (All-tail P row.before rest each)),
      omega (arith, few, count, length-map rows (λ (row : Row). row.before), length-map rows (λ (row : Row). OfClient row)),
    )

-- ---- how they came

module _ {R W : Type 0} (ends : Arrival R W → Ends) where
  pub joined_none : (reading : ℕ) (a : Option (List Call)) (arrivals : List (Arrival R W)) → HasJoined ends reading a a arrivals arrivals
  joined_none reading a arrivals = record {
    more = [];
    is = sym (append-nil arrivals);
    going = All-nil IsGoing;
    at = All-nil (λ arrival. (ends arrival).reading ≡ reading);
    calls = logs_nothing a;
  }

  pub joined_then : (reading : ℕ) (a b c : Option (List Call)) (xs ys zs : List (Arrival R W)) → HasJoined ends reading a b xs ys → HasJoined ends reading b c ys zs → HasJoined ends reading a c xs zs
  joined_then reading a b c xs ys zs p q =
      let calls : Arrival R W → List Call = λ arrival. joins_with Request (ends arrival) in
      record {
        more = p.more ++ q.more;
        is = q.is ∙ ap (λ t. t ++ q.more) p.is ∙ append_assoc xs p.more q.more;
        going = All-append IsGoing p.more q.more p.going q.going;
        at = All-append (λ arrival. (ends arrival).reading ≡ reading) p.more q.more p.at q.at;
        calls = subst (Logs a c) (sym (flat_map-append calls p.more q.more)) (logs_then a b c (flat_map calls p.more) (flat_map calls q.more) p.calls q.calls);
      }

  -- another one was accepted and opened
  pub joined_one : (reading : ℕ) (a b c : Option (List Call)) (xs ys : List (Arrival R W)) (next : Arrival R W) → ys ≡ xs ++ next ∷ [] → IsGoing next → (ends next).reading ≡ reading
      → Logs a b (Accepted Request ∷ []) → Logs b c (Opened (ends next) ∷ []) → HasJoined ends reading a c xs ys
  joined_one reading a b c xs ys next is going at accepted opened = record {
    more = next ∷ [];
    is = is;
    going = All-push IsGoing [] next (All-nil IsGoing) going;
    at = All-push (λ arrival. (ends arrival).reading ≡ reading) [] next (All-nil (λ arrival. (ends arrival).reading ≡ reading)) at;
    calls = logs_then a b c (Accepted Request ∷ []) (Opened (ends next) ∷ []) accepted opened;
  }

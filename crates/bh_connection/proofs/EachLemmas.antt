-- Connections after connections.
use Rattle.std.proofs.Common.{◌≡◌, ℕ, ◌+◌, ◌<◌, ◌≤◌, List, [], ◌∷◌, ◌++◌, map, length, take, drop, set, get_or, refl, sym, ap, subst, ◌∙◌, arith, Some, None, add-zero, append-nil, append_assoc}
use Rattle.std.specs.List.{filter_map, cons_option}
use Rattle.std.specs.Option.{option_map}
use Rattle.std.proofs.lemmas.List.{map-append, map_more, take_all, take_more_set, get_or-drop, drop-set-lt, drop-drop}
use Rattle.std.proofs.lemmas.List.Elements.{filter_map-append}
use Rattle.bh_types.specs.Limits.{HostLimits}
use Rattle.bh_event.specs.Events.{Arrival as Event}
use Rattle.bh_tables.specs.Typed.{Tables}
use Rattle.bh_storage.specs.Calls.{Seen}
use Rattle.bh_host.specs.Runs.{Told, RanOn, HasRunOn}
use Rattle.bh_host.proofs.Running as running
use Rattle.bh_host.specs.Turns.{request_at}
use Rattle.bh_connection.specs.Connections.{Ends, Outcome, Came, Did, CameTo, IsApplied, IsTakenBack}
use Rattle.bh_connection.specs.Each.{Row, EachCame, RunsGoOn, event_of, told_of, HasServed, HasServedAlone, RanSome}
use Rattle.bh_connection.specs.Together.{HasServedMore}
use Rattle.bh_connection.specs.declared.served.End.{End}
use Rattle.bh_connection.specs.declared.served.Served.{Served}

pub each-append : (limits : HostLimits) (rows : List Row) (row : Row) → EachCame limits rows → Came limits row.before row.after row.served row.outcome → EachCame limits (rows ++ row ∷ [])
each-append limits [] row all came = (came, tt)
each-append limits (r ∷ rows) row (first, rest) came = (first, each-append limits rows row rest came)

module _ {H : Type 0} (IsIntact IsOpen : H → Type 0) (seen : H → Seen) (left : H → Tables → Type 0) where
  -- a run, and nothing more
  pub ran_stays : (events : List Event) (tolds : List Told) (old mid new : H) → RanOn IsOpen seen left events tolds old mid → new ≡ mid
      → RanOn IsOpen seen left (events ++ []) (tolds ++ []) old new
  ran_stays events tolds old mid new ran same =
      let P : List Event → List Told → Type 0 = λ es ts. RanOn IsOpen seen left es ts old new in
      let stays : RanOn IsOpen seen left events tolds old new = subst (λ x. RanOn IsOpen seen left events tolds old x) (sym same) ran in
      subst (λ es. P es (tolds ++ [])) (sym (append-nil events)) (subst (P events) (sym (append-nil tolds)) stays)

  -- a run, and a connection that was taken back
  pub ran_back : (events : List Event) (tolds : List Told) (old mid new : H) → IsIntact new → RanOn IsOpen seen left events tolds old mid → IsTakenBack IsIntact IsOpen seen left mid new → RanOn IsOpen seen left events tolds old new
  ran_back events tolds old mid new intact ran back = record {
    end = ran.end;
    ran = ran.ran;
    now = λ opened. let (was, same) = back.same intact opened in same ∙ ran.now was;
    crash = λ x leaves. ran.crash x (back.survives intact x leaves);
  }

  -- a run, and one event more
  pub ran_applied : (events : List Event) (tolds : List Told) (event : Event) (told : Told) (old mid new : H) → IsIntact new → RanOn IsOpen seen left events tolds old mid → IsApplied IsIntact IsOpen seen left event told mid new
      → RanOn IsOpen seen left (events ++ event ∷ []) (tolds ++ told ∷ []) old new
  ran_applied events tolds event (stamp, reply) old mid new intact ran did =
      running.ran_one IsOpen seen left events tolds event stamp reply old mid new ran (did.applied intact) (did.told_apart intact) (IsIntact new) intact did.acknowledged did.crash

  -- a run, and one connection more
  pub ran_with : (events : List Event) (tolds : List Told) (reading : ℕ) (ended : End) (outcome : Outcome) (old mid new : H) → IsIntact new → RanOn IsOpen seen left events tolds old mid
      → Did IsIntact IsOpen seen left reading ended outcome mid new
      → RanOn IsOpen seen left (events ++ cons_option (option_map (λ o. request_at reading o.0) outcome) []) (tolds ++ cons_option (option_map (λ o. o.1) outcome) []) old new
  ran_with events tolds reading ended None old mid new intact ran back = ran_stays events tolds old new new (ran_back events tolds old mid new intact ran back) refl
  ran_with events tolds reading ended (Some (request, told)) old mid new intact ran did =
      let event = request_at reading request in
      let went = did.kept in
      ran_back (events ++ event ∷ []) (tolds ++ told ∷ []) old did.mid new intact (ran_applied events tolds event told old mid did.mid (went.intact intact) ran (did.applied intact)) (record { same = went.same; survives = went.survives })

  -- and further connections, after a run
  goes_with : (es : List Event) (ts : List Told) (rows : List Row) (row : Row) (first mid new : H) → IsIntact new
      → RanOn IsOpen seen left (es ++ filter_map event_of rows) (ts ++ filter_map told_of rows) first mid → Did IsIntact IsOpen seen left row.before.reading row.served.ended row.outcome mid new
      → RanOn IsOpen seen left (es ++ filter_map event_of (rows ++ row ∷ [])) (ts ++ filter_map told_of (rows ++ row ∷ [])) first new
  goes_with es ts rows row first mid new intact ran did =
      let events = filter_map event_of rows in
      let tolds = filter_map told_of rows in
      let event : List Event = filter_map event_of (row ∷ []) in
      let told : List Told = filter_map told_of (row ∷ []) in
      let P : List Event → List Told → Type 0 = λ a b. RanOn IsOpen seen left a b first new in
      let one : P (es ++ events ++ event) (ts ++ tolds ++ told) =
      ran_with (es ++ events) (ts ++ tolds) row.before.reading row.served.ended row.outcome first mid new intact ran did in
      let all_events : es ++ events ++ event ≡ es ++ filter_map event_of (rows ++ row ∷ []) = append_assoc es events event ∙ ap (λ t. es ++ t) (sym (filter_map-append event_of rows (row ∷ []))) in
      let all_tolds : ts ++ tolds ++ told ≡ ts ++ filter_map told_of (rows ++ row ∷ []) = append_assoc ts tolds told ∙ ap (λ t. ts ++ t) (sym (filter_map-append told_of rows (row ∷ []))) in
      subst (λ a. P a (ts ++ filter_map told_of (rows ++ row ∷ []))) all_events (subst (P (es ++ events ++ event)) all_tolds one)

  -- a run goes on with no event
  pub goes_nowhere : (old : H) → RunsGoOn IsOpen seen left [] [] old old
  goes_nowhere old first es ts ran = ran_stays es ts first old old ran refl

  pub served_none : (old : H) → HasServed IsIntact IsOpen seen left [] [] [] old old
  served_none old = ([], record { befores = refl; afters = refl; served = refl; each = tt; ran = λ _. running.ran_none IsOpen seen left old; goes_on = λ _. goes_nowhere old })

  -- one more connection
  pub served_more : (befores afters : List Ends) (serveds : List Served) (before after : Ends) (served : Served) (old mid new : H)
      → (IsIntact new → IsIntact mid) → (seen mid).limits ≡ (seen old).limits → HasServed IsIntact IsOpen seen left befores afters serveds old mid
      → CameTo IsIntact IsOpen seen left before after served mid new
      → HasServed IsIntact IsOpen seen left (befores ++ before ∷ []) (afters ++ after ∷ []) (serveds ++ served ∷ []) old new
  served_more befores afters serveds before after served old mid new still limits (rows, so_far) one =
      let row : Row = record { before = before; after = after; served = served; outcome = one.outcome } in
      let P : List Event → List Told → Type 0 = λ es ts. RanOn IsOpen seen left es ts old new in (
        rows ++ row ∷ [],
        record {
          befores = map-append (λ (r : Row). r.before) rows (row ∷ []) ∙ ap (λ t. t ++ before ∷ []) so_far.befores;
          afters = map-append (λ (r : Row). r.after) rows (row ∷ []) ∙ ap (λ t. t ++ after ∷ []) so_far.afters;
          served = map-append (λ (r : Row). r.served) rows (row ∷ []) ∙ ap (λ t. t ++ served ∷ []) so_far.served;
          each = each-append (seen old).limits rows row so_far.each (subst (λ l. Came l before after served one.outcome) limits one.came);
          ran = λ intact. subst (λ es. P es (filter_map told_of (rows ++ row ∷ []))) (sym (filter_map-append event_of rows (row ∷ [])))
              (subst (P (filter_map event_of rows ++ filter_map event_of (row ∷ []))) (sym (filter_map-append told_of rows (row ∷ [])))
              (ran_with (filter_map event_of rows) (filter_map told_of rows) before.reading served.ended one.outcome old mid new intact (so_far.ran (still intact)) one.did));
          goes_on = λ intact first es ts ran. goes_with es ts rows row first mid new intact (so_far.goes_on (still intact) first es ts ran) one.did;
        },
      )

  -- one more of the slice
  pub served_next : {A : Type 0} (ends : A → Ends) (firsts nows nexts : List A) (i : ℕ) (d was is : A) (before serveds more : List Served) (served : Served) (old mid new : H)
      → i < length firsts → i < length nows → was ≡ get_or firsts i d → nexts ≡ set nows i is → more ≡ serveds ++ served ∷ [] → (IsIntact new → IsIntact mid) → (seen mid).limits ≡ (seen old).limits
      → HasServedMore IsIntact IsOpen seen left (map ends (take i firsts)) (map ends (take i nows)) before serveds old mid
      → CameTo IsIntact IsOpen seen left (ends was) (ends is) served mid new
      → HasServedMore IsIntact IsOpen seen left (map ends (take (i + 1) firsts)) (map ends (take (i + 1) nexts)) before more old new
  served_next ends firsts nows nexts i d was is before serveds more served old mid new lt lt2 at put push still limits (so_far, same, all) one =
      let olds : map ends (take (i + 1) firsts) ≡ map ends (take i firsts) ++ ends was ∷ [] =
      map_more ends firsts i d lt ∙ ap (λ a. map ends (take i firsts) ++ ends a ∷ []) (sym at) in
      let news : map ends (take (i + 1) nexts) ≡ map ends (take i nows) ++ ends is ∷ [] =
      ap (λ t. map ends (take (i + 1) t)) put ∙ ap (map ends) (take_more_set nows i is lt2) ∙ map-append ends (take i nows) (is ∷ []) in
      let P : List Ends → List Ends → Type 0 = λ a b. HasServed IsIntact IsOpen seen left a b (so_far ++ served ∷ []) old new in (
        so_far ++ served ∷ [],
        push ∙ ap (λ l. l ++ served ∷ []) same ∙ append_assoc before so_far (served ∷ []),
        subst (λ a. P a (map ends (take (i + 1) nexts))) (sym olds)
            (subst (P (map ends (take i firsts) ++ ends was ∷ [])) (sym news)
            (served_more (map ends (take i firsts)) (map ends (take i nows)) so_far (ends was) (ends is) served old mid new still limits all one)),
      )

  -- each tenant was alone in a run
  pub run_alone : (events : List Event) (tolds : List Told) (old new : H) → RanOn IsOpen seen left events tolds old new → HasRunOn IsOpen seen events tolds old new
  run_alone events tolds old new ran =
      let alone = running.each_is_alone events tolds (seen old).now ran.end ran.ran in
      record { end = ran.end; turns = alone.0; has_run = alone.1; now = ran.now }

  -- and in what connections brought
  pub served_alone : (befores afters : List Ends) (serveds : List Served) (old new : H) → IsIntact new → HasServed IsIntact IsOpen seen left befores afters serveds old new
      → HasServedAlone IsIntact IsOpen seen left befores afters serveds old new
  served_alone befores afters serveds old new intact (rows, served) =
      (rows, served, run_alone (filter_map event_of rows) (filter_map told_of rows) old new (served.ran intact))

  pub served_all : {A : Type 0} (ends : A → Ends) (firsts nows : List A) (i : ℕ) (before serveds : List Served) (old new : H) → length firsts ≤ i → length nows ≤ i
      → HasServedMore IsIntact IsOpen seen left (map ends (take i firsts)) (map ends (take i nows)) before serveds old new
      → HasServedMore IsIntact IsOpen seen left (map ends firsts) (map ends nows) before serveds old new
  served_all ends firsts nows i before serveds old new le le2 served =
      let P : List Ends → List Ends → Type 0 = λ a b. HasServedMore IsIntact IsOpen seen left a b before serveds old new in
      subst (P (map ends firsts)) (ap (map ends) (take_all i nows le2)) (subst (λ a. P a (map ends (take i nows))) (ap (map ends) (take_all i firsts le)) served)

  pub more_none : (before : List Served) (old : H) → HasServedMore IsIntact IsOpen seen left [] [] before before old old
  more_none before old = ([], sym (append-nil before), served_none old)

  -- where there were no results before
  pub only_more : (befores afters : List Ends) (before serveds : List Served) (old new : H) → before ≡ [] → HasServedMore IsIntact IsOpen seen left befores afters before serveds old new
      → HasServed IsIntact IsOpen seen left befores afters serveds old new
  only_more befores afters before serveds old new none (more, is, served) =
      subst (λ l. HasServed IsIntact IsOpen seen left befores afters l old new) (sym (is ∙ ap (λ l. l ++ more) none)) served

  -- ---- some requests

  pub ran_no_request : (old : H) → RanSome IsOpen seen left old old
  ran_no_request old = ([], [], running.ran_none IsOpen seen left old)

-- ---- the slice

-- an element of the rest is as it came
pub same_at : {A : Type 0} (nows firsts : List A) (i : ℕ) (d : A) → drop i nows ≡ drop i firsts → get_or nows i d ≡ get_or firsts i d
same_at nows firsts i d same = sym (first nows i d) ∙ ap (λ t. get_or t 0 d) same ∙ first firsts i d
  where
    first : {A : Type 0} (l : List A) (i : ℕ) (d : A) → get_or (drop i l) 0 d ≡ get_or l i d
    first l i d = get_or-drop i l 0 d ∙ ap (λ k. get_or l k d) (add-zero i)

pub rest_next : {A : Type 0} (nows firsts : List A) (i : ℕ) (x : A) → drop i nows ≡ drop i firsts → drop (i + 1) (set nows i x) ≡ drop (i + 1) firsts
rest_next nows firsts i x same =
    let lt : i < i + 1 = omega arith in
    drop-set-lt (i + 1) nows i x lt ∙ sym (drop-drop_one nows i) ∙ ap (drop 1) same ∙ drop-drop_one firsts i
  where
    drop-drop_one : {A : Type 0} (l : List A) (i : ℕ) → drop 1 (drop i l) ≡ drop (i + 1) l
    drop-drop_one l i = drop-drop 1 i l

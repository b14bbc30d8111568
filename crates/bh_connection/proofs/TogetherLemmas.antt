-- Requests that are read, applied together and answered, as connections that were served in turn.
use Rattle.std.proofs.Common.{◌≡◌, ℕ, ◌+◌, ◌<◌, ◌≤◌, Bool, false, List, [], ◌∷◌, ◌++◌, map, length, take, drop, set, get_or, refl, sym, ap, subst, ◌∙◌, arith, zero, suc, Option, Some, None, inr, append_assoc, append-nil, length-take-le}
use Rattle.std.specs.Prelude.{IfSome, IfNone}
use Rattle.std.specs.List.{AllZip, filter_map}
use Rattle.std.specs.Io.KnownBytes.{Appends, Consumes}
use Rattle.std.proofs.lemmas.List.{map-append, map_more, take_all, take_more_set, take_at, drop_at, take-take, drop-take, drop-drop, take-append-drop, drop-map, drop_all, drop-set, drop-set-lt, at_drop_more}
use Rattle.std.proofs.lemmas.List.Elements.{filter_map-append}
use Rattle.bh_types.specs.Limits.{HostLimits}
use Rattle.bh_event.specs.Events.{Arrival as Event}
use Rattle.bh_http.specs.Transfers.{Gives, Takes}
use Rattle.bh_tables.specs.Typed.{Tables}
use Rattle.bh_storage.specs.Calls.{Seen}
use Rattle.bh_model.specs.Runs.{last_reading}
use Rattle.bh_link.specs.Taking.{all_of, TookAtMost}
use Rattle.bh_link.specs.declared.request.TakeError.{TakeError}
use Rattle.bh_link.specs.declared.request.TakeError.TheVariants.{ReadFailed, OutOfMemory}
use Rattle.bh_host.specs.Groups.{IsReadAlike, planned_count}
use Rattle.bh_host.specs.Replies.{wanting_text}
use Rattle.bh_host.specs.Runs.{Told, RanOn, GoesOn}
use Rattle.bh_host.specs.Turns.{request_at}
use Rattle.bh_host.specs.declared.delivery.PlannedReply.{PlannedReply}
use Rattle.bh_host.specs.declared.reply.Caller.TheVariants.{Request}
use Rattle.bh_host.proofs.Running as running
use Rattle.bh_connection.specs.Connections.{Ends, EndsAs, EndsIn, IsAnswered, CameTo}
use Rattle.bh_connection.specs.Each.{Row, EachCame, RunsGoOn, event_of, told_of, HasServed}
use Rattle.bh_connection.specs.Together.{IsTaken, IsUntaken, IsFirstUntaken, AllTaken, IsTold, AllTold, HasTold, IsLeft, KeepsTables, HasServedMore}
use Rattle.bh_connection.specs.declared.served.End.{End}
use Rattle.bh_connection.specs.declared.served.End.TheVariants as end
use Rattle.bh_connection.specs.declared.served.Served.{Served}
use Rattle.bh_connection.proofs.ConnectionLemmas.{answered_fixed, broken, fixed_wanting}
use Rattle.bh_connection.proofs.EachLemmas.{ran_back, served_more, served_none, rest_next}

-- ---- lists

take_both : {A : Type 0} (k n : ℕ) (xs : List A) → take (k + n) xs ≡ take k xs ++ take n (drop k xs)
take_both k n xs =
    let le : k ≤ k + n = omega arith in
    sym (take-append-drop k (take (k + n) xs)) ∙ ap (λ l. l ++ drop k (take (k + n) xs)) (take-take k (k + n) xs le) ∙ ap (λ l. take k xs ++ l) (drop-take k n xs)

-- the first ones, and others behind them
take_behind : {A : Type 0} (k n : ℕ) (xs ys : List A) → k ≤ length xs → take (k + n) (take k xs ++ ys) ≡ take k xs ++ take n ys
take_behind k n xs ys le =
    let long : length (take k xs) ≡ k = length-take-le k xs le in
    take_both k n (take k xs ++ ys) ∙ ap (λ l. l ++ take n (drop k (take k xs ++ ys))) (take_at (take k xs) ys k long) ∙ ap (λ l. take k xs ++ take n l) (drop_at (take k xs) ys k long)

pub drop_behind : {A : Type 0} (k n : ℕ) (xs ys : List A) → k ≤ length xs → drop (k + n) (take k xs ++ ys) ≡ drop n ys
drop_behind k n xs ys le = sym (drop-drop n k (take k xs ++ ys)) ∙ ap (drop n) (drop_at (take k xs) ys k (length-take-le k xs le))

-- ---- what was read

taken-push : (limits : HostLimits) (bs ms : List Ends) (es : List Event) (b m : Ends) (e : Event) → AllTaken limits bs ms es → IsTaken limits b m e
    → AllTaken limits (bs ++ b ∷ []) (ms ++ m ∷ []) (es ++ e ∷ [])
taken-push limits [] [] [] b m e all one = (one, tt)
taken-push limits [] [] (x ∷ es) b m e all one = absurd all
taken-push limits [] (x ∷ ms) es b m e all one = absurd all
taken-push limits (x ∷ bs) [] es b m e all one = absurd all
taken-push limits (x ∷ bs) (y ∷ ms) [] b m e all one = absurd all
taken-push limits (x ∷ bs) (y ∷ ms) (z ∷ es) b m e (first, rest) one = (first, taken-push limits bs ms es b m e rest one)

taken-take : (limits : HostLimits) (n : ℕ) (bs ms : List Ends) (es : List Event) → AllTaken limits bs ms es → AllTaken limits (take n bs) (take n ms) (take n es)
taken-take limits zero bs ms es all = tt
taken-take limits (suc n) [] [] [] all = tt
taken-take limits (suc n) [] [] (x ∷ es) all = absurd all
taken-take limits (suc n) [] (x ∷ ms) es all = absurd all
taken-take limits (suc n) (x ∷ bs) [] es all = absurd all
taken-take limits (suc n) (x ∷ bs) (y ∷ ms) [] all = absurd all
taken-take limits (suc n) (x ∷ bs) (y ∷ ms) (z ∷ es) (first, rest) = (first, taken-take limits n bs ms es rest)

taken-drop : (limits : HostLimits) (n : ℕ) (bs ms : List Ends) (es : List Event) → AllTaken limits bs ms es → AllTaken limits (drop n bs) (drop n ms) (drop n es)
taken-drop limits zero bs ms es all = all
taken-drop limits (suc n) [] [] [] all = tt
taken-drop limits (suc n) [] [] (x ∷ es) all = absurd all
taken-drop limits (suc n) [] (x ∷ ms) es all = absurd all
taken-drop limits (suc n) (x ∷ bs) [] es all = absurd all
taken-drop limits (suc n) (x ∷ bs) (y ∷ ms) [] all = absurd all
taken-drop limits (suc n) (x ∷ bs) (y ∷ ms) (z ∷ es) (first, rest) = taken-drop limits n bs ms es rest

pub taken_count : (limits : HostLimits) (bs ms : List Ends) (es : List Event) → AllTaken limits bs ms es → length bs ≡ length ms
taken_count limits [] [] [] all = refl
taken_count limits [] [] (x ∷ es) all = absurd all
taken_count limits [] (x ∷ ms) es all = absurd all
taken_count limits (x ∷ bs) [] es all = absurd all
taken_count limits (x ∷ bs) (y ∷ ms) [] all = absurd all
taken_count limits (x ∷ bs) (y ∷ ms) (z ∷ es) (first, rest) = (let count = taken_count limits bs ms es rest in omega (arith, count))

-- the events of all the bytes that the readers would return
wholes : (limits : HostLimits) (bs ms : List Ends) (es : List Event) → AllTaken limits bs ms es → List Event
wholes limits [] [] [] all = []
wholes limits [] [] (x ∷ es) all = absurd all
wholes limits [] (x ∷ ms) es all = absurd all
wholes limits (x ∷ bs) [] es all = absurd all
wholes limits (x ∷ bs) (y ∷ ms) [] all = absurd all
wholes limits (x ∷ bs) (y ∷ ms) (z ∷ es) (first, rest) = request_at x.reading (all_of x.left first.bytes) ∷ wholes limits bs ms es rest

-- they are read as what was taken
alike : (limits : HostLimits) (bs ms : List Ends) (es : List Event) (all : AllTaken limits bs ms es) → AllZip (IsReadAlike limits) es (wholes limits bs ms es all)
unfolding wholes
alike limits [] [] [] all = tt
alike limits [] [] (x ∷ es) all = absurd all
alike limits [] (x ∷ ms) es all = absurd all
alike limits (x ∷ bs) [] es all = absurd all
alike limits (x ∷ bs) (y ∷ ms) [] all = absurd all
alike limits (x ∷ bs) (y ∷ ms) (z ∷ es) (first, rest) =
    (inr (x.reading, first.bytes, all_of x.left first.bytes, first.is, refl, first.took.decided), alike limits bs ms es rest)

-- ---- of a slice

-- one more was read
pub taken_next : {A E : Type 0} (ends : A → Ends) (arrival : E → Event) (limits : HostLimits) (firsts nows nexts : List A) (i : ℕ) (d was is : A) (events more : List E) (event : E)
    → i < length firsts → i < length nows → was ≡ get_or firsts i d → nexts ≡ set nows i is → more ≡ events ++ event ∷ []
    → AllTaken limits (map ends (take i firsts)) (map ends (take i nows)) (map arrival events) → IsTaken limits (ends was) (ends is) (arrival event)
    → AllTaken limits (map ends (take (i + 1) firsts)) (map ends (take (i + 1) nexts)) (map arrival more)
taken_next ends arrival limits firsts nows nexts i d was is events more event lt lt2 at put push all one =
    let olds : map ends (take (i + 1) firsts) ≡ map ends (take i firsts) ++ ends was ∷ [] = map_more ends firsts i d lt ∙ ap (λ a. map ends (take i firsts) ++ ends a ∷ []) (sym at) in
    let news : map ends (take (i + 1) nexts) ≡ map ends (take i nows) ++ ends is ∷ [] =
    ap (λ t. map ends (take (i + 1) t)) put ∙ ap (map ends) (take_more_set nows i is lt2) ∙ map-append ends (take i nows) (is ∷ []) in
    let said : map arrival more ≡ map arrival events ++ arrival event ∷ [] = ap (map arrival) push ∙ map-append arrival events (event ∷ []) in
    subst (λ l. AllTaken limits l (map ends (take (i + 1) nexts)) (map arrival more)) (sym olds)
    (subst (λ l. AllTaken limits (map ends (take i firsts) ++ ends was ∷ []) l (map arrival more)) (sym news)
    (subst (AllTaken limits (map ends (take i firsts) ++ ends was ∷ []) (map ends (take i nows) ++ ends is ∷ [])) (sym said)
    (taken-push limits (map ends (take i firsts)) (map ends (take i nows)) (map arrival events) (ends was) (ends is) (arrival event) all one)))

pub taken_so_far : {A : Type 0} (ends : A → Ends) (limits : HostLimits) (firsts nows nexts : List A) (i n : ℕ) (es : List Event) → n ≡ i → take i nexts ≡ take i nows
    → AllTaken limits (map ends (take i firsts)) (map ends (take i nows)) es → AllTaken limits (map ends (take n firsts)) (map ends (take n nexts)) es
taken_so_far ends limits firsts nows nexts i n es count same all =
    subst (λ k. AllTaken limits (map ends (take k firsts)) (map ends (take k nexts)) es) (sym count)
    (subst (λ l. AllTaken limits (map ends (take i firsts)) (map ends l) es) (sym same) all)

-- the next one couldn't be read
pub untaken_next : {A : Type 0} (ends : A → Ends) (limits : HostLimits) (error : TakeError) (firsts nows nexts : List A) (i n : ℕ) (d was is : A) → n ≡ i → i < length firsts → i < length nows
    → was ≡ get_or firsts i d → nexts ≡ set nows i is → drop i nows ≡ drop i firsts → IsUntaken limits error (ends was) (ends is) → IsFirstUntaken limits ends error (drop n firsts) (drop n nexts)
untaken_next ends limits error firsts nows nexts i n d was is count lt lt2 at put rest one =
    let lt3 : i < i + 1 = omega arith in
    let olds : drop i firsts ≡ was ∷ drop (i + 1) firsts = at_drop_more (λ l. l) firsts i d lt ∙ ap (λ a. a ∷ drop (i + 1) firsts) (sym at) in
    let news : drop i nexts ≡ is ∷ drop (i + 1) nows = ap (drop i) put ∙ drop-set nows i is lt2 in
    let others : drop (i + 1) nows ≡ drop (i + 1) firsts = sym (drop-set-lt (i + 1) nows i is lt3) ∙ rest_next nows firsts i is rest in
    subst (λ k. IsFirstUntaken limits ends error (drop k firsts) (drop k nexts)) (sym count)
    (subst (λ l. IsFirstUntaken limits ends error l (drop i nexts)) (sym olds)
    (subst (IsFirstUntaken limits ends error (was ∷ drop (i + 1) firsts)) (sym news) (one, others)))

-- those after the first are as they were
pub first_others : {A : Type 0} (limits : HostLimits) (ends : A → Ends) (error : TakeError) (befores afters : List A) → IsFirstUntaken limits ends error befores afters → drop 1 afters ≡ drop 1 befores
first_others limits ends error [] afters untaken = absurd untaken
first_others limits ends error (b ∷ bs) [] untaken = absurd untaken
first_others limits ends error (b ∷ bs) (m ∷ ms) (one, same) = same

-- ---- what was answered

told-push : (ms fs : List Ends) (ss : List Served) (ts : List Told) (m f : Ends) (s : Served) (t : Told) → AllTold ms fs ss ts → IsTold m f s t
    → AllTold (ms ++ m ∷ []) (fs ++ f ∷ []) (ss ++ s ∷ []) (ts ++ t ∷ [])
told-push [] [] [] [] m f s t all one = (one, tt)
told-push [] [] [] (x ∷ ts) m f s t all one = absurd all
told-push [] [] (x ∷ ss) ts m f s t all one = absurd all
told-push [] (x ∷ fs) ss ts m f s t all one = absurd all
told-push (w ∷ ms) [] ss ts m f s t all one = absurd all
told-push (w ∷ ms) (x ∷ fs) [] ts m f s t all one = absurd all
told-push (w ∷ ms) (x ∷ fs) (y ∷ ss) [] m f s t all one = absurd all
told-push (w ∷ ms) (x ∷ fs) (y ∷ ss) (z ∷ ts) m f s t (first, rest) one = (first, told-push ms fs ss ts m f s t rest one)

-- one more reply
has_told_more : (tolds : List Told) (ms fs : List Ends) (s0 s1 s2 : List Served) (m f : Ends) (s : Served) (t : Told) → s2 ≡ s1 ++ s ∷ [] → HasTold tolds ms fs s0 s1 → IsTold m f s t
    → HasTold (tolds ++ t ∷ []) (ms ++ m ∷ []) (fs ++ f ∷ []) s0 s2
has_told_more tolds ms fs s0 s1 s2 m f s t push (more, is, all) one =
    (more ++ s ∷ [], push ∙ ap (λ l. l ++ s ∷ []) is ∙ append_assoc s0 more (s ∷ []), told-push ms fs more tolds m f s t all one)

-- one more of the slice
pub told_next : {A D : Type 0} (ends : A → Ends) (told : D → Told) (dones : List D) (firsts nows nexts : List A) (i : ℕ) (d was is : A) (e done : D) (s0 s1 s2 : List Served) (s : Served)
    → i < length firsts → i < length nows → i < length dones → was ≡ get_or firsts i d → nexts ≡ set nows i is → done ≡ get_or dones i e → s2 ≡ s1 ++ s ∷ []
    → HasTold (map told (take i dones)) (map ends (take i firsts)) (map ends (take i nows)) s0 s1 → IsTold (ends was) (ends is) s (told done)
    → HasTold (map told (take (i + 1) dones)) (map ends (take (i + 1) firsts)) (map ends (take (i + 1) nexts)) s0 s2
told_next ends told dones firsts nows nexts i d was is e done s0 s1 s2 s lt lt2 lt3 at put which push all one =
    let olds : map ends (take (i + 1) firsts) ≡ map ends (take i firsts) ++ ends was ∷ [] = map_more ends firsts i d lt ∙ ap (λ a. map ends (take i firsts) ++ ends a ∷ []) (sym at) in
    let news : map ends (take (i + 1) nexts) ≡ map ends (take i nows) ++ ends is ∷ [] =
    ap (λ t. map ends (take (i + 1) t)) put ∙ ap (map ends) (take_more_set nows i is lt2) ∙ map-append ends (take i nows) (is ∷ []) in
    let said : map told (take (i + 1) dones) ≡ map told (take i dones) ++ told done ∷ [] = map_more told dones i e lt3 ∙ ap (λ t. map told (take i dones) ++ told t ∷ []) (sym which) in
    subst (λ l. HasTold l (map ends (take (i + 1) firsts)) (map ends (take (i + 1) nexts)) s0 s2) (sym said)
    (subst (λ l. HasTold (map told (take i dones) ++ told done ∷ []) l (map ends (take (i + 1) nexts)) s0 s2) (sym olds)
    (subst (λ l. HasTold (map told (take i dones) ++ told done ∷ []) (map ends (take i firsts) ++ ends was ∷ []) l s0 s2) (sym news)
    (has_told_more (map told (take i dones)) (map ends (take i firsts)) (map ends (take i nows)) s0 s1 s2 (ends was) (ends is) s (told done) push all one)))

pub told_all : {A D : Type 0} (ends : A → Ends) (told : D → Told) (dones : List D) (firsts nows : List A) (i : ℕ) (s0 s1 : List Served) → length dones ≤ i → length firsts ≤ i → length nows ≤ i
    → HasTold (map told (take i dones)) (map ends (take i firsts)) (map ends (take i nows)) s0 s1 → HasTold (map told dones) (map ends firsts) (map ends nows) s0 s1
told_all ends told dones firsts nows i s0 s1 le le2 le3 all =
    subst (λ l. HasTold (map told l) (map ends firsts) (map ends nows) s0 s1) (take_all i dones le)
    (subst (λ l. HasTold (map told (take i dones)) (map ends l) (map ends nows) s0 s1) (take_all i firsts le2)
    (subst (λ l. HasTold (map told (take i dones)) (map ends (take i firsts)) (map ends l) s0 s1) (take_all i nows le3) all))

pub has_told_none : (s0 : List Served) → HasTold [] [] [] s0 s0
has_told_none s0 = ([], sym (append-nil s0), tt)

-- the replies of a group, with the last one's object read meanwhile
first_of : {A : Type 0} (xs : List A) (d : A) → 0 < length xs → take 1 xs ≡ get_or xs 0 d ∷ []
first_of [] d some = absurd (omega (arith, some))
first_of (x ∷ xs) d some = refl

set_first : {A : Type 0} (xs : List A) (y : A) → 0 < length xs → take 1 (set xs 0 y) ≡ y ∷ []
set_first [] y some = absurd (omega (arith, some))
set_first (x ∷ xs) y some = refl

pub after_first : {A : Type 0} (xs : List A) (y : A) → drop 1 (set xs 0 y) ≡ drop 1 xs
after_first [] y = refl
after_first (x ∷ xs) y = refl

-- a group has a reply
pub some_counted : (planned : Option PlannedReply) (n m : ℕ) → 0 < m → IfNone planned (n ≡ m) → 0 < n + planned_count planned
some_counted None n m some whole = omega (arith, some, whole)
some_counted (Some reply) n m some whole = omega arith

pub told_front : {A : Type 0} (ends : A → Ends) (tolds : List Told) (olds firsts others news : List A) (n : ℕ) (s0 s1 : List Served) → firsts ≡ take n olds → length news ≡ n
    → HasTold tolds (map ends firsts) (map ends news) s0 s1 → HasTold tolds (map ends (take n olds)) (map ends (take n (news ++ others))) s0 s1
told_front ends tolds olds firsts others news n s0 s1 front long all =
    subst (λ l. HasTold tolds (map ends l) (map ends (take n (news ++ others))) s0 s1) front
    (subst (λ l. HasTold tolds (map ends firsts) (map ends l) s0 s1) (sym (take_at news others n long)) all)

pub told_last : {A : Type 0} (ends : A → Ends) (tolds : List Told) (olds firsts others news : List A) (n : ℕ) (d is : A) (s0 s1 s2 : List Served) (s : Served) (t : Told)
    → firsts ≡ take n olds → others ≡ drop n olds → length news ≡ n → 0 < length others → s2 ≡ s1 ++ s ∷ []
    → HasTold tolds (map ends firsts) (map ends news) s0 s1 → IsTold (ends (get_or others 0 d)) (ends is) s t
    → HasTold (tolds ++ t ∷ []) (map ends (take (n + 1) olds)) (map ends (take (n + 1) (news ++ set others 0 is))) s0 s2
told_last ends tolds olds firsts others news n d is s0 s1 s2 s t front back long some push all one =
    let was = get_or others 0 d in
    let before : map ends (take (n + 1) olds) ≡ map ends firsts ++ ends was ∷ [] =
    ap (map ends) (take_both n 1 olds ∙ ap (λ l. l ++ take 1 (drop n olds)) (sym front) ∙ ap (λ l. firsts ++ take 1 l) (sym back) ∙ ap (λ l. firsts ++ l) (first_of others d some)) ∙ map-append ends firsts (was ∷ []) in
    let zs = set others 0 is in
    let after : map ends (take (n + 1) (news ++ zs)) ≡ map ends news ++ ends is ∷ [] =
    ap (map ends) (take_both n 1 (news ++ zs) ∙ ap (λ l. l ++ take 1 (drop n (news ++ zs))) (take_at news zs n long) ∙ ap (λ l. news ++ take 1 l) (drop_at news zs n long) ∙ ap (λ l. news ++ l) (set_first others is some))
    ∙ map-append ends news (is ∷ []) in
    subst (λ l. HasTold (tolds ++ t ∷ []) l (map ends (take (n + 1) (news ++ zs))) s0 s2) (sym before)
    (subst (λ l. HasTold (tolds ++ t ∷ []) (map ends firsts ++ ends was ∷ []) l s0 s2) (sym after)
    (has_told_more tolds (map ends firsts) (map ends news) s0 s1 s2 (ends was) (ends is) s t push all one))

pub rest_last : {A : Type 0} (olds others news : List A) (n : ℕ) (is : A) → others ≡ drop n olds → length news ≡ n → drop (n + 1) (news ++ set others 0 is) ≡ drop (n + 1) olds
rest_last olds others news n is back long =
    sym (drop-drop 1 n (news ++ set others 0 is)) ∙ ap (drop 1) (drop_at news (set others 0 is) n long) ∙ after_first others is ∙ ap (drop 1) back ∙ drop-drop 1 n olds

some_whole : (s : Option ℕ) {P : Type 0} → P → IfSome s (λ _. P)
some_whole None p = tt
some_whole (Some x) p = p

-- a request that was taken and told, as one that was answered
row_answered : (limits : HostLimits) (b m f : Ends) (e : Event) (s : Served) (t : Told) (taken : IsTaken limits b m e) → IsTold m f s t → IsAnswered limits b f s (all_of b.left taken.bytes) t
row_answered limits b m f e s t taken told =
    let left : f.left ≡ m.left = ap (λ (x : Ends). x.left) told.same in
    let gave : f.gave ≡ m.gave = ap (λ (x : Ends). x.gave) told.same in
    let held : m.held ≡ b.held = ap (λ (x : Ends). x.held) taken.same in
    let took : m.took ≡ b.took = ap (λ (x : Ends). x.took) taken.same in
    record {
      taken = taken.bytes;
      consumed = subst (λ l. Consumes b.left l taken.bytes) (sym left) taken.took.consumed;
      all = refl;
      within = λ n extent. (let is_all = taken.took.whole n extent in omega (arith, is_all));
      whole = some_whole s.stamp taken.took.whole;
      stamp = told.stamp;
      out = subst (λ h. Appends h f.held (take s.sent t.1)) held told.out;
      ended = told.ended;
      gave = subst (λ l. Gives b.gave l taken.bytes false) (sym gave) taken.gave;
      took = subst (λ l. Takes l f.took (take s.sent t.1) f.writer_failed) took told.took;
      reader = ap (λ (x : Ends). x.reader_failed) told.same ∙ ap (λ (x : Ends). x.reader_failed) taken.same ∙ taken.going;
    }

record AreRows (limits : HostLimits) (befores afters : List Ends) (events : List Event) (serveds : List Served) (tolds : List Told) (rows : List Row) : Type 0 where
  pub befores_are : map (λ (row : Row). row.before) rows ≡ befores
  pub afters_are : map (λ (row : Row). row.after) rows ≡ afters
  pub serveds_are : map (λ (row : Row). row.served) rows ≡ serveds
  pub each : EachCame limits rows
  pub events_are : filter_map event_of rows ≡ events
  pub tolds_are : filter_map told_of rows ≡ tolds

rows_of : (limits : HostLimits) (bs ms fs : List Ends) (es : List Event) (ss : List Served) (ts : List Told) (taken : AllTaken limits bs ms es) → AllTold ms fs ss ts
    → (rows : List Row) × AreRows limits bs fs (wholes limits bs ms es taken) ss ts rows
unfolding wholes
rows_of limits [] [] [] [] [] [] taken told = ([], record { befores_are = refl; afters_are = refl; serveds_are = refl; each = tt; events_are = refl; tolds_are = refl })
rows_of limits [] [] [] [] [] (t ∷ ts) taken told = absurd told
rows_of limits [] [] [] [] (s ∷ ss) ts taken told = absurd told
rows_of limits [] [] (f ∷ fs) [] ss ts taken told = absurd told
rows_of limits [] [] fs (e ∷ es) ss ts taken told = absurd taken
rows_of limits [] (m ∷ ms) fs es ss ts taken told = absurd taken
rows_of limits (b ∷ bs) [] fs es ss ts taken told = absurd taken
rows_of limits (b ∷ bs) (m ∷ ms) fs [] ss ts taken told = absurd taken
rows_of limits (b ∷ bs) (m ∷ ms) [] (e ∷ es) ss ts taken told = absurd told
rows_of limits (b ∷ bs) (m ∷ ms) (f ∷ fs) (e ∷ es) [] ts taken told = absurd told
rows_of limits (b ∷ bs) (m ∷ ms) (f ∷ fs) (e ∷ es) (s ∷ ss) [] taken told = absurd told
rows_of limits (b ∷ bs) (m ∷ ms) (f ∷ fs) (e ∷ es) (s ∷ ss) (t ∷ ts) (took, taken) (said, told) =
    let (rows, are) = rows_of limits bs ms fs es ss ts taken told in (
      record { before = b; after = f; served = s; outcome = Some (all_of b.left took.bytes, t) } ∷ rows,
      record {
        befores_are = ap (λ l. b ∷ l) are.befores_are;
        afters_are = ap (λ l. f ∷ l) are.afters_are;
        serveds_are = ap (λ l. s ∷ l) are.serveds_are;
        each = (row_answered limits b m f e s t took said, are.each);
        events_are = ap (λ l. request_at b.reading (all_of b.left took.bytes) ∷ l) are.events_are;
        tolds_are = ap (λ l. t ∷ l) are.tolds_are;
      },
    )

-- ---- one that was left

ends_as : (ended : End) (sent : ℕ) (reply : List ℕ) (failed : Bool) → EndsIn ended None sent reply failed → EndsAs ended sent reply failed
ends_as end.Whole sent reply failed ends = ends
ends_as end.WriteFailed sent reply failed ends = ends
ends_as end.ReadFailed sent reply failed ends = absurd ends
ends_as end.StoreFailed sent reply failed ends = absurd ends

each_join : (limits : HostLimits) (rows others : List Row) → EachCame limits rows → EachCame limits others → EachCame limits (rows ++ others)
each_join limits [] others all more = more
each_join limits (r ∷ rows) others (first, rest) more = (first, each_join limits rows others rest more)

-- where memory ran out once it was read
untaken_of : (limits : HostLimits) (b m : Ends) (e : Event) → b.writer_failed ≡ false → IsTaken limits b m e → IsUntaken limits OutOfMemory b m
untaken_of limits b m e writes taken =
    let same : m.reader_failed ≡ b.reader_failed = ap (λ (x : Ends). x.reader_failed) taken.same in
    let going : m.reader_failed ≡ false = same ∙ taken.going in
    record {
      bytes = taken.bytes;
      took = record {
        consumed = taken.took.consumed;
        short = taken.took.short;
        within = λ n extent. (let is_all = taken.took.whole n extent in omega (arith, is_all));
      };
      gave = subst (λ f. Gives b.gave m.gave taken.bytes f) (sym going) taken.gave;
      failed = going;
      going = writes;
      same = taken.same ∙ ap (λ f. record b { left = m.left; gave = m.gave; reader_failed = f }) (sym same);
    }

module _ {H : Type 0} (IsIntact IsOpen : H → Type 0) (seen : H → Seen) (left : H → Tables → Type 0) where
  -- its connection, as one that was served: the host is as it was
  left_came : (limits : HostLimits) (error : TakeError) (b m f : Ends) (s : Served) (old : H) → limits ≡ (seen old).limits → b.reading ≤ last_reading → IsUntaken limits error b m → IsLeft error m f s
      → CameTo IsIntact IsOpen seen left b f s old old
  left_came limits ReadFailed b m f s old same early untaken (ended, stamp, sent, is) =
      subst (λ x. CameTo IsIntact IsOpen seen left b x s old old) (sym is)
      (broken IsIntact IsOpen seen left limits b m s untaken.bytes old old same untaken.took untaken.gave untaken.failed
      (ap (λ (x : Ends). x.writer_failed) untaken.same ∙ untaken.going) (ap (λ (x : Ends). x.held) untaken.same) (ap (λ (x : Ends). x.took) untaken.same) refl ended stamp sent)
  left_came limits OutOfMemory b m f s old same early untaken told =
      let at_left : f.left ≡ m.left = ap (λ (x : Ends). x.left) told.same in
      let gave : f.gave ≡ m.gave = ap (λ (x : Ends). x.gave) told.same in
      let fault : f.reader_failed ≡ m.reader_failed = ap (λ (x : Ends). x.reader_failed) told.same in
      let held : m.held ≡ b.held = ap (λ (x : Ends). x.held) untaken.same in
      let took : m.took ≡ b.took = ap (λ (x : Ends). x.took) untaken.same in
      let G : Option _ → Bool → Type 0 = λ l x. Gives b.gave l untaken.bytes x in
      answered_fixed IsIntact IsOpen seen left limits b f s untaken.bytes (wanting_text Request) old old same
      (subst (λ l. TookAtMost limits b.left l untaken.bytes) (sym at_left) untaken.took)
      (subst (λ l. G l f.reader_failed) (sym gave) (subst (G m.gave) (sym fault) untaken.gave))
      (fault ∙ untaken.failed) refl (fixed_wanting b.reading early) (sym told.stamp)
      (subst (λ h. Appends h f.held (take s.sent (wanting_text Request))) held told.out)
      (subst (λ l. Takes l f.took (take s.sent (wanting_text Request)) f.writer_failed) took told.took)
      (ends_as s.ended s.sent (wanting_text Request) f.writer_failed told.ended)

  -- ---- runs

  goes_run : (es : List Event) (ts : List Told) (old new : H) → GoesOn IsOpen seen left es ts old new → RunsGoOn IsOpen seen left es ts old new
  goes_run es ts old new goes first before dones ran = running.ran_join IsOpen seen left before es dones ts first old new ran goes

  runs_join : (es fs : List Event) (ts us : List Told) (old mid new : H) → RunsGoOn IsOpen seen left es ts old mid → RunsGoOn IsOpen seen left fs us mid new
      → RunsGoOn IsOpen seen left (es ++ fs) (ts ++ us) old new
  runs_join es fs ts us old mid new one two first before dones ran =
      let P : List Event → List Told → Type 0 = λ a b. RanOn IsOpen seen left a b first new in
      subst (λ a. P a (dones ++ (ts ++ us))) (append_assoc before es fs) (subst (P ((before ++ es) ++ fs)) (append_assoc dones ts us)
      (two first (before ++ es) (dones ++ ts) (one first before dones ran)))

  runs_back : (es : List Event) (ts : List Told) (old mid new : H) → IsIntact new → RunsGoOn IsOpen seen left es ts old mid → KeepsTables IsIntact IsOpen seen left mid new
      → RunsGoOn IsOpen seen left es ts old new
  runs_back es ts old mid new intact goes keeps first before dones ran =
      ran_back IsIntact IsOpen seen left (before ++ es) (dones ++ ts) first mid new intact (goes first before dones ran) (record { same = keeps.same; survives = keeps.survives })

  -- ---- connections

  served_by : (befores afters : List Ends) (serveds : List Served) (events : List Event) (tolds : List Told) (old new : H) (rows : List Row)
      → AreRows (seen old).limits befores afters events serveds tolds rows → (IsIntact new → RunsGoOn IsOpen seen left events tolds old new)
      → HasServed IsIntact IsOpen seen left befores afters serveds old new
  served_by befores afters serveds events tolds old new rows are goes =
      let P : List Event → List Told → Type 0 = λ es ts. RunsGoOn IsOpen seen left es ts old new in
      let on : IsIntact new → P (filter_map event_of rows) (filter_map told_of rows) = λ intact.
      subst (λ es. P es (filter_map told_of rows)) (sym are.events_are) (subst (P events) (sym are.tolds_are) (goes intact)) in (
        rows,
        record {
          befores = are.befores_are;
          afters = are.afters_are;
          served = are.serveds_are;
          each = are.each;
          ran = λ intact. on intact old [] [] (running.ran_none IsOpen seen left old);
          goes_on = on;
        },
      )

  -- connections after connections
  served_join : (bs fs bs2 fs2 : List Ends) (ss ss2 : List Served) (old mid new : H) → (IsIntact new → IsIntact mid) → (seen mid).limits ≡ (seen old).limits
      → HasServed IsIntact IsOpen seen left bs fs ss old mid → HasServed IsIntact IsOpen seen left bs2 fs2 ss2 mid new
      → HasServed IsIntact IsOpen seen left (bs ++ bs2) (fs ++ fs2) (ss ++ ss2) old new
  served_join bs fs bs2 fs2 ss ss2 old mid new still limits (rows, one) (others, two) =
      served_by (bs ++ bs2) (fs ++ fs2) (ss ++ ss2) (filter_map event_of (rows ++ others)) (filter_map told_of (rows ++ others)) old new (rows ++ others) (record {
        befores_are = map-append (λ (r : Row). r.before) rows others ∙ ap (λ l. l ++ map (λ (r : Row). r.before) others) one.befores ∙ ap (λ l. bs ++ l) two.befores;
        afters_are = map-append (λ (r : Row). r.after) rows others ∙ ap (λ l. l ++ map (λ (r : Row). r.after) others) one.afters ∙ ap (λ l. fs ++ l) two.afters;
        serveds_are = map-append (λ (r : Row). r.served) rows others ∙ ap (λ l. l ++ map (λ (r : Row). r.served) others) one.served ∙ ap (λ l. ss ++ l) two.served;
        each = each_join (seen old).limits rows others one.each (subst (λ l. EachCame l others) limits two.each);
        events_are = refl;
        tolds_are = refl;
      }) (λ intact.
      let P : List Event → List Told → Type 0 = λ es ts. RunsGoOn IsOpen seen left es ts old new in
      subst (λ es. P es (filter_map told_of (rows ++ others))) (sym (filter_map-append event_of rows others))
      (subst (P (filter_map event_of rows ++ filter_map event_of others)) (sym (filter_map-append told_of rows others))
      (runs_join (filter_map event_of rows) (filter_map event_of others) (filter_map told_of rows) (filter_map told_of others) old mid new (one.goes_on (still intact)) (two.goes_on intact))))

  more_join : (bs fs bs2 fs2 : List Ends) (s0 s1 s2 : List Served) (old mid new : H) → (IsIntact new → IsIntact mid) → (seen mid).limits ≡ (seen old).limits
      → HasServedMore IsIntact IsOpen seen left bs fs s0 s1 old mid → HasServedMore IsIntact IsOpen seen left bs2 fs2 s1 s2 mid new
      → HasServedMore IsIntact IsOpen seen left (bs ++ bs2) (fs ++ fs2) s0 s2 old new
  more_join bs fs bs2 fs2 s0 s1 s2 old mid new still limits (more, is, one) (others, are, two) =
      (more ++ others, are ∙ ap (λ l. l ++ others) is ∙ append_assoc s0 more others, served_join bs fs bs2 fs2 more others old mid new still limits one two)

  more_one : (b f : Ends) (s0 s1 : List Served) (s : Served) (old new : H) → (IsIntact new → IsIntact old) → s1 ≡ s0 ++ s ∷ [] → CameTo IsIntact IsOpen seen left b f s old new
      → HasServedMore IsIntact IsOpen seen left (b ∷ []) (f ∷ []) s0 s1 old new
  more_one b f s0 s1 s old new still push came = (s ∷ [], push, served_more IsIntact IsOpen seen left [] [] [] b f s old old new still refl (served_none IsIntact IsOpen seen left old) came)

  -- requests of which these were applied together, and told so
  pub group_served : (n : ℕ) (bs ms fs : List Ends) (es : List Event) (said tolds : List Told) (s0 s1 : List Served) (old mid new : H)
      → ((others : List Event) → IsIntact new → AllZip (IsReadAlike (seen old).limits) es others → GoesOn IsOpen seen left (take n others) said old mid)
      → KeepsTables IsIntact IsOpen seen left mid new → (IsIntact new → tolds ≡ said) → HasTold tolds (take n ms) fs s0 s1 → AllTaken (seen old).limits bs ms es
      → HasServedMore IsIntact IsOpen seen left (take n bs) fs s0 s1 old new
  unfolding wholes taken-take
  group_served n bs ms fs es said tolds s0 s1 old mid new goes keeps same (more, is, told) taken =
      let limits = (seen old).limits in
      let part = taken-take limits n bs ms es taken in
      let (rows, are) = rows_of limits (take n bs) (take n ms) fs (take n es) more tolds part told in (
        more,
        is,
        served_by (take n bs) fs more (wholes limits (take n bs) (take n ms) (take n es) part) tolds old new rows are (λ intact.
            let on : GoesOn IsOpen seen left (take n (wholes limits bs ms es taken)) said old mid = goes (wholes limits bs ms es taken) intact (alike limits bs ms es taken) in
            runs_back (wholes limits (take n bs) (take n ms) (take n es) part) tolds old mid new intact
            (subst (λ ws. RunsGoOn IsOpen seen left ws tolds old mid) (wholes-take limits n bs ms es taken)
            (subst (λ ts. RunsGoOn IsOpen seen left (take n (wholes limits bs ms es taken)) ts old mid) (sym (same intact))
            (goes_run (take n (wholes limits bs ms es taken)) said old mid on))) keeps),
      )
    where
      wholes-take : (limits : HostLimits) (n : ℕ) (bs ms : List Ends) (es : List Event) (all : AllTaken limits bs ms es)
          → take n (wholes limits bs ms es all) ≡ wholes limits (take n bs) (take n ms) (take n es) (taken-take limits n bs ms es all)
      wholes-take limits zero bs ms es all = refl
      wholes-take limits (suc n) [] [] [] all = refl
      wholes-take limits (suc n) [] [] (x ∷ es) all = absurd all
      wholes-take limits (suc n) [] (x ∷ ms) es all = absurd all
      wholes-take limits (suc n) (x ∷ bs) [] es all = absurd all
      wholes-take limits (suc n) (x ∷ bs) (y ∷ ms) [] all = absurd all
      wholes-take limits (suc n) (x ∷ bs) (y ∷ ms) (z ∷ es) (first, rest) = ap (λ l. request_at x.reading (all_of x.left first.bytes) ∷ l) (wholes-take limits n bs ms es rest)

  -- those of the next group
  pub groups_next : {A E : Type 0} (ends : A → Ends) (arrival : E → Event) (bs : List Ends) (firsts nows ys nexts : List A) (events : List E) (k n : ℕ) (s0 s1 s2 : List Served) (old mid new : H)
      → k ≤ length nows → drop k nows ≡ drop k firsts → nexts ≡ take k nows ++ ys → (IsIntact new → IsIntact mid) → (seen mid).limits ≡ (seen old).limits
      → AllTaken (seen old).limits bs (map ends firsts) (map arrival events)
      → HasServedMore IsIntact IsOpen seen left (take k bs) (map ends (take k nows)) s0 s1 old mid
      → ((cs : List Ends) → AllTaken (seen mid).limits cs (map ends (drop k nows)) (map arrival (drop k events)) → HasServedMore IsIntact IsOpen seen left (take n cs) (map ends (take n ys)) s1 s2 mid new)
      → HasServedMore IsIntact IsOpen seen left (take (k + n) bs) (map ends (take (k + n) nexts)) s0 s2 old new
  groups_next ends arrival bs firsts nows ys nexts events k n s0 s1 s2 old mid new le rest is still limits taken so_far goes =
      let others : AllTaken (seen old).limits (drop k bs) (drop k (map ends firsts)) (drop k (map arrival events)) = taken-drop (seen old).limits k bs (map ends firsts) (map arrival events) taken in
      let mids : drop k (map ends firsts) ≡ map ends (drop k nows) = drop-map ends k firsts ∙ ap (map ends) (sym rest) in
      let next : AllTaken (seen mid).limits (drop k bs) (map ends (drop k nows)) (map arrival (drop k events)) =
      subst (λ l. AllTaken l (drop k bs) (map ends (drop k nows)) (map arrival (drop k events))) (sym limits)
      (subst (λ l. AllTaken (seen old).limits (drop k bs) l (map arrival (drop k events))) mids
      (subst (AllTaken (seen old).limits (drop k bs) (drop k (map ends firsts))) (drop-map arrival k events) others)) in
      let ends_are : map ends (take (k + n) nexts) ≡ map ends (take k nows) ++ map ends (take n ys) =
      ap (λ l. map ends (take (k + n) l)) is ∙ ap (map ends) (take_behind k n nows ys le) ∙ map-append ends (take k nows) (take n ys) in
      subst (λ l. HasServedMore IsIntact IsOpen seen left l (map ends (take (k + n) nexts)) s0 s2 old new) (sym (take_both k n bs))
      (subst (λ l. HasServedMore IsIntact IsOpen seen left (take k bs ++ take n (drop k bs)) l s0 s2 old new) (sym ends_are)
      (more_join (take k bs) (map ends (take k nows)) (take n (drop k bs)) (map ends (take n ys)) s0 s1 s2 old mid new still limits so_far (goes (drop k bs) next)))

  -- the first one, for whose reply there was no memory
  pub first_refused : {A E : Type 0} (ends : A → Ends) (arrival : E → Event) (bs : List Ends) (nows : List A) (events : List E) (d is : A) (s0 s1 : List Served) (s : Served) (old : H)
      → 0 < length nows → ((ends (get_or nows 0 d)).writer_failed ≡ false) × ((ends (get_or nows 0 d)).reading ≤ last_reading) → IsLeft OutOfMemory (ends (get_or nows 0 d)) (ends is) s → s1 ≡ s0 ++ s ∷ []
      → AllTaken (seen old).limits bs (map ends nows) (map arrival events) → HasServedMore IsIntact IsOpen seen left (take 1 bs) (map ends (take 1 (set nows 0 is))) s0 s1 old old
  first_refused ends arrival bs [] events d is s0 s1 s old some ready told push taken = absurd (omega (arith, some))
  first_refused ends arrival [] (m ∷ ms) events d is s0 s1 s old some ready told push taken = absurd taken
  first_refused ends arrival (b ∷ bs) (m ∷ ms) [] d is s0 s1 s old some ready told push taken = absurd taken
  first_refused ends arrival (b ∷ bs) (m ∷ ms) (e ∷ es) d is s0 s1 s old some (writes, early) told push (taken, rest) =
      let writes_before : b.writer_failed ≡ false = sym (ap (λ (x : Ends). x.writer_failed) taken.same) ∙ writes in
      let early_before : b.reading ≤ last_reading = subst (λ r. r ≤ last_reading) (ap (λ (x : Ends). x.reading) taken.same) early in
      more_one b (ends is) s0 s1 s old old (λ i. i) push
      (left_came (seen old).limits OutOfMemory b (ends m) (ends is) s old refl early_before (untaken_of (seen old).limits b (ends m) (arrival e) writes_before taken) told)

  -- one whose request couldn't be read, and those after it
  others_served : {A : Type 0} (ends : A → Ends) (error : TakeError) (befores nows news : List A) (d is : A) (s0 s1 s2 : List Served) (s : Served) (old new : H)
      → 0 < length nows → (ends (get_or nows 0 d)).reading ≤ last_reading → IsLeft error (ends (get_or nows 0 d)) (ends is) s → s1 ≡ s0 ++ s ∷ [] → (IsIntact new → IsIntact old)
      → HasServedMore IsIntact IsOpen seen left (map ends (drop 1 nows)) (map ends news) s1 s2 old new → IsFirstUntaken (seen old).limits ends error befores nows
      → HasServedMore IsIntact IsOpen seen left (map ends befores) (map ends (is ∷ news)) s0 s2 old new
  others_served ends error befores [] news d is s0 s1 s2 s old new some early told push still more untaken = absurd (omega (arith, some))
  others_served ends error [] (m ∷ ms) news d is s0 s1 s2 s old new some early told push still more untaken = absurd untaken
  others_served ends error (b ∷ bs) (m ∷ ms) news d is s0 s1 s2 s old new some early told push still more (untaken, same) =
      let early_before : (ends b).reading ≤ last_reading = subst (λ r. r ≤ last_reading) (ap (λ (x : Ends). x.reading) untaken.same) early in
      let one : HasServedMore IsIntact IsOpen seen left (ends b ∷ []) (ends is ∷ []) s0 s1 old old = more_one (ends b) (ends is) s0 s1 s old old (λ i. i) push
      (left_came (seen old).limits error (ends b) (ends m) (ends is) s old refl early_before untaken told) in
      subst (λ l. HasServedMore IsIntact IsOpen seen left (ends b ∷ map ends l) (ends is ∷ map ends news) s0 s2 old new) same
      (more_join (ends b ∷ []) (ends is ∷ []) (map ends ms) (map ends news) s0 s1 s2 old old new still refl one more)

  -- those that were read, and the others
  pub both_served : {A : Type 0} (ends : A → Ends) (firsts news others nexts : List A) (n : ℕ) (s0 s1 s2 : List Served) (old mid new : H) → nexts ≡ news ++ others
      → (IsIntact new → IsIntact mid) → (seen mid).limits ≡ (seen old).limits
      → HasServedMore IsIntact IsOpen seen left (map ends (take n firsts)) (map ends news) s0 s1 old mid → HasServedMore IsIntact IsOpen seen left (map ends (drop n firsts)) (map ends others) s1 s2 mid new
      → HasServedMore IsIntact IsOpen seen left (map ends firsts) (map ends nexts) s0 s2 old new
  both_served ends firsts news others nexts n s0 s1 s2 old mid new is still limits one two =
      let olds : map ends firsts ≡ map ends (take n firsts) ++ map ends (drop n firsts) = ap (map ends) (sym (take-append-drop n firsts)) ∙ map-append ends (take n firsts) (drop n firsts) in
      let afters : map ends nexts ≡ map ends news ++ map ends others = ap (map ends) is ∙ map-append ends news others in
      subst (λ l. HasServedMore IsIntact IsOpen seen left l (map ends nexts) s0 s2 old new) (sym olds)
      (subst (λ l. HasServedMore IsIntact IsOpen seen left (map ends (take n firsts) ++ map ends (drop n firsts)) l s0 s2 old new) (sym afters)
      (more_join (map ends (take n firsts)) (map ends news) (map ends (drop n firsts)) (map ends others) s0 s1 s2 old mid new still limits one two))

  pub others_split : {A : Type 0} (ends : A → Ends) (error : TakeError) (befores nows first others news : List A) (d is : A) (s0 s1 s2 : List Served) (s : Served) (old new : H)
      → 0 < length nows → first ≡ take 1 nows → others ≡ drop 1 nows → (ends (get_or first 0 d)).reading ≤ last_reading → IsLeft error (ends (get_or first 0 d)) (ends is) s → s1 ≡ s0 ++ s ∷ [] → (IsIntact new → IsIntact old)
      → HasServedMore IsIntact IsOpen seen left (map ends others) (map ends news) s1 s2 old new → IsFirstUntaken (seen old).limits ends error befores nows
      → HasServedMore IsIntact IsOpen seen left (map ends befores) (map ends (set first 0 is ++ news)) s0 s2 old new
  others_split ends error befores [] first others news d is s0 s1 s2 s old new some front back early told push still more untaken = absurd (omega (arith, some))
  others_split ends error befores (m ∷ ms) first others news d is s0 s1 s2 s old new some front back early told push still more untaken =
      subst (λ l. HasServedMore IsIntact IsOpen seen left (map ends befores) (map ends (set l 0 is ++ news)) s0 s2 old new) (sym front)
      (others_served ends error befores (m ∷ ms) news d is s0 s1 s2 s old new some (subst (λ l. (ends (get_or l 0 d)).reading ≤ last_reading) front early) (subst (λ l. IsLeft error (ends (get_or l 0 d)) (ends is) s) front told) push still
      (subst (λ l. HasServedMore IsIntact IsOpen seen left (map ends l) (map ends news) s1 s2 old new) back more) untaken)

  -- all were read
  pub all_served : {A : Type 0} (ends : A → Ends) (firsts nows news others : List A) (n : ℕ) (s0 s1 : List Served) (old mid : H) → length firsts ≤ n → length nows ≤ n → others ≡ drop n nows
      → HasServedMore IsIntact IsOpen seen left (map ends (take n firsts)) (map ends news) s0 s1 old mid → HasServedMore IsIntact IsOpen seen left (map ends firsts) (map ends (news ++ others)) s0 s1 old mid
  all_served ends firsts nows news others n s0 s1 old mid le le2 back one =
      let same : news ++ others ≡ news = ap (λ l. news ++ l) (back ∙ drop_all n nows le2) ∙ append-nil news in
      subst (λ l. HasServedMore IsIntact IsOpen seen left (map ends l) (map ends (news ++ others)) s0 s1 old mid) (take_all n firsts le)
      (subst (λ l. HasServedMore IsIntact IsOpen seen left (map ends (take n firsts)) (map ends l) s0 s1 old mid) (sym same) one)

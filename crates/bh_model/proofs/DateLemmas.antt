-- The dates of versions: their order, and what is told of them.
use Rattle.std.proofs.Common.{◌≡◌, ℕ, ◌<◌, ◌≤◌, nat_le, nat_lt, Bool, true, false, true≢false, cond, T, List, [], ◌∷◌, Option, Some, None, option_map, unwrap_or, Result, Ok, Err, refl, sym, ap, subst, ◌∙◌, arith, ok_or, Ordering, Less, Equal, Greater, is_eq, leb-true, ltb-true, eqb-true}
use Rattle.std.specs.List.{find}
use Rattle.std.specs.Result.{IfOk, result_map_both}
use Rattle.std.specs.Ordering.{ordering_then}
use Rattle.std.specs.Cmp.{IsTotalOrder, nat_cmp_total, then_total, on_total}
use Rattle.std.specs.FinMap.{FinMap, IsAntisymmetric, nat_cmp-IsAntisymmetric, get, insert, get-insert}
use Rattle.std.proofs.lemmas.Bool.Decides.{nat_tests}
use Rattle.std.proofs.lemmas.Cmp.{tied_itself}
use Rattle.std.proofs.lemmas.Option.{none-some, same_Some}
use Rattle.bh_types.specs.Outcomes.{◌>>=◌, require}
use Rattle.bh_types.specs.Rejections.{plainly, for_date}
use Rattle.bh_types.specs.declared.id.VersionId.{VersionId}
use Rattle.bh_types.specs.declared.id.VersionId.TheVariants.{Null, Numbered}
use Rattle.bh_types.specs.declared.refusal.Refusal.{Refusal}
use Rattle.bh_types.specs.declared.refusal.Refusal.TheVariants.{AccessDenied, InvalidArgument, MethodNotAllowed, NoSuchBucket}
use Rattle.bh_types.specs.declared.rejection.Rejection.{Rejection}
use Rattle.bh_types.specs.declared.wanted.Wanted.TheVariants.{Named}
use Rattle.bh_model.specs.Counting.{counts, with_counts, after_delete}
use Rattle.bh_model.specs.Entries.{Version, LookupFault, same_id, has_id, opened, found_named, lookup}
use Rattle.bh_model.specs.Operations.{Answer, Answer.Done, Answer.Retention, Outcome, listed, with_bucket, with_deleted, removed, not_found, found_version, get_retention}
use Rattle.bh_model.specs.Retention.{can_retain, date_of, named_date, may_go, with_date, may_retain}
use Rattle.bh_model.specs.RetentionLaws.{DatedVersionStays, PutDateIsTold}
use Rattle.bh_model.specs.State.{Octets, Content, Content.Marker, Content.Body, Entry, Bucket, State, version_cmp}
use Rattle.bh_model.proofs.KeyLemmas.{get-inserted}
use Rattle.bh_model.proofs.UsedLemmas.{octets_total, octets_same}

-- ---- versions by keys and numbers

pub version_total : IsTotalOrder version_cmp
version_total = then_total (on_total (λ (v : Octets × ℕ). v.0) octets_total) (on_total (λ (v : Octets × ℕ). v.1) nat_cmp_total)

both_tied : (o p : Ordering) → ordering_then o p ≡ Equal → (o ≡ Equal) × (p ≡ Equal)
both_tied Less p e = absurd (subst (λ r. T (is_eq r)) (sym e) tt)
both_tied Equal p e = (refl, e)
both_tied Greater p e = absurd (subst (λ r. T (is_eq r)) (sym e) tt)

pub version_same : IsAntisymmetric version_cmp
version_same x y e =
    let both = both_tied _ _ e in
    λ i. (octets_same x.0 y.0 both.0 i, nat_cmp-IsAntisymmetric x.1 y.1 both.1 i)

-- at the version whose date was put
pub get-dated : {X : Type 0} (m : FinMap version_cmp X) (v : Octets × ℕ) (x : X) → get (insert m v x) v ≡ Some x
get-dated m v x = get-insert version_total m v x v ∙ ap (λ o. cond (is_eq o) (Some x) (get m v)) (tied_itself version_total v)

-- ---- a delete before the date

refused : {X E : Type 0} (test : Bool) (e : E) (F : Unit {0} → Result X E) → test ≡ false → (require test e >>= F) ≡ Err e
refused test e F no_more = ap (λ b. cond b (Ok tt) (Err e) >>= F) no_more

pub dated_version_stays : DatedVersionStays
dated_version_stays moment name key id t b date there dated later =
    let early : may_go (Some date) moment ≡ false = grind (arith, nat_tests, later) in
    let deletes : State × Bucket → Unit {0} → Result Outcome Refusal = λ f _. after_delete f.1.mode (Named id) (counts f.0)
    >>= (λ c. Ok (removed f.1.mode (Named id) f.0.next_version (listed key f.1), Some (with_bucket name (with_deleted moment key (Named id) f.0.next_version f.1) (with_counts c f.0)))) in
    ap (λ o. ok_or (option_map (λ c. (t, c)) o) NoSuchBucket >>= (λ f. require (may_go (named_date key (Named id) f.1) moment) AccessDenied >>= deletes f)) there
    ∙ refused (may_go (date_of key id b) moment) AccessDenied (deletes (t, b)) (ap (λ d. may_go d moment) dated ∙ early)

-- ---- the version of a number

found_by : {X : Type 0} (p : X → Bool) (y x : X) (rest : Option X) → (rest ≡ Some x → p x ≡ true) → (b : Bool) → p y ≡ b → cond b (Some y) rest ≡ Some x → p x ≡ true
found_by p y x rest later true is h = subst (λ z. p z ≡ true) (same_Some y x h) is
found_by p y x rest later false is h = later h

pub find_has : {X : Type 0} (p : X → Bool) (xs : List X) (x : X) → find p xs ≡ Some x → p x ≡ true
find_has p [] x h = absurd (none-some x h)
find_has p (y ∷ ys) x h = found_by p y x (find p ys) (find_has p ys x) (p y) refl h

pub is_numbered : (n : ℕ) (id : VersionId) → same_id id (Numbered n) ≡ true → id ≡ Numbered n
is_numbered n Null h = absurd (true≢false (sym h))
is_numbered n (Numbered m) h = ap Numbered (eqb-true m n h)

opened_id : (e : Entry) (content : Content) (v : Version) → opened MethodNotAllowed e content ≡ Ok v → e.id ≡ v.id
opened_id e Marker v h = absurd (cc)
opened_id e (Body bytes checksum) v h =
    let Versions : Type 0 = Result Version LookupFault in
    let both : ◌≡◌ {A = Versions} (Ok (record { id = e.id; moment = e.moment; bytes = bytes; checksum = checksum })) (Ok v) = h in
    let same : record { id = e.id; moment = e.moment; bytes = bytes; checksum = checksum } ≡ v = cc in
    ap (λ (x : Version). x.id) same

found_id : (n : ℕ) (entries : List Entry) (v : Version) → lookup (Named (Numbered n)) entries ≡ Ok v → v.id ≡ Numbered n
found_id n entries v h = go (find (has_id (Numbered n)) entries) refl h
  where
    go : (o : Option Entry) → find (has_id (Numbered n)) entries ≡ o → found_named o ≡ Ok v → v.id ≡ Numbered n
    go None is h = absurd (cc)
    go (Some e) is h = sym (opened_id e e.content v h) ∙ is_numbered n e.id (find_has (has_id (Numbered n)) entries e is)

version_id : (n : ℕ) (key : Octets) (b : Bucket) (v : Version) → found_version key (Named (Numbered n)) b ≡ Ok v → v.id ≡ Numbered n
version_id n key b v h = go (lookup (Named (Numbered n)) (listed key b)) refl h
  where
    go : (r : Result Version LookupFault) → lookup (Named (Numbered n)) (listed key b) ≡ r → result_map_both (λ v. v) not_found r ≡ Ok v → v.id ≡ Numbered n
    go (Err fault) is h = absurd (cc)
    go (Ok w) is h =
        let Versions : Type 0 = Result Version Rejection in
        let both : ◌≡◌ {A = Versions} (Ok w) (Ok v) = h in
        let same : w ≡ v = cc in
        found_id n (listed key b) v (is ∙ ap Ok same)

-- ---- a date that was put

-- what lets it
pub lets : (locked : Bool) (present : Option ℕ) (date now : ℕ) → may_retain locked present (Some date) now ≡ Ok tt → (now < date) × (unwrap_or present 0 ≤ date)
lets false present date now h = absurd (cc)
lets true present date now h = first (nat_lt now date) refl h
  where
    second : (b : Bool) → nat_le (unwrap_or present 0) date ≡ b → require b AccessDenied ≡ Ok tt → unwrap_or present 0 ≤ date
    second true is h = leb-true _ _ is
    second false is h = absurd (cc)

    first : (b : Bool) → nat_lt now date ≡ b → (require b InvalidArgument >>= (λ _. require (nat_le (unwrap_or present 0) date) AccessDenied)) ≡ Ok tt → (now < date) × (unwrap_or present 0 ≤ date)
    first true is h = (ltb-true _ _ is, second (nat_le (unwrap_or present 0) date) refl h)
    first false is h = absurd (cc)

-- the date that is told
abbrev date_in_answer : Answer → Option ℕ
date_in_answer (Retention date) = date
date_in_answer answer = None

abbrev date_told : Result Outcome Rejection → Option ℕ
date_told (Ok outcome) = date_in_answer outcome.0
date_told (Err e) = None

module _ (moment : ℕ) (name key : Octets) (n date : ℕ) where
  abbrev asked : Option State → Result Outcome Rejection
  asked = get_retention name key (Named (Numbered n))

  abbrev IsTold : Option State → Outcome → Type 0
  IsTold s put = (asked put.1 ≡ Ok (Retention (Some date), put.1)) × (moment < date) × ((before : ℕ) → asked s ≡ Ok (Retention (Some before), s) → before ≤ date)

  -- what is asked of a tenant whose bucket this is
  abbrev shows : Option State → Result (Bucket × Version) Rejection → Result Outcome Rejection
  shows s r = ◌>>=◌ {A = Bucket × Version} {B = Outcome} (for_date r) (λ f. Ok (Retention (date_of key f.1.id f.0), s))

  abbrev told_of : State → Bucket → Result Version Rejection → Result Outcome Rejection
  told_of t b r = shows (Some t) (◌>>=◌ {B = Bucket × Version} r (λ v. Ok (b, v)))

  abbrev told_in : State → Option Bucket → Result Outcome Rejection
  told_in t o = shows (Some t) (◌>>=◌ {A = State × Bucket} {B = Bucket × Version} (plainly (ok_or (option_map (λ b. (t, b)) o) NoSuchBucket)) (λ g. ◌>>=◌ {B = Bucket × Version} (found_version key (Named (Numbered n)) g.1) (λ v. Ok (g.1, v))))

  tells : (t : State) (b : Bucket) (v : Version) → get t.buckets name ≡ Some b → found_version key (Named (Numbered n)) b ≡ Ok v → asked (Some t) ≡ Ok (Retention (date_of key v.id b), Some t)
  tells t b v there found = ap (told_in t) there ∙ ap (told_of t b) found

  retained : (t : State) (b : Bucket) (v : Version) → get t.buckets name ≡ Some b → found_version key (Named (Numbered n)) b ≡ Ok v → may_retain (can_retain b.locked v.id) (date_of key v.id b) (Some date) moment ≡ Ok tt
      → IsTold (Some t) (Done, Some (with_bucket name (with_date key v.id (Some date) b) t))
  retained t b v there found may =
      let c : Bucket = with_date key v.id (Some date) b in
      let id = version_id n key b v found in
      let dated : date_of key v.id c ≡ Some date = subst (λ w. date_of key w (with_date key w (Some date) b) ≡ Some date) (sym id) (get-dated b.dates (key, n) date) in
      let rules = lets (can_retain b.locked v.id) (date_of key v.id b) date moment may in (
        tells (with_bucket name c t) c v (get-inserted t.buckets name c) found ∙ ap (λ d. Ok (Retention d, Some (with_bucket name c t))) dated,
        rules.0,
        λ before was.
            let Told : Type 0 = Result Outcome Rejection in
            let both : ◌≡◌ {A = Told} (Ok (Retention (date_of key v.id b), Some t)) (Ok (Retention (Some before), Some t)) = sym (tells t b v there found) ∙ was in
            let same : date_of key v.id b ≡ Some before = ap date_told both in
            subst (λ d. unwrap_or d 0 ≤ date) same rules.1,
      )

  allowed : (t : State) (b : Bucket) (v : Version) → get t.buckets name ≡ Some b → found_version key (Named (Numbered n)) b ≡ Ok v
      → IfOk (plainly (may_retain (can_retain b.locked v.id) (date_of key v.id b) (Some date) moment) >>= (λ _. Ok (Done, Some (with_bucket name (with_date key v.id (Some date) b) t)))) (IsTold (Some t))
  allowed t b v there found = go (may_retain (can_retain b.locked v.id) (date_of key v.id b) (Some date) moment) refl
    where
      go : (r : Result (Unit {0}) Refusal) → may_retain (can_retain b.locked v.id) (date_of key v.id b) (Some date) moment ≡ r
          → IfOk (plainly r >>= (λ _. Ok (Done, Some (with_bucket name (with_date key v.id (Some date) b) t)))) (IsTold (Some t))
      go (Err e) is = tt
      go (Ok tt) is = retained t b v there found is

  in_bucket : (t : State) (b : Bucket) → get t.buckets name ≡ Some b
      → IfOk (for_date (found_version key (Named (Numbered n)) b) >>= (λ v. plainly (may_retain (can_retain b.locked v.id) (date_of key v.id b) (Some date) moment) >>= (λ _. Ok (Done, Some (with_bucket name (with_date key v.id (Some date) b) t))))) (IsTold (Some t))
  in_bucket t b there = go (found_version key (Named (Numbered n)) b) refl
    where
      go : (r : Result Version Rejection) → found_version key (Named (Numbered n)) b ≡ r
          → IfOk (for_date r >>= (λ v. plainly (may_retain (can_retain b.locked v.id) (date_of key v.id b) (Some date) moment) >>= (λ _. Ok (Done, Some (with_bucket name (with_date key v.id (Some date) b) t))))) (IsTold (Some t))
      go (Err e) is = tt
      go (Ok v) is = allowed t b v there is

  in_tenant : (t : State) (o : Option Bucket) → get t.buckets name ≡ o
      → IfOk (◌>>=◌ {A = State × Bucket} (plainly (ok_or (option_map (λ b. (t, b)) o) NoSuchBucket)) (λ f. for_date (found_version key (Named (Numbered n)) f.1) >>= (λ v. plainly (may_retain (can_retain f.1.locked v.id) (date_of key v.id f.1) (Some date) moment) >>= (λ _. Ok (Done, Some (with_bucket name (with_date key v.id (Some date) f.1) f.0)))))) (IsTold (Some t))
  in_tenant t None there = tt
  in_tenant t (Some b) there = in_bucket t b there

pub put_date_is_told : PutDateIsTold
put_date_is_told moment name key n date None = tt
put_date_is_told moment name key n date (Some t) = in_tenant moment name key n date t (get t.buckets name) refl

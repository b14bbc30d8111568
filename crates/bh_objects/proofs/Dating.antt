-- Dates of versions: what was read of a bucket's lock and of a version's date, and the first date of a version that was just made.
use Rattle.std.proofs.Common.{◌≡◌, ℕ, ◌≤◌, Bool, true, false, true≢false, is_ok, List, [], ◌∷◌, ◌++◌, find, Option, Some, None, option_map, Result, Ok, Err, refl, sym, ap, ◌∙◌, subst, arith}
use Rattle.std.specs.FinMap.{get}
use Rattle.std.specs.List.{AllByRecursion, list_any}
use Rattle.sqlite_keyed.proofs.ListLemmas.{all_weaker, filter_none}
use Rattle.sqlite_typed.specs.Tests.{bytes_eq}
use Rattle.bh_types.specs.Counts.{Counts}
use Rattle.bh_types.specs.declared.bucket_state.BucketState.{BucketState}
use Rattle.bh_types.specs.declared.bucket_state.BucketState.TheVariants.{Unversioned, Enabled, Suspended}
use Rattle.bh_types.specs.declared.id.VersionId.{VersionId}
use Rattle.bh_types.specs.declared.refusal.Refusal.{Refusal}
use Rattle.bh_model.specs.State.{Octets, Content.Body, State, Bucket}
use Rattle.bh_model.specs.Counting.{counts}
use Rattle.bh_model.specs.Entries.{new_id}
use Rattle.bh_model.specs.Operations.{with_bucket, with_new_date}
use Rattle.bh_model.specs.Retention.{first_date, dated}
use Rattle.bh_tables.specs.Typed.{VersionRow, RetainRow, Tables}
use Rattle.bh_tables.specs.Shown.{is_entry, is_lock, is_retain}
use Rattle.bh_view.specs.Becomes.{Becomes, KeepsShared}
use Rattle.bh_view.specs.Bodies.{HasBodies}
use Rattle.bh_view.specs.Grouped.{first, matching, same_number}
use Rattle.bh_view.specs.Put.{entry_row, row_number, rows_left}
use Rattle.bh_view.specs.Sound.{IsSound}
use Rattle.bh_view.specs.View.{rows_of, id_of, view}
use Rattle.bh_view.proofs.Keys.{octets, numbers}
use Rattle.bh_view.proofs.DatedLemmas.{seqs, dated_seq}
use Rattle.bh_view.proofs.DateChanges.{date_found, date_added}
use Rattle.bh_view.proofs.FactLemmas.{each_first}
use Rattle.bh_view.proofs.FilterLemmas.{none_some, filter_both}
use Rattle.bh_view.proofs.FindLemmas.{first_find}
use Rattle.bh_view.proofs.GroupedLemmas.{get_here, is_other}
use Rattle.bh_view.proofs.LockChanges.{lock_shown, locked_enabled}
use Rattle.bh_view.proofs.OwnLemmas.{rows_at, mine_pushed}
use Rattle.bh_view.proofs.PutLemmas.{bucket_again, numbered_id, older}
use Rattle.bh_storage.specs.Calls.{Decides}
use Rattle.bh_storage.specs.declared.error.StepError.{StepError}
use Rattle.bh_schema.specs.Rows.{until_in}
use Rattle.bh_objects.specs.Dates.{date_at, new_date_at, new_date_in, IsPlaced, with_date}
use Rattle.bh_objects.specs.Found.{counts_in, entry_numbers_in, mode_in, with_entry}
use Rattle.bh_objects.proofs.Putting.{HasBucket, has_bucket, has_numbers, numbers_read}
use Rattle.bh_objects.proofs.Written.{HasRowsOf}

abbrev version_tenant : VersionRow → Octets
version_tenant v = v.tenant

-- ---- what is read of a bucket

-- one that is there
pub mode_there : (r : Result BucketState Refusal) → is_ok r ≡ true → (mode : BucketState) × (r ≡ Ok mode)
mode_there (Ok mode) e = (mode, refl)
mode_there (Err x) e = absurd (true≢false (sym e))

-- whether it is locked
pub its_lock : (tables : Tables) (t b : Octets) (sound : IsSound tables) (mode : BucketState) (h : HasBucket b (view tables t) mode) → h.bucket.locked ≡ list_any (is_lock t b) tables.locks
its_lock tables t b sound mode h = lock_shown tables t h.state sound h.added b h.bucket h.there

-- the date that a new version gets in it
pub new_date_of : (b : Octets) (given : Option (Option ℕ)) (at : ℕ) (v : Option State) (mode : BucketState) (h : HasBucket b v mode) → new_date_in b given at v ≡ first_date h.bucket.locked given at
new_date_of b given at v mode h = rw (h.added, h.there) refl

module _ (tables : Tables) (t b : Octets) (sound : IsSound tables) (there : is_ok (mode_in b (view tables t)) ≡ true) (at : ℕ) where
  pub new_date_read : (given : Option (Option ℕ)) → new_date_in b given at (view tables t) ≡ new_date_at t b given at tables
  new_date_read given =
      let m = mode_there (mode_in b (view tables t)) there in
      let h = has_bucket b (view tables t) m.0 m.1 in
      new_date_of b given at (view tables t) m.0 h ∙ ap (λ l. first_date l given at) (its_lock tables t b sound m.0 h)

-- what was decided of the tables is decided of the tenant's state
pub decided_by : (middle new old : Tables) (t b : Octets) (at : ℕ) (given : Option (Option ℕ)) → middle ≡ old → new_date_in b given at (view old t) ≡ new_date_at t b given at old → (error : StepError Refusal)
    → Decides (λ (until : Option ℕ). until) (new_date_at t b given at middle) middle new (Err error) → Decides (λ (until : Option ℕ). until) (new_date_in b given at (view middle t)) middle new (Err error)
decided_by middle new old t b at given same read error d =
    let there : new_date_in b given at (view middle t) ≡ new_date_at t b given at middle = ap (λ (x : Tables). new_date_in b given at (view x t)) same ∙ read ∙ ap (new_date_at t b given at) (sym same) in
    subst (λ r. Decides (λ (until : Option ℕ). until) r middle new (Err error)) (sym there) d

abbrev date_or : Result (Option ℕ) Refusal → Option ℕ
date_or (Ok date) = date
date_or (Err x) = None

-- only in a locked bucket
pub dated_locked : (locked : Bool) (given : Option (Option ℕ)) (at until : ℕ) → first_date locked given at ≡ Ok (Some until) → locked ≡ true
dated_locked locked None at until e = absurd (none_some (ap date_or e))
dated_locked true (Some date) at until e = refl
dated_locked false (Some date) at until e = absurd (true≢false (sym (ap is_ok e)))

-- ---- a version that was just made

last_has : (P : VersionRow → Type 0) (l : List VersionRow) (v : VersionRow) → AllByRecursion P (l ++ v ∷ []) → P v
last_has P [] v all = all.0
last_has P (x ∷ l) v all = last_has P l v all.1

-- the last row is found by its entry number
last_found : (new : Tables) (l : List VersionRow) (v : VersionRow) → IsSound new → new.versions ≡ l ++ v ∷ [] → find (is_entry v.tenant v.seq) new.versions ≡ Some v
last_found new l v sound e =
    let t = v.tenant in
    let pushed : (rows_of t new).versions ≡ rows_at version_tenant t l ++ v ∷ [] = ap (rows_at version_tenant t) e ∙ mine_pushed version_tenant l v in
    let all : AllByRecursion (λ x. first (matching same_number seqs x.seq (rows_of t new).versions) ≡ Some x) (rows_at version_tenant t l ++ v ∷ []) =
    subst (AllByRecursion (λ x. first (matching same_number seqs x.seq (rows_of t new).versions) ≡ Some x)) pushed (each_first numbers seqs (rows_of t new).versions (sound.tenants t).versions.one_seq) in
    sym (first_find (is_entry t v.seq) new.versions) ∙ ap first (sym (filter_both (λ (x : VersionRow). bytes_eq x.tenant t) (λ x. same_number x.seq v.seq) new.versions))
    ∙ last_has (λ x. first (matching same_number seqs x.seq (rows_of t new).versions) ≡ Some x) (rows_at version_tenant t l) v all

-- no date names the next entry number
next_undated : (old : Tables) (t : Octets) (s : State) → IsSound old → view old t ≡ Some s → date_at t s.next_entry old ≡ None
next_undated old t s sound is =
    let mine = rows_of t old in
    let none : matching same_number seqs s.next_entry mine.versions ≡ [] = filter_none _ _ (all_weaker _ (λ x. same_number x.seq s.next_entry ≡ false) (λ x less. is_other numbers x.seq s.next_entry (λ e. absurd (omega (arith, less, e)))) _ (older old t s sound is)) in
    let rows : matching same_number dated_seq s.next_entry mine.retains ≡ [] = (sound.tenants t).retains.owned s.next_entry (ap first none) in
    ap (option_map until_in) (sym (first_find (is_retain t s.next_entry) old.retains) ∙ ap first (sym (filter_both (λ (r : RetainRow). bytes_eq r.tenant t) (λ r. same_number r.seq s.next_entry) old.retains) ∙ rows))

module _ (old new : Tables) (t b k : Octets) (s : State) (c : Counts) (sound : IsSound old) (is : view old t ≡ Some s) (same : counts s ≡ c) where
  pub placed : (mode : BucketState) (after : Counts) (at : ℕ) (bytes checksum : Octets) → IsSound new → HasRowsOf (with_entry mode c after t b k at (Body bytes checksum) old) new → IsPlaced t b k (row_number mode c.version) c.entry new
  placed mode after at bytes checksum good has =
      let row : VersionRow = entry_row t b k c.entry (row_number mode c.version) at (Body bytes checksum) in
      record {
        row = row;
        there = last_found new (rows_left mode t b k old.versions) row good (ap (λ (x : Tables). x.versions) has.is);
        seq = refl;
        bucket = refl;
        key = refl;
        id = refl;
        body = refl;
        undated = ap (λ l. option_map until_in (find (is_retain t c.entry) l)) (ap (λ (x : Tables). x.retains) has.is) ∙ subst (λ (x : Counts). date_at t x.entry old ≡ None) same (next_undated old t s sound is);
      }

-- of a version that was stored: where it is, and by which counters
module _ (old new : Tables) (t b k : Octets) (mode : BucketState) (c after : Counts) (size : ℕ) (sound : IsSound old) (found : mode_in b (view old t) ≡ Ok mode) (read : entry_numbers_in mode b k size (view old t) ≡ Ok (c, after)) where
  abbrev its : HasBucket b (view old t) mode
  its = has_bucket b (view old t) mode found

  its_counts : counts its.state ≡ c
  its_counts = (has_numbers (view old t) its.state mode c after its.added (numbers_read (view old t) b k mode its size (c, after) read)).0

  pub stored_counts : counts_in (view old t) ≡ Ok c
  stored_counts = ap counts_in its.added ∙ ap (λ x. Ok x) its_counts

  pub stored_placed : (at : ℕ) (bytes checksum : Octets) → IsSound new → HasRowsOf (with_entry mode c after t b k at (Body bytes checksum) old) new → IsPlaced t b k (row_number mode c.version) c.entry new
  stored_placed = placed old new t b k its.state c sound its.added its_counts mode after

-- ---- its first date

-- where the tables differ in dates alone
pub dates_alone : (t : Octets) (seq : ℕ) (until : Option ℕ) (middle new : Tables) → new ≡ with_date t seq None until middle → new ≡ record middle { retains = new.retains }
dates_alone t seq None middle new e = e ∙ ap (λ l. record middle { retains = l }) (sym (ap (λ (x : Tables). x.retains) e))
dates_alone t seq (Some until) middle new e = e ∙ ap (λ l. record middle { retains = l }) (sym (ap (λ (x : Tables). x.retains) e))

module _ (middle new : Tables) (e : new ≡ record middle { retains = new.retains }) where
  pub same_blocks : new.blocks ≡ middle.blocks
  same_blocks = ap (λ (x : Tables). x.blocks) e

  pub same_shared : (old : Tables) → KeepsShared old middle → KeepsShared old new
  same_shared old was = subst (KeepsShared old) (sym e) (record { added = was.added; grown = was.grown; named = was.named })

  pub same_bodies : HasBodies middle → HasBodies new
  same_bodies was = subst HasBodies (sym e) was

-- nothing changes
stays_so : (t : Octets) (v : Option State) (middle new : Tables) → IsSound middle → view middle t ≡ v → new ≡ middle → Becomes t v middle new
stays_so t v middle new sound is e = subst (Becomes t v middle) (sym e) (record { shown = is; others = λ u apart. refl; latest = refl; limits = refl; sound = sound })

-- the id of a new version is that of its number
id_new : (mode : BucketState) (next : ℕ) → 1 ≤ next → id_of (row_number mode next) ≡ new_id mode next
id_new Unversioned next low = refl
id_new Enabled next low = numbered_id next low
id_new Suspended next low = refl

-- what a date of a version has to keep to
abbrev pub MayHave : Bucket → Option ℕ → Type 0
MayHave B until = (n : ℕ) → until ≡ Some n → (n ≤ 251_000_000_000) × (B.locked ≡ true)

module _ (middle new : Tables) (t b k : Octets) (s : State) (B : Bucket) (sound : IsSound middle) (is : view middle t ≡ Some (with_bucket b B s)) (next seq : ℕ) (low : 1 ≤ next) (mode : BucketState) (its : B.mode ≡ mode)
    (place : IsPlaced t b k (row_number mode next) seq middle) where
  abbrev with_it : VersionId → ℕ → State
  with_it id until = with_bucket b (record B { dates = dated k id until B.dates }) s

  row_dated : (until : ℕ) → until ≤ 251_000_000_000 → B.locked ≡ true → new ≡ with_date t seq None (Some until) middle → Becomes t (Some (with_it (new_id B.mode next) until)) middle new
  row_dated until near locked e =
      let s1 = with_bucket b B s in
      let v : VersionRow = place.row in
      let here : get s1.buckets b ≡ Some B = get_here octets s.buckets b (Some B) in
      let enabled : mode ≡ Enabled = sym its ∙ locked_enabled middle t s1 sound is b B here locked in
      let numbered : 1 ≤ v.id = subst (λ n. 1 ≤ n) (sym place.id) (subst (λ m. 1 ≤ row_number m next) (sym enabled) low) in
      let change = date_added middle new t s1 sound is v place.there B (subst (λ q. get s1.buckets q ≡ Some B) (sym place.bucket) here) until near numbered place.body locked
      (date_found middle t sound v place.there ∙ place.undated) (e ∙ ap (λ n. with_date t n None (Some until) middle) (sym place.seq)) in
      subst (λ (x : State). Becomes t (Some x) middle new)
      ((λ i. with_bucket (place.bucket i) (record B { dates = dated (place.key i) (id_of (place.id i)) until B.dates }) s1)
      ∙ bucket_again b B _ s ∙ ap (λ id. with_it id until) (id_new mode next low ∙ ap (λ m. new_id m next) (sym its)))
      change

  -- the machine's state with the date that was decided
  pub first_dated : (until : Option ℕ) → MayHave B until → new ≡ with_date t seq None until middle → Becomes t (Some (with_bucket b (with_new_date k next until B) s)) middle new
  first_dated None may e = stays_so t _ middle new sound is e
  first_dated (Some until) may e = row_dated until (may until refl).0 (may until refl).1 e

-- Rows of `uploads` added or taken out: a bucket with an upload more that has no part, or without one and its parts.
use Rattle.std.proofs.Common.{◌≡◌, ◌≢◌, ℕ, ◌+◌, ◌^◌, ◌≤◌, ◌<◌, Bool, true, false, arith, leb-true, IsTrue, List, [], ◌∷◌, ◌++◌, Some, None, option_map, refl, sym, ap, ◌∙◌, subst}
use Rattle.std.specs.List.{AllByRecursion}
use Rattle.std.specs.Str.{IsUtf8}
use Rattle.std.specs.FinMap.{get, insert}
use Rattle.sqlite_keyed.specs.Lists.{update_where, delete_where}
use Rattle.sqlite_keyed.proofs.ListLemmas.{all_weaker, all_both, all-filter, filter_none}
use Rattle.sqlite_typed.specs.Tests.{bytes_eq}
use Rattle.bh_model.specs.FinMaps.{set_at}
use Rattle.bh_model.specs.State.{Octets, Bucket, State}
use Rattle.bh_types.specs.Names.{is_object_key}
use Rattle.bh_model.specs.Counting.{can_give}
use Rattle.bh_model.specs.Operations.{with_bucket}
use Rattle.bh_model.specs.Uploads.{new_upload, with_upload, without_upload}
use Rattle.bh_tables.specs.Typed.{TenantRow, BucketRow, UploadRow, PartRow, Tables}
use Rattle.bh_tables.specs.Shown.{is_tenant, is_upload, is_part_of}
use Rattle.bh_view.specs.Grouped.{first, same_number, grouped}
use Rattle.bh_view.specs.View.{named, rows_of, uploads_in, of_upload, parts_of, upload_shown, buckets_of, view, latest_of}
use Rattle.bh_view.specs.Sound.{IsUploadRow, AreUploads, AreParts, IsSound}
use Rattle.bh_view.specs.Becomes.{Becomes}
use Rattle.bh_view.proofs.Keys.{octets, numbers}
use Rattle.bh_view.proofs.FilterLemmas.{none_some, push_here, push_other, delete_other, delete_all, filter_swap}
use Rattle.bh_view.proofs.GroupedLemmas.{is_itself, is_other}
use Rattle.bh_view.proofs.FactLemmas.{all_pushed, unique_pushed, unique_deleted, refers_pushed, refers_deleted, refers_grown, refers_left}
use Rattle.bh_view.proofs.OwnLemmas.{rows_at, others_pushed, others_deleted, mine_pushed, mine_deleted, within_own}
use Rattle.bh_view.proofs.ViewLemmas.{view_is, own_row, own_rows, becomes, becomes_then, buckets_shown}
use Rattle.bh_view.proofs.TenantChanges.{tenant_updated}
use Rattle.bh_view.proofs.BucketLemmas.{bucket_row}
use Rattle.bh_view.proofs.UploadLemmas.{at_number, uploads_changed, upload_elsewhere}
use Rattle.bh_view.proofs.PartLemmas.{parts_left}
use Rattle.std.proofs.lemmas.Bool.{and_parts}

abbrev own : UploadRow → Octets
own u = u.tenant

-- ---- sound rows stay sound

module _ (latest : ℕ) (tenants : List TenantRow) (buckets : List BucketRow) (uploads : List UploadRow) (all : AreUploads latest tenants buckets uploads) where
  pub uploads_left : (test : UploadRow → Bool) → AreUploads latest tenants buckets (delete_where test uploads)
  uploads_left test = record {
    each = all-filter _ _ uploads all.each;
    one = unique_deleted numbers (λ (u : UploadRow). u.upload) uploads test all.one;
    owned = refers_deleted octets (λ (r : BucketRow). r.bucket) (λ (u : UploadRow). u.bucket) buckets uploads test all.owned;
    given = all_weaker _ _ (λ r below. all-filter (λ (u : UploadRow). u.upload < r.next_upload) _ uploads below) tenants all.given;
  }

  uploads_more : (u : UploadRow) → IsUploadRow latest u → at_number u.upload uploads ≡ [] → (first (named u.bucket buckets) ≡ None → ⊥) → AllByRecursion (λ (r : TenantRow). u.upload < r.next_upload) tenants → AreUploads latest tenants buckets (uploads ++ u ∷ [])
  uploads_more u good fresh has below = record {
    each = all_pushed _ uploads u all.each good;
    one = unique_pushed numbers (λ (u : UploadRow). u.upload) uploads u all.one fresh;
    owned = refers_pushed octets (λ (r : BucketRow). r.bucket) (λ (u : UploadRow). u.bucket) buckets uploads u all.owned has;
    given = all_both _ (λ (r : TenantRow). u.upload < r.next_upload) _ (λ r before it. all_pushed (λ (x : UploadRow). x.upload < r.next_upload) uploads u before it) tenants all.given below;
  }

-- a number that no upload has is that of none in a bucket
no_uploads : (n : ℕ) (q : Octets) (uploads : List UploadRow) → at_number n uploads ≡ [] → at_number n (uploads_in q uploads) ≡ []
no_uploads n q uploads none = filter_swap (λ (u : UploadRow). same_number u.upload n) (λ u. bytes_eq u.bucket q) uploads ∙ ap (uploads_in q) none

-- ---- the statements

module _ (old new : Tables) (t : Octets) (s : State) (sound : IsSound old) (is : view old t ≡ Some s) where
  -- the uploads of one tenant's bucket change, or their parts
  pub uploads_become : (b : Octets) (B : Bucket) (uploads mine : List UploadRow) (parts left : List PartRow) → ((u : Octets) → u ≢ t → rows_at own u uploads ≡ rows_at own u old.uploads) → rows_at own t uploads ≡ mine
      → ((u : Octets) → u ≢ t → rows_at (λ (p : PartRow). p.tenant) u parts ≡ rows_at (λ (p : PartRow). p.tenant) u old.parts) → rows_at (λ (p : PartRow). p.tenant) t parts ≡ left
      → buckets_of (record (rows_of t old) { uploads = mine; parts = left }) ≡ insert (buckets_of (rows_of t old)) b B
      → AreUploads (latest_of old) (rows_of t old).tenants (rows_of t old).buckets mine → AreParts (latest_of old) (rows_of t old).tenants (rows_of t old).versions mine left
      → new ≡ record old { uploads = uploads; parts = parts } → Becomes t (Some (with_bucket b B s)) old new
  uploads_become b B uploads mine parts left others here part_others parts_here shows good fit e =
      let all = sound.tenants t in
      let after : Tables = record old { uploads = uploads; parts = parts } in
      let both : rows_of t after ≡ record (rows_of t old) { uploads = mine; parts = left } = λ i. record (rows_of t old) { uploads = here i; parts = parts_here i } in
      subst (Becomes t (Some (with_bucket b B s)) old) (sym e)
      (becomes t _ old after sound refl refl refl (λ u apart i. record (rows_of u old) { uploads = others u apart i; parts = part_others u apart i })
      (buckets_shown (rows_of t old) s (sym (view_is old t) ∙ is) (rows_of t after) (λ m. insert m b B) refl refl (ap buckets_of both ∙ shows))
      (record {
        tenants = all.tenants;
        keys = all.keys;
        buckets = all.buckets;
        versions = all.versions;
        uploads = subst (AreUploads (latest_of old) (rows_of t old).tenants (rows_of t old).buckets) (sym here) good;
        parts = subst (λ (l : List UploadRow). AreParts (latest_of old) (rows_of t old).tenants (rows_of t old).versions l (rows_at (λ (p : PartRow). p.tenant) t parts)) (sym here)
            (subst (AreParts (latest_of old) (rows_of t old).tenants (rows_of t old).versions mine) (sym parts_here) fit);
        locks = all.locks;
        retains = all.retains;
      }))

  module _ (b : Octets) (B : Bucket) (at : get s.buckets b ≡ Some B) where
    pub there_before : get (buckets_of (rows_of t old)) b ≡ Some B
    there_before = ap (λ (x : State). get x.buckets b) (own_row old t s is).2 ∙ at

    -- an upload of a new number
    pub upload_added : (u : UploadRow) → u.tenant ≡ t → u.bucket ≡ b → IsUploadRow (latest_of old) u → u.upload < s.next_upload → at_number u.upload (rows_of t old).uploads ≡ []
        → new ≡ record old { uploads = old.uploads ++ u ∷ [] } → Becomes t (Some (with_bucket b (with_upload u.upload (new_upload u.okey u.begun) B) s)) old new
    unfolding grouped
    upload_added u its bucket good low fresh e =
        let mine = rows_of t old in
        let all = sound.tenants t in
        let more : List UploadRow = mine.uploads ++ u ∷ [] in
        let row = bucket_row mine b B there_before in
        let childless : of_upload u.upload mine.parts ≡ [] = all.parts.owned u.upload (ap first fresh) in
        let in_it : at_number u.upload (uploads_in b more) ≡ u ∷ [] =
        ap (at_number u.upload) (push_here (λ (x : UploadRow). bytes_eq x.bucket b) mine.uploads u (ap (λ z. bytes_eq z b) bucket ∙ is_itself octets b))
        ∙ push_here (λ (x : UploadRow). same_number x.upload u.upload) (uploads_in b mine.uploads) u (is_itself numbers u.upload) ∙ ap (λ l. l ++ u ∷ []) (no_uploads u.upload b mine.uploads fresh) in
        uploads_become b _ (old.uploads ++ u ∷ []) more old.parts mine.parts
        (λ w apart. others_pushed own old.uploads u w (λ same. apart (same ∙ its))) (subst (λ z. rows_at own z (old.uploads ++ u ∷ []) ≡ rows_at own z old.uploads ++ u ∷ []) its (mine_pushed own old.uploads u)) (λ w apart. refl) refl
        (uploads_changed mine u.upload more mine.parts (λ m apart. push_other (λ (x : UploadRow). same_number x.upload m) mine.uploads u (is_other numbers u.upload m apart)) (λ m apart. refl) b B there_before
        (λ q apart. (
          ap (at_number u.upload) (push_other (λ (x : UploadRow). bytes_eq x.bucket q) mine.uploads u (ap (λ z. bytes_eq z q) bucket ∙ is_other octets b q apart)) ∙ no_uploads u.upload q mine.uploads fresh,
          no_uploads u.upload q mine.uploads fresh,
        ))
        ∙ λ i. insert (buckets_of mine) b (record B { uploads = set_at B.uploads u.upload (option_map (λ (x : UploadRow). record { key = x.okey; begun = x.begun; parts = parts_of (childless i) }) (first (in_it i))) }))
        (uploads_more (latest_of old) mine.tenants mine.buckets mine.uploads all.uploads u good fresh (λ none. none_some (sym none ∙ ap (λ z. first (named z mine.buckets)) bucket ∙ row.1))
        (subst (AllByRecursion (λ (r : TenantRow). u.upload < r.next_upload)) (sym (own_rows old t s sound is)) (subst (λ (x : State). u.upload < x.next_upload) (sym (own_row old t s is).2) low, tt)))
        (record { each = all.parts.each; one = all.parts.one; one_body = all.parts.one_body; apart = all.parts.apart; owned = refers_grown numbers (λ (x : UploadRow). x.upload) (λ (p : PartRow). p.upload) mine.uploads mine.parts u all.parts.owned; given = all.parts.given })
        e

    -- an upload goes with its parts
    pub upload_closed : (n : ℕ) (U : _) → get B.uploads n ≡ Some U → new ≡ record old { uploads = delete_where (is_upload t n) old.uploads; parts = delete_where (is_part_of t n) old.parts }
        → Becomes t (Some (with_bucket b (without_upload n B) s)) old new
    upload_closed n U there e =
        let mine = rows_of t old in
        let all = sound.tenants t in
        let is_it = λ (u : UploadRow). same_number u.upload n in
        let is_its = λ (p : PartRow). same_number p.upload n in
        let fewer = delete_where is_it mine.uploads in
        let left = delete_where is_its mine.parts in
        let gone : (q : Octets) → at_number n (uploads_in q fewer) ≡ [] = λ q. no_uploads n q fewer (delete_all is_it mine.uploads) in
        uploads_become b _ (delete_where (is_upload t n) old.uploads) fewer (delete_where (is_part_of t n) old.parts) left
        (others_deleted own t (is_upload t n) (λ u h. within_own own t u (and_parts _ _ h).0) old.uploads) (mine_deleted own t is_it old.uploads)
        (others_deleted (λ (p : PartRow). p.tenant) t (is_part_of t n) (λ p h. within_own (λ (p : PartRow). p.tenant) t p (and_parts _ _ h).0) old.parts) (mine_deleted (λ (p : PartRow). p.tenant) t is_its old.parts)
        (uploads_changed mine n fewer left (λ m apart. delete_other (λ (u : UploadRow). same_number u.upload m) is_it mine.uploads (λ x here. is_other numbers x.upload n (λ same. apart (sym same ∙ (numbers.decides x.upload m).0 here))))
        (λ m apart. delete_other (λ (p : PartRow). same_number p.upload m) is_its mine.parts (λ x here. is_other numbers x.upload n (λ same. apart (sym same ∙ (numbers.decides x.upload m).0 here)))) b B there_before
        (λ q apart. (gone q, upload_elsewhere mine b B there_before n U there all.uploads.one q apart))
        ∙ ap (λ l. insert (buckets_of mine) b (record B { uploads = set_at B.uploads n (option_map (upload_shown left n) (first l)) })) (gone b))
        (uploads_left (latest_of old) mine.tenants mine.buckets mine.uploads all.uploads is_it)
        (let fit = parts_left (latest_of old) mine.tenants mine.versions mine.uploads mine.parts all.parts is_its in
        record { each = fit.each; one = fit.one; one_body = fit.one_body; apart = fit.apart; owned = refers_left numbers (λ (u : UploadRow). u.upload) (λ (p : PartRow). p.upload) mine.uploads left n fit.owned (delete_all is_its mine.parts); given = fit.given })
        e

-- ---- an upload is begun

-- the number of the next upload alone, which does not go back
pub next_upload_set : (old new : Tables) (t : Octets) (s : State) → IsSound old → view old t ≡ Some s → (n : ℕ) → s.next_upload ≤ n → n ≤ 2 ^ 62
    → new ≡ record old { tenants = update_where (is_tenant t) (λ r. record r { next_upload = n }) old.tenants } → Becomes t (Some (record s { next_upload = n })) old new
next_upload_set old new t s sound is n up high = tenant_updated old new t s sound is (λ r. record r { next_upload = n }) (λ (x : State). record x { next_upload = n }) (λ r. refl) (λ r. refl)
    (λ r fine shows. let more : r.next_upload ≤ n = subst (λ (x : State). x.next_upload ≤ n) (sym shows) up in
    (record { name = fine.name; quota = fine.quota; counters = (fine.counters.0, (omega (arith, fine.counters.1.0, more), high), fine.counters.2) }, (omega arith, more, omega arith)))

-- no upload has the next upload number
pub uploads_below : (tables : Tables) (t : Octets) (s : State) → IsSound tables → view tables t ≡ Some s → AllByRecursion (λ (u : UploadRow). u.upload < s.next_upload) (rows_of t tables).uploads
uploads_below tables t s sound is =
    let row = own_row tables t s is in
    subst (λ (x : State). AllByRecursion (λ (u : UploadRow). u.upload < x.next_upload) (rows_of t tables).uploads) row.2
    (subst (AllByRecursion (λ (r : TenantRow). AllByRecursion (λ (u : UploadRow). u.upload < r.next_upload) (rows_of t tables).uploads)) (own_rows tables t s sound is) (sound.tenants t).uploads.given).0

pub upload_begun : (old new : Tables) (t : Octets) (s : State) → IsSound old → view old t ≡ Some s → (b : Octets) (B : Bucket) → get s.buckets b ≡ Some B → (k : Octets) (moment : ℕ) → IsTrue (is_object_key k) → IsUtf8 k → moment ≤ latest_of old → can_give s.next_upload ≡ true
    → new ≡ record old { tenants = update_where (is_tenant t) (λ r. record r { next_upload = s.next_upload + 1 }) old.tenants; uploads = old.uploads ++ record { tenant = t; upload = s.next_upload; bucket = b; okey = k; begun = moment } ∷ [] }
    → Becomes t (Some (with_bucket b (with_upload s.next_upload (new_upload k moment) B) (record s { next_upload = s.next_upload + 1 }))) old new
upload_begun old new t s sound is b B at k moment good text early room e =
    let one : Tables = record old { tenants = update_where (is_tenant t) (λ r. record r { next_upload = s.next_upload + 1 }) old.tenants } in
    let s1 : State = record s { next_upload = s.next_upload + 1 } in
    let first = next_upload_set old one t s sound is (s.next_upload + 1) (omega arith) (omega (arith, leb-true _ _ room)) refl in
    let second = upload_added one new t s1 first.sound first.shown b B at (record { tenant = t; upload = s.next_upload; bucket = b; okey = k; begun = moment }) refl refl
    (record { key = good; text = text; begun = subst (λ m. moment ≤ m) (sym first.latest) early }) (omega arith)
    (filter_none _ _ (all_weaker _ (λ (u : UploadRow). same_number u.upload s.next_upload ≡ false) (λ u less. is_other numbers u.upload s.next_upload (λ same. absurd (omega (arith, less, same)))) _ (uploads_below old t s sound is))) e in
    becomes_then t _ _ old one new first second

-- Rows of `parts` added or taken out: an upload with a part in place of one of its number.
use Rattle.std.proofs.Common.{◌≡◌, ◌≢◌, ℕ, ◌+◌, ◌≤◌, ◌<◌, ◌&&◌, true, false, leb-true, List, [], ◌∷◌, ◌++◌, Some, None, option_map, refl, sym, ap, ◌∙◌, subst, arith}
use Rattle.std.specs.List.{AllByRecursion, list_any}
use Rattle.std.specs.Ordering.{nat_cmp}
use Rattle.std.specs.FinMap.{FinMap, get, insert, remove}
use Rattle.std.proofs.lemmas.Bool.{and_parts}
use Rattle.sqlite_keyed.specs.Lists.{update_where, delete_where}
use Rattle.sqlite_keyed.proofs.ListLemmas.{all_weaker, all-filter, filter_none, any_from_none}
use Rattle.bh_model.specs.FinMaps.{set_at}
use Rattle.bh_model.specs.State.{Octets, Part, Upload, Bucket, State}
use Rattle.bh_model.specs.Counting.{can_give}
use Rattle.bh_model.specs.Operations.{with_bucket}
use Rattle.bh_model.specs.Uploads.{with_upload, with_part}
use Rattle.bh_tables.specs.Typed.{TenantRow, VersionRow, PartRow, Tables}
use Rattle.bh_tables.specs.Shown.{is_tenant, is_part}
use Rattle.bh_view.specs.Grouped.{first, same_number}
use Rattle.bh_view.specs.View.{rows_of, uploads_in, of_upload, part_shown, parts_of, upload_shown, buckets_of, view, latest_of}
use Rattle.bh_view.specs.Sound.{IsPartRow, AreParts, IsSound}
use Rattle.bh_view.specs.Becomes.{Becomes}
use Rattle.bh_view.specs.Put.{part_row}
use Rattle.bh_view.proofs.Keys.{octets, numbers}
use Rattle.bh_view.proofs.FilterLemmas.{none_some, push_here, push_other, delete_other, delete_mine, delete_all}
use Rattle.bh_view.proofs.GroupedLemmas.{keyed_pushed, keyed_deleted, get_here, set_at_again, is_other}
use Rattle.bh_view.proofs.OwnLemmas.{rows_at, others_pushed, others_deleted, mine_pushed, mine_deleted, within_own}
use Rattle.bh_view.proofs.ViewLemmas.{own_row, own_rows, becomes_then}
use Rattle.bh_view.proofs.UploadLemmas.{at_number, uploads_changed, upload_row, upload_alone, upload_elsewhere}
use Rattle.bh_view.proofs.PartLemmas.{at_part, at_body, parts_left, parts_more}
use Rattle.bh_view.proofs.UploadChanges.{uploads_become, there_before}
use Rattle.bh_view.proofs.TenantChanges.{next_entry_set}
use Rattle.bh_view.proofs.PutLemmas.{older, parts_older, bucket_again}

abbrev own : PartRow → Octets
own p = p.tenant

module _ (old new : Tables) (t : Octets) (s : State) (sound : IsSound old) (is : view old t ≡ Some s) (b : Octets) (B : Bucket) (at : get s.buckets b ≡ Some B) (n : ℕ) (U : Upload) (there : get B.uploads n ≡ Some U) where
  abbrev mine : List PartRow
  mine = (rows_of t old).parts

  -- the parts of one upload change
  parts_become : (parts left : List PartRow) (change : FinMap nat_cmp Part → FinMap nat_cmp Part) → ((u : Octets) → u ≢ t → rows_at own u parts ≡ rows_at own u old.parts) → rows_at own t parts ≡ left
      → ((m : ℕ) → n ≢ m → of_upload m left ≡ of_upload m mine) → parts_of (of_upload n left) ≡ change (parts_of (of_upload n mine)) → AreParts (latest_of old) (rows_of t old).tenants (rows_of t old).versions (rows_of t old).uploads left
      → new ≡ record old { parts = parts } → Becomes t (Some (with_bucket b (with_upload n (record U { parts = change U.parts }) B) s)) old new
  parts_become parts left change others here same shows fit e =
      let rows = rows_of t old in
      let all = sound.tenants t in
      let bucket = there_before old new t s sound is b B at in
      let row = upload_row rows b B bucket n U there in
      let away = upload_elsewhere rows b B bucket n U there all.uploads.one in
      let shown : option_map (upload_shown left n) (first (at_number n (uploads_in b rows.uploads))) ≡ Some (record U { parts = change U.parts }) =
      ap (option_map (upload_shown left n)) row.1 ∙ (λ i. Some (record (upload_shown mine n row.0) { parts = shows i })) ∙ ap (λ (x : Upload). Some (record x { parts = change x.parts })) row.2 in
      uploads_become old new t s sound is b _ old.uploads rows.uploads parts left (λ u apart. refl) refl others here
      (uploads_changed rows n rows.uploads left (λ m apart. refl) same b B bucket (λ q apart. (away q apart, away q apart)) ∙ ap (λ o. insert (buckets_of rows) b (record B { uploads = set_at B.uploads n o })) shown)
      all.uploads fit e

  -- the part of a number goes, if it is there
  pub part_removed : (k : ℕ) → new ≡ record old { parts = delete_where (is_part t n k) old.parts } → Becomes t (Some (with_bucket b (with_upload n (record U { parts = remove U.parts k }) B) s)) old new
  part_removed k =
      let all = (sound.tenants t).parts in
      let test = λ (p : PartRow). same_number p.upload n && same_number p.part k in
      parts_become _ (delete_where test mine) (λ m. remove m k)
      (others_deleted own t (is_part t n k) (λ p h. within_own own t p (and_parts _ _ h).0) old.parts) (mine_deleted own t test old.parts)
      (λ m apart. delete_other (λ (p : PartRow). same_number p.upload m) test mine (λ x here. ap (λ c. c && same_number x.part k) (is_other numbers x.upload n (λ same. apart (sym same ∙ (numbers.decides x.upload m).0 here)))))
      (ap parts_of (delete_mine (λ (p : PartRow). same_number p.upload n) (λ p. same_number p.part k) mine) ∙ keyed_deleted numbers (λ (p : PartRow). p.part) (λ _ p. part_shown p) (of_upload n mine) k)
      (parts_left (latest_of old) (rows_of t old).tenants (rows_of t old).versions (rows_of t old).uploads mine all test)

  -- a part of a number and of a body that are new
  pub part_added : (p : PartRow) → p.tenant ≡ t → p.upload ≡ n → IsPartRow (latest_of old) p → at_part p.part (of_upload n mine) ≡ [] → at_body p.body mine ≡ [] → list_any (λ (v : VersionRow). same_number v.seq p.body) (rows_of t old).versions ≡ false
      → p.body < s.next_entry → new ≡ record old { parts = old.parts ++ p ∷ [] } → Becomes t (Some (with_bucket b (with_upload n (record U { parts = insert U.parts p.part (part_shown p) }) B) s)) old new
  part_added p its of_it good fresh unshared apart low =
      let rows = rows_of t old in
      let all = sound.tenants t in
      let bucket = there_before old new t s sound is b B at in
      parts_become _ (mine ++ p ∷ []) (λ m. insert m p.part (part_shown p))
      (λ w other. others_pushed own old.parts p w (λ same. other (same ∙ its))) (subst (λ z. rows_at own z (old.parts ++ p ∷ []) ≡ rows_at own z old.parts ++ p ∷ []) its (mine_pushed own old.parts p))
      (λ m other. push_other (λ (x : PartRow). same_number x.upload m) mine p (is_other numbers p.upload m (λ same. other (sym of_it ∙ same))))
      (ap parts_of (push_here (λ (x : PartRow). same_number x.upload n) mine p ((numbers.decides p.upload n).1 of_it)) ∙ keyed_pushed numbers (λ (x : PartRow). x.part) (λ _ x. part_shown x) (of_upload n mine) p fresh)
      (parts_more (latest_of old) rows.tenants rows.versions rows.uploads mine all.parts p good (subst (λ z. at_part p.part (of_upload z mine) ≡ []) (sym of_it) fresh) unshared apart
      (λ none. none_some (sym none ∙ ap (λ z. first (at_number z rows.uploads)) of_it ∙ ap first (upload_alone rows b B bucket n U there all.uploads.one)))
      (subst (AllByRecursion (λ (r : TenantRow). p.body < r.next_entry)) (sym (own_rows old t s sound is)) (subst (λ (x : State). p.body < x.next_entry) (sym (own_row old t s is).2) low, tt)))

-- ---- a part is put

pub part_put : (old new : Tables) (t : Octets) (s : State) → IsSound old → view old t ≡ Some s → (b : Octets) (B : Bucket) → get s.buckets b ≡ Some B → (n : ℕ) (U : Upload) → get B.uploads n ≡ Some U
    → (k : ℕ) (bytes : Octets) (moment : ℕ) → 1 ≤ k → k ≤ 10000 → moment ≤ latest_of old → can_give s.next_entry ≡ true
    → new ≡ record old { tenants = update_where (is_tenant t) (λ r. record r { next_entry = s.next_entry + 1 }) old.tenants; parts = delete_where (is_part t n k) old.parts ++ part_row t n k bytes moment s.next_entry ∷ [] }
    → Becomes t (Some (with_bucket b (with_upload n (with_part k (record { bytes = bytes; moment = moment }) U) B) (record s { next_entry = s.next_entry + 1 }))) old new
part_put old new t s sound is b B at n U there k bytes moment low high early room e =
    let one : Tables = record old { tenants = update_where (is_tenant t) (λ r. record r { next_entry = s.next_entry + 1 }) old.tenants } in
    let two : Tables = record one { parts = delete_where (is_part t n k) old.parts } in
    let p = part_row t n k bytes moment s.next_entry in
    let s1 : State = record s { next_entry = s.next_entry + 1 } in
    let U1 : Upload = record U { parts = remove U.parts k } in
    let B1 : Bucket = with_upload n U1 B in
    let U2 : Upload = record U1 { parts = insert U1.parts k (part_shown p) } in
    let test = λ (x : PartRow). same_number x.upload n && same_number x.part k in
    let first = next_entry_set old one t s sound is (s.next_entry + 1) (omega arith) (omega (arith, leb-true _ _ room)) refl in
    let second = part_removed one two t s1 first.sound first.shown b B at n U there k refl in
    let latest = second.latest ∙ first.latest in
    let mine = (rows_of t old).parts in
    let left : (rows_of t two).parts ≡ delete_where test mine = mine_deleted own t test old.parts in
    let none_here : at_part k (of_upload n (delete_where test mine)) ≡ [] = ap (at_part k) (delete_mine (λ (x : PartRow). same_number x.upload n) (λ x. same_number x.part k) mine) ∙ delete_all (λ (x : PartRow). same_number x.part k) (of_upload n mine) in
    let none_shared : at_body s.next_entry (delete_where test mine) ≡ [] =
    filter_none _ _ (all-filter _ _ mine (all_weaker _ (λ (x : PartRow). same_number x.body s.next_entry ≡ false) (λ x less. is_other numbers x.body s.next_entry (λ same. absurd (omega (arith, less, same)))) mine (parts_older old t s sound is))) in
    let third = part_added two new t (with_bucket b B1 s1) second.sound second.shown b B1 (get_here octets s.buckets b (Some B1)) n U1 (get_here numbers B.uploads n (Some U1)) p refl refl
    (record { least = low; most = high; stamp = subst (λ m. moment ≤ m) (sym latest) early; size = refl; checksum = refl })
    (ap (λ l. at_part k (of_upload n l)) left ∙ none_here) (ap (at_body s.next_entry) left ∙ none_shared)
    (any_from_none _ _ (all_weaker _ (λ (v : VersionRow). same_number v.seq s.next_entry ≡ false) (λ v less. is_other numbers v.seq s.next_entry (λ same. absurd (omega (arith, less, same)))) _ (older old t s sound is)))
    (omega arith) e in
    subst (λ (x : State). Becomes t (Some x) old new)
    (bucket_again b B1 (with_upload n U2 B1) s1 ∙ ap (λ (m : FinMap nat_cmp Upload). with_bucket b (record B { uploads = m }) s1)
    (set_at_again numbers B.uploads n (Some U1) (Some U2) ∙ ap (λ (m : FinMap nat_cmp Part). insert B.uploads n (record U { parts = m })) (set_at_again numbers U.parts k None (Some (part_shown p)))))
    (becomes_then t _ _ old two new (becomes_then t _ _ old one two first second) third)

-- What one change makes of the sum over a map's values, and so of what a tenant uses.
use Rattle.std.proofs.Common.{◌≡◌, ℕ, ◌+◌, true, false, cond, not, T, List, [], ◌∷◌, sum_by, Option, Some, None, unwrap_or, refl, sym, ap, subst, ◌∙◌, arith, Ordering, is_eq}
use Rattle.std.specs.Option.{option_map_or}
use Rattle.std.specs.Ordering.{eq_by_cmp}
use Rattle.std.specs.Cmp.{IsTotalOrder, Equal-is, nat_cmp_total}
use Rattle.std.specs.Cmp.Lexicographic.{nat_list_cmp_total}
use Rattle.std.proofs.lemmas.Cmp.{tied_itself, eq_by_cmp_equiv}
use Rattle.std.proofs.lemmas.List.Sums.{sum_by-cons}
use Rattle.std.proofs.lemmas.List.Filters.{sum_by-filter_both}
use Rattle.std.specs.FinMap.{FinMap, IsAntisymmetric, nat_cmp-IsAntisymmetric, slice_cmp-IsAntisymmetric, entries, entries_sorted, get, get-entries, get-insert, get-remove, find, insert, remove, is_sorted}
use Rattle.std.specs.FinMap.Entries.{below_all, where_key, is_sorted-where_key, find-where_key, same_entries}
use Rattle.bh_types.specs.declared.bucket_state.BucketState.{BucketState}
use Rattle.bh_types.specs.declared.bucket_state.BucketState.TheVariants.{Unversioned, Enabled, Suspended}
use Rattle.bh_types.specs.declared.id.VersionId.TheVariants.{Null}
use Rattle.bh_model.specs.FinMaps.{total, set_at, non_empty}
use Rattle.bh_model.specs.State.{Octets, octets_cmp, Content, Entry, Part, Bucket, State, content_size, entry_size, part_size, upload_used, bucket_used, used}
use Rattle.bh_model.specs.Entries.{has_id, without, kept, added, new_id}
use Rattle.bh_model.specs.Quotas.{null_size, replaced_size}
use Rattle.bh_model.specs.Operations.{listed, with_bucket, with_entries, with_content}
use Rattle.bh_model.specs.Uploads.{FoundUpload, with_part, with_stored}
use Rattle.bh_model.proofs.MapLemmas.{left, right, find_below}

-- ---- maps

module _ {K X : Type 0} {R : K → K → Ordering} (order : IsTotalOrder R) (same : IsAntisymmetric R) (f : X → ℕ) where
  abbrev size : K × X → ℕ
  size e = f e.1

  abbrev size_at : K → List (K × X) → ℕ
  size_at k es = option_map_or f (find R k es) 0

  abbrev others : K → List (K × X) → List (K × X)
  others k es = where_key R (λ x. not (eq_by_cmp R k x)) es

  -- a key's value counts once beside the others
  split : (k : K) (es : List (K × X)) → T (is_sorted R es) → sum_by size es ≡ size_at k es + sum_by size (others k es)
  split k [] up = refl
  split k (e ∷ es) up =
      let rest : sum_by size es ≡ size_at k es + sum_by size (others k es) = split k es (right (below_all R e.0 es) (is_sorted R es) up) in
      elim (eq_by_cmp R k e.0) as (λ b. eq_by_cmp R k e.0 ≡ b → sum_by size (e ∷ es) ≡ option_map_or f (cond b (Some e.1) (find R k es)) 0 + sum_by size (cond (not b) (e ∷ others k es) (others k es))) [
        | true ↦ λ t.
            let none : find R k es ≡ None = find_below R k es (subst (λ q. T (below_all R q es)) (sym (same k e.0 ((Equal-is _).0 t))) (left _ _ up)) in
            let nothing : size_at k es ≡ 0 = ap (λ o. option_map_or f o 0) none in
            omega (arith, sum_by-cons size e es, rest, nothing)
        | false ↦ λ t. omega (arith, sum_by-cons size e es, sum_by-cons size e (others k es), rest)
      ] refl

  turned : (a b : K) → eq_by_cmp R a b ≡ eq_by_cmp R b a
  turned a b = (eq_by_cmp_equiv order).symm a b

  -- lists in order that answer alike but at one key have the same others
  same_others : (k : K) (es fs : List (K × X)) → T (is_sorted R es) → T (is_sorted R fs) → ((q : K) → eq_by_cmp R q k ≡ false → find R q es ≡ find R q fs) → others k es ≡ others k fs
  same_others k es fs up rise agree =
      same_entries R order same (others k es) (others k fs) (is_sorted-where_key R _ es up) (is_sorted-where_key R _ fs rise) (λ q. at q es ∙ one q ∙ sym (at q fs))
    where
      at : (q : K) (l : List (K × X)) → find R q (others k l) ≡ cond (not (eq_by_cmp R k q)) (find R q l) None
      at q l = find-where_key R (λ x. not (eq_by_cmp R k x)) q (λ x t. ap (λ z. not (eq_by_cmp R k z)) (sym (same q x t))) l

      one : (q : K) → cond (not (eq_by_cmp R k q)) (find R q es) None ≡ cond (not (eq_by_cmp R k q)) (find R q fs) None
      one q = elim (eq_by_cmp R k q) as (λ b. eq_by_cmp R k q ≡ b → cond (not b) (find R q es) None ≡ cond (not b) (find R q fs) None) [
        | true ↦ λ t. refl
        | false ↦ λ t. agree q (turned q k ∙ t)
      ] refl

  -- maps that answer alike but at one key have sums that differ by that key's values
  pub total_changed : (m n : FinMap R X) (k : K) → ((q : K) → eq_by_cmp R q k ≡ false → get n q ≡ get m q) → total f n + option_map_or f (get m k) 0 ≡ total f m + option_map_or f (get n k) 0
  unfolding total
  total_changed m n k agree =
      let alike : others k (entries n) ≡ others k (entries m) = same_others k (entries n) (entries m) (entries_sorted n) (entries_sorted m) (λ q h. sym (get-entries n q) ∙ agree q h ∙ get-entries m q) in
      let sums : sum_by size (others k (entries n)) ≡ sum_by size (others k (entries m)) = ap (sum_by size) alike in
      let here : size_at k (entries m) ≡ option_map_or f (get m k) 0 = ap (λ o. option_map_or f o 0) (sym (get-entries m k)) in
      let there : size_at k (entries n) ≡ option_map_or f (get n k) 0 = ap (λ o. option_map_or f o 0) (sym (get-entries n k)) in
      omega (arith, split k (entries m) (entries_sorted m), split k (entries n) (entries_sorted n), sums, here, there)

  itself : (k : K) → eq_by_cmp R k k ≡ true
  itself k = ap is_eq (tied_itself order k)

  pub total_inserted : (m : FinMap R X) (k : K) (v : X) → total f (insert m k v) + option_map_or f (get m k) 0 ≡ total f m + f v
  total_inserted m k v =
      total_changed m (insert m k v) k (λ q h. get-insert order m k v q ∙ ap (λ b. cond b (Some v) (get m q)) h)
      ∙ ap (λ o. total f m + option_map_or f o 0) (get-insert order m k v k ∙ ap (λ b. cond b (Some v) (get m k)) (itself k))

  pub total_removed : (m : FinMap R X) (k : K) → total f (remove m k) + option_map_or f (get m k) 0 ≡ total f m
  total_removed m k =
      let none : option_map_or f (get (remove m k) k) 0 ≡ 0 = ap (λ o. option_map_or f o 0) (get-remove order m k k ∙ ap (λ b. cond b None (get m k)) (itself k)) in
      omega (arith, none, total_changed m (remove m k) k (λ q h. get-remove order m k q ∙ ap (λ b. cond b None (get m q)) h))

  pub total_set_at : (m : FinMap R X) (k : K) (o : Option X) → total f (set_at m k o) + option_map_or f (get m k) 0 ≡ total f m + option_map_or f o 0
  total_set_at m k None = omega (arith, total_removed m k)
  total_set_at m k (Some v) = total_inserted m k v

pub octets_total : IsTotalOrder octets_cmp
octets_total = nat_list_cmp_total

pub octets_same : IsAntisymmetric octets_cmp
octets_same = slice_cmp-IsAntisymmetric nat_cmp-IsAntisymmetric

-- ---- a tenant's buckets

pub used_with_bucket : (name : Octets) (b c : Bucket) (t : State) → get t.buckets name ≡ Some b → used (with_bucket name c t) + bucket_used b ≡ used t + bucket_used c
used_with_bucket name b c t there =
    ap (λ o. used (with_bucket name c t) + option_map_or bucket_used o 0) (sym there) ∙ total_inserted octets_total octets_same bucket_used t.buckets name c

-- ---- a bucket's entries

abbrev pub size_of : List Entry → ℕ
size_of = sum_by entry_size

listed_size : (o : Option (List Entry)) → option_map_or size_of o 0 ≡ size_of (unwrap_or o [])
listed_size None = refl
listed_size (Some entries) = refl

non_empty_size : (entries : List Entry) → option_map_or size_of (non_empty entries) 0 ≡ size_of entries
non_empty_size [] = refl
non_empty_size (e ∷ entries) = refl

pub used_with_entries : (key : Octets) (entries : List Entry) (b : Bucket) → bucket_used (with_entries key entries b) + size_of (listed key b) ≡ bucket_used b + size_of entries
used_with_entries key entries b =
    omega (arith, total_set_at octets_total octets_same size_of b.objects key (non_empty entries), listed_size (get b.objects key), non_empty_size entries)

null_apart : (entries : List Entry) → size_of (without Null entries) + null_size entries ≡ size_of entries
null_apart entries = omega (arith, sum_by-filter_both (has_id Null) (λ e. not (has_id Null e)) (λ _. refl) entry_size entries)

pub kept_size : (mode : BucketState) (entries : List Entry) → size_of (kept mode entries) + replaced_size mode entries ≡ size_of entries
kept_size Unversioned entries = null_apart entries
kept_size Enabled entries = omega arith
kept_size Suspended entries = null_apart entries

pub used_with_content : (moment : ℕ) (key : Octets) (next : ℕ) (content : Content) (b : Bucket) → bucket_used (with_content moment key next content b) + replaced_size b.mode (listed key b) ≡ bucket_used b + content_size content
used_with_content moment key next content b =
    let entry : Entry = record { id = new_id b.mode next; moment = moment; content = content } in
    omega (arith, used_with_entries key (added b.mode next moment content (listed key b)) b, kept_size b.mode (listed key b), sum_by-cons entry_size entry (kept b.mode (listed key b)))

-- ---- a bucket's uploads

pub used_with_part : (f : FoundUpload) (number : ℕ) (p : Part) → get f.bucket.uploads f.number ≡ Some f.upload → bucket_used (with_stored f number p) + option_map_or part_size (get f.upload.parts number) 0 ≡ bucket_used f.bucket + part_size p
used_with_part f number p there =
    let here : option_map_or upload_used (get f.bucket.uploads f.number) 0 ≡ upload_used f.upload = ap (λ o. option_map_or upload_used o 0) there in
    omega (arith, here, total_inserted nat_cmp_total nat_cmp-IsAntisymmetric part_size f.upload.parts number p, total_inserted nat_cmp_total nat_cmp-IsAntisymmetric upload_used f.bucket.uploads f.number (with_part number p f.upload))

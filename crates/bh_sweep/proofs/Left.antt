-- What is due is what a sweep takes, and then what it leaves.
use Rattle.std.proofs.Common.{leb-true, ◌≡◌, ◌≤◌, ◌+◌, ◌-◌, ℕ, zero, suc, Bool, true, false, not, cond, ◌&&◌, ◌||◌, nat_le, List, [], ◌∷◌, length, filter, take, Ordering, refl, sym, ap, ap₂, ◌∙◌, subst, arith}
use Rattle.std.specs.List.{AllByRecursion, list_any}
use Rattle.std.specs.Ordering.{is_gt}
use Rattle.std.specs.Cmp.Derive.{both_true}
use Rattle.std.proofs.lemmas.Bool.Decides.{nat_tests}
use Rattle.std.proofs.lemmas.List.{take_all, length-take}
use Rattle.sqlite_keyed.specs.Lists.{sort_by, insert_sorted, delete_where}
use Rattle.sqlite_keyed.proofs.ListLemmas.{all_weaker}
use Rattle.sqlite_typed.specs.Tests.{bytes_eq}
use Rattle.bh_tables.specs.Due.{by_owner}
use Rattle.bh_tables.specs.Shown.{block_name, is_block, is_upload, is_unreferenced, by_name, unreferenced}
use Rattle.bh_tables.specs.Typed.{UploadRow, BlockRow, Tables}
use Rattle.bh_view.specs.Grouped.{same_number}
use Rattle.bh_view.specs.Sound.{IsSound}
use Rattle.bh_view.specs.Sweep.{is_due, due_uploads, due_blocks, uploads_swept, blocks_swept, without_each, swept, is_complete}
use Rattle.bh_view.proofs.FilterLemmas.{filter_swap, filter_both, length-filter-le}
use Rattle.bh_view.proofs.Keys.{octets, numbers}
use Rattle.bh_view.proofs.NameLemmas.{names, none_pass}
use Rattle.bh_view.proofs.PurgeLemmas.{any_filtered}
use Rattle.bh_view.proofs.SweptLemmas.{each_keeps}
use Rattle.bh_uploads.proofs.Gone.{any_agree, any_sorted, deleted_twice}

-- ---- lists

and_turned : (a b : Bool) → (a && b) ≡ (b && a)
and_turned true true = refl
and_turned true false = refl
and_turned false true = refl
and_turned false false = refl

-- what passes one test and is left by another
any_left : {T : Type 0} (p d : T → Bool) (xs : List T) → list_any p (delete_where d xs) ≡ list_any (λ x. not (d x)) (filter p xs)
any_left p d xs = sym (any_filtered (λ x. not (d x)) p xs) ∙ (λ i. list_any (λ x. and_turned (not (d x)) (p x) i) xs) ∙ any_filtered p (λ x. not (d x)) xs

all_kept : {T : Type 0} (xs : List T) → delete_where (λ x. false) xs ≡ xs
all_kept [] = refl
all_kept (x ∷ xs) = ap (λ l. x ∷ l) (all_kept xs)

above_none : (n : ℕ) → nat_le (suc n) 0 ≡ false
above_none n = grind (arith, nat_tests)

none_below : (n : ℕ) → nat_le 0 n ≡ true
none_below n = grind (arith, nat_tests)

one_less : (a n : ℕ) → nat_le (suc a) (suc n) ≡ nat_le a n
one_less a n = elim (nat_le a n) as (λ b. nat_le a n ≡ b → nat_le (suc a) (suc n) ≡ b) [ true ↦ λ e. grind (arith, nat_tests, e) | false ↦ λ e. grind (arith, nat_tests, e) ] refl

-- a sorted list has as many that pass
module _ {T : Type 0} (cmp : T → T → Ordering) (q : T → Bool) where
  counted : (a b : Bool) (x y : T) (l k : List T) → length k ≡ length (cond a (x ∷ l) l) → length (cond b (y ∷ k) k) ≡ length (cond a (x ∷ cond b (y ∷ l) l) (cond b (y ∷ l) l))
  counted true true x y l k h = ap (λ n. suc n) h
  counted true false x y l k h = h
  counted false true x y l k h = ap (λ n. suc n) h
  counted false false x y l k h = h

  many_put : (x : T) (ys : List T) → length (filter q (insert_sorted cmp x ys)) ≡ length (filter q (x ∷ ys))
  many_put x [] = refl
  many_put x (y ∷ ys) = elim (is_gt (cmp x y)) as (λ b. length (filter q (cond b (y ∷ insert_sorted cmp x ys) (x ∷ y ∷ ys))) ≡ length (filter q (x ∷ y ∷ ys))) [
    | true ↦ counted (q x) (q y) x y (filter q ys) (filter q (insert_sorted cmp x ys)) (many_put x ys)
    | false ↦ refl
  ]

  pub many_sorted : (xs : List T) → length (filter q (sort_by cmp xs)) ≡ length (filter q xs)
  many_sorted [] = refl
  many_sorted (x ∷ xs) = many_put x (sort_by cmp xs) ∙ elim (q x) as (λ b. length (cond b (x ∷ filter q (sort_by cmp xs)) (filter q (sort_by cmp xs))) ≡ length (cond b (x ∷ filter q xs) (filter q xs))) [ true ↦ ap (λ n. suc n) (many_sorted xs) | false ↦ many_sorted xs ]

-- ---- rows, of which each names itself

module _ {T : Type 0} (same : T → T → Bool) (itself : (x : T) → same x x ≡ true) where
  abbrev pub named : List T → T → Bool
  named gs x = list_any (λ g. same g x) gs

  -- none names two
  abbrev pub Once : List T → Type 0
  Once xs = (g : T) → length (filter (same g) xs) ≤ 1

  pub once_tail : (y : T) (ys : List T) → Once (y ∷ ys) → Once ys
  once_tail y ys once g = elim (same g y) as (λ b. length (cond b (y ∷ filter (same g) ys) (filter (same g) ys)) ≤ 1 → length (filter (same g) ys) ≤ 1) [ true ↦ λ h. omega (arith, h) | false ↦ λ h. h ] (once g)

  none_more : (y : T) (l : List T) → length (y ∷ l) ≤ 1 → l ≡ []
  none_more y [] low = refl
  none_more y (x ∷ l) low = absurd (omega (arith, low))

  pub others : (y : T) (ys : List T) → Once (y ∷ ys) → AllByRecursion (λ x. same y x ≡ false) ys
  others y ys once = none_pass (same y) ys (none_more y (filter (same y) ys) (subst (λ b. length (cond b (y ∷ filter (same y) ys) (filter (same y) ys)) ≤ 1) (itself y) (once y)))

  -- some are left where there are more than are taken
  some_left : (n : ℕ) (xs : List T) → Once xs → list_any (λ x. not (named (take n xs) x)) xs ≡ not (nat_le (length xs) n)
  some_left zero [] once = refl
  some_left zero (y ∷ ys) once = sym (ap not (above_none (length ys)))
  some_left (suc n) [] once = sym (ap not (none_below (suc n)))
  some_left (suc n) (y ∷ ys) once =
      ap (λ b. not (b || named (take n ys) y) || list_any (λ x. not (same y x || named (take n ys) x)) ys) (itself y)
      ∙ any_agree (λ x. not (same y x || named (take n ys) x)) (λ x. not (named (take n ys) x)) ys (all_weaker (λ x. same y x ≡ false) _ (λ x h. ap (λ b. not (b || named (take n ys) x)) h) ys (others y ys once))
      ∙ some_left n ys (once_tail y ys once)
      ∙ ap not (sym (one_less (length ys) n))

  pub once_due : (p : T → Bool) (cmp : T → T → Ordering) (xs : List T) → Once xs → Once (sort_by cmp (filter p xs))
  once_due p cmp xs once g =
      let many = many_sorted cmp (same g) (filter p xs) ∙ ap length (filter_swap (same g) p xs) in
      let fewer = length-filter-le p (filter (same g) xs) in
      let one = once g in
      omega (arith, many, fewer, one)

  pub due_left : (p : T → Bool) (cmp : T → T → Ordering) (xs : List T) (n : ℕ) → Once xs
      → list_any p (delete_where (named (take n (sort_by cmp (filter p xs)))) xs) ≡ not (nat_le (length (sort_by cmp (filter p xs))) n)
  due_left p cmp xs n once =
      let due = sort_by cmp (filter p xs) in
      any_left p (named (take n due)) xs ∙ sym (any_sorted cmp (λ x. not (named (take n due) x)) (filter p xs))
      ∙ some_left n due (once_due p cmp xs once)

-- ---- uploads and blocks

abbrev pub same_upload : UploadRow → UploadRow → Bool
same_upload g u = is_upload g.tenant g.upload u

pub upload_itself : (u : UploadRow) → same_upload u u ≡ true
upload_itself u = both_true ((octets.decides u.tenant u.tenant).1 refl) ((numbers.decides u.upload u.upload).1 refl)

abbrev pub same_block : BlockRow → BlockRow → Bool
same_block g b = is_block (block_name g) b

pub block_itself : (b : BlockRow) → same_block b b ≡ true
block_itself b = (names.decides (block_name b) (block_name b)).1 refl

pub uploads_once : (tables : Tables) → IsSound tables → Once same_upload upload_itself tables.uploads
uploads_once tables sound g = subst (λ l. length l ≤ 1) (filter_both (λ (u : UploadRow). bytes_eq u.tenant g.tenant) (λ u. same_number u.upload g.upload) tables.uploads) ((sound.tenants g.tenant).uploads.one g.upload)

-- ---- without some uploads

pub each_uploads : (us : List UploadRow) (x : Tables) → (without_each us x).uploads ≡ delete_where (named same_upload upload_itself us) x.uploads
each_uploads [] x = sym (all_kept x.uploads)
each_uploads (u ∷ us) x = each_uploads us _ ∙ deleted_twice (same_upload u) (named same_upload upload_itself us) x.uploads

pub each_buckets : (us : List UploadRow) (x : Tables) → (without_each us x).buckets ≡ x.buckets
each_buckets = each_keeps (λ x. x.buckets) (λ t gone x. refl)

pub each_blocks : (us : List UploadRow) (x : Tables) → (without_each us x).blocks ≡ x.blocks
each_blocks = each_keeps (λ x. x.blocks) (λ t gone x. refl)

-- ---- a sweep

module _ (at n : ℕ) (old : Tables) where
  abbrev after : Tables
  after = without_each (uploads_swept at n old) old

  -- whether uploads are left
  pub uploads_left : IsSound old → list_any (is_due at after) after.uploads ≡ not (nat_le (length (due_uploads at old)) n)
  unfolding uploads_swept due_uploads
  uploads_left sound =
      (λ i. list_any (λ (u : UploadRow). is_due at (record old { buckets = each_buckets (uploads_swept at n old) old i }) u) (each_uploads (uploads_swept at n old) old i))
      ∙ due_left same_upload upload_itself (is_due at old) by_owner old.uploads n (uploads_once old sound)

  pub all_taken : nat_le (length (due_uploads at old)) n ≡ true → uploads_swept at n old ≡ due_uploads at old
  unfolding uploads_swept
  all_taken low = take_all n (due_uploads at old) (leb-true _ _ low)

  -- the blocks that go next are those of the definition
  pub next_blocks : unreferenced (n - length (uploads_swept at n old)) after.refs after.blocks ≡ blocks_swept at n old
  unfolding uploads_swept blocks_swept due_blocks
  next_blocks = elim (nat_le (length (due_uploads at old)) n) as (λ b. nat_le (length (due_uploads at old)) n ≡ b → unreferenced (n - length (uploads_swept at n old)) after.refs after.blocks ≡ blocks_swept at n old) [
    | true ↦ λ e.
        ap (λ us. unreferenced (n - length us) (without_each us old).refs (without_each us old).blocks) (all_taken e)
        ∙ ap (unreferenced (n - length (due_uploads at old)) (without_each (due_uploads at old) old).refs) (each_blocks (due_uploads at old) old)
    | false ↦ λ e.
        let many = length-take n (due_uploads at old) in
        let none : n - length (take n (due_uploads at old)) ≡ 0 = grind (arith, nat_tests, length-take, e) in
        let no_more : n - length (due_uploads at old) ≡ 0 = grind (arith, nat_tests, e) in
        ap (λ k. unreferenced k after.refs after.blocks) none ∙ sym (ap (λ k. take k (due_blocks at old)) no_more)
  ] refl

  -- whether blocks are left, once no upload is
  pub blocks_left : IsSound old → nat_le (length (due_uploads at old)) n ≡ true → list_any (is_unreferenced (swept at n old).refs) (swept at n old).blocks ≡ not (nat_le (length (due_blocks at old)) (n - length (due_uploads at old)))
  unfolding swept blocks_swept due_blocks
  blocks_left sound low =
      let gone = blocks_swept at n old in
      (λ i. list_any (is_unreferenced (without_each (all_taken low i) old).refs) (delete_where (named same_block block_itself gone) (each_blocks (uploads_swept at n old) old i)))
      ∙ due_left same_block block_itself (is_unreferenced (without_each (due_uploads at old) old).refs) by_name old.blocks (n - length (due_uploads at old)) (λ g. sound.stored.one (block_name g))

  -- nothing is left where nothing more was due than a sweep takes
  pub nothing_left : IsSound old → (not (list_any (is_due at after) after.uploads) && not (list_any (is_unreferenced (swept at n old).refs) (swept at n old).blocks)) ≡ is_complete at n old
  unfolding is_complete
  nothing_left sound = elim (nat_le (length (due_uploads at old)) n) as (λ b. nat_le (length (due_uploads at old)) n ≡ b → (not (list_any (is_due at after) after.uploads) && not (list_any (is_unreferenced (swept at n old).refs) (swept at n old).blocks)) ≡ nat_le (length (due_uploads at old) + length (due_blocks at old)) n) [
    | true ↦ λ e.
        ap₂ (λ a b. not a && not b) (uploads_left sound ∙ ap not e) (blocks_left sound e)
        ∙ twice (nat_le (length (due_blocks at old)) (n - length (due_uploads at old)))
        ∙ added (length (due_uploads at old)) (length (due_blocks at old)) e
    | false ↦ λ e.
        ap (λ a. not a && not (list_any (is_unreferenced (swept at n old).refs) (swept at n old).blocks)) (uploads_left sound ∙ ap not e)
        ∙ sym (too_many (length (due_uploads at old)) (length (due_blocks at old)) e)
  ] refl
    where
      twice : (b : Bool) → not (not b) ≡ b
      twice true = refl
      twice false = refl

      added : (a b : ℕ) → nat_le a n ≡ true → nat_le b (n - a) ≡ nat_le (a + b) n
      added a b e = elim (nat_le (a + b) n) as (λ c. nat_le (a + b) n ≡ c → nat_le b (n - a) ≡ c) [ true ↦ λ f. grind (arith, nat_tests, e, f) | false ↦ λ f. grind (arith, nat_tests, e, f) ] refl

      too_many : (a b : ℕ) → nat_le a n ≡ false → nat_le (a + b) n ≡ false
      too_many a b e = grind (arith, nat_tests, e)

-- What is kept of a tenant and of an upload, once parts come or go.
use Rattle.std.proofs.Common.{◌≡◌, inl, inr, ℕ, ℤ, ◌+◌, ◌+ℤ◌, ◌-ℤ◌, pos, Bool, true, false, List, [], ◌∷◌, ◌++◌, filter, cond, arith, refl, sym, ap, subst, ◌∙◌, sum_by}
use Rattle.std.proofs.lemmas.Bool.{cases_Bool}
use Rattle.std.specs.List.{AllByRecursion}
use Rattle.sqlite_keyed.specs.Lists.{delete_where}
use Rattle.sqlite_typed.specs.Tests.{bytes_eq}
use Rattle.bh_tables.specs.Schema.{Octets}
use Rattle.bh_tables.specs.Typed.{totals_of, bytes_used, bytes_kept, used_changed, kept_changed, PartRow, Tables}
use Rattle.bh_tables.specs.Bodies.{Name, same_name}
use Rattle.bh_tables.proofs.TotalLemmas.{total, total_all, total_none, total_last, total_parted, total_less, total_more, turned_sum, name_swap}

-- the upload of a part
abbrev pub upload_name : PartRow → Name
upload_name p = (p.tenant, p.upload)

abbrev size : PartRow → ℕ
size p = p.size

-- the bytes of an upload's parts
abbrev of_upload : Name → List PartRow → ℕ
of_upload q = total size (λ p. same_name (upload_name p) q)

-- parts that pass a test, all of one upload, go
module _ (m : PartRow → Bool) (q : Name) (less : ℕ) (owned : (p : PartRow) → m p ≡ true → upload_name p ≡ q) where
  each_of : (b : Bool) (x : Name) → same_name q x ≡ b → (ps : List PartRow) → AllByRecursion (λ p. same_name (upload_name p) x ≡ b) (filter m ps)
  each_of b x is [] = tt
  each_of b x is (p ∷ ps) = elim (cases_Bool (m p)) [
    | inl on ↦ subst (λ s. AllByRecursion (λ y. same_name (upload_name y) x ≡ b) (cond s (p ∷ filter m ps) (filter m ps))) (sym on) (ap (λ n. same_name n x) (owned p on) ∙ is, each_of b x is ps)
    | inr off ↦ subst (λ s. AllByRecursion (λ y. same_name (upload_name y) x ≡ b) (cond s (p ∷ filter m ps) (filter m ps))) (sym off) (each_of b x is ps)
  ]

  gone : (ps : List PartRow) → sum_by size (filter m ps) ≡ less → (x : Name) → of_upload x (filter m ps) ≡ cond (same_name x q) less 0
  gone ps held x = elim (cases_Bool (same_name q x)) [
    | inl is ↦ total_all size (λ p. same_name (upload_name p) x) (filter m ps) (each_of true x is ps) ∙ held ∙ ap (λ b. cond b less 0) (sym (name_swap x q ∙ is))
    | inr not ↦ total_none size (λ p. same_name (upload_name p) x) (filter m ps) (each_of false x not ps) ∙ ap (λ b. cond b less 0) (sym (name_swap x q ∙ not))
  ]

  kept_less : (ps : List PartRow) → sum_by size (filter m ps) ≡ less → (x : Name) → of_upload x (delete_where m ps) + cond (same_name x q) less 0 ≡ of_upload x ps
  kept_less ps held x = let a = total_parted size (λ p. same_name (upload_name p) x) m ps in let b = gone ps held x in omega (arith, a, b)

-- one comes
kept_more : (ps : List PartRow) (p : PartRow) (x : Name) → of_upload x (ps ++ p ∷ []) ≡ of_upload x ps + cond (same_name x (upload_name p)) p.size 0
kept_more ps p x = total_last size (λ y. same_name (upload_name y) x) ps p ∙ ap (λ b. of_upload x ps + cond b p.size 0) (name_swap (upload_name p) x)

-- ---- the bytes of a tenant and of an upload, once parts are others

abbrev of_tenant : Octets → List PartRow → ℕ
of_tenant x = total size (λ p. bytes_eq p.tenant x)

module _ (t : Tables) (parts : List PartRow) (q : Name) (more less : ℕ) (used : (x : Octets) → of_tenant x parts + cond (bytes_eq x q.0) less 0 ≡ of_tenant x t.parts + cond (bytes_eq x q.0) more 0)
    (kept : (x : Name) → of_upload x parts + cond (same_name x q) less 0 ≡ of_upload x t.parts + cond (same_name x q) more 0) where
  totals_parts : totals_of (record t { parts = parts }) ≡ kept_changed q more less (used_changed q.0 more less (totals_of t))
  totals_parts = λ i. record (totals_of t) { used = λ x. use_at x i; kept = λ x. keep_at x i }
    where
      use_at : (x : Octets) → pos (bytes_used t.versions parts x) ≡ cond (bytes_eq x q.0) (pos (bytes_used t.versions t.parts x) +ℤ pos more -ℤ pos less) (pos (bytes_used t.versions t.parts x))
      use_at x = let one = used x in turned_sum (bytes_eq x q.0) (bytes_used t.versions parts x) (bytes_used t.versions t.parts x) more less (omega (arith, one))

      keep_at : (x : Name) → pos (bytes_kept parts x.0 x.1) ≡ cond (same_name x q) (pos (bytes_kept t.parts x.0 x.1) +ℤ pos more -ℤ pos less) (pos (bytes_kept t.parts x.0 x.1))
      keep_at x = turned_sum (same_name x q) (bytes_kept parts x.0 x.1) (bytes_kept t.parts x.0 x.1) more less (kept x)

none_off : (b : Bool) (m n : ℕ) → m ≡ n → m + cond b 0 0 ≡ n
none_off true m n e = omega (arith, e)
none_off false m n e = omega (arith, e)

-- a part comes
pub totals_part_added : (t : Tables) (p : PartRow) → totals_of (record t { parts = t.parts ++ p ∷ [] }) ≡ kept_changed (upload_name p) p.size 0 (used_changed p.tenant p.size 0 (totals_of t))
totals_part_added t p = totals_parts t (t.parts ++ p ∷ []) (upload_name p) p.size 0
    (λ x. none_off (bytes_eq x p.tenant) _ _ (total_more size (λ (y : PartRow). y.tenant) t.parts p x))
    (λ x. none_off (same_name x (upload_name p)) _ _ (kept_more t.parts p x))

-- parts of an upload go
pub totals_parts_deleted : (t : Tables) (m : PartRow → Bool) (q : Name) (less : ℕ) → ((p : PartRow) → m p ≡ true → upload_name p ≡ q) → sum_by (λ (p : PartRow). p.size) (filter m t.parts) ≡ less
    → totals_of (record t { parts = delete_where m t.parts }) ≡ kept_changed q 0 less (used_changed q.0 0 less (totals_of t))
totals_parts_deleted t m q less owned held = totals_parts t (delete_where m t.parts) q 0 less
    (λ x. total_less size (λ (p : PartRow). p.tenant) m q.0 less (λ p on. ap (λ (n : Name). n.0) (owned p on)) t.parts held x ∙ sym (none_off (bytes_eq x q.0) _ _ refl))
    (λ x. kept_less m q less owned t.parts held x ∙ sym (none_off (same_name x q) _ _ refl))

-- they go, and another comes
pub totals_part_replaced : (t : Tables) (m : PartRow → Bool) (p : PartRow) (less : ℕ) → ((y : PartRow) → m y ≡ true → upload_name y ≡ upload_name p) → sum_by (λ (y : PartRow). y.size) (filter m t.parts) ≡ less
    → totals_of (record t { parts = delete_where m t.parts ++ p ∷ [] }) ≡ kept_changed (upload_name p) p.size less (used_changed p.tenant p.size less (totals_of t))
totals_part_replaced t m p less owned held = totals_parts t (delete_where m t.parts ++ p ∷ []) (upload_name p) p.size less
    (λ x.
    let one = total_more size (λ (y : PartRow). y.tenant) (delete_where m t.parts) p x in
    let two = total_less size (λ (y : PartRow). y.tenant) m p.tenant less (λ y on. ap (λ (n : Name). n.0) (owned y on)) t.parts held x in
    omega (arith, one, two))
    (λ x.
    let one = kept_more (delete_where m t.parts) p x in
    let two = kept_less m (upload_name p) less owned t.parts held x in
    omega (arith, one, two))

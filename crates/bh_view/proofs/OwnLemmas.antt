-- One tenant's rows of a table, and the others', when the table changes. Any table with a column `own`.
use Rattle.std.proofs.Common.{◌≡◌, ◌≢◌, Bool, true, false, ◌&&◌, List, [], ◌∷◌, ◌++◌, refl, sym, ap, ◌∙◌}
use Rattle.sqlite_keyed.specs.Lists.{update_where, delete_where}
use Rattle.sqlite_typed.specs.Tests.{bytes_eq}
use Rattle.bh_model.specs.State.{Octets}
use Rattle.bh_view.specs.Grouped.{matching}
use Rattle.bh_view.proofs.Keys.{octets}
use Rattle.bh_view.proofs.FilterLemmas.{push_here, push_other, delete_other, delete_mine, update_other, update_mine}
use Rattle.bh_view.proofs.GroupedLemmas.{is_itself, is_other}

module _ {T : Type 0} (own : T → Octets) where
  abbrev pub rows_at : Octets → List T → List T
  rows_at = matching bytes_eq own

  pub others_pushed : (rows : List T) (r : T) (u : Octets) → u ≢ own r → rows_at u (rows ++ r ∷ []) ≡ rows_at u rows
  others_pushed rows r u apart = push_other _ rows r (is_other octets (own r) u (λ e. apart (sym e)))

  -- a DELETE and an UPDATE of one tenant's rows
  module _ (t : Octets) (test : T → Bool) (within : (x : T) → test x ≡ true → own x ≡ t) where
    not_there : (u : Octets) → u ≢ t → (x : T) → bytes_eq (own x) u ≡ true → test x ≡ false
    not_there u apart x here = elim (test x) as (λ b. test x ≡ b → b ≡ false) [ true ↦ λ e. absurd (apart (sym ((octets.decides (own x) u).0 here) ∙ within x e)) | false ↦ λ e. refl ] refl

    pub others_deleted : (rows : List T) (u : Octets) → u ≢ t → rows_at u (delete_where test rows) ≡ rows_at u rows
    others_deleted rows u apart = delete_other _ test rows (not_there u apart)

    pub others_updated : (f : T → T) → ((x : T) → own (f x) ≡ own x) → (rows : List T) (u : Octets) → u ≢ t → rows_at u (update_where test f rows) ≡ rows_at u rows
    others_updated f keeps rows u apart = update_other _ test f (not_there u apart) (λ x e. ap (λ z. bytes_eq z u) (keeps x) ∙ is_other octets (own x) u (λ h. apart (sym h ∙ within x e))) rows

  pub mine_pushed : (rows : List T) (r : T) → rows_at (own r) (rows ++ r ∷ []) ≡ rows_at (own r) rows ++ r ∷ []
  mine_pushed rows r = push_here _ rows r (is_itself octets (own r))

  pub mine_deleted : (t : Octets) (test : T → Bool) (rows : List T) → rows_at t (delete_where (λ x. bytes_eq (own x) t && test x) rows) ≡ delete_where test (rows_at t rows)
  mine_deleted t = delete_mine (λ x. bytes_eq (own x) t)

  pub mine_updated : (t : Octets) (test : T → Bool) (f : T → T) → ((x : T) → own (f x) ≡ own x) → (rows : List T) → rows_at t (update_where (λ x. bytes_eq (own x) t && test x) f rows) ≡ update_where test f (rows_at t rows)
  mine_updated t test f keeps = update_mine (λ x. bytes_eq (own x) t) test f (λ x. ap (λ z. bytes_eq z t) (keeps x))

  -- the tests that name a tenant
  pub within_own : (t : Octets) (x : T) → bytes_eq (own x) t ≡ true → own x ≡ t
  within_own t x = (octets.decides (own x) t).0

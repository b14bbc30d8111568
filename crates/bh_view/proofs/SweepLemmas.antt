-- Stale uploads that a sweep takes: the tables stay sound, and each tenant's state, once it is purged, is as it was.
use Rattle.std.proofs.Common.{◌≡◌, ◌≢◌, ℕ, Bool, true, false, true≢false, not, ◌&&◌, ◌||◌, cond, List, [], ◌∷◌, refl, sym, ap, ◌∙◌, subst}
use Rattle.std.specs.List.{list_any}
use Rattle.std.proofs.lemmas.Bool.{and_parts}
use Rattle.sqlite_keyed.specs.Lists.{delete_where}
use Rattle.sqlite_typed.specs.Tests.{bytes_eq}
use Rattle.bh_model.specs.State.{Octets, is_stale}
use Rattle.bh_model.specs.Runs.{purged_tenant}
use Rattle.bh_tables.specs.Typed.{UploadRow, Tables}
use Rattle.bh_tables.specs.Shown.{block_name, ref_name, is_upload}
use Rattle.bh_view.specs.Sound.{IsSound}
use Rattle.bh_view.specs.View.{rows_of, view, latest_of, goes, part_goes, ref_goes, without_uploads, days_in, is_stale_in, rows_purged}
use Rattle.bh_view.proofs.Keys.{octets, numbers}
use Rattle.bh_view.proofs.FactLemmas.{refers_deleted}
use Rattle.bh_view.proofs.NameLemmas.{names}
use Rattle.bh_view.proofs.FilterLemmas.{delete_other}
use Rattle.bh_view.proofs.PurgeLemmas.{any_filtered, uploads_gone, rows_gone}
use Rattle.bh_view.proofs.ViewLemmas.{same_view}

-- ---- lists

and_false : (b : Bool) → (b && false) ≡ false
and_false true = refl
and_false false = refl

-- what is deleted in two steps is what one test finds, where the tests agree on what is left
deleted_once : {T : Type 0} (p q both : T → Bool) → ((x : T) → (p x || q x) ≡ both x) → (xs : List T) → delete_where q (delete_where p xs) ≡ delete_where both xs
deleted_once p q both same [] = refl
deleted_once p q both same (x ∷ xs) = elim (p x) as (λ b. (b || q x) ≡ both x → delete_where q (cond (not b) (x ∷ delete_where p xs) (delete_where p xs)) ≡ cond (not (both x)) (x ∷ delete_where both xs) (delete_where both xs)) [
  | true ↦ λ e. deleted_once p q both same xs ∙ ap (λ b. cond (not b) (x ∷ delete_where both xs) (delete_where both xs)) e
  | false ↦ λ e. ap (λ l. cond (not (q x)) (x ∷ l) l) (deleted_once p q both same xs) ∙ ap (λ b. cond (not b) (x ∷ delete_where both xs) (delete_where both xs)) e
] (same x)

-- ---- one that is stale goes

module _ (old : Tables) (t : Octets) (gone : ℕ → Bool) (sound : IsSound old) where
  abbrev after : Tables
  after = without_uploads t gone old

  -- the same rows of tenants, and all references
  abbrev shown : Tables
  shown = record old { uploads = delete_where (goes t gone) old.uploads; parts = delete_where (part_goes t gone) old.parts }

  pub taken_sound : IsSound after
  unfolding latest_of
  taken_sound =
      let change = uploads_gone old t gone sound shown _ refl refl in
      let was = sound.stored in
      record {
        host = change.sound.host;
        tenants = λ u. change.sound.tenants u;
        stored = record { one = was.one; once = was.once; named = refers_deleted names block_name ref_name old.blocks old.refs (ref_goes t gone old.parts) was.named };
      }

  module _ (at : ℕ) (stale : (n : ℕ) → gone n ≡ true → is_stale_in t at old n ≡ true) where
    -- the others are stale as before
    still : (n : ℕ) → gone n ≡ false → is_stale_in t at after n ≡ is_stale_in t at old n
    still n stays =
        let judge = λ (u : UploadRow). is_stale (days_in t u.bucket old.buckets) u.begun at in
        any_filtered (is_upload t n) judge (delete_where (goes t gone) old.uploads)
        ∙ ap (list_any judge) (delete_other (is_upload t n) (goes t gone) old.uploads (λ u here. ap (λ m. bytes_eq u.tenant t && gone m) ((numbers.decides u.upload n).0 (and_parts _ _ here).1) ∙ ap (λ b. bytes_eq u.tenant t && b) stays ∙ and_false (bytes_eq u.tenant t)))
        ∙ sym (any_filtered (is_upload t n) judge old.uploads)

    covered : (n : ℕ) → (gone n || is_stale_in t at after n) ≡ is_stale_in t at old n
    covered n = elim (gone n) as (λ b. gone n ≡ b → (b || is_stale_in t at after n) ≡ is_stale_in t at old n) [ true ↦ λ e. sym (stale n e) | false ↦ λ e. still n e ] refl

    shared : (own a b c : Bool) → (a || b) ≡ c → ((own && a) || (own && b)) ≡ (own && c)
    shared true a b c e = e
    shared false a b c e = refl

    -- purged, both leave the same rows
    same_rows : (w : Octets) → rows_of w (rows_purged t at after) ≡ rows_of w (rows_purged t at old)
    unfolding rows_purged
    same_rows w =
        let first : Tables = record old { uploads = delete_where (goes t (is_stale_in t at after)) (delete_where (goes t gone) old.uploads); parts = delete_where (part_goes t (is_stale_in t at after)) (delete_where (part_goes t gone) old.parts) } in
        let then : Tables = record old { uploads = delete_where (goes t (is_stale_in t at old)) old.uploads; parts = delete_where (part_goes t (is_stale_in t at old)) old.parts } in
        let same : first ≡ then = λ i. record old {
          uploads = deleted_once (goes t gone) (goes t (is_stale_in t at after)) (goes t (is_stale_in t at old)) (λ u. shared (bytes_eq u.tenant t) _ _ _ (covered u.upload)) old.uploads i;
          parts = deleted_once (part_goes t gone) (part_goes t (is_stale_in t at after)) (part_goes t (is_stale_in t at old)) (λ p. shared (bytes_eq p.tenant t) _ _ _ (covered p.upload)) old.parts i;
        } in
        ap (rows_of w) same

    own_purged : purged_tenant (view after t) at ≡ purged_tenant (view old t) at
    own_purged =
        sym (rows_gone after (rows_purged t at after) t at taken_sound refl).shown
        ∙ same_view t (rows_purged t at old) (rows_purged t at after) (same_rows t)
        ∙ (rows_gone old (rows_purged t at old) t at sound refl).shown

    others_stay : (w : Octets) → w ≢ t → view after w ≡ view old w
    others_stay w apart = same_view w shown after refl ∙ (uploads_gone old t gone sound shown _ refl refl).others w apart

    pub purged_alike : (w : Octets) → purged_tenant (view after w) at ≡ purged_tenant (view old w) at
    purged_alike w = elim (bytes_eq w t) as (λ b. bytes_eq w t ≡ b → purged_tenant (view after w) at ≡ purged_tenant (view old w) at) [
      | true ↦ λ e. subst (λ z. purged_tenant (view after z) at ≡ purged_tenant (view old z) at) (sym ((octets.decides w t).0 e)) own_purged
      | false ↦ λ e. ap (λ s. purged_tenant s at) (others_stay w (λ is. true≢false (sym ((octets.decides w t).1 is) ∙ e)))
    ] refl

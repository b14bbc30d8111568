-- The dates that rows show of a bucket's versions, when versions come and go that have none.
use Rattle.std.proofs.Common.{◌≡◌, ℕ, ◌≤◌, Bool, true, false, true≢false, cond, not, ◌||◌, List, [], ◌∷◌, ◌++◌, length, filter, Option, Some, None, option_map, option_and_then, refl, sym, ap, ◌∙◌, subst, arith}
use Rattle.std.specs.List.{AllByRecursion, list_any}
use Rattle.sqlite_keyed.specs.Lists.{delete_where}
use Rattle.bh_tables.specs.Shown.{Name, same_name}
use Rattle.bh_tables.specs.Typed.{VersionRow, RetainRow}
use Rattle.bh_view.specs.Grouped.{first, matching, same_number, HasUnique, Refers}
use Rattle.bh_view.specs.View.{version_name, date_in, dates_of}
use Rattle.bh_view.proofs.Keys.{numbers, version_names}
use Rattle.bh_view.proofs.FactLemmas.{none_first}
use Rattle.bh_view.proofs.FilterLemmas.{none_some, same_Some, single, first_passes, filter_swap, push_here, push_other}
use Rattle.bh_view.proofs.GroupedLemmas.{grouped_same}

-- where nothing passes a test, it passes for no row
pub empty_any : {T : Type 0} (p : T → Bool) (xs : List T) → filter p xs ≡ [] → list_any p xs ≡ false
empty_any p [] none = refl
empty_any p (x ∷ xs) none = elim (p x) as (λ b. p x ≡ b → cond b (x ∷ filter p xs) (filter p xs) ≡ [] → list_any p (x ∷ xs) ≡ false) [
  | true ↦ λ e some. absurd (none_some (sym (ap first some)))
  | false ↦ λ e rest. ap (λ b. b || list_any p xs) e ∙ empty_any p xs rest
] refl none

abbrev pub seqs : VersionRow → ℕ
seqs v = v.seq

abbrev pub dated_seq : RetainRow → ℕ
dated_seq r = r.seq

module _ (retains : List RetainRow) where
  -- no row names a version that has no date
  pub undated_rows : (v : VersionRow) → date_in retains v ≡ None → matching same_number dated_seq v.seq retains ≡ []
  undated_rows v none = none_first _ (go (first (matching same_number dated_seq v.seq retains)) none)
    where
      go : (o : Option RetainRow) → option_map (λ (r : RetainRow). r.until) o ≡ None → o ≡ None
      go None e = refl
      go (Some r) e = absurd (none_some (sym e))

  pub rows_undated : (v : VersionRow) → matching same_number dated_seq v.seq retains ≡ [] → date_in retains v ≡ None
  rows_undated v none = ap (λ l. option_map (λ (r : RetainRow). r.until) (first l)) none

  -- the dates of a version more that has none
  pub dates_pushed : (versions : List VersionRow) (v : VersionRow) → matching same_name version_name (version_name v) versions ≡ [] → date_in retains v ≡ None → dates_of retains (versions ++ v ∷ []) ≡ dates_of retains versions
  dates_pushed versions v fresh undated =
      grouped_same version_names version_name version_name (λ _ rows. option_and_then (date_in retains) (first rows)) (λ _ rows. option_and_then (date_in retains) (first rows)) (λ _. refl) (λ _. refl) versions (versions ++ v ∷ []) at
    where
      at : (q : Name) → option_and_then (date_in retains) (first (matching same_name version_name q (versions ++ v ∷ []))) ≡ option_and_then (date_in retains) (first (matching same_name version_name q versions))
      at q = elim (same_name (version_name v) q) as (λ b. same_name (version_name v) q ≡ b → option_and_then (date_in retains) (first (matching same_name version_name q (versions ++ v ∷ []))) ≡ option_and_then (date_in retains) (first (matching same_name version_name q versions))) [
        | true ↦ λ e.
            let none : matching same_name version_name q versions ≡ [] = subst (λ z. matching same_name version_name z versions ≡ []) ((version_names.decides (version_name v) q).0 e) fresh in
            ap (λ l. option_and_then (date_in retains) (first l)) (push_here (λ x. same_name (version_name x) q) versions v e ∙ ap (λ l. l ++ v ∷ []) none) ∙ undated
            ∙ ap (λ l. option_and_then (date_in retains) (first l)) (sym none)
        | false ↦ λ e. ap (λ l. option_and_then (date_in retains) (first l)) (push_other (λ x. same_name (version_name x) q) versions v e)
      ] refl

  -- and of fewer, where those that went have none
  pub dates_left : (versions : List VersionRow) (test : VersionRow → Bool) → HasUnique same_name version_name versions → AllByRecursion (λ v. test v ≡ true → date_in retains v ≡ None) versions
      → dates_of retains (delete_where test versions) ≡ dates_of retains versions
  dates_left versions test one undated =
      grouped_same version_names version_name version_name (λ _ rows. option_and_then (date_in retains) (first rows)) (λ _ rows. option_and_then (date_in retains) (first rows)) (λ _. refl) (λ _. refl) versions (delete_where test versions) at
    where
      of_list : (l : List VersionRow) → length l ≤ 1 → AllByRecursion (λ v. test v ≡ true → date_in retains v ≡ None) l → option_and_then (date_in retains) (first (delete_where test l)) ≡ option_and_then (date_in retains) (first l)
      of_list [] short all = refl
      of_list (v ∷ []) short all = elim (test v) as (λ b. test v ≡ b → option_and_then (date_in retains) (first (cond (not b) (v ∷ []) [])) ≡ date_in retains v) [ true ↦ λ e. sym (all.0 e) | false ↦ λ e. refl ] refl
      of_list (v ∷ w ∷ l) short all = absurd (omega (arith, short))

      kept : (q : Name) (l : List VersionRow) → AllByRecursion (λ v. test v ≡ true → date_in retains v ≡ None) l → AllByRecursion (λ v. test v ≡ true → date_in retains v ≡ None) (matching same_name version_name q l)
      kept q [] all = tt
      kept q (v ∷ l) all = elim (same_name (version_name v) q) as (λ b. AllByRecursion (λ v. test v ≡ true → date_in retains v ≡ None) (cond b (v ∷ matching same_name version_name q l) (matching same_name version_name q l))) [
        | true ↦ (all.0, kept q l all.1)
        | false ↦ kept q l all.1
      ]

      at : (q : Name) → option_and_then (date_in retains) (first (matching same_name version_name q (delete_where test versions))) ≡ option_and_then (date_in retains) (first (matching same_name version_name q versions))
      at q = ap (λ l. option_and_then (date_in retains) (first l)) (filter_swap (λ x. same_name (version_name x) q) (λ x. not (test x)) versions) ∙ of_list (matching same_name version_name q versions) (one q) (kept q versions undated)

  -- a date names a version that is there, also when versions went that have none
  pub refers_undated : (versions : List VersionRow) (test : VersionRow → Bool) → HasUnique same_number seqs versions → AllByRecursion (λ v. test v ≡ true → date_in retains v ≡ None) versions
      → Refers same_number seqs versions dated_seq retains → Refers same_number seqs (delete_where test versions) dated_seq retains
  refers_undated versions test one undated refers n none = go (first (matching same_number seqs n versions)) refl
    where
      swapped : matching same_number seqs n (delete_where test versions) ≡ delete_where test (matching same_number seqs n versions)
      swapped = filter_swap (λ v. same_number v.seq n) (λ v. not (test v)) versions

      all_there : (l : List VersionRow) (v : VersionRow) → first (matching same_number seqs n l) ≡ Some v → AllByRecursion (λ x. test x ≡ true → date_in retains x ≡ None) l → test v ≡ true → date_in retains v ≡ None
      all_there [] v e all = absurd (none_some e)
      all_there (x ∷ l) v e all = elim (same_number x.seq n) as (λ b. first (cond b (x ∷ matching same_number seqs n l) (matching same_number seqs n l)) ≡ Some v → test v ≡ true → date_in retains v ≡ None) [
        | true ↦ λ h passes. subst (λ y. test y ≡ true → date_in retains y ≡ None) (same_Some h) all.0 passes
        | false ↦ λ h passes. all_there l v h all.1 passes
      ] e

      go : (o : Option VersionRow) → first (matching same_number seqs n versions) ≡ o → matching same_number dated_seq n retains ≡ []
      go None e = refers n e
      go (Some v) e =
          let only : matching same_number seqs n versions ≡ v ∷ [] = single _ (one n) v e in
          let its : v.seq ≡ n = (numbers.decides v.seq n).0 (first_passes (λ x. same_number x.seq n) versions v e) in
          let goes : first (cond (not (test v)) (v ∷ []) []) ≡ None = sym (ap first (swapped ∙ ap (delete_where test) only)) ∙ none in
          let passes : test v ≡ true = elim (test v) as (λ b. first (cond (not b) (v ∷ []) []) ≡ None → b ≡ true) [ true ↦ λ h. refl | false ↦ λ h. absurd (none_some (sym h)) ] goes in
          subst (λ k. matching same_number dated_seq k retains ≡ []) its (undated_rows v (all_there versions v e undated passes))

-- An entry goes with its body: the row of an id of a key, and the references of the body that it names.
use Rattle.std.proofs.Common.{◌≡◌, ◌≤◌, ℕ, Bool, true, false, true≢false, cond, ◌||◌, not, List, [], ◌∷◌, ◌++◌, map, filter, find, length, Some, refl, sym, ap, ◌∙◌, subst}
use Rattle.std.specs.List.{AllByRecursion, list_any}
use Rattle.std.proofs.lemmas.Bool.{or_parts}
use Rattle.sqlite_keyed.specs.Lists.{delete_where}
use Rattle.sqlite_keyed.proofs.ListLemmas.{all_weaker, all_both}
use Rattle.bh_types.specs.declared.wanted.Wanted.TheVariants.{Named}
use Rattle.sqlite_typed.specs.Tests.{bytes_eq}
use Rattle.bh_model.specs.State.{Octets}
use Rattle.bh_tables.specs.Bodies.{version_name, part_name, resolved_again}
use Rattle.bh_tables.specs.Typed.{VersionRow, RefRow, Tables}
use Rattle.bh_tables.specs.Shown.{Name, same_name, is_version, is_entry, is_of_body}
use Rattle.bh_view.specs.Grouped.{first, same_number}
use Rattle.bh_view.specs.View.{id_of}
use Rattle.bh_view.specs.Bodies.{bodies_in, IsUnnamed, AreWhole, body_dropped}
use Rattle.bh_view.specs.Sound.{IsSound}
use Rattle.bh_view.proofs.BodyNames.{version_apart}
use Rattle.bh_view.proofs.FilterLemmas.{single, first_passes, filter_both, same_Some}
use Rattle.bh_view.proofs.FindLemmas.{first_find}
use Rattle.bh_view.proofs.JoinLemmas.{map_delete}
use Rattle.bh_view.proofs.NameLemmas.{names, name_swap, none_pass, none_both, none_either}
use Rattle.bh_view.proofs.BodyLemmas.{whole_for}
use Rattle.bh_view.proofs.WriteLemmas.{versions_taken, body_goes, gone_whole}
use Rattle.bh_view.proofs.VersionChanges.{one_version}
use Rattle.bh_view.proofs.WantedLemmas.{named_row, wanted_entry}

-- ---- lists

module _ {T : Type 0} where
  only : (p : T → Bool) (xs : List T) (x : T) → filter p xs ≡ x ∷ [] → AllByRecursion (λ w. p w ≡ true → w ≡ x) xs
  only p [] x h = tt
  only p (y ∷ ys) x h = elim (p y) as (λ b. p y ≡ b → cond b (y ∷ filter p ys) (filter p ys) ≡ x ∷ [] → AllByRecursion (λ w. p w ≡ true → w ≡ x) (y ∷ ys)) [
    | true ↦ λ e here. (λ _. same_Some (ap first here), all_weaker (λ w. p w ≡ false) (λ w. p w ≡ true → w ≡ x) (λ w other passes. absurd (true≢false (sym passes ∙ other))) ys (none_pass p ys (ap tail here)))
    | false ↦ λ e rest. (λ passes. absurd (true≢false (sym passes ∙ e)), only p ys x rest)
  ] refl h
    where
      tail : List T → List T
      tail [] = []
      tail (z ∷ zs) = zs

  -- two tests that find the same one row
  same_tests : (p q : T → Bool) (xs : List T) (x : T) → filter p xs ≡ x ∷ [] → filter q xs ≡ x ∷ [] → AllByRecursion (λ w. p w ≡ q w) xs
  same_tests p q xs x one two = all_both (λ w. p w ≡ true → w ≡ x) (λ w. q w ≡ true → w ≡ x) (λ w. p w ≡ q w) (λ w a b. elim (p w) as (λ c. p w ≡ c → c ≡ q w) [
    | true ↦ λ e. sym (ap q (a e) ∙ first_passes q xs x (ap first two))
    | false ↦ λ e. elim (q w) as (λ c. q w ≡ c → false ≡ c) [
      | true ↦ λ f. absurd (true≢false (sym (ap p (b f) ∙ first_passes p xs x (ap first one)) ∙ e))
      | false ↦ λ f. refl
    ] refl
  ] refl) xs (only p xs x one) (only q xs x two)

-- ---- the row of an id of a key is the one of its body

module _ (t b k : Octets) (n : ℕ) where
  abbrev test : VersionRow → Bool
  test = is_version t b k n

  -- the rows that the test finds are those of this body, and no part has it
  pub record AreAt (at : Name) (tables : Tables) : Type 0 where
    pub versions : AllByRecursion (λ w. is_version t b k n w ≡ same_name (version_name w) at) tables.versions
    pub parts : list_any (same_name at) (map part_name tables.parts) ≡ false

  module _ (tables : Tables) (sound : IsSound tables) (v : VersionRow) (there : find (is_version t b k n) tables.versions ≡ Some v) where
    by_id : filter test tables.versions ≡ v ∷ []
    by_id = single _ (subst (λ (l : List VersionRow). length l ≤ 1) (one_version t b k n tables.versions) ((sound.tenants t).versions.one_id b k n)) v (first_find test tables.versions ∙ there)

    by_entry : filter (is_entry t v.seq) tables.versions ≡ v ∷ []
    by_entry = single _ (subst (λ (l : List VersionRow). length l ≤ 1) (filter_both (λ x. bytes_eq x.tenant t) (λ x. same_number x.seq v.seq) tables.versions) ((sound.tenants t).versions.one_seq v.seq)) v
        (first_find (is_entry t v.seq) tables.versions ∙ wanted_entry tables t sound b k (Named (id_of n)) v (named_row t b k n tables.versions ∙ there))

    pub one_entry : AreAt (t, v.seq) tables
    one_entry = record {
      versions = same_tests test (is_entry t v.seq) tables.versions v by_id by_entry;
      parts = version_apart tables t sound v (first_find (is_entry t v.seq) tables.versions ∙ wanted_entry tables t sound b k (Named (id_of n)) v (named_row t b k n tables.versions ∙ there));
    }

  -- without the rows no row has the name
  left_apart : (at : Name) (vs : List VersionRow) → AllByRecursion (λ w. test w ≡ same_name (version_name w) at) vs → list_any (same_name at) (map version_name (delete_where test vs)) ≡ false
  left_apart at [] all = refl
  left_apart at (w ∷ ws) all = elim (test w) as (λ c. test w ≡ c → list_any (same_name at) (map version_name (cond (not c) (w ∷ delete_where test ws) (delete_where test ws))) ≡ false) [
    | true ↦ λ e. left_apart at ws all.1
    | false ↦ λ e. ap (λ c. c || list_any (same_name at) (map version_name (delete_where test ws))) (name_swap at (version_name w) ∙ sym all.0 ∙ e) ∙ left_apart at ws all.1
  ] refl

  -- the rows have no other name
  only_name : (at q : Name) (vs : List VersionRow) → same_name q at ≡ false → AllByRecursion (λ w. test w ≡ same_name (version_name w) at) vs → list_any (same_name q) (map version_name (filter test vs)) ≡ false
  only_name at q [] apart all = refl
  only_name at q (w ∷ ws) apart all = elim (test w) as (λ c. test w ≡ c → list_any (same_name q) (map version_name (cond c (w ∷ filter test ws) (filter test ws))) ≡ false) [
    | true ↦ λ e. ap (λ c. c || list_any (same_name q) (map version_name (filter test ws))) (ap (same_name q) ((names.decides (version_name w) at).0 (sym all.0 ∙ e)) ∙ apart) ∙ only_name at q ws apart all.1
    | false ↦ λ e. only_name at q ws apart all.1
  ] refl

  -- ---- the tables

  module _ (more : List Name) (old : Tables) (at : Name) (is : AreWhole more old) (same : AreAt at old) where
    abbrev left : List RefRow
    left = delete_where (is_of_body at) old.refs

    -- without the body, and then without the row
    abbrev dropped : Tables
    dropped = record (body_dropped at old) { versions = delete_where test (body_dropped at old).versions }

    -- without the row, and the body still there
    abbrev taken : Tables
    taken = record old { versions = delete_where test old.versions }

    other_order : dropped ≡ body_dropped at taken
    other_order = ap (λ l. record (body_dropped at old) { versions = l }) (sym (map_delete (resolved_again left old.blocks) test test (λ w. refl) old.versions))

    unnamed : IsUnnamed at taken
    unnamed = record { versions = left_apart at old.versions same.versions; parts = same.parts }

    taken_whole : AreWhole (at ∷ more) taken
    taken_whole =
        let gone = map version_name (filter test old.versions) in
        whole_for (gone ++ more) (at ∷ more) taken taken.versions taken.parts (versions_taken old test more is).resolved
        (λ q none.
        let a = none_both (same_name q) (at ∷ more) (bodies_in taken) none in
        let b = none_both (same_name q) (at ∷ []) more a.0 in
        let apart : same_name q at ≡ false = (or_parts (same_name q at) false b.0).0 in
        none_either (same_name q) (gone ++ more) (bodies_in taken) (none_either (same_name q) gone more (only_name at q old.versions apart same.versions) b.1) a.1)
        (versions_taken old test more is)

    -- the other rows keep their bytes
    pub body_drops : dropped ≡ record old { versions = delete_where test old.versions; refs = left }
    body_drops = other_order ∙ body_goes taken at unnamed taken_whole.resolved

    pub dropped_whole : AreWhole more dropped
    dropped_whole = subst (AreWhole more) (sym other_order) (gone_whole taken at unnamed more taken_whole)

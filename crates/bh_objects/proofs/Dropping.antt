-- An entry that goes with its body, as a change of versions alone.
use Rattle.std.proofs.Common.{◌≡◌, ℕ, true, false, List, [], map, filter, find, Option, Some, None, option_map, refl, sym, ap, ◌∙◌, subst}
use Rattle.std.specs.List.{AllByRecursion, list_any}
use Rattle.std.specs.Option.{option_map_or}
use Rattle.sqlite_keyed.specs.Lists.{delete_where}
use Rattle.sqlite_keyed.proofs.ListLemmas.{all-filter}
use Rattle.bh_types.specs.declared.bucket_state.BucketState.{BucketState}
use Rattle.bh_types.specs.declared.bucket_state.BucketState.TheVariants.{Unversioned, Enabled, Suspended}
use Rattle.bh_model.specs.State.{Octets}
use Rattle.bh_tables.specs.Bodies.{Name, same_name, version_name, part_name}
use Rattle.bh_tables.specs.Typed.{VersionRow, Tables}
use Rattle.bh_tables.specs.Shown.{is_version}
use Rattle.bh_view.specs.Blocks.{whole}
use Rattle.bh_view.specs.Bodies.{AreWhole}
use Rattle.bh_view.specs.Put.{rows_left}
use Rattle.bh_view.specs.Sound.{IsSound}
use Rattle.bh_view.proofs.DropLemmas.{AreAt, one_entry, body_drops, dropped_whole}
use Rattle.bh_view.proofs.FactLemmas.{all_first, none_first}
use Rattle.bh_view.proofs.FilterLemmas.{first_passes, delete_none}
use Rattle.bh_view.proofs.FindLemmas.{first_find}
use Rattle.bh_view.proofs.NameLemmas.{names, name_swap}
use Rattle.bh_view.proofs.SetLemmas.{set_other}
use Rattle.bh_view.proofs.SharedLemmas.{names_block, named_still}
use Rattle.bh_view.proofs.WholeLemmas.{refs_dropped}
use Rattle.bh_objects.specs.Writes.{without_entry, without_null, without_replaced, with_room}
use Rattle.bh_objects.specs.Found.{replaced_in}
use Rattle.bh_objects.specs.declared.quotas.Replaced.{Replaced}

-- ---- what leaves these versions

-- the versions are these and the bodies theirs; bodies of no version before stay, and name the blocks that they named
pub record Leaves (more : List Name) (versions : List VersionRow) (x y : Tables) : Type 0 where
  pub is : y ≡ record x { versions = versions; refs = y.refs }
  pub is_whole : AreWhole more y
  pub bytes : (body : Name) → AllByRecursion (λ (w : VersionRow). same_name body (version_name w) ≡ false) x.versions → whole y.refs y.blocks body ≡ whole x.refs x.blocks body
  pub named : (body block : Name) → AllByRecursion (λ (w : VersionRow). same_name body (version_name w) ≡ false) x.versions
      → list_any (names_block body block) x.refs ≡ true → list_any (names_block body block) y.refs ≡ true

module _ (old : Tables) (sound : IsSound old) (more : List Name) (x : Tables) (is_whole : AreWhole more x) (versions : x.versions ≡ old.versions) (parts : x.parts ≡ old.parts) (t b k : Octets) where
  abbrev Gone : ℕ → Tables → Type 0
  Gone n y = Leaves more (delete_where (is_version t b k n) x.versions) x y

  pub entry_gone : (n : ℕ) (v : VersionRow) → find (is_version t b k n) old.versions ≡ Some v → Gone n (without_entry t b k n v.seq x)
  entry_gone n v there =
      let at : Name = (t, v.seq) in
      let first = first_find (is_version t b k n) old.versions ∙ there in
      let same = one_entry t b k n old sound v there in
      let here : AreAt t b k n at x = record {
        versions = subst (AllByRecursion (λ w. is_version t b k n w ≡ same_name (version_name w) at)) (sym versions) same.versions;
        parts = ap (λ ps. list_any (same_name at) (map part_name ps)) parts ∙ same.parts;
      } in
      let its : same_name (version_name v) at ≡ true = sym (all_first _ (filter (is_version t b k n) old.versions) v first (all-filter _ _ _ same.versions)) ∙ first_passes (is_version t b k n) old.versions v first in
      let apart : (body : Name) → AllByRecursion (λ (w : VersionRow). same_name body (version_name w) ≡ false) x.versions → same_name body at ≡ false = λ body none.
      subst (λ q. same_name body q ≡ false) ((names.decides (version_name v) at).0 its)
      (all_first (λ (w : VersionRow). same_name body (version_name w) ≡ false) (filter (is_version t b k n) old.versions) v first
      (all-filter _ _ _ (subst (AllByRecursion (λ (w : VersionRow). same_name body (version_name w) ≡ false)) versions none))) in
      record {
        is = body_drops t b k n more x at is_whole here;
        is_whole = dropped_whole t b k n more x at is_whole here;
        bytes = λ body none. (λ i. refs_dropped x.refs x.blocks at i body) ∙ set_other at (whole x.refs x.blocks) [] body (name_swap at body ∙ apart body none);
        named = λ body block none. named_still body at block x.refs (apart body none);
      }

  nothing_gone : (n : ℕ) → find (is_version t b k n) x.versions ≡ None → Gone n x
  nothing_gone n none = record {
    is = ap (λ l. record x { versions = l }) (sym (delete_none (is_version t b k n) x.versions (none_first _ (first_find (is_version t b k n) x.versions ∙ none))));
    is_whole = is_whole;
    bytes = λ body apart. refl;
    named = λ body block apart named. named;
  }

  null_gone : Gone 0 (without_null t b k x)
  null_gone = go (find (is_version t b k 0) x.versions) refl
    where
      go : (o : Option VersionRow) → find (is_version t b k 0) x.versions ≡ o → Gone 0 (option_map_or (λ v. without_entry t b k 0 v.seq x) o x)
      go None none = nothing_gone 0 none
      go (Some v) there = entry_gone 0 v (ap (find (is_version t b k 0)) (sym versions) ∙ there)

  pub room_made : (mode : BucketState) → Leaves more (rows_left mode t b k x.versions) x (with_room mode t b k x)
  room_made Unversioned = null_gone
  room_made Enabled = record { is = refl; is_whole = is_whole; bytes = λ body apart. refl; named = λ body block apart named. named }
  room_made Suspended = null_gone

-- what was found before is what there is to make room for
pub room_found : (mode : BucketState) (t b k : Octets) (old x : Tables) → x.versions ≡ old.versions → without_replaced t b k (replaced_in mode t b k old) x ≡ with_room mode t b k x
room_found mode t b k old x same = ap (λ (r : Option Replaced). without_replaced t b k r x) (here mode) ∙ there mode
  where
    here : (m : BucketState) → replaced_in m t b k old ≡ replaced_in m t b k x
    here Unversioned = ap (λ l. option_map (λ (v : VersionRow). record { seq = v.seq; size = v.size }) (find (is_version t b k 0) l)) (sym same)
    here Enabled = refl
    here Suspended = ap (λ l. option_map (λ (v : VersionRow). record { seq = v.seq; size = v.size }) (find (is_version t b k 0) l)) (sym same)

    each : (o : Option VersionRow) → without_replaced t b k (option_map (λ (v : VersionRow). record { seq = v.seq; size = v.size }) o) x ≡ option_map_or (λ (v : VersionRow). without_entry t b k 0 v.seq x) o x
    each None = refl
    each (Some v) = refl

    there : (m : BucketState) → without_replaced t b k (replaced_in m t b k x) x ≡ with_room m t b k x
    there Unversioned = each (find (is_version t b k 0) x.versions)
    there Enabled = refl
    there Suspended = each (find (is_version t b k 0) x.versions)

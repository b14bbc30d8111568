-- What a host shows that was closed and opened again.
use Rattle.std.proofs.Common.{◌≡◌, false, IsTrue, Option, Some, refl, sym, ap, ap₂, subst, ◌∙◌}
use Rattle.sqlite_disk.specs.declared.Disk.{Ghosts}
use Rattle.sqlite_store.specs.declared.store.FileStore.{FileStore}
use Rattle.sqlite.specs.Files.{file_state}
use Rattle.sqlite.specs.Held.{Held}
use Rattle.bh_types.specs.Limits.{HostLimits, HostTuning}
use Rattle.bh_tables.specs.Hosts.{tables_shown}
use Rattle.bh_tables.specs.Typed.{Tables}
use Rattle.bh_view.specs.View.{limits_in}
use Rattle.bh_tables.specs.Schema.{Octets}
use Rattle.bh_view.specs.Bodies.{IsSoundHost}
use Rattle.bh_storage.specs.Calls.{Seen, IsAtRest}
use Rattle.bh_memo.specs.Facts.{Facts, nothing}
use Rattle.bh_memo.specs.Recalled.{recalled}
use Rattle.bh_memo.proofs.Recalling.{nothing_recalled, same_limits, rests_alone, rests_under}
use Rattle.bh_cache.specs.Kept.{KeptBlocks, no_blocks}
use Rattle.bh_shelf.specs.Contents.{Contents, Within}
use Rattle.bh_shelf.specs.declared.shelf.Shelf.{Ghosts as Shelves}
use Rattle.bh_base.specs.Connections.{backing}
use Rattle.bh_base.specs.Layer.{standing, IsIntact, IsOpen, Leaves}
use Rattle.bh_base.specs.Placed.{filled}
use Rattle.bh_base.specs.Shown.{Backing, named, shown}
use Rattle.bh_base.proofs.Lifting.{intact_shown}
use Rattle.bh_base.proofs.Placing.{within_then, same_filled}
use Rattle.bh_schema.specs.Storage.{beside, seen_in, left_in}
use Rattle.bh_schema.proofs.Storing.{sound_host}
use Rattle.bh_backup.specs.Copies.{IsFileOf}
use Rattle.bh_dispatch.specs.declared.sql_host.SqlHost.{SqlHost}
use Rattle.bh_kept.specs.Closings.{IsOpenAgain}
use Rattle.bh_backup.specs.Packs.{HaveAll}
use Rattle.bh_kept.specs.Copies.{AreAsBefore}
use Rattle.bh_kept.specs.Kept as kept
use Rattle.bh_kept.specs.Kept.{Shows}

module _ {D : Type 0} {g : Ghosts D} (a b : Backing) (cache : KeptBlocks) (tuning : HostTuning) (limits : HostLimits) (old again : Held (FileStore D g)) where
  kept_shown : (beside cache (seen_in limits (shown a (file_state old)))).kept ≡ tables_shown (filled a.kept (file_state old).committed)
  unfolding beside seen_in standing
  kept_shown = refl

  -- the host that was closed, and opened again
  module _ (it : IsOpenAgain old again) (packs : AreAsBefore a b) where
    now_shown : (beside (no_blocks tuning) (seen_in limits (shown b (file_state again)))).now ≡ tables_shown (filled a.kept (file_state old).committed)
    unfolding beside seen_in standing
    now_shown = ap (λ i. tables_shown (filled (named b i) (file_state again).now)) it.opens.autocommit ∙ ap₂ (λ c db. tables_shown (filled c db)) packs.kept (it.opens.clean ∙ it.same)

    kept_again : (beside (no_blocks tuning) (seen_in limits (shown b (file_state again)))).kept ≡ tables_shown (filled a.kept (file_state old).committed)
    unfolding beside seen_in standing
    kept_again = ap₂ (λ c db. tables_shown (filled c db)) packs.kept it.same

    outside_again : (beside (no_blocks tuning) (seen_in limits (shown b (file_state again)))).inside ≡ false
    unfolding beside seen_in standing
    outside_again = it.opens.autocommit

    pub opened_before : IsIntact (shown a (file_state old))
    unfolding IsIntact
    opened_before = intact_shown a (file_state old) it.was_clean packs.was_clean

    pub was_up : IsOpen (shown a (file_state old))
    unfolding IsOpen
    was_up = it.was_open

    pub left_before : (x : Tables) → left_in (shown b (file_state again)) x → left_in (shown a (file_state old)) x
    unfolding left_in Leaves
    left_before x (db, (left, c, may, within, put), lists, is) = (db, (left, c, it.leaves left may, within_then a.stood b.stood c packs.stood within, put), lists, is)

  pub limits_kept : (beside (no_blocks tuning) (seen_in limits (shown b (file_state again)))).limits ≡ (beside cache (seen_in limits (shown a (file_state old)))).limits
  unfolding beside seen_in standing
  limits_kept = refl

  limits_again : (beside (no_blocks tuning) (seen_in limits (shown b (file_state again)))).limits ≡ limits
  unfolding beside seen_in standing
  limits_again = refl

  limits_before : (beside cache (seen_in limits (shown a (file_state old)))).limits ≡ limits
  unfolding beside seen_in standing
  limits_before = refl

  module _ (digest : Octets → Octets) (rest : IsAtRest (IsSoundHost digest) (beside cache (seen_in limits (shown a (file_state old))))) where
    module _ (it : IsOpenAgain old again) (packs : AreAsBefore a b) where
      pub stands : (beside (no_blocks tuning) (seen_in limits (shown b (file_state again)))).now ≡ (beside cache (seen_in limits (shown a (file_state old)))).now
      stands = now_shown it packs ∙ sym kept_shown ∙ rest.committed

      pub rests : IsAtRest (IsSoundHost digest) (beside (no_blocks tuning) (seen_in limits (shown b (file_state again))))
      rests = record {
        outside = outside_again it packs;
        committed = kept_again it packs ∙ sym (now_shown it packs);
        sound = subst (IsSoundHost digest) (sym stands) rest.sound;
        limits = ap limits_in stands ∙ rest.limits ∙ limits_before ∙ sym limits_again;
      }

    -- what it shows is what was committed
    shows_kept : (beside cache (seen_in limits (shown a (file_state old)))).now ≡ tables_shown (filled a.kept (file_state old).committed)
    shows_kept = sym rest.committed ∙ kept_shown

    -- with bytes from any packs that have what was kept
    shows_with : (left : Contents) → Within a.kept left → (beside cache (seen_in limits (shown a (file_state old)))).now ≡ tables_shown (filled left (file_state old).committed)
    shows_with left has =
        let sound = subst (IsSoundHost digest) shows_kept rest.sound in
        shows_kept ∙ ap tables_shown (same_filled a.kept left has (file_state old).committed (sound_host (filled a.kept (file_state old).committed) sound.sound).held.blocks)

    pub copy_shows : {E C : Type 0} (e : Ghosts E) (c : Shelves C) (file : E) (packs : C) → IsFileOf e (file_state old).committed file → (IsTrue (c.is_clean packs) → Within a.kept (c.stood packs)) → Shows e c file packs (beside cache (seen_in limits (shown a (file_state old)))).now
    copy_shows e c file packs is has = ((file_state old).committed, is, λ clean left within. shows_with left (within_then a.kept (c.stood packs) left (has clean) within))

-- ---- the same of a host that is kept

module _ {D P G : Type 0} {g : Ghosts D} (p : Shelves P) (digester : G) (facts : Facts) (cache : KeptBlocks) (limits made_with : HostLimits) (old : Held (FileStore D g)) (packs : P)
    (was : Option (SqlHost (FileStore D g) P G)) (is : was ≡ Some (record { host = record { connection = record { database = old; packs = packs }; digester = digester; limits = limits; cache = cache }; memo = facts })) where
  -- what its packs have
  abbrev packed : Backing
  packed = backing p packs

  -- what it showed, but for what is remembered
  abbrev alone : Seen
  alone = beside cache (seen_in limits (shown packed (file_state old)))

  pub limits_stay : limits ≡ (kept.seen p made_with was).limits
  limits_stay = sym (ap (λ o. (kept.seen p made_with o).limits) is ∙ same_limits facts alone ∙ limits_before packed packed cache cache.tuning limits old old)

  -- what it showed
  module _ (digest : Octets → Octets) (rest : IsAtRest (IsSoundHost digest) (kept.seen p made_with was)) where
    rest_recalled : IsAtRest (IsSoundHost digest) (recalled facts alone)
    rest_recalled = subst (λ o. IsAtRest (IsSoundHost digest) (kept.seen p made_with o)) is rest

    rest_before : IsAtRest (IsSoundHost digest) alone
    rest_before = rests_under facts alone rest_recalled

    shown_before : (kept.seen p made_with was).now ≡ alone.now
    shown_before = ap (λ o. (kept.seen p made_with o).now) is ∙ ap (λ (x : Seen). x.now) (rests_alone facts alone rest_recalled)

    copy_kept : {E C : Type 0} (e : Ghosts E) (c : Shelves C) (file : E) (copied : C) → IsFileOf e (file_state old).committed file → HaveAll p c packs copied → Shows e c file copied (kept.seen p made_with was).now
    copy_kept e c file copied of has = subst (Shows e c file copied) (sym shown_before) (copy_shows packed packed cache cache.tuning limits old old digest rest_before e c file copied of has)

  module _ (tuning : HostTuning) (again : Held (FileStore D g)) (after_packs : P) where
    abbrev packed_after : Backing
    packed_after = backing p after_packs

    -- what it shows, of which nothing is remembered
    abbrev after : Seen
    after = beside (no_blocks tuning) (seen_in limits (shown packed_after (file_state again)))

    pub limits_after : (recalled nothing after).limits ≡ (kept.seen p made_with was).limits
    limits_after = same_limits nothing after ∙ limits_again packed packed_after cache tuning limits old again ∙ limits_stay

    module _ (it : IsOpenAgain old again) (still : AreAsBefore packed packed_after) where
      pub intact_kept : kept.IsIntact p was
      intact_kept = subst (λ o. kept.IsIntact p o) (sym is) (opened_before packed packed_after cache tuning limits old again it still)

      up_kept : kept.IsOpen p was
      up_kept = subst (λ o. kept.IsOpen p o) (sym is) (was_up packed packed_after cache tuning limits old again it still)

      pub left_kept : (x : Tables) → left_in (shown packed_after (file_state again)) x → kept.left p was x
      left_kept x may = subst (λ o. kept.left p o x) (sym is) (left_before packed packed_after cache tuning limits old again it still x may)

      module _ (digest : Octets → Octets) (rested : kept.IsIntact p was × kept.IsOpen p was → IsAtRest (IsSoundHost digest) (kept.seen p made_with was)) where
        rest : IsAtRest (IsSoundHost digest) (kept.seen p made_with was)
        rest = rested (intact_kept, up_kept)

        pub same_kept : kept.IsOpen p was × ((recalled nothing after).now ≡ (kept.seen p made_with was).now)
        same_kept =
            let stay = stands packed packed_after cache tuning limits old again digest (rest_before digest rest) it still in
            (up_kept, ap (λ (x : Seen). x.now) (nothing_recalled after) ∙ stay ∙ sym (shown_before digest rest))

        pub rests_kept : IsAtRest (IsSoundHost digest) (recalled nothing after)
        rests_kept =
            subst (IsAtRest (IsSoundHost digest)) (sym (nothing_recalled after)) (rests packed packed_after cache tuning limits old again digest (rest_before digest rest) it still)

        pub copies_kept : {E C : Type 0} (e : Ghosts E) (c : Shelves C) (file : E) (copied : C) → IsFileOf e (file_state old).committed file → HaveAll p c packs copied → Shows e c file copied (kept.seen p made_with was).now
        copies_kept = copy_kept digest rest

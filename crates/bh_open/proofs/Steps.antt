-- The calls of an open, one after another.
use Rattle.std.proofs.Common.{◌≡◌, ◌≢◌, ◌⊎◌, inl, inr, ◌==◌, Bool, true, false, not, ◌&&◌, List, [], ◌∷◌, map, None, Result, Ok, Err, IfOk, IsTrue, refl, sym, ap, ◌∙◌, subst}
use Rattle.std.specs.List.{list_all}
use Rattle.sqlite_trees.specs.declared.memory.MemStore.{MemStore}
use Rattle.sqlite.specs.Effect.{Database}
use Rattle.sqlite.specs.Held.{Held, state as database_state, IsNew}
use Rattle.bh_shelf.specs.declared.no_shelf.NoShelf.{NoShelf}
use Rattle.bh_base.specs.declared.connection.Connection.{Connection}
use Rattle.bh_base.specs.Connections.{state, without_packs}
use Rattle.sqlite.specs.Schema.{Schema}
use Rattle.sqlite.specs.Tree.{Trees}
use Rattle.sqlite.specs.Steps.{over_memory}
use Rattle.sqlite.specs.State.{State}
use Rattle.bh_rows.specs.Form.{AreRows, typed as typed_rows}
use Rattle.bh_shelf.specs.Contents.{Contents}
use Rattle.bh_types.specs.BlockDigests.{digest_number}
use Rattle.bh_types.specs.Limits.{HostLimits}
use Rattle.bh_types.specs.declared.block_digest.BlockDigest.{BlockDigest}
use Rattle.bh_model.specs.State.{Octets}
use Rattle.bh_tables.specs.Made.{with_uses_by_count, with_retains, with_tallies, with_garbage}
use Rattle.bh_tables.specs.Schema.{no_schema, first_schema, second_schema, third_schema, fourth_schema, host_schema}
use Rattle.bh_tables.specs.Typed.{HostRow, Tables, IsHost, IsFirstHost, IsSecondHost, IsThirdHost, IsFourthHost, tables_in, host_form}
use Rattle.bh_tables.specs.Hosts.{with_version, IsOfVersion1, IsOfVersion2, IsOfVersion3, IsOfVersion4, is_of_version, tables_shown, tables_opened}
use Rattle.bh_tables.proofs.Creates.{first_made, second_made, third_made, fourth_made}
use Rattle.bh_tables.proofs.HostTests.{host_shows, other_schema, unlike_second, unlike_third, unlike_fourth, second_unlike_first, third_unlike_first, third_unlike_second, fourth_unlike_first, fourth_unlike_second, fourth_unlike_third, first_opens, second_opens, third_opens, fourth_opens}
use Rattle.bh_view.specs.Bodies.{IsSoundHost}
use Rattle.bh_view.specs.View.{latest_of, limits_in}
use Rattle.bh_storage.specs.Calls.{IsAtRest, Seen}
use Rattle.bh_base.specs.Layer.{Standing, standing, IsIntact, IsOpen, IsStateClean, Leaves, KeepsDisk, LeavesNothingNew, begun, taken_back}
use Rattle.bh_base.specs.Placed.{filled_trees, filled}
use Rattle.bh_schema.specs.Storage.{seen_in}
use Rattle.bh_schema.proofs.Storing.{sound_host}
use Rattle.bh_create.specs.Creation.{IsEmpty, IsMaking, IsNewHost}
use Rattle.bh_create.proofs.Building.{begun_making}
use Rattle.bh_migration.specs.Migration.{Settles, LeavesChanged, IsOfEarlier}
use Rattle.bh_migration.proofs.Stages.{shows_same}
use Rattle.bh_open.specs.Opening.{digest_in, IsRowOf, IsHostOf, IsSettled, IsKept, Tells, Reads, IsNoHost, FindsHost, Finds, IsTypedFor, IsLegible, Opens, LeavesOver}
use Rattle.bh_open.specs.Packed.{tables_beside, seen_beside}
use Rattle.bh_open.specs.Versions.{number_of, schema_of, IsEarlierSchema, IsHostsSchema, IsHostWith, IsAnyHost, IsTypedIfEarlier}
use Rattle.bh_open.specs.declared.found.FoundHost.{FoundHost}
use Rattle.bh_open.specs.declared.found.HostVersion.{HostVersion}
use Rattle.bh_open.specs.declared.found.HostVersion.TheVariants.{First, Second, Third, Fourth, Fifth}
use Rattle.bh_open.specs.declared.found.NoHost.{NoHost}
use Rattle.bh_open.proofs.Beside.{beside_present, beside_earlier, beside_is, unplaced_same}
use Rattle.bh_open.proofs.Texts.{typed_host}
use Rattle.bh_open.proofs.Rows.{digest_kept, latest_kept, limits_kept, told_brought}

-- ---- a new host in memory

pub made_schema : (limits : HostLimits) (named : BlockDigest) (s : State) → IsNewHost limits named s → s.now.schema ≡ host_schema
unfolding seen_in standing
made_schema limits named s new = (sound_host s.now (new.rest (λ bytes. bytes)).sound.sound).schema

pub first_schema_made : (s : State) → IsMaking with_uses_by_count s → s.now.schema ≡ first_schema
first_schema_made s making = making.blank.schema_is ∙ first_made

pub second_schema_made : (s : State) → IsMaking with_retains s → s.now.schema ≡ second_schema
second_schema_made s making = making.blank.schema_is ∙ second_made

pub third_schema_made : (s : State) → IsMaking with_tallies s → s.now.schema ≡ third_schema
third_schema_made s making = making.blank.schema_is ∙ third_made

pub fourth_schema_made : (s : State) → IsMaking with_garbage s → s.now.schema ≡ fourth_schema
fourth_schema_made s making = making.blank.schema_is ∙ fourth_made

-- with no packs
abbrev no_shelf : NoShelf
no_shelf = record {}

abbrev alone : Held MemStore → State
alone h = state over_memory without_packs (record { database = h; packs = no_shelf })

pub first_making : (old : Held MemStore) (new : Connection MemStore NoShelf) → IsEmpty (database_state over_memory old) → standing (state over_memory without_packs new) ≡ begun (standing (alone old)) → IsMaking no_schema (state over_memory without_packs new)
first_making old new empty is = begun_making (alone old) (state over_memory without_packs new) empty is

pub unlimited : (h : Held MemStore) → IsNew h → (standing (alone h)).limit ≡ None
unfolding standing
unlimited h new = new.unlimited

pub outside : (h : Held MemStore) → IsNew h → (standing (alone h)).inside ≡ false
unfolding standing
outside h new = new.autocommit

-- ---- whether a transaction is open

pub was_inside : (s : State) (b : Bool) → b ≡ not s.in_transaction → b ≡ false → (standing s).inside ≡ false → false ≡ true
unfolding standing
was_inside s b is shut out = sym shut ∙ is ∙ ap not out

pub settled_when : (s : State) (b : Bool) → b ≡ not s.in_transaction → (IsTrue b → IsTrue s.is_open → s.now ≡ s.committed) → b ≡ true → IsSettled s
unfolding standing IsOpen
settled_when s b is settles on = record { outside = go s.in_transaction (sym is ∙ on); committed = λ up. settles on up }
  where
    go : (inside : Bool) → not inside ≡ true → inside ≡ false
    go true h = sym h
    go false h = refl

pub schema_seen : (s : State) (schema : Schema) → s.now.schema ≡ schema → (standing s).now.schema ≡ schema
unfolding standing
schema_seen s schema is = is

pub seen_schema : (s : State) (schema : Schema) → (standing s).now.schema ≡ schema → s.now.schema ≡ schema
unfolding standing
seen_schema s schema is = is

-- ---- one version alone

with_schema : (v : HostVersion) (db : Database) → IsHostWith v db → db.schema ≡ schema_of v
with_schema First db host = host.schema
with_schema Second db host = host.schema
with_schema Third db host = host.schema
with_schema Fourth db host = host.schema
with_schema Fifth db host = host.schema

one_version : (v w : HostVersion) (db : Database) → db.schema ≡ schema_of v → db.schema ≡ schema_of w → w ≡ v
one_version First First db is other = refl
one_version First Second db is other = absurd (second_unlike_first db other is)
one_version First Third db is other = absurd (third_unlike_first db other is)
one_version First Fourth db is other = absurd (fourth_unlike_first db other is)
one_version First Fifth db is other = absurd (other_schema db other is)
one_version Second First db is other = absurd (second_unlike_first db is other)
one_version Second Second db is other = refl
one_version Second Third db is other = absurd (third_unlike_second db other is)
one_version Second Fourth db is other = absurd (fourth_unlike_second db other is)
one_version Second Fifth db is other = absurd (unlike_second db other is)
one_version Third First db is other = absurd (third_unlike_first db is other)
one_version Third Second db is other = absurd (third_unlike_second db is other)
one_version Third Third db is other = refl
one_version Third Fourth db is other = absurd (fourth_unlike_third db other is)
one_version Third Fifth db is other = absurd (unlike_third db other is)
one_version Fourth First db is other = absurd (fourth_unlike_first db is other)
one_version Fourth Second db is other = absurd (fourth_unlike_second db is other)
one_version Fourth Third db is other = absurd (fourth_unlike_third db is other)
one_version Fourth Fourth db is other = refl
one_version Fourth Fifth db is other = absurd (unlike_fourth db other is)
one_version Fifth First db is other = absurd (other_schema db is other)
one_version Fifth Second db is other = absurd (unlike_second db is other)
one_version Fifth Third db is other = absurd (unlike_third db is other)
one_version Fifth Fourth db is other = absurd (unlike_fourth db is other)
one_version Fifth Fifth db is other = refl

-- a host of any version is one of the version that its schema has
pub host_with : (v : HostVersion) (db : Database) → db.schema ≡ schema_of v → IsAnyHost db → IsHostWith v db
host_with v db is any = subst (λ w. IsHostWith w db) (one_version v any.0 db is (with_schema any.0 db any.1)) any.1

pub any_schema : (v : HostVersion) (schema : Schema) → schema ≡ schema_of v → IsHostsSchema schema
any_schema First schema is = inl is
any_schema Second schema is = inr (inl is)
any_schema Third schema is = inr (inr (inl is))
any_schema Fourth schema is = inr (inr (inr (inl is)))
any_schema Fifth schema is = inr (inr (inr (inr is)))

pub no_schema_of : (schema : Schema) → ((v : HostVersion) → schema ≢ schema_of v) → IsHostsSchema schema → ⊥
no_schema_of schema other (inl is) = other First is
no_schema_of schema other (inr (inl is)) = other Second is
no_schema_of schema other (inr (inr (inl is))) = other Third is
no_schema_of schema other (inr (inr (inr (inl is)))) = other Fourth is
no_schema_of schema other (inr (inr (inr (inr is)))) = other Fifth is

-- that of an older host isn't the present one
pub not_present : (db : Database) → IsEarlierSchema db.schema → db.schema ≡ host_schema → ⊥
not_present db (inl is) present = other_schema db present is
not_present db (inr (inl is)) present = unlike_second db present is
not_present db (inr (inr (inl is))) present = unlike_third db present is
not_present db (inr (inr (inr is))) present = unlike_fourth db present is

-- ---- what is found

pub finds_of : (v : HostVersion) (db : Database) (found : Result FoundHost NoHost) → db.schema ≡ schema_of v → IfOk found (λ f. f.version ≡ v) → (AreRows host_form (db.trees 0) → Reads v (tables_in db).host found) → Finds db found
finds_of v db (Ok f) schema its reads = λ typed. subst (λ w. Tells w (tables_in db).host f) (sym its) (reads typed)
finds_of v db (Err why) schema its reads = λ other same tree limits it.
    let one = one_version v it.0 other (same ∙ schema) (with_schema it.0 other it.1.host) in
    let typed = subst (AreRows host_form) tree (typed_host it.0 other it.1.host).1 in
    let row = subst (λ l. IsRowOf (number_of it.0) limits (typed_rows host_form l)) tree it.1.row in
    reads typed limits (subst (λ w. IsRowOf (number_of w) limits (tables_in db).host) one row)

pub finds_none : (db : Database) → ((v : HostVersion) → db.schema ≢ schema_of v) → IsNoHost db
finds_none db unlike other same tree limits it = unlike it.0 (sym same ∙ with_schema it.0 other it.1.host)

pub schema_of_found : (v : HostVersion) (db : Database) (found : Result FoundHost NoHost) → db.schema ≡ schema_of v → IfOk found (λ f. f.version ≡ v) → IfOk found (λ f. db.schema ≡ schema_of f.version)
schema_of_found v db (Ok f) is its = is ∙ ap schema_of (sym its)
schema_of_found v db (Err why) is its = tt

-- ---- after the transaction is taken back

module _ (old mid new : State) (settled : IsSettled old) (kept : IsKept old mid) (follows : KeepsDisk mid new) (back : IsStateClean new → standing new ≡ taken_back (standing mid)) where
  pub same : IsStateClean new → standing new ≡ standing old
  same clean =
      let was = follows.clean clean in
      let committed = sym (settled.committed (kept.follows.clean was).is_open) in
      back clean ∙ (λ i. record { now = (kept.kept was ∙ committed) i; kept = kept.kept was i; inside = sym settled.outside i; limit = kept.follows.limit i })

-- without a transaction, all is as it was committed
pub taken_same : (x : Standing) → x.inside ≡ false → x.now ≡ x.kept → taken_back x ≡ x
taken_same x outside committed = λ i. record { now = sym committed i; kept = x.kept; inside = sym outside i; limit = x.limit }

-- what a crash leaves of a call that changed nothing, and one that may have brought the database over
pub over_then : (a m d : State) → LeavesNothingNew a m → (IsStateClean m → standing m ≡ standing a) → KeepsDisk m d → LeavesOver m d → IsOpen a → LeavesOver a d
over_then a m d first same follows over up intact db left =
    let before = follows.intact intact in
    elim (over intact db left) [
      | inl was ↦ inl (first before db was)
      | inr it ↦
          let e = same (record { intact = before; is_open = it.is_open }) in
          inr (record { is_open = up; schema = subst (λ (x : Standing). IsEarlierSchema x.now.schema) e it.schema; changed = subst (λ (x : Standing). LeavesChanged x.now db) e it.changed })
    ]

-- ---- once it is brought over, or was of the present version

pub opens_brought : (v : HostVersion) (old new : Standing) → old.now.schema ≡ schema_of v → IsEarlierSchema old.now.schema → Settles old new → Opens v old new
opens_brought v old new schema earlier settles = record {
  schema = schema;
  outside = settles.outside;
  committed = settles.committed;
  same = λ present. absurd (not_present old.now earlier present);
  brought = λ _. settles;
}

pub opens_same : (old : Standing) → old.now.schema ≡ host_schema → old.inside ≡ false → old.now ≡ old.kept → Opens Fifth old old
opens_same old schema outside committed = record {
  schema = schema;
  outside = outside;
  committed = sym committed;
  same = λ _. refl;
  brought = λ earlier. absurd (not_present old.now earlier schema);
}

-- what a crash leaves of bringing it over
pub left_over : (a d : State) → KeepsDisk a d → (IsStateClean a → IsEarlierSchema (standing a).now.schema) → (IsIntact d → (db : Trees) → Leaves d db → Leaves a db ⊎ (IsOpen a × LeavesChanged (standing a).now db)) → LeavesOver a d
left_over a d follows earlier crash intact db left = elim (crash intact db left) [
  | inl was ↦ inl was
  | inr it ↦ inr (record { is_open = it.0; schema = earlier (record { intact = follows.intact intact; is_open = it.0 }); changed = it.1 })
]

-- ---- once it is opened

module _ (old new : Standing) where
  told_after : (v : HostVersion) (found : FoundHost) → Opens v old new → IsTypedIfEarlier old.now → AreRows host_form (new.now.trees 0) → (AreRows host_form (old.now.trees 0) → Tells v (tables_in old.now).host found) → Tells Fifth (tables_in new.now).host found
  told_after First found o typed rows told =
      let host = typed.first o.schema in
      subst (λ (l : List HostRow). Tells Fifth l found) (sym (ap (λ (t : Tables). t.host) ((o.brought (inl o.schema)).changed.first host).rows)) (told_brought First (tables_in old.now).host found (told host.held.host))
  told_after Second found o typed rows told =
      let host = typed.second o.schema in
      subst (λ (l : List HostRow). Tells Fifth l found) (sym (ap (λ (t : Tables). t.host) ((o.brought (inr (inl o.schema))).changed.second host).rows)) (told_brought Second (tables_in old.now).host found (told host.held.host))
  told_after Third found o typed rows told =
      let host = typed.third o.schema in
      subst (λ (l : List HostRow). Tells Fifth l found) (sym (ap (λ (t : Tables). t.host) ((o.brought (inr (inr (inl o.schema)))).changed.third host).rows)) (told_brought Third (tables_in old.now).host found (told host.held.host))
  told_after Fourth found o typed rows told =
      let host = typed.fourth o.schema in
      subst (λ (l : List HostRow). Tells Fifth l found) (sym (ap (λ (t : Tables). t.host) ((o.brought (inr (inr (inr o.schema)))).changed.fourth host).rows)) (told_brought Fourth (tables_in old.now).host found (told host.held.host))
  told_after Fifth found o typed rows told =
      subst (λ (x : Standing). Tells Fifth (tables_in x.now).host found) (sym (o.same o.schema)) (told (subst (λ (x : Standing). AreRows host_form (x.now.trees 0)) (o.same o.schema) rows))

  first_version : (found : FoundHost) → IsFirstHost old.now → Tells First (tables_in old.now).host found → IsOfVersion1 old.now
  first_version found host it = record { first = host; version = ap (list_all (is_of_version 1)) it.0.alone ∙ ap (λ n. (n == 1) && true) it.0.version_is }

  second_version : (found : FoundHost) → IsSecondHost old.now → Tells Second (tables_in old.now).host found → IsOfVersion2 old.now
  second_version found host it = record { second = host; version = ap (list_all (is_of_version 2)) it.0.alone ∙ ap (λ n. (n == 2) && true) it.0.version_is }

  third_version : (found : FoundHost) → IsThirdHost old.now → Tells Third (tables_in old.now).host found → IsOfVersion3 old.now
  third_version found host it = record { third = host; version = ap (list_all (is_of_version 3)) it.0.alone ∙ ap (λ n. (n == 3) && true) it.0.version_is }

  fourth_version : (found : FoundHost) → IsFourthHost old.now → Tells Fourth (tables_in old.now).host found → IsOfVersion4 old.now
  fourth_version found host it = record { fourth = host; version = ap (list_all (is_of_version 4)) it.0.alone ∙ ap (λ n. (n == 4) && true) it.0.version_is }

  -- one of an earlier version has no places: so packs give it nothing
  earlier_after : (packs : Contents) (v : HostVersion) (found : FoundHost) → Settles old new → IsEarlierSchema old.now.schema → IsOfEarlier old.now → (it : Tells v (tables_in old.now).host found) → (tables_opened old.now).host ≡ with_version 5 it.0.row ∷ []
      → tables_shown (filled packs new.now) ≡ tables_beside packs old.now
  earlier_after packs v found settles earlier was it there =
      ap tables_shown (unplaced_same packs new.now settles.unplaced) ∙ shows_same old.now new.now was settles.changed
      ∙ sym (beside_earlier packs old.now (with_version 5 it.0.row) there (not_present old.now earlier))

  shown_after : (packs : Contents) (v : HostVersion) (found : FoundHost) → Opens v old new → FindsHost old.now found → found.version ≡ v → IsTypedIfEarlier old.now → tables_shown (filled packs new.now) ≡ tables_beside packs old.now
  shown_after packs First found o told is typed =
      let host = typed.first o.schema in
      let it = subst (λ v. Tells v (tables_in old.now).host found) is (told host.held.host) in
      let was = first_version found host it in
      earlier_after packs First found (o.brought (inl o.schema)) (inl o.schema) (inl was) it (ap (λ (t : Tables). t.host) (first_opens old.now was) ∙ ap (map (with_version 5)) it.0.alone)
  shown_after packs Second found o told is typed =
      let host = typed.second o.schema in
      let it = subst (λ v. Tells v (tables_in old.now).host found) is (told host.held.host) in
      let was = second_version found host it in
      earlier_after packs Second found (o.brought (inr (inl o.schema))) (inr (inl o.schema)) (inr (inl was)) it (ap (λ (t : Tables). t.host) (second_opens old.now was) ∙ ap (map (with_version 5)) it.0.alone)
  shown_after packs Third found o told is typed =
      let host = typed.third o.schema in
      let it = subst (λ v. Tells v (tables_in old.now).host found) is (told host.held.host) in
      let was = third_version found host it in
      earlier_after packs Third found (o.brought (inr (inr (inl o.schema)))) (inr (inr (inl o.schema))) (inr (inr (inl was))) it (ap (λ (t : Tables). t.host) (third_opens old.now was) ∙ ap (map (with_version 5)) it.0.alone)
  shown_after packs Fourth found o told is typed =
      let host = typed.fourth o.schema in
      let it = subst (λ v. Tells v (tables_in old.now).host found) is (told host.held.host) in
      let was = fourth_version found host it in
      earlier_after packs Fourth found (o.brought (inr (inr (inr o.schema)))) (inr (inr (inr o.schema))) (inr (inr (inr was))) it (ap (λ (t : Tables). t.host) (fourth_opens old.now was) ∙ ap (map (with_version 5)) it.0.alone)
  shown_after packs Fifth found o told is typed = ap (λ (x : Standing). tables_shown (filled packs x.now)) (o.same o.schema) ∙ sym (beside_present packs old.now o.schema)

  -- a database with its schema and its host's row is a host's of the limits that are found
  pub host_of : (found : FoundHost) → Opens found.version old new → FindsHost old.now found → (other : Database) → other.schema ≡ old.now.schema → other.trees 0 ≡ old.now.trees 0 → IsAnyHost other → IsHostOf found.limits other
  host_of found o told other same tree any =
      let host = host_with found.version other (same ∙ o.schema) any in
      let typed = subst (AreRows host_form) tree (typed_host found.version other host).1 in
      (found.version, record { host = host; row = subst (λ l. IsRowOf (number_of found.version) found.limits (typed_rows host_form l)) (sym tree) (told typed).0 })

  pub filled_host_of : (packs : Contents) (found : FoundHost) → Opens found.version old new → FindsHost old.now found → IsAnyHost (filled packs old.now) → IsHostOf found.limits (filled packs old.now)
  unfolding filled_trees
  filled_host_of packs found o told = host_of found o told (filled packs old.now) refl refl

-- no packs make it a host's
pub no_filled_host : (packs : Contents) (db : Database) → IsNoHost db → (limits : HostLimits) → ¬ IsHostOf limits (filled packs db)
unfolding filled_trees
no_filled_host packs db none = none (filled packs db) refl refl

module _ (old new : State) (found : FoundHost) (opens : IsStateClean new → Opens found.version (standing old) (standing new)) (told : IsStateClean new → FindsHost (standing old).now found) (packs : Contents) where
  -- what it shows beside the packs
  its : Database
  its = filled packs (standing new).now

  its_row : IsHost its → AreRows host_form ((standing new).now.trees 0)
  unfolding its filled_trees
  its_row host = host.held.host

  after : IsStateClean new → IsTypedIfEarlier (standing old).now → IsHost its → Tells Fifth (tables_in its).host found
  unfolding its filled_trees
  after clean typed host = told_after (standing old) (standing new) found.version found (opens clean) typed (its_row host) (told clean)

  is_so : seen_beside packs found.limits new ≡ record { now = tables_shown its; kept = tables_shown (filled packs (standing new).kept); inside = (standing new).inside; limits = found.limits }
  unfolding its
  is_so = beside_is packs found.limits new

  pub shows : IsStateClean new → IsTypedIfEarlier (standing old).now → (seen_beside packs found.limits new).now ≡ tables_beside packs (standing old).now
  unfolding its
  shows clean typed = ap (λ (s : Seen). s.now) is_so ∙ shown_after (standing old) (standing new) packs found.version found (opens clean) (told clean) refl typed

  module _ (digest : Octets → Octets) (clean : IsStateClean new) (typed : IsTypedIfEarlier (standing old).now) (sound : IsSoundHost digest (seen_beside packs found.limits new).now) where
    its_sound : IsSoundHost digest (tables_shown its)
    its_sound = subst (λ (s : Seen). IsSoundHost digest s.now) is_so sound

    its_host : IsHost its
    its_host = sound_host its its_sound.sound

    pub rests : IsAtRest (IsSoundHost digest) (seen_beside packs found.limits new)
    unfolding its
    rests = subst (IsAtRest (IsSoundHost digest)) (sym is_so) (record {
      outside = (opens clean).outside;
      committed = ap (λ db. tables_shown (filled packs db)) (opens clean).committed;
      sound = its_sound;
      limits = ap limits_in (host_shows its its_host) ∙ limits_kept (tables_in its) 5 found.limits (after clean typed its_host).0;
    })

    pub tells : found.latest ≡ latest_of (seen_beside packs found.limits new).now
    tells =
        let it = after clean typed its_host in
        it.1 ∙ latest_kept (tables_in its) 5 found.limits it.0 ∙ ap latest_of (sym (host_shows its its_host)) ∙ ap (λ (s : Seen). latest_of s.now) (sym is_so)

    pub names : digest_number found.digest ≡ digest_in (seen_beside packs found.limits new).now
    names =
        let it = after clean typed its_host in
        it.2 ∙ digest_kept (tables_in its) 5 found.limits it.0 ∙ ap digest_in (sym (host_shows its its_host)) ∙ ap (λ (s : Seen). digest_in s.now) (sym is_so)

-- ---- which rows are typed rows

module _ (db : Database) where
  typed_for : (v : HostVersion) → IsHostWith v db → IsTypedFor v db
  typed_for First host = host
  typed_for Second host = host
  typed_for Third host = host
  typed_for Fourth host = host
  typed_for Fifth host = host.held.packs

  pub legible : IsAnyHost db → IsLegible db
  legible any = record {
    host = (typed_host any.0 db any.1).1;
    rest = λ v is. typed_for v (host_with v db is any);
  }

  pub packed_legible : (packs : Contents) → IsHost (filled packs db) → IsLegible db
  unfolding filled_trees
  packed_legible packs host = record { host = host.held.host; rest = go }
    where
      go : (v : HostVersion) → db.schema ≡ schema_of v → IsTypedFor v db
      go First is = absurd (other_schema db host.schema is)
      go Second is = absurd (unlike_second db host.schema is)
      go Third is = absurd (unlike_third db host.schema is)
      go Fourth is = absurd (unlike_fourth db host.schema is)
      go Fifth is = host.held.packs

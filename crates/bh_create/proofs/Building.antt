-- The calls that make a host, one after another.
use Rattle.std.proofs.Common.{◌≡◌, ◌≤◌, ◌<◌, ◌+◌, inl, inr, ℕ, List, [], ◌∷◌, ◌++◌, length, get_or, drop, IsTrue, true, None, Ok, Err, Result, OnOk, OnErr, IfErr, refl, sym, ap, ◌∙◌, subst}
use Rattle.std.proofs.lemmas.List.{drop_more, drop_all}
use Rattle.sqlite.specs.Tree.{Trees}
use Rattle.bh_types.specs.BlockDigests.{digest_number}
use Rattle.bh_types.specs.Limits.{HostLimits, AreLimits}
use Rattle.bh_types.specs.declared.block_digest.BlockDigest.{BlockDigest}
use Rattle.bh_model.specs.QuotaLaws.{IsBounded}
use Rattle.bh_model.specs.State.{Octets}
use Rattle.bh_tables.specs.Schema.{no_schema}
use Rattle.bh_tables.specs.Made.{with_unneeded}
use Rattle.bh_tables.specs.Typed.{Tables, Totals, totals_of, unweighed, no_rows, tables_in}
use Rattle.bh_tables.specs.Hosts.{tables_shown}
use Rattle.bh_tables.proofs.HostTests.{host_shows}
use Rattle.bh_tables.proofs.Blank.{blank_host}
use Rattle.bh_tables.proofs.Creates.{all_made}
use Rattle.bh_view.specs.Blocks.{AreDigests}
use Rattle.bh_view.specs.Bodies.{IsSoundHost, HasBodies}
use Rattle.bh_view.specs.Laws.{new_host}
use Rattle.bh_view.specs.Sound.{IsSound}
use Rattle.bh_view.specs.View.{view}
use Rattle.bh_view.proofs.HostChanges.{created as host_created}
use Rattle.sqlite.specs.Schema.{Schema}
use Rattle.sqlite_trees.specs.Objects.{catalog_tree}
use Rattle.sqlite_catalog.specs.Listing.{Lists}
use Rattle.sqlite.specs.Table.{Table}
use Rattle.sqlite.specs.Change.{created, indexed}
use Rattle.sqlite.specs.State.{State, HasCleanDisk, Survives, Executes, CommitsBy}
use Rattle.sqlite.specs.declared.error.Error.{Error}
use Rattle.bh_rows.specs.Means.{IsBlank, is_trouble, IsUndone, StaysInside, Changes, Grows}
use Rattle.bh_rows.proofs.CreateLemmas.{Makes as Creates, grows, create_changes}
use Rattle.bh_rows.proofs.CreateErrors.{IsFree, create_trouble}
use Rattle.bh_rows.specs.Index.{Indexes}
use Rattle.bh_rows.proofs.IndexLemmas.{index_changes, index_grows}
use Rattle.bh_rows.proofs.IndexErrors.{IsFreeIndex, blank_trouble}
use Rattle.sqlite_schema.specs.declared.schema.Index.{Index}
use Rattle.bh_base.specs.Layer.{Standing, standing, IsIntact, IsOpen, IsStateClean, Leaves, IsInsideBy, IsMidst, Holds, HoldsBy, begun, committed}
use Rattle.bh_schema.specs.Garbage.{weight_added}
use Rattle.bh_base.proofs.Calls.{whole_again}
use Rattle.bh_schema.specs.Storage.{seen_in, left_in}
use Rattle.bh_schema.proofs.Storing.{follows_then}
use Rattle.bh_schema.proofs.Committing.{same_database}
use Rattle.bh_base.proofs.TurnLemmas.{follows}
use Rattle.bh_base.specs.Shown.{Backing, shown}
use Rattle.bh_base.proofs.Blank.{blank_bare, grows_shown}
use Rattle.bh_base.proofs.Endings.{disk_clean, changes_shown}
use Rattle.bh_base.proofs.Lifting.{doubtless}
use Rattle.bh_create.specs.Creation.{IsEmpty, IsNewHost, IsMaking, Keeps, Makes}
use Rattle.bh_create.specs.Items.{before, after, IsTextOf, Lead}
use Rattle.bh_create.specs.declared.tables.Item.{Item}

-- ---- a call that makes a table or an index

module _ (after : Schema) (old new : State) (inside : IsStateClean old → (standing old).inside ≡ true) (result : Result ℕ Error) (changes : Changes old new result) (grown : Grows after old new result) (was : IsStateClean new → IsStateClean old) where
  kept_by : IsStateClean new → (standing new).kept ≡ (standing old).kept
  unfolding standing IsIntact IsOpen
  kept_by c = go result (changes.inside c.intact (was c).is_open) (changes.undone c.intact)
    where
      go : (r : Result ℕ Error) → OnOk r (StaysInside old new) → OnErr r (IsUndone old new) → new.committed ≡ old.committed
      go (Ok x) stays undone = stays.committed (inside (was c))
      go (Err e) stays (inl same) = same.0.committed_is
      go (Err e) stays (inr back) = (back.undone c.is_open).1

  made_by : OnOk result (IsStateClean new → IsMaking after new)
  unfolding standing IsIntact IsOpen
  made_by = go result changes.inside grown.blank
    where
      go : (r : Result ℕ Error) → (HasCleanDisk new → IsTrue old.is_open → OnOk r (StaysInside old new)) → (HasCleanDisk new → IsTrue old.is_open → OnOk r (IsBlank after new)) → OnOk r (IsStateClean new → IsMaking after new)
      go (Ok x) stays blank = λ c. record { inside = (stays c.intact (was c).is_open).inside (inside (was c)); blank = blank c.intact (was c).is_open }
      go (Err e) stays blank = tt

module _ (before after : Schema) (old new : State) (making : IsStateClean old → IsMaking before old) where
  blank_before : HasCleanDisk old → IsTrue old.is_open → IsBlank before old
  unfolding IsIntact IsOpen
  blank_before clean up = (making (record { intact = clean; is_open = up })).blank

  made : (result : Result ℕ Error) → Changes old new result → Grows after old new result → Makes after old new result
  made result changes grown =
      let follow = follows old new changes.survives changes.up in
      let inside = λ (c : IsStateClean old). (making c).inside in
      record { keeps = record { follows = follow; kept = kept_by after old new inside result changes grown follow.clean }; made = made_by after old new inside result changes grown follow.clean }

-- trouble of an intact disk
if_intact : (new : State) (r : Result ℕ Error) → (HasCleanDisk new → IfErr r (λ e. is_trouble e ≡ true)) → IfErr r (λ e. IsIntact new → is_trouble e ≡ true)
unfolding IsIntact
if_intact new (Ok x) h = tt
if_intact new (Err e) h = h

module _ (before after : Schema) (a : Backing) (old new : State) (making : IsStateClean (shown a old) → IsMaking before (shown a old)) where
  bare_blank : IsTrue a.is_clean → HasCleanDisk old → IsTrue old.is_open → IsBlank before old
  bare_blank clean was up = blank_bare a before old (blank_before before after (shown a old) (shown a new) making (doubtless old.is_clean a.is_clean was clean) up)

-- where nothing stands against the table, it fails in trouble alone
module _ (before : Schema) (sql : List ℕ) (table : Table) (creates : Creates before sql table) (a : Backing) (old new : State) (making : IsStateClean (shown a old) → IsMaking before (shown a old)) where
  blank_table : IsTrue a.is_clean → HasCleanDisk old → IsTrue old.is_open → IsBlank before old
  blank_table = bare_blank before (created before table) a old new making

  makes : (result : Result ℕ Error) → (HasCleanDisk new → Executes sql [] old new result) → Survives old new (CommitsBy sql [] old) → Makes (created before table) (shown a old) (shown a new) result
  makes result runs s = made before (created before table) (shown a old) (shown a new) making result
      (changes_shown a old new result s (λ clean. create_changes before sql table creates old new (blank_table clean) result runs s))
      (grows_shown a (created before table) old new result (λ clean. grows before sql table creates old new (blank_table clean) result runs s))

  fails : IsFree before sql table → (result : Result ℕ Error) → (HasCleanDisk new → Executes sql [] old new result) → Survives old new (CommitsBy sql [] old) → IfErr result (λ e. IsIntact (shown a new) → is_trouble e ≡ true)
  fails free result runs s = if_intact (shown a new) result (λ h. let clean = disk_clean a old new new h in create_trouble before sql table creates free old new (λ was up. (blank_table clean.1 was up).schema_is) result runs s clean.0)

-- and so does an index
module _ (before : Schema) (sql : List ℕ) (place : ℕ) (table : Table) (index : Index) (it : Indexes before sql place table index) (a : Backing) (old new : State) (making : IsStateClean (shown a old) → IsMaking before (shown a old)) where
  blank_index : IsTrue a.is_clean → HasCleanDisk old → IsTrue old.is_open → IsBlank before old
  blank_index = bare_blank before (indexed before table index) a old new making

  indexes : (result : Result ℕ Error) → (HasCleanDisk new → Executes sql [] old new result) → Survives old new (CommitsBy sql [] old) → Makes (indexed before table index) (shown a old) (shown a new) result
  indexes result runs s = made before (indexed before table index) (shown a old) (shown a new) making result
      (changes_shown a old new result s (λ clean. index_changes before sql place table index it old new (λ was up. (blank_index clean was up).schema_is) result runs s))
      (grows_shown a (indexed before table index) old new result (λ clean. index_grows before sql place table index it old new (blank_index clean) result runs s))

  index_fails : IsFreeIndex before sql table index → (result : Result ℕ Error) → (HasCleanDisk new → Executes sql [] old new result) → Survives old new (CommitsBy sql [] old) → IfErr result (λ e. IsIntact (shown a new) → is_trouble e ≡ true)
  index_fails free result runs s = if_intact (shown a new) result (λ h. let clean = disk_clean a old new new h in blank_trouble before sql place table index it free old new (blank_index clean.1) result runs s clean.0)

-- ---- the texts

pub table_text : (item : Item) {sql : List ℕ} {table : Table} → created (before item) table ≡ after item → Creates (before item) sql table → IsFree (before item) sql table → IsTextOf item sql
table_text item {sql} {table} leads creates free = inl (record { table = table; leads = leads; creates = creates; free = free })

pub index_text : (item : Item) {sql : List ℕ} {place : ℕ} {table : Table} {index : Index} → indexed (before item) table index ≡ after item → Indexes (before item) sql place table index → IsFreeIndex (before item) sql table index → IsTextOf item sql
index_text item {sql} {place} {table} {index} leads indexes free = inr (record { place = place; table = table; index = index; leads = leads; indexes = indexes; free = free })

-- a run of a text makes its item
module _ (item : Item) (sql : List ℕ) (a : Backing) (old new : State) (making : IsStateClean (shown a old) → IsMaking (before item) (shown a old)) (result : Result ℕ Error) (runs : HasCleanDisk new → Executes sql [] old new result) (survives : Survives old new (CommitsBy sql [] old)) where
  pub item_made : IsTextOf item sql → Makes (after item) (shown a old) (shown a new) result
  item_made (inl it) = subst (λ schema. Makes schema (shown a old) (shown a new) result) it.leads (makes (before item) sql it.table it.creates a old new making result runs survives)
  item_made (inr it) = subst (λ schema. Makes schema (shown a old) (shown a new) result) it.leads (indexes (before item) sql it.place it.table it.index it.indexes a old new making result runs survives)

  pub item_fails : IsTextOf item sql → IfErr result (λ e. IsIntact (shown a new) → is_trouble e ≡ true)
  item_fails (inl it) = fails (before item) sql it.table it.creates a old new making it.free result runs survives
  item_fails (inr it) = index_fails (before item) sql it.place it.table it.index it.indexes a old new making it.free result runs survives

-- ---- several calls

pub keeps_itself : (s : State) → Keeps s s
keeps_itself s = record { follows = record { clean = λ clean. clean; intact = λ intact. intact; limit = refl }; kept = λ clean. refl }

pub keeps_then : (a b c : State) → Keeps a b → Keeps b c → Keeps a c
keeps_then a b c one two = record { follows = follows_then a b c one.follows two.follows; kept = λ clean. two.kept clean ∙ one.kept (two.follows.clean clean) }

-- the next item is made over the schema so far, and those after it lead on
pub lead_next : (items : List Item) (i : ℕ) (x : Item) → i < length items → (at to : Schema) → Lead at (drop i items) to → let next = get_or items i x in (before next ≡ at) × Lead (after next) (drop (i + 1) items) to
lead_next items i x low at to = subst (λ l. Lead at l to) (drop_more items i x low)

-- after the last one, the schema so far is the one that they lead to
pub lead_end : (items : List Item) (i : ℕ) → length items ≤ i → (at to : Schema) → Lead at (drop i items) to → at ≡ to
lead_end items i high at to = subst (λ l. Lead at l to) (drop_all i items high)

-- BEGIN, over an empty database
pub begun_making : (old new : State) → IsEmpty old → standing new ≡ begun (standing old) → IsMaking no_schema new
unfolding standing
begun_making old new empty is = record { inside = ap (λ (x : Standing). x.inside) is; blank = record { schema_is = ap (λ (x : Standing). x.now.schema) is ∙ empty; blank = tt } }

-- a step of a write changes the sums alone
abbrev pub Rewritten : State → State → (Totals → Totals) → Type 0
Rewritten old new after = IsStateClean new → (sums : Totals) → IsInsideBy sums (standing old) → HoldsBy (after sums) (tables_in (standing old).now) (standing new)

-- all tables are made, and nothing is counted of what nobody needs
made_host : (s : State) → IsMaking with_unneeded s → IsInsideBy (unweighed (totals_of (tables_in (standing s).now))) (standing s) × (tables_in (standing s).now ≡ no_rows)
unfolding standing
made_host s making =
    let it = blank_host s (subst (λ schema. IsBlank schema s) all_made making.blank) in
    (record { inside = making.inside; host = it.0 }, it.1)

pub made_midst : (s : State) → IsMaking with_unneeded s → IsMidst (standing s)
made_midst s making = record { sums = unweighed (totals_of (tables_in (standing s).now)); by = (made_host s making).0 }

pub none_weighed : (s : State) → IsMaking with_unneeded s → (sums : Totals) → IsInsideBy sums (standing s) → sums.garbage ≡ []
none_weighed s making sums by = sym by.host.held.weighed ∙ (made_host s making).0.host.held.weighed

-- the row of what nobody needs is added
pub weighed_none : (old new : State) → IsMaking with_unneeded old → Rewritten old new (weight_added 0) → IsStateClean new → Holds no_rows (standing new)
weighed_none old new making rewritten clean =
    let it = made_host old making in
    let t = tables_in (standing old).now in
    let h = whole_again (weight_added 0 (unweighed (totals_of t))) t (standing new) (rewritten clean (unweighed (totals_of t)) it.0)
    (subst (λ (x : Tables). weight_added 0 (unweighed (totals_of x)) ≡ totals_of x) (sym it.1) refl) in
    record { within = h.within; is = h.is ∙ it.1 }

pub still_empty : (s : State) → Holds no_rows (standing s) → (tables_in (standing s).now).host ≡ []
still_empty s h = ap (λ (t : Tables). t.host) h.is

-- the host's row is added
pub filled : (old new : State) (min_part max_body digest : ℕ) → Holds no_rows (standing old)
    → Holds (record (tables_in (standing old).now) { host = (tables_in (standing old).now).host ++ record { version = 5; latest = 0; min_part = min_part; max_body = max_body; digest = digest } ∷ [] }) (standing new)
    → Holds (new_host min_part max_body digest) (standing new)
filled old new min_part max_body digest none it =
    record { within = it.within; is = it.is ∙ ap (λ (t : Tables). record t { host = t.host ++ record { version = 5; latest = 0; min_part = min_part; max_body = max_body; digest = digest } ∷ [] }) none.is }

-- it has no body, and no tenant
new_sound : (digest : Octets → Octets) (tables : Tables) (min_part max_body number : ℕ) → tables ≡ new_host min_part max_body number → IsSound tables → ((t : Octets) → view tables t ≡ None) → IsSoundHost digest tables
new_sound digest tables min_part max_body number is sound vacant =
    let P : Tables → Type 0 = λ x. HasBodies x × AreDigests digest x.blocks in
    let none : P (new_host min_part max_body number) = (record { placed = λ body. refl; owned = λ body away. refl; measured = tt }, tt) in
    let it = subst P (sym is) none in
    record { sound = sound; bodies = it.0; digests = it.1; bounded = λ t. subst IsBounded (sym (vacant t)) tt }

-- and committed
pub stands : (old new : State) (min_part max_body number : ℕ) (named : BlockDigest) → AreLimits min_part max_body → number ≤ 1 → number ≡ digest_number named → Holds (new_host min_part max_body number) (standing old) → Lists ((standing old).now.trees catalog_tree) (standing old).now.schema
    → standing new ≡ committed (standing old) → ((db : Trees) → Leaves new db → db ≡ (standing new).kept.trees) → IsNewHost (record { min_part = min_part; max_body = max_body }) named new
unfolding seen_in left_in
stands old new min_part max_body number named good known same it stood is settled =
    let limits : HostLimits = record { min_part = min_part; max_body = max_body } in
    let shows = host_shows (standing old).now it.within.host ∙ it.is in
    let now : (seen_in limits new).now ≡ new_host min_part max_body number = ap (λ (x : Standing). tables_shown x.now) is ∙ shows in
    let kept : (seen_in limits new).kept ≡ new_host min_part max_body number = ap (λ (x : Standing). tables_shown x.kept) is ∙ shows in
    let made = host_created (seen_in limits new).now min_part max_body number good known now in
    record {
      rest = λ digest. record { outside = ap (λ (x : Standing). x.inside) is; committed = kept ∙ sym now; sound = new_sound digest _ min_part max_body number now made.0 made.2; limits = made.3 };
      tables = now ∙ ap (new_host min_part max_body) same;
      latest = made.1;
      vacant = made.2;
      left = λ x its. its.3 ∙ ap tables_shown (same_database its.0 (standing old).now its.2 stood (settled its.0.trees its.1 ∙ ap (λ (y : Standing). y.kept.trees) is)) ∙ shows ∙ ap (new_host min_part max_body) same;
    }

-- What a tenant's rows show, and what a change of one tenant's rows is to all of them.
use Rattle.std.proofs.Common.{◌≡◌, ◌≢◌, true, false, true≢false, List, [], ◌∷◌, Option, Some, option_map, refl, sym, ap, ◌∙◌, subst, subst₂}
use Rattle.std.specs.FinMap.{FinMap}
use Rattle.sqlite_typed.specs.Tests.{bytes_eq}
use Rattle.bh_model.specs.State.{Octets, octets_cmp, Bucket, State}
use Rattle.bh_tables.specs.Typed.{TenantRow, KeyRow, Tables}
use Rattle.bh_view.specs.Grouped.{first}
use Rattle.bh_view.specs.View.{TenantRows, rows_of, keys_of, buckets_of, state_of, state_shown, view, latest_of, limits_in}
use Rattle.bh_view.specs.Blocks.{AreStored}
use Rattle.bh_view.specs.Sound.{IsHostTable, AreSound, IsSound}
use Rattle.bh_view.specs.Becomes.{Becomes}
use Rattle.bh_view.proofs.Keys.{octets}
use Rattle.bh_view.proofs.FilterLemmas.{single}
use Rattle.bh_view.proofs.BucketLemmas.{row_of}

pub view_is : (tables : Tables) (t : Octets) → view tables t ≡ state_shown (rows_of t tables)
unfolding view
view_is tables t = refl

-- a tenant's state depends on that tenant's rows alone
pub same_view : (u : Octets) (old new : Tables) → rows_of u new ≡ rows_of u old → view new u ≡ view old u
unfolding view
same_view u old new e = ap state_shown e

-- the last stamp depends on the host's row alone
pub same_latest : (old new : Tables) → new.host ≡ old.host → latest_of new ≡ latest_of old
unfolding latest_of
same_latest old new e = ap (λ rows. latest_of (record old { host = rows })) e

-- and so do the limits
pub same_limits : (old new : Tables) → new.host ≡ old.host → limits_in new ≡ limits_in old
unfolding limits_in
same_limits old new e = ap (λ rows. limits_in (record old { host = rows })) e

-- the row behind a tenant's state
pub own_row : (tables : Tables) (t : Octets) (s : State) → view tables t ≡ Some s → (r : TenantRow) × (first (rows_of t tables).tenants ≡ Some r) × (state_of (rows_of t tables) r ≡ s)
own_row tables t s is = row_of (state_of (rows_of t tables)) (first (rows_of t tables).tenants) s (sym (view_is tables t) ∙ is)

-- it is the only one
pub own_rows : (tables : Tables) (t : Octets) (s : State) → IsSound tables → (is : view tables t ≡ Some s) → (rows_of t tables).tenants ≡ (own_row tables t s is).0 ∷ []
own_rows tables t s sound is = single _ (sound.tenants t).tenants.one _ (own_row tables t s is).1

-- rows of one tenant change, and the others' stay
pub becomes : (t : Octets) (state : Option State) (old new : Tables) → IsSound old → new.host ≡ old.host → new.blocks ≡ old.blocks → new.refs ≡ old.refs → ((u : Octets) → u ≢ t → rows_of u new ≡ rows_of u old)
    → state_shown (rows_of t new) ≡ state → AreSound (latest_of old) (rows_of t new) → Becomes t state old new
becomes t state old new sound host blocks refs others here good =
    let latest = same_latest old new host in
    record {
      shown = view_is new t ∙ here;
      others = λ u apart. same_view u old new (others u apart);
      latest = latest;
      limits = same_limits old new host;
      sound = record {
        host = subst IsHostTable (sym host) sound.host;
        tenants = λ u. elim (bytes_eq u t) as (λ b. bytes_eq u t ≡ b → AreSound (latest_of new) (rows_of u new)) [
          | true ↦ λ e. subst (λ n. AreSound n (rows_of u new)) (sym latest) (subst (λ z. AreSound (latest_of old) (rows_of z new)) (sym ((octets.decides u t).0 e)) good)
          | false ↦ λ e. subst (λ n. AreSound n (rows_of u new)) (sym latest) (subst (AreSound (latest_of old)) (sym (others u (λ h. absurd (true≢false (sym ((octets.decides u t).1 h) ∙ e))))) (sound.tenants u))
        ] refl;
        stored = subst₂ AreStored (sym refs) (sym blocks) sound.stored;
      };
    }

-- one change after another
pub becomes_then : (t : Octets) (a b : Option State) (one two three : Tables) → Becomes t a one two → Becomes t b two three → Becomes t b one three
becomes_then t a b one two three f g = record {
  shown = g.shown;
  others = λ u apart. g.others u apart ∙ f.others u apart;
  latest = g.latest ∙ f.latest;
  limits = g.limits ∙ f.limits;
  sound = g.sound;
}

-- of one tenant's rows: a change of the keys, of the buckets
module _ (rows : TenantRows) (s : State) (is : state_shown rows ≡ Some s) where
  pub keys_shown : (keys : List KeyRow) (change : FinMap octets_cmp Octets → FinMap octets_cmp Octets) → keys_of keys ≡ change (keys_of rows.keys) → state_shown (record rows { keys = keys }) ≡ Some (record s { keys = change s.keys })
  keys_shown keys change here =
      let row = row_of (state_of rows) (first rows.tenants) s is in
      ap (option_map (state_of (record rows { keys = keys }))) row.1 ∙ (λ i. Some (record (state_of rows row.0) { keys = here i })) ∙ ap (λ (x : State). Some (record x { keys = change x.keys })) row.2

  pub buckets_shown : (after : TenantRows) (change : FinMap octets_cmp Bucket → FinMap octets_cmp Bucket) → after.tenants ≡ rows.tenants → after.keys ≡ rows.keys → buckets_of after ≡ change (buckets_of rows)
      → state_shown after ≡ Some (record s { buckets = change s.buckets })
  buckets_shown after change tenants keys here =
      let row = row_of (state_of rows) (first rows.tenants) s is in
      ap (λ l. option_map (state_of after) (first l)) tenants ∙ ap (option_map (state_of after)) row.1
      ∙ (λ i. Some (record (state_of rows row.0) { keys = keys_of (keys i); buckets = here i })) ∙ ap (λ (x : State). Some (record x { buckets = change x.buckets })) row.2

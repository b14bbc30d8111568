-- The names of a tenant's keys, read of its rows, are those that the machine tells.
use Rattle.std.proofs.Common.{◌≡◌, List, map, Option, Some, None, Ok, refl, sym, ap, ◌∙◌}
use Rattle.std.specs.FinMap.{entries}
use Rattle.sqlite_keyed.specs.Lists.{sort_by}
use Rattle.sqlite_keyed.proofs.ListLemmas.{map-map}
use Rattle.bh_model.specs.Operations.{Keys, key_names, tell_keys}
use Rattle.bh_model.specs.State.{Octets, State}
use Rattle.bh_tables.specs.Typed.{KeyRow, Tables}
use Rattle.bh_tables.specs.Shown.{by_key_name, keys_by_name}
use Rattle.bh_view.specs.View.{view, latest_of, rows_of}
use Rattle.bh_view.specs.Sound.{IsSound}
use Rattle.bh_view.proofs.Keys.{octets}
use Rattle.bh_view.proofs.ListingLemmas.{entries-keyed}
use Rattle.bh_view.proofs.SharedLemmas.{shared_none}
use Rattle.bh_view.proofs.ViewLemmas.{own_row}
use Rattle.bh_storage.specs.Calls.{GivesStep}
use Rattle.bh_usage.specs.Counted.{quota_in}
use Rattle.bh_usage.specs.Listed.{name_in}

module _ (tables : Tables) (t : Octets) (sound : IsSound tables) where
  names_are : (s : State) → view tables t ≡ Some s → key_names s ≡ map name_in (keys_by_name t tables.keys)
  names_are s is =
      let mine = rows_of t tables in
      ap (λ (x : State). map (λ (e : Octets × Octets). e.0) (entries x.keys)) (sym (own_row tables t s is).2)
      ∙ ap (map (λ (e : Octets × Octets). e.0)) (entries-keyed octets name_in (λ _ (r : KeyRow). r.secret) mine.keys (sound.tenants t).keys.one)
      ∙ map-map (λ (e : Octets × Octets). e.0) _ (sort_by by_key_name mine.keys)

  told_of : {quota : _} (v : Option State) → view tables t ≡ v → quota_in v ≡ Ok quota → tell_keys v ≡ Ok (Keys (map name_in (keys_by_name t tables.keys)), v)
  told_of None is its = cc
  told_of (Some s) is its = ap (λ l. Ok (Keys l, Some s)) (names_are s is)

  -- the tenant was found first, and then its keys were read
  pub names : {quota : _} (middle new : Tables) (told : List Octets) → (quota_in (view tables t) ≡ Ok quota) × (middle ≡ tables) → told ≡ map name_in (keys_by_name t middle.keys) → new ≡ middle → GivesStep t tell_keys (Keys told) tables new
  names middle new told its is still =
      let same : new ≡ tables = still ∙ its.1 in
      record {
        gives = told_of (view tables t) refl its.0 ∙ ap (λ (x : Tables). Ok (Keys (map name_in (keys_by_name t x.keys)), view tables t)) (sym its.1)
            ∙ ap (λ l. Ok (Keys l, view tables t)) (sym is) ∙ ap (λ (x : Tables). Ok (Keys told, view x t)) (sym same);
        others = λ w apart. ap (λ (x : Tables). view x w) same;
        latest = ap latest_of same;
        shared = shared_none tables new same;
      }

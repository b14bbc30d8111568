-- A row of `keys` added or taken out: the tenant's keys with one more, or with one less.
use Rattle.std.proofs.Common.{◌≡◌, ◌≢◌, List, [], ◌∷◌, ◌++◌, Some, None, refl, sym, ap, ◌∙◌, subst}
use Rattle.std.specs.FinMap.{FinMap, get, insert, remove}
use Rattle.std.proofs.lemmas.Bool.{and_parts}
use Rattle.sqlite_keyed.specs.Lists.{delete_where}
use Rattle.sqlite_keyed.proofs.ListLemmas.{all-filter}
use Rattle.sqlite_typed.specs.Tests.{bytes_eq}
use Rattle.bh_model.specs.State.{Octets, octets_cmp, State}
use Rattle.bh_tables.specs.Typed.{KeyRow, Tables}
use Rattle.bh_tables.specs.Shown.{is_key}
use Rattle.bh_view.specs.Grouped.{matching}
use Rattle.bh_view.specs.View.{rows_of, keys_of, view}
use Rattle.bh_view.specs.Sound.{IsKeyRow, AreKeys, IsSound}
use Rattle.bh_view.specs.Becomes.{Becomes}
use Rattle.bh_view.proofs.Keys.{octets}
use Rattle.bh_view.proofs.FilterLemmas.{none_some, none_mapped}
use Rattle.bh_view.proofs.GroupedLemmas.{get-keyed, keyed_pushed, keyed_deleted}
use Rattle.bh_view.proofs.FactLemmas.{all_pushed, none_first, unique_pushed, unique_deleted}
use Rattle.bh_view.proofs.OwnLemmas.{rows_at, others_pushed, others_deleted, mine_pushed, mine_deleted, within_own}
use Rattle.bh_view.proofs.ViewLemmas.{view_is, own_row, becomes, keys_shown}

abbrev own : KeyRow → Octets
own r = r.tenant

abbrev name : KeyRow → Octets
name r = r.name

module _ (old new : Tables) (t : Octets) (s : State) (sound : IsSound old) (is : view old t ≡ Some s) where
  -- the keys of one tenant change
  keys_become : (keys mine : List KeyRow) (change : FinMap octets_cmp Octets → FinMap octets_cmp Octets) → ((u : Octets) → u ≢ t → rows_at own u keys ≡ rows_at own u old.keys) → rows_at own t keys ≡ mine
      → keys_of mine ≡ change (keys_of (rows_of t old).keys) → AreKeys (rows_of t old).tenants mine → new ≡ record old { keys = keys } → Becomes t (Some (record s { keys = change s.keys })) old new
  keys_become keys mine change others here shows good e =
      let all = sound.tenants t in
      let after : Tables = record old { keys = keys } in
      subst (Becomes t (Some (record s { keys = change s.keys })) old) (sym e)
      (becomes t _ old after sound refl refl refl (λ u apart i. record (rows_of u old) { keys = others u apart i })
      (keys_shown (rows_of t old) s (sym (view_is old t) ∙ is) (rows_at own t keys) change (ap keys_of here ∙ shows))
      (record { tenants = all.tenants; keys = subst (AreKeys (rows_of t old).tenants) (sym here) good; buckets = all.buckets; versions = all.versions; uploads = all.uploads; parts = all.parts; locks = all.locks; retains = all.retains }))

  -- no row has the name of a key that is not there
  pub key_fresh : (n : Octets) → get s.keys n ≡ None → matching bytes_eq name n (rows_of t old).keys ≡ []
  key_fresh n none =
      let row = own_row old t s is in
      none_first _ (none_mapped _ _ (sym (get-keyed octets name (λ _ k. k.secret) (rows_of t old).keys n) ∙ ap (λ (x : State). get x.keys n) row.2 ∙ none))

  pub key_removed : (n : Octets) → new ≡ record old { keys = delete_where (is_key t n) old.keys } → Becomes t (Some (record s { keys = remove s.keys n })) old new
  key_removed n =
      let all = (sound.tenants t).keys in
      let here = λ (k : KeyRow). bytes_eq k.name n in
      keys_become _ (delete_where here (rows_of t old).keys) (λ m. remove m n)
      (others_deleted own t (is_key t n) (λ k h. within_own own t k (and_parts _ _ h).0) old.keys)
      (mine_deleted own t here old.keys) (keyed_deleted octets name (λ _ k. k.secret) (rows_of t old).keys n)
      (record { each = all-filter _ _ _ all.each; one = unique_deleted octets name _ _ all.one; owned = λ none. ap (delete_where here) (all.owned none) })

pub key_added : (old new : Tables) (s : State) (r : KeyRow) → IsSound old → view old r.tenant ≡ Some s → get s.keys r.name ≡ None → IsKeyRow r → new ≡ record old { keys = old.keys ++ r ∷ [] }
    → Becomes r.tenant (Some (record s { keys = insert s.keys r.name r.secret })) old new
key_added old new s r sound is none good =
    let all = (sound.tenants r.tenant).keys in
    let row = own_row old r.tenant s is in
    let fresh = key_fresh old new r.tenant s sound is r.name none in
    keys_become old new r.tenant s sound is (old.keys ++ r ∷ []) ((rows_of r.tenant old).keys ++ r ∷ []) (λ m. insert m r.name r.secret)
    (others_pushed own old.keys r) (mine_pushed own old.keys r) (keyed_pushed octets name (λ _ k. k.secret) (rows_of r.tenant old).keys r fresh)
    (record { each = all_pushed _ _ r all.each good; one = unique_pushed octets name _ r all.one fresh; owned = λ gone. absurd (none_some (sym gone ∙ row.1)) })

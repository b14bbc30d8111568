-- The rows that are counted decide as the machine does.
use Rattle.std.proofs.Common.{arith, Result, ◌≡◌, ◌==◌, ℕ, zero, suc, pos, int_lt, Bool, true, false, not, ◌||◌, cond, List, [], ◌∷◌, length, filter, Option, Some, None, Ok, Err, refl, sym, ap, ◌∙◌}
use Rattle.std.specs.List.{list_any}
use Rattle.std.specs.Option.{option_map_or}
use Rattle.std.proofs.lemmas.Bool.Decides.{nat_tests}
use Rattle.bh_types.specs.Outcomes.{◌>>=◌, require}
use Rattle.bh_types.specs.declared.refusal.Refusal.{Refusal}
use Rattle.bh_types.specs.declared.refusal.Refusal.TheVariants.{TenantNotEmpty, TenantRetained}
use Rattle.bh_model.specs.FinMaps.{is_empty}
use Rattle.bh_model.specs.Operations.{Done, Outcome}
use Rattle.bh_model.specs.Retention.{retains}
use Rattle.bh_model.specs.State.{Octets, State, absent}
use Rattle.sqlite_typed.specs.Tests.{bytes_eq}
use Rattle.bh_tables.specs.Typed.{RetainRow, Tables}
use Rattle.bh_tables.specs.Shown.{is_owned_bucket, is_kept_after}
use Rattle.bh_view.specs.Sound.{IsSound}
use Rattle.bh_view.specs.View.{TenantRows, view}
use Rattle.bh_view.proofs.FilterLemmas.{filter_both}
use Rattle.bh_view.proofs.RemovalDates.{retains_told}
use Rattle.bh_view.proofs.TenantChanges.{absent_rows}
use Rattle.bh_view.proofs.UsageLemmas.{buckets_counted}
use Rattle.bh_removal.specs.Removal.{leaves, is_empty_tenant, dates_over, may_be_removed}

-- a number that has one before it is not the least
over_none : (n : ℕ) → (suc n == 0) ≡ false
over_none n = go (suc n == 0) refl
  where
    go : (b : Bool) → (suc n == 0) ≡ b → b ≡ false
    go true is = absurd (grind (arith, nat_tests, is))
    go false is = refl

none_any : {X : Type 0} (p : X → Bool) (xs : List X) → not (list_any p xs) ≡ (length (filter p xs) == 0)
none_any p [] = refl
none_any p (x ∷ xs) = go (p x) (none_any p xs)
  where
    go : (b : Bool) → not (list_any p xs) ≡ (length (filter p xs) == 0) → not (b || list_any p xs) ≡ (length (cond b (x ∷ filter p xs) (filter p xs)) == 0)
    go true rest = sym (over_none (length (filter p xs)))
    go false rest = rest

module _ (tables : Tables) (t : Octets) (sound : IsSound tables) where
  pub empty_told : option_map_or (λ (s : State). is_empty s.buckets) (view tables t) true ≡ (length (filter (is_owned_bucket t) tables.buckets) == 0)
  empty_told = go (view tables t) refl
    where
      go : (o : Option State) → view tables t ≡ o → option_map_or (λ (s : State). is_empty s.buckets) o true ≡ (length (filter (is_owned_bucket t) tables.buckets) == 0)
      go None is = sym (ap (λ (r : TenantRows). length r.buckets == 0) (absent_rows tables t sound is))
      go (Some s) is = ap (λ n. n == 0) (buckets_counted tables t s sound is)

  pub over_told : (moment : ℕ) → option_map_or (λ (s : State). not (retains moment s)) (view tables t) true ≡ (length (filter (is_kept_after t moment) tables.retains) == 0)
  over_told moment = go (view tables t) refl
    where
      go : (o : Option State) → view tables t ≡ o → option_map_or (λ (s : State). not (retains moment s)) o true ≡ (length (filter (is_kept_after t moment) tables.retains) == 0)
      go None is = sym (ap (λ l. length l == 0) (sym (filter_both (λ (r : RetainRow). bytes_eq r.tenant t) (λ r. int_lt (pos moment) (pos r.until)) tables.retains) ∙ ap (λ (r : TenantRows). filter (λ (x : RetainRow). int_lt (pos moment) (pos x.until)) r.retains) (absent_rows tables t sound is)))
      go (Some s) is = ap not (retains_told tables t moment s sound is) ∙ none_any (is_kept_after t moment) tables.retains

-- ---- the answers to what was counted

zero_is : (n m : ℕ) → n ≡ m → n ≡ 0 → (m == 0) ≡ true
zero_is n m same nothing = ap (λ k. k == 0) (sym same ∙ nothing)

not_zero : (n m : ℕ) → n ≡ m → (n ≡ 0 → ⊥) → (m == 0) ≡ false
not_zero n zero same some = absurd (some same)
not_zero n (suc m) same some = over_none m

module _ (tables : Tables) (t : Octets) (sound : IsSound tables) (n : ℕ) where
  pub empty_ok : n ≡ length (filter (is_owned_bucket t) tables.buckets) → n ≡ 0 → is_empty_tenant (view tables t) ≡ Ok tt
  empty_ok counted nothing = ap (λ b. require b TenantNotEmpty) (empty_told tables t sound ∙ zero_is n _ counted nothing)

  pub empty_err : n ≡ length (filter (is_owned_bucket t) tables.buckets) → (n ≡ 0 → ⊥) → is_empty_tenant (view tables t) ≡ Err TenantNotEmpty
  empty_err counted some = ap (λ b. require b TenantNotEmpty) (empty_told tables t sound ∙ not_zero n _ counted some)

  pub over_ok : (moment : ℕ) → n ≡ length (filter (is_kept_after t moment) tables.retains) → n ≡ 0 → dates_over moment (view tables t) ≡ Ok tt
  over_ok moment counted nothing = ap (λ b. require b TenantRetained) (over_told tables t sound moment ∙ zero_is n _ counted nothing)

  pub over_err : (moment : ℕ) → n ≡ length (filter (is_kept_after t moment) tables.retains) → (n ≡ 0 → ⊥) → dates_over moment (view tables t) ≡ Err TenantRetained
  over_err moment counted some = ap (λ b. require b TenantRetained) (over_told tables t sound moment ∙ not_zero n _ counted some)

-- what the rows decide, with the machine's step
abbrev told : Bool → Bool → Bool → Result Outcome Refusal
told with_objects empty late = require (with_objects || empty) TenantNotEmpty >>= (λ _. require (not late) TenantRetained >>= (λ _. Ok (Done, absent)))

pub removed_so : (moment : ℕ) (with_objects : Bool) (s : Option State) → may_be_removed moment with_objects s ≡ Ok tt → leaves moment with_objects s ≡ Ok (Done, absent)
removed_so moment with_objects None may = absurd (cc)
removed_so moment with_objects (Some x) may = go with_objects (is_empty x.buckets) (retains moment x) may
  where
    go : (w e r : Bool) → (cond w (Ok (tt {0})) (require e TenantNotEmpty) >>= (λ _. require (not r) TenantRetained)) ≡ Ok tt → told w e r ≡ Ok (Done, absent)
    go true e true may = cc
    go true e false may = refl
    go false true true may = cc
    go false true false may = refl
    go false false r may = cc

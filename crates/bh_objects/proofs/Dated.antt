-- What is decided of dates and of locks that were read.
use Rattle.std.proofs.Common.{◌≡◌, ℕ, Bool, true, false, Option, Some, unwrap_or, Result, Ok, Err, sym, ap, ◌∙◌}
use Rattle.bh_types.specs.Outcomes.{require}
use Rattle.bh_types.specs.declared.bucket_state.BucketState.{BucketState}
use Rattle.bh_types.specs.declared.refusal.Refusal.{Refusal}
use Rattle.bh_types.specs.declared.refusal.Refusal.TheVariants.{InvalidBucketState}
use Rattle.bh_model.specs.Retention.{can_retain, first_date, keeps_versions}
use Rattle.bh_model.specs.State.{Octets}
use Rattle.bh_tables.specs.Typed.{Tables}
use Rattle.bh_view.specs.View.{id_of}
use Rattle.bh_objects.specs.Buckets.{versions_kept}
use Rattle.bh_objects.specs.Dates.{date_at, locked_at, new_date_at, past_by, past_date_in, present_by, present_date_in}

module _ (tables : Tables) (t : Octets) where
  -- ---- a version that is to be deleted

  pub past_of : (seq : ℕ) (date : Option ℕ) (at : ℕ) → date ≡ date_at t seq tables → past_date_in t seq at tables ≡ past_by date at
  past_of seq date at is = ap (λ d. past_by d at) (sym is)

  -- ---- a new version

  pub first_of : (b : Octets) (locked : Bool) (date : Option ℕ) (at : ℕ) → locked ≡ locked_at t b tables → new_date_at t b (Some date) at tables ≡ first_date locked (Some date) at
  first_of b locked date at is = ap (λ l. first_date l (Some date) at) (sym is)

  -- ---- a version that may get another date

  present_of : (b : Octets) (id seq until at : ℕ) (locked able : Bool) (date : Option ℕ) → locked ≡ locked_at t b tables → date ≡ date_at t seq tables → able ≡ can_retain locked (id_of id)
      → present_date_in t b id seq until at tables ≡ present_by able date until at
  present_of b id seq until at locked able date is there can =
      ap (λ l. present_by (can_retain l (id_of id)) (date_at t seq tables) until at) (sym is) ∙ ap (λ a. present_by a (date_at t seq tables) until at) (sym can) ∙ ap (λ d. present_by able d until at) (sym there)

  -- where the date was read after the lock
  pub present_then : (b : Octets) (id seq until at : ℕ) (second : Tables) (locked able : Bool) (date : Option ℕ) (answer : Result (Option ℕ) Refusal) → locked ≡ locked_at t b tables → second ≡ tables → date ≡ date_at t seq second
      → able ≡ can_retain locked (id_of id) → answer ≡ present_by able date until at → present_date_in t b id seq until at tables ≡ answer
  present_then b id seq until at second locked able date answer is same there can decided = present_of b id seq until at locked able date is (there ∙ ap (date_at t seq) same) can ∙ sym decided

  -- ---- a state of a bucket

  kept_by : (b : Octets) (mode : BucketState) (locked : Bool) → locked ≡ locked_at t b tables → versions_kept t b mode tables ≡ require (keeps_versions locked mode) InvalidBucketState
  kept_by b mode locked is = ap (λ l. require (keeps_versions l mode) InvalidBucketState) (sym is)

  pub keeps : (b : Octets) (mode : BucketState) (locked : Bool) → locked ≡ locked_at t b tables → keeps_versions locked mode ≡ true → versions_kept t b mode tables ≡ Ok tt
  keeps b mode locked is kept = kept_by b mode locked is ∙ ap (λ x. require x InvalidBucketState) kept

  pub loses : (b : Octets) (mode : BucketState) (locked : Bool) → locked ≡ locked_at t b tables → keeps_versions locked mode ≡ false → versions_kept t b mode tables ≡ Err InvalidBucketState
  loses b mode locked is lost = kept_by b mode locked is ∙ ap (λ x. require x InvalidBucketState) lost

-- ---- a date that was given

pub date_is : (given : Option ℕ) (date until : ℕ) → given ≡ Some date → given ≡ Some until → date ≡ until
date_is given date until one two = ap (λ (o : Option ℕ). unwrap_or o 0) (sym one ∙ two)

-- What the rows decide of a quota is what the machine asks of the states before and after a new entry.
use Rattle.std.proofs.Common.{◌≡◌, ℕ, ◌+◌, ◌-◌, Some, Result, Ok, Err, refl, ap, ◌∙◌, arith}
use Rattle.std.specs.FinMap.{get}
use Rattle.bh_types.specs.Counts.{Counts}
use Rattle.bh_types.specs.Outcomes.{◌>>=◌, require}
use Rattle.bh_types.specs.declared.refusal.Refusal.{Refusal}
use Rattle.bh_types.specs.declared.refusal.Refusal.TheVariants.{QuotaExceeded}
use Rattle.bh_model.specs.Counting.{counts, after_entry}
use Rattle.bh_model.specs.Operations.{listed, with_bucket, with_content, require_quota}
use Rattle.bh_model.specs.Quotas.{fits_quota, replaced_size}
use Rattle.bh_model.specs.State.{Octets, Content, Bucket, State, content_size, used}
use Rattle.bh_model.proofs.UsedLemmas.{used_with_bucket, used_with_content}
use Rattle.bh_objects.specs.Found.{room_in, entry_numbers_in}

module _ (s : State) (b k : Octets) (B : Bucket) (there : get s.buckets b ≡ Some B) (at next : ℕ) (content : Content) where
  -- what is used afterwards
  used_then : used (with_bucket b (with_content at k next content B) s) ≡ used s + content_size content - replaced_size B.mode (listed k B)
  used_then =
      let one = used_with_bucket b B (with_content at k next content B) s there in
      let two = used_with_content at k next content B in
      omega (arith, one, two)

  pub quota_asked : require_quota b (with_content at k next content B) s ≡ room_in (replaced_size B.mode (listed k B)) (content_size content) (Some s)
  quota_asked = ap (λ n. require (fits_quota (used s) n s.quota) QuotaExceeded) used_then

  -- and then the numbers
  pub entry_asked : {X : Type 0} (then : Counts → Result X Refusal)
      → ◌>>=◌ {B = X} (require_quota b (with_content at k next content B) s) (λ _. ◌>>=◌ {B = X} (after_entry B.mode (counts s)) then)
      ≡ ◌>>=◌ {B = X} (entry_numbers_in B.mode b k (content_size content) (Some s)) (λ n. then n.1)
  entry_asked {X} then =
      ap (λ r. ◌>>=◌ {B = X} r (λ _. ◌>>=◌ {B = X} (after_entry B.mode (counts s)) then)) quota_asked
      ∙ go (room_in (replaced_size B.mode (listed k B)) (content_size content) (Some s)) (after_entry B.mode (counts s))
      ∙ (rw there refl)
    where
      go : (r : Result (Unit {0}) Refusal) (x : Result Counts Refusal) → ◌>>=◌ {B = X} r (λ _. ◌>>=◌ {B = X} x then)
          ≡ ◌>>=◌ {B = X} (◌>>=◌ {B = Counts × Counts} r (λ _. ◌>>=◌ {B = Counts × Counts} x (λ a. Ok (counts s, a)))) (λ n. then n.1)
      go (Err e) x = refl
      go (Ok u) (Err e) = refl
      go (Ok u) (Ok a) = refl

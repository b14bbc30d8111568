-- What the rows decide of a quota is what the machine asks of the states before and after a part.
use Rattle.std.proofs.Common.{◌≡◌, ℕ, ◌+◌, ◌-◌, length, Bool, true, false, Some, Result, Ok, Err, refl, sym, ap, ◌∙◌, arith}
use Rattle.std.specs.Prelude.{if◌then◌else◌}
use Rattle.std.specs.FinMap.{get}
use Rattle.std.specs.Option.{option_map_or}
use Rattle.bh_types.specs.Counts.{Counts}
use Rattle.bh_types.specs.Outcomes.{◌>>=◌, require}
use Rattle.bh_types.specs.declared.refusal.Refusal.{Refusal}
use Rattle.bh_types.specs.declared.refusal.Refusal.TheVariants.{QuotaExceeded, CounterExhausted}
use Rattle.bh_model.specs.Counting.{counts, can_give}
use Rattle.bh_model.specs.Operations.{with_bucket, require_quota}
use Rattle.bh_model.specs.Quotas.{fits_quota}
use Rattle.bh_model.specs.State.{Octets, Part, part_size, used}
use Rattle.bh_model.specs.Uploads.{FoundUpload, after_part, with_stored}
use Rattle.bh_model.proofs.UsedLemmas.{used_with_bucket, used_with_part}
use Rattle.bh_tables.specs.Typed.{Tables}
use Rattle.bh_view.specs.Sound.{IsSound}
use Rattle.bh_view.specs.View.{view}
use Rattle.bh_objects.specs.Found.{account_in, bytes_in, room_under, room_in}
use Rattle.bh_objects.proofs.Found.{account_counts}
use Rattle.bh_objects.proofs.Room.{room_of_account}
use Rattle.bh_uploads.specs.Found.{given, next_entry_in, part_entry_in}

-- the tenant's account, then the room, and then the number
pub entry_decides : (tables : Tables) (t : Octets) → IsSound tables → (wanted replaced added : ℕ) → replaced ≡ wanted → (a : ℕ × Counts) → account_in (view tables t) ≡ Ok a
    → part_entry_in wanted added (view tables t) ≡ ◌>>=◌ {B = ℕ} (room_under a.0 (bytes_in t tables) replaced added) (λ _. given a.1.entry)
entry_decides tables t sound wanted replaced added is a account =
    ap (λ n. part_entry_in n added (view tables t)) (sym is)
    ∙ ap (λ r. ◌>>=◌ {B = ℕ} r (λ _. next_entry_in (view tables t))) (room_of_account tables t sound a account replaced added)
    ∙ ap (λ r. ◌>>=◌ {B = ℕ} (room_under a.0 (bytes_in t tables) replaced added) (λ _. ◌>>=◌ {B = ℕ} r (λ (c : Counts). given c.entry))) (account_counts (view tables t) a account)

module _ (name : Octets) (f : FoundUpload) (there : get f.tenant.buckets name ≡ Some f.bucket) (begun : get f.bucket.uploads f.number ≡ Some f.upload) (number : ℕ) (p : Part) where
  abbrev replaced : ℕ
  replaced = option_map_or part_size (get f.upload.parts number) 0

  -- what is used afterwards
  used_then : used (with_bucket name (with_stored f number p) f.tenant) ≡ used f.tenant + length p.bytes - replaced
  used_then =
      let one = used_with_bucket name f.bucket (with_stored f number p) f.tenant there in
      let two = used_with_part f number p begun in
      omega (arith, one, two)

  quota_asked : require_quota name (with_stored f number p) f.tenant ≡ room_in replaced (length p.bytes) (Some f.tenant)
  quota_asked = ap (λ n. require (fits_quota (used f.tenant) n f.tenant.quota) QuotaExceeded) used_then

  -- and then the number
  pub part_asked : {X : Type 0} (next : Counts → Result X Refusal)
      → ◌>>=◌ {B = X} (require_quota name (with_stored f number p) f.tenant) (λ _. ◌>>=◌ {B = X} (after_part (counts f.tenant)) next)
      ≡ ◌>>=◌ {B = X} (part_entry_in replaced (length p.bytes) (Some f.tenant)) (λ n. next (record (counts f.tenant) { entry = n + 1 }))
  part_asked {X} next =
      ap (λ r. ◌>>=◌ {B = X} r (λ _. ◌>>=◌ {B = X} (after_part (counts f.tenant)) next)) quota_asked
      ∙ go (room_in replaced (length p.bytes) (Some f.tenant)) (can_give f.tenant.next_entry)
    where
      go : (r : Result (Unit {0}) Refusal) (left : Bool)
          → ◌>>=◌ {B = X} r (λ _. ◌>>=◌ {B = X} (if left then Ok (record (counts f.tenant) { entry = f.tenant.next_entry + 1 }) else Err CounterExhausted) next)
          ≡ ◌>>=◌ {B = X} (◌>>=◌ {B = ℕ} r (λ _. if left then Ok f.tenant.next_entry else Err CounterExhausted)) (λ n. next (record (counts f.tenant) { entry = n + 1 }))
      go (Err e) left = refl
      go (Ok u) true = refl
      go (Ok u) false = refl

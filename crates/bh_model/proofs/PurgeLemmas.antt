-- To purge twice is to purge at the later moment.
use Rattle.std.proofs.Common.{◌≡◌, ℕ, ◌≤◌, true, false, cond, Option, Some, None, option_and_then, refl, sym, ap, arith, le-leb, leb-true, nat_le, nat_lt, ◌*◌, ◌/◌, ◌+◌}
use Rattle.std.specs.Cmp.{nat_cmp_total}
use Rattle.std.specs.Cmp.Lexicographic.{nat_list_cmp_total}
use Rattle.std.specs.FinMap.{nat_cmp-IsAntisymmetric, slice_cmp-IsAntisymmetric}
use Rattle.bh_model.specs.State.{Upload, State, is_stale, fresh, purged_bucket, purged, stale_before}
use Rattle.std.proofs.lemmas.Bool.Decides.{nat_tests}
use Rattle.bh_model.proofs.MapLemmas.{adjusted_after}

pub still_stale : (days : Option ℕ) (begun m n : ℕ) → m ≤ n → is_stale days begun m ≡ true → is_stale days begun n ≡ true
still_stale None begun m n up h = h
still_stale (Some d) begun m n up h = le-leb _ _ (omega (arith, leb-true _ _ h))

-- an upload is stale where it was begun before a moment
pub stale_is_before : (days begun now : ℕ) → is_stale (Some days) begun now ≡ nat_lt begun (stale_before days now)
stale_is_before days begun now = elim (nat_le (86400 * (begun / 86400 + days + 1)) now) as (λ b. nat_le (86400 * (begun / 86400 + days + 1)) now ≡ b → b ≡ nat_lt begun (stale_before days now)) [
  | true ↦ λ e. let low = leb-true _ _ e in let test : nat_lt begun (stale_before days now) ≡ true = grind (arith, nat_tests, low) in sym test
  | false ↦ λ e. let test : nat_lt begun (stale_before days now) ≡ false = grind (arith, nat_tests, e) in sym test
] refl

fresh_later : (days : Option ℕ) (m n : ℕ) → m ≤ n → (u : Upload) → option_and_then (fresh days n) (fresh days m u) ≡ fresh days n u
fresh_later days m n up u =
    elim (is_stale days u.begun m) as (λ b. is_stale days u.begun m ≡ b → option_and_then (fresh days n) (cond b None (Some u)) ≡ fresh days n u) [
      | true ↦ λ e. ap (λ b. cond b None (Some u)) (sym (still_stale days u.begun m n up e))
      | false ↦ λ e. refl
    ] refl

pub state_purged_later : (s : State) (m n : ℕ) → m ≤ n → purged (purged s m) n ≡ purged s n
state_purged_later s m n up =
    ap (λ b. record s { buckets = b }) (adjusted_after nat_list_cmp_total (slice_cmp-IsAntisymmetric nat_cmp-IsAntisymmetric) (λ b. Some (purged_bucket m b)) (λ b. Some (purged_bucket n b)) (λ b. Some (purged_bucket n b))
    (λ b. ap (λ u. Some (record b { uploads = u })) (adjusted_after nat_cmp_total nat_cmp-IsAntisymmetric (fresh b.days m) (fresh b.days n) (fresh b.days n) (fresh_later b.days m n up) b.uploads)) s.buckets)

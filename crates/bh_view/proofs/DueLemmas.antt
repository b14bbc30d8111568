-- The uploads that SQL finds past the rules of their buckets are those that are stale.
use Rattle.std.proofs.Common.{◌≡◌, ◌≤◌, ◌<◌, ◌+◌, ◌-◌, ◌*◌, ◌/◌, ◌^◌, ◌*ℤ◌, ℕ, ℤ, pos, Bool, true, false, cond, ◌&&◌, ◌||◌, nat_lt, List, [], ◌∷◌, length, filter, take, Option, Some, None, option_and_then, refl, sym, ap, ap₂, ◌∙◌, subst, arith}
use Rattle.std.specs.List.{AllByRecursion, list_any}
use Rattle.std.proofs.lemmas.Bool.Decides.{nat_tests}
use Rattle.sqlite_value.specs.declared.keys.Collation.TheVariants.{Binary}
use Rattle.sqlite_value.specs.declared.value.Value.TheVariants.{Int}
use Rattle.sqlite_sql.specs.declared.ops.ArithOp.TheVariants.{Add, Mul}
use Rattle.sqlite_sql.specs.declared.ops.BinaryOp.TheVariants.{Compare, Arith}
use Rattle.sqlite_sql.specs.declared.ops.CompareOp.TheVariants.{Lt}
use Rattle.sqlite_sql.specs.Ops.{fits_i64, binary}
use Rattle.sqlite_keyed.specs.Lists.{sort_by}
use Rattle.sqlite_typed.specs.Tests.{bytes_eq}
use Rattle.sqlite_typed.proofs.TestLemmas.{sum_fits, at_ints, truth_or}
use Rattle.bh_model.specs.State.{Octets, is_stale, stale_before}
use Rattle.bh_model.specs.Runs.{last_reading}
use Rattle.bh_model.proofs.PurgeLemmas.{stale_is_before}
use Rattle.bh_tables.specs.Due.{is_past, is_past_in, by_owner, past_uploads}
use Rattle.bh_tables.proofs.DueText.{is_past_asked, is_past_asked_in, asked_uploads}
use Rattle.bh_tables.specs.Shown.{is_bucket}
use Rattle.bh_tables.specs.Typed.{HostRow, BucketRow, UploadRow, Tables, number}
use Rattle.bh_view.specs.Grouped.{first}
use Rattle.bh_view.specs.Sound.{AreDays, IsBucketRow, IsUploadRow, IsHostTable, IsSound}
use Rattle.bh_view.specs.Sweep.{is_due, due_uploads, uploads_swept}
use Rattle.bh_view.specs.View.{rows_of, latest_of}
use Rattle.bh_view.proofs.FilterLemmas.{filter_both}
use Rattle.bh_view.proofs.FindLemmas.{first_find}
use Rattle.bh_view.proofs.Keys.{octets}
use Rattle.bh_view.proofs.PurgeLemmas.{any_filtered}

-- ---- one rule

product_fits : (a b : ℤ) → fits_i64 (a *ℤ b) ≡ true → binary (Arith Mul) (Int a) (Int b) ≡ Int (a *ℤ b)
unfolding binary
product_fits a b h = rw h

small : (n : ℕ) → n < 2 ^ 63 → fits_i64 (pos n) ≡ true
small n low = grind (arith, nat_tests, low)

no_rule : (moment begun : ℕ) → is_past_asked moment begun None ≡ false
unfolding binary
no_rule moment begun = refl

by_rule : (moment begun days : ℕ) → begun ≤ last_reading → days ≤ 3650 → is_past_asked moment begun (Some days) ≡ nat_lt (begun + 86400 * days) moment
by_rule moment begun days early few =
    ap (λ v. truth_or false (binary (Compare Lt Binary) (binary (Arith Add) (number begun) v) (number moment))) (product_fits (pos 86400) (pos days) (small (86400 * days) (omega (arith, few))))
    ∙ ap (λ v. truth_or false (binary (Compare Lt Binary) v (number moment))) (sum_fits (pos begun) (pos (86400 * days)) (small (begun + 86400 * days) (omega (arith, early, few))))
    ∙ at_ints false Lt (pos (begun + 86400 * days)) (pos moment)

-- where no number is too wide, SQL means what is meant
asked_is_past : (moment begun : ℕ) (days : Option ℕ) → begun ≤ last_reading → AreDays days → is_past_asked moment begun days ≡ is_past moment begun days
asked_is_past moment begun None early few = no_rule moment begun
asked_is_past moment begun (Some days) early few = by_rule moment begun days early few.1

moved : (begun days q : ℕ) → nat_lt (begun + 86400 * days) (86400 * (q - 0)) ≡ nat_lt begun (86400 * (q - days))
moved begun days q = elim (nat_lt begun (86400 * (q - days))) as (λ b. nat_lt begun (86400 * (q - days)) ≡ b → nat_lt (begun + 86400 * days) (86400 * (q - 0)) ≡ b) [
  | true ↦ λ e. grind (arith, nat_tests, e)
  | false ↦ λ e. grind (arith, nat_tests, e)
] refl

past_is_stale : (at begun : ℕ) (days : Option ℕ) → is_past (stale_before 0 at) begun days ≡ is_stale days begun at
past_is_stale at begun None = refl
past_is_stale at begun (Some days) = moved begun days (at / 86400) ∙ sym (stale_is_before days begun at)

-- ---- lists

any_agree : {T : Type 0} (p q : T → Bool) (xs : List T) → AllByRecursion (λ x. p x ≡ q x) xs → list_any p xs ≡ list_any q xs
any_agree p q [] all = refl
any_agree p q (x ∷ xs) all = ap₂ ◌||◌ all.0 (any_agree p q xs all.1)

pub filter_agree : {T : Type 0} (p q : T → Bool) (xs : List T) → AllByRecursion (λ x. p x ≡ q x) xs → filter p xs ≡ filter q xs
filter_agree p q [] all = refl
filter_agree p q (x ∷ xs) all = ap₂ (λ b l. cond b (x ∷ l) l) all.0 (filter_agree p q xs all.1)

all_so : {T : Type 0} (P Q : T → Type 0) → ((x : T) → P x → Q x) → (xs : List T) → AllByRecursion P xs → AllByRecursion Q xs
all_so P Q f [] all = tt
all_so P Q f (x ∷ xs) all = (f x all.0, all_so P Q f xs all.1)

-- what holds of the rows of each tenant holds of all
of_each : {T : Type 0} (owner : T → Octets) (P : T → Type 0) (xs : List T) → ((t : Octets) → AllByRecursion P (filter (λ x. bytes_eq (owner x) t) xs)) → AllByRecursion P xs
of_each owner P [] all = tt
of_each owner P (x ∷ xs) all = (
  (subst (λ b. AllByRecursion P (cond b (x ∷ filter (λ y. bytes_eq (owner y) (owner x)) xs) (filter (λ y. bytes_eq (owner y) (owner x)) xs))) ((octets.decides (owner x) (owner x)).1 refl) (all (owner x))).0,
  of_each owner P xs (λ t. elim (bytes_eq (owner x) t) as (λ b. AllByRecursion P (cond b (x ∷ filter (λ y. bytes_eq (owner y) t) xs) (filter (λ y. bytes_eq (owner y) t) xs)) → AllByRecursion P (filter (λ y. bytes_eq (owner y) t) xs)) [ true ↦ λ h. h.1 | false ↦ λ h. h ] (all t)),
)

or_none : (b : Bool) → (b || false) ≡ b
or_none true = refl
or_none false = refl

-- ---- all uploads

latest_low : (tables : Tables) → IsHostTable tables.host → latest_of tables ≤ last_reading
unfolding latest_of
latest_low tables host = subst (λ (rows : List HostRow). latest_of (record tables { host = rows }) ≤ last_reading) (sym host.alone) host.good.latest

module _ (tables : Tables) (at : ℕ) (sound : IsSound tables) where
  past_is_due : (u : UploadRow) → is_past_in (stale_before 0 at) tables.buckets u ≡ is_due at tables u
  past_is_due u =
      let own = (rows_of u.tenant tables).buckets in
      let judge = λ (b : BucketRow). is_stale b.days u.begun at in
      any_filtered (λ (b : BucketRow). bytes_eq b.tenant u.tenant) (λ b. bytes_eq b.bucket u.bucket && is_past (stale_before 0 at) u.begun b.days) tables.buckets
      ∙ any_agree (λ (b : BucketRow). bytes_eq b.bucket u.bucket && is_past (stale_before 0 at) u.begun b.days) (λ b. bytes_eq b.bucket u.bucket && judge b) own
      (each own)
      ∙ any_filtered (λ (b : BucketRow). bytes_eq b.bucket u.bucket) judge own
      ∙ go (filter (λ (b : BucketRow). bytes_eq b.bucket u.bucket) own) ((sound.tenants u.tenant).buckets.one u.bucket)
      ∙ ap (λ rows. is_stale (option_and_then (λ (r : BucketRow). r.days) (first rows)) u.begun at) (filter_both (λ (b : BucketRow). bytes_eq b.tenant u.tenant) (λ b. bytes_eq b.bucket u.bucket) tables.buckets)
      ∙ ap (λ o. is_stale (option_and_then (λ (r : BucketRow). r.days) o) u.begun at) (first_find (is_bucket u.tenant u.bucket) tables.buckets)
    where
      each : (rows : List BucketRow) → AllByRecursion (λ (b : BucketRow). (bytes_eq b.bucket u.bucket && is_past (stale_before 0 at) u.begun b.days) ≡ (bytes_eq b.bucket u.bucket && is_stale b.days u.begun at)) rows
      each [] = tt
      each (b ∷ rows) = (ap (λ c. bytes_eq b.bucket u.bucket && c) (past_is_stale at u.begun b.days), each rows)

      go : (rows : List BucketRow) → length rows ≤ 1 → list_any (λ b. is_stale b.days u.begun at) rows ≡ is_stale (option_and_then (λ (r : BucketRow). r.days) (first rows)) u.begun at
      go [] low = refl
      go (r ∷ []) low = or_none (is_stale r.days u.begun at)
      go (r ∷ s ∷ rows) low = absurd (omega (arith, low))

  past_are_due : filter (is_past_in (stale_before 0 at) tables.buckets) tables.uploads ≡ filter (is_due at tables) tables.uploads
  past_are_due = filter_agree _ _ tables.uploads (each tables.uploads)
    where
      each : (us : List UploadRow) → AllByRecursion (λ (u : UploadRow). is_past_in (stale_before 0 at) tables.buckets u ≡ is_due at tables u) us
      each [] = tt
      each (u ∷ us) = (past_is_due u, each us)

  pub first_due : (limit : ℕ) → past_uploads limit (stale_before 0 at) tables.buckets tables.uploads ≡ uploads_swept at limit tables
  unfolding uploads_swept due_uploads
  first_due limit = ap (λ l. take limit (sort_by by_owner l)) past_are_due

-- the uploads that SQL finds are those that are past the rules of their buckets
module _ (tables : Tables) (sound : IsSound tables) (moment : ℕ) where
  asked_in : (u : UploadRow) → u.begun ≤ latest_of tables → is_past_asked_in moment tables.buckets u ≡ is_past_in moment tables.buckets u
  asked_in u begun =
      let low = latest_low tables sound.host in
      any_agree (λ (b : BucketRow). bytes_eq b.tenant u.tenant && (bytes_eq b.bucket u.bucket && is_past_asked moment u.begun b.days)) (λ b. bytes_eq b.tenant u.tenant && (bytes_eq b.bucket u.bucket && is_past moment u.begun b.days)) tables.buckets
      (all_so (IsBucketRow (latest_of tables)) _ (λ b good. ap (λ c. bytes_eq b.tenant u.tenant && (bytes_eq b.bucket u.bucket && c)) (asked_is_past moment u.begun b.days (omega (arith, begun, low)) good.days)) tables.buckets
      (of_each (λ (b : BucketRow). b.tenant) (IsBucketRow (latest_of tables)) tables.buckets (λ t. (sound.tenants t).buckets.each)))

  pub asked_are_past : (limit : ℕ) → asked_uploads limit moment tables.buckets tables.uploads ≡ past_uploads limit moment tables.buckets tables.uploads
  asked_are_past limit = ap (λ l. take limit (sort_by by_owner l)) (filter_agree _ _ tables.uploads
      (all_so (IsUploadRow (latest_of tables)) _ (λ u good. asked_in u good.begun) tables.uploads (of_each (λ (u : UploadRow). u.tenant) (IsUploadRow (latest_of tables)) tables.uploads (λ t. (sound.tenants t).uploads.each))))

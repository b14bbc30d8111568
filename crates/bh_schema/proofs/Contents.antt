-- A text that asks for something of a bucket, in a transaction, shows a row where there is such a thing.
use Rattle.bh_base.specs.Shown.{Backing, shown}
use Rattle.bh_base.proofs.Apart.{locks_apart, uploads_apart}
use Rattle.std.proofs.Common.{◌≡◌, ℕ, List, [], ◌∷◌, map, filter, take, is_some, slice_get, length, ◌==◌, not, suc, false, arith, ap, refl, Result, IfOk, IfErr}
use Rattle.std.proofs.lemmas.Grind.{common_steps}
use Rattle.sqlite.specs.declared.types.Value.TheVariants.{Text}
use Rattle.sqlite.specs.State.{State, HasCleanDisk, Survives, CommitsShowing, Shown, FailsToQuery}
use Rattle.sqlite.specs.Order.{Row}
use Rattle.sqlite.specs.declared.error.Error.{Error}
use Rattle.sqlite_keyed.specs.Lists.{sort_by}
use Rattle.bh_tables.specs.Schema.{Octets}
use Rattle.bh_tables.specs.Typed.{totals_of, Tables, tables}
use Rattle.bh_tables.specs.Shown.{is_lock, is_in_bucket, is_upload_in, shown_lock, shown_seq, shown_number, by_id, by_key}
use Rattle.bh_tables.proofs.Places as place
use Rattle.bh_base.specs.Layer.{standing, IsInside, IsStateClean}
use Rattle.bh_schema.specs.Contents.{has_content, IsTextOf}
use Rattle.bh_schema.specs.declared.rows.contents.Content.{Content}
use Rattle.bh_schema.specs.declared.rows.contents.Content.TheVariants as content
use Rattle.bh_base.proofs.Calls.{Question, selected, selected_first}
use Rattle.bh_schema.proofs.Finds.{shown_any, first_any}
use Rattle.bh_schema.proofs.VersionCalls as version

-- the rows that are shown
abbrev pub content_rows : Content → Octets → Octets → Tables → List Row
content_rows content.Lock t b tables = map shown_lock (filter (is_lock t b) tables.locks)
content_rows content.Version t b tables = take 1 (map shown_seq (sort_by by_id (filter (is_in_bucket t b) tables.versions)))
content_rows content.Upload t b tables = take 1 (map shown_number (sort_by by_key (filter (is_upload_in t b) tables.uploads)))

pub content_any : (what : Content) (t b : Octets) (tables : Tables) (items : List Row) → items ≡ content_rows what t b tables → is_some (slice_get items 0) ≡ has_content what t b tables
content_any content.Lock t b tables items all = shown_any shown_lock (is_lock t b) tables.locks items all
content_any content.Version t b tables items all = first_any shown_seq by_id (is_in_bucket t b) tables.versions items all
content_any content.Upload t b tables items all = first_any shown_number by_key (is_upload_in t b) tables.uploads items all

pub some_first : (items : List Row) → not (length items == 0) ≡ is_some (slice_get items 0)
some_first [] = refl
some_first (row ∷ rows) = ap not (never (length rows))
  where
    never : (n : ℕ) → (suc n == 0) ≡ false
    never n = grind (arith, common_steps)

module _ {X : Type 0} (a : Backing) (stored_old stored_new : State) (inside : IsStateClean (shown a stored_old) → IsInside (standing (shown a stored_old))) (rows_in : X → List Row) (result : Result X Error) (t b : Octets) where
  pub asks_content : (what : Content) (sql : List ℕ) → IsTextOf what sql → (HasCleanDisk stored_new → IfOk result (λ x. Shown sql (Text t ∷ Text b ∷ []) stored_old stored_new (rows_in x))) → (HasCleanDisk stored_new → IfErr result (FailsToQuery sql (Text t ∷ Text b ∷ []) stored_old stored_new))
      → Survives stored_old stored_new (CommitsShowing sql (Text t ∷ Text b ∷ []) stored_old) → Question (shown a stored_old) (shown a stored_new) rows_in (content_rows what t b) result
  asks_content content.Lock sql it = selected place.locks (λ _. locks_apart) a stored_old stored_new inside rows_in result (it t b)
  asks_content content.Version sql it = version.selected_first a stored_old stored_new inside rows_in result (it t b)
  asks_content content.Upload sql it = selected_first place.uploads (λ _. uploads_apart) a stored_old stored_new inside rows_in result (it (totals_of (tables (shown a stored_old))) t b)

-- Rows whose columns are of the right kinds are typed rows.
use Rattle.std.proofs.Common.{◌≡◌, pos, negsuc, true, false, true≢false, List, [], ◌∷◌, refl, sym, ap}
use Rattle.std.specs.List.{AllByRecursion, list_all}
use Rattle.std.proofs.lemmas.Bool.{and_parts}
use Rattle.sqlite.specs.declared.types.Value.{Value}
use Rattle.sqlite.specs.declared.types.Value.TheVariants.{Null, Int, Real, Text, Blob}
use Rattle.sqlite.specs.Order.{Row, column}
use Rattle.sqlite.specs.Tree.{rowid}
use Rattle.sqlite.specs.Edit.{id_in}
use Rattle.sqlite_trees.specs.View.{is_int}
use Rattle.sqlite_typed.specs.Columns.{bytes_of, int_of, or_null}
use Rattle.bh_rows.specs.Form.{Form, AreRows}
use Rattle.bh_tables.specs.Typed.{column_number, maybe_number, number, host_form, stored_tenant_form, key_form, bucket_form, version_form, block_form, ref_form, stored_upload_form, part_form, use_form, lock_form, retain_form, tally_form, garbage_form, pack_form, place_form}
use Rattle.bh_stored.specs.Cells.{suits, are_suited, is_fit}
use Rattle.bh_stored.specs.Fits.{AreFit, host_kinds, tenant_kinds, key_kinds, bucket_kinds, version_kinds, block_kinds, ref_kinds, upload_kinds, part_kinds, use_kinds, lock_kinds, retain_kinds, tally_kinds, garbage_kinds, pack_kinds, place_kinds}
use Rattle.bh_stored.specs.declared.cells.Kind.{Kind}
use Rattle.bh_stored.specs.declared.cells.Kind.TheVariants as kind

-- ---- one value

no : {X : Type 0} → false ≡ true → X
no h = absurd (true≢false (sym h))

null_is : (v : Value) → suits kind.Key v ≡ true → v ≡ Null
null_is Null h = refl
null_is (Int n) h = no h
null_is (Real x) h = no h
null_is (Text t) h = no h
null_is (Blob b) h = no h

text_is : (v : Value) → suits kind.Text v ≡ true → v ≡ Text (bytes_of v)
text_is Null h = no h
text_is (Int n) h = no h
text_is (Real x) h = no h
text_is (Text t) h = refl
text_is (Blob b) h = no h

blob_is : (v : Value) → suits kind.Blob v ≡ true → v ≡ Blob (bytes_of v)
blob_is Null h = no h
blob_is (Int n) h = no h
blob_is (Real x) h = no h
blob_is (Text t) h = no h
blob_is (Blob b) h = refl

pub number_is : (v : Value) → suits kind.Number v ≡ true → v ≡ number (column_number v)
number_is Null h = no h
number_is (Int (pos n)) h = refl
number_is (Int (negsuc n)) h = no h
number_is (Real x) h = no h
number_is (Text t) h = no h
number_is (Blob b) h = no h

int_is : (v : Value) → suits kind.Number v ≡ true → v ≡ Int (int_of v)
int_is Null h = no h
int_is (Int n) h = refl
int_is (Real x) h = no h
int_is (Text t) h = no h
int_is (Blob b) h = no h

whole_is : (v : Value) → suits kind.Whole v ≡ true → v ≡ Int (int_of v)
whole_is Null h = no h
whole_is (Int n) h = refl
whole_is (Real x) h = no h
whole_is (Text t) h = no h
whole_is (Blob b) h = no h

maybe_is : (v : Value) → suits kind.MaybeNumber v ≡ true → v ≡ or_null number (maybe_number v)
maybe_is Null h = refl
maybe_is (Int (pos n)) h = refl
maybe_is (Int (negsuc n)) h = no h
maybe_is (Real x) h = no h
maybe_is (Text t) h = no h
maybe_is (Blob b) h = no h

id_is : (v : Value) → is_int v ≡ true → v ≡ Int (id_in v)
id_is Null h = no h
id_is (Int n) h = refl
id_is (Real x) h = no h
id_is (Text t) h = no h
id_is (Blob b) h = no h

-- ---- a row, a value at a time

module _ {T : Type 0} (form : Form T) (kinds : List Kind) (each : (id : Value) (vs : Row) → are_suited kinds vs ≡ true → vs ≡ form.encode (form.decode (id ∷ vs))) where
  row_is : (r : Row) → is_fit kinds r ≡ true → r ≡ Int (id_in (rowid r)) ∷ form.encode (form.decode r)
  row_is [] h = no h
  row_is (v ∷ vs) h = let both = and_parts (is_int v) _ h in (λ i. id_is v both.0 i ∷ each v vs both.1 i)

  each_is : (rows : List Row) → list_all (is_fit kinds) rows ≡ true → AllByRecursion (λ r. r ≡ Int (id_in (rowid r)) ∷ form.encode (form.decode r)) rows
  each_is [] h = tt
  each_is (r ∷ rows) h = let both = and_parts (is_fit kinds r) _ h in (row_is r both.0, each_is rows both.1)

  pub rows_are : (rows : List Row) → AreFit kinds rows → AreRows form rows
  rows_are rows h = record { each = each_is rows h.fit; rises = h.rises }

-- ---- the columns of each table

host_each : (id : Value) (vs : Row) → are_suited host_kinds vs ≡ true → vs ≡ host_form.encode (host_form.decode (id ∷ vs))
host_each id [] h = no h
host_each id (a ∷ []) h = let h0 = and_parts (suits kind.Key a) _ h in no h0.1
host_each id (a ∷ b ∷ []) h = let h0 = and_parts (suits kind.Key a) _ h in let h1 = and_parts (suits kind.Number b) _ h0.1 in no h1.1
host_each id (a ∷ b ∷ c ∷ []) h = let h0 = and_parts (suits kind.Key a) _ h in let h1 = and_parts (suits kind.Number b) _ h0.1 in let h2 = and_parts (suits kind.Number c) _ h1.1 in no h2.1
host_each id (a ∷ b ∷ c ∷ d ∷ []) h = let h0 = and_parts (suits kind.Key a) _ h in let h1 = and_parts (suits kind.Number b) _ h0.1 in let h2 = and_parts (suits kind.Number c) _ h1.1 in let h3 = and_parts (suits kind.Number d) _ h2.1 in no h3.1
host_each id (a ∷ b ∷ c ∷ d ∷ e ∷ []) h = let h0 = and_parts (suits kind.Key a) _ h in let h1 = and_parts (suits kind.Number b) _ h0.1 in let h2 = and_parts (suits kind.Number c) _ h1.1 in let h3 = and_parts (suits kind.Number d) _ h2.1 in let h4 = and_parts (suits kind.Number e) _ h3.1 in no h4.1
host_each id (a ∷ b ∷ c ∷ d ∷ e ∷ f ∷ []) h = let h0 = and_parts (suits kind.Key a) _ h in let h1 = and_parts (suits kind.Number b) _ h0.1 in let h2 = and_parts (suits kind.Number c) _ h1.1 in let h3 = and_parts (suits kind.Number d) _ h2.1 in let h4 = and_parts (suits kind.Number e) _ h3.1 in let h5 = and_parts (suits kind.Number f) _ h4.1 in (λ i. null_is a h0.0 i ∷ number_is b h1.0 i ∷ number_is c h2.0 i ∷ number_is d h3.0 i ∷ number_is e h4.0 i ∷ number_is f h5.0 i ∷ [])
host_each id (a ∷ b ∷ c ∷ d ∷ e ∷ f ∷ v ∷ vs) h = let h0 = and_parts (suits kind.Key a) _ h in let h1 = and_parts (suits kind.Number b) _ h0.1 in let h2 = and_parts (suits kind.Number c) _ h1.1 in let h3 = and_parts (suits kind.Number d) _ h2.1 in let h4 = and_parts (suits kind.Number e) _ h3.1 in let h5 = and_parts (suits kind.Number f) _ h4.1 in no h5.1

tenant_each : (id : Value) (vs : Row) → are_suited tenant_kinds vs ≡ true → vs ≡ stored_tenant_form.encode (stored_tenant_form.decode (id ∷ vs))
tenant_each id [] h = no h
tenant_each id (a ∷ []) h = let h0 = and_parts (suits kind.Text a) _ h in no h0.1
tenant_each id (a ∷ b ∷ []) h = let h0 = and_parts (suits kind.Text a) _ h in let h1 = and_parts (suits kind.Number b) _ h0.1 in no h1.1
tenant_each id (a ∷ b ∷ c ∷ []) h = let h0 = and_parts (suits kind.Text a) _ h in let h1 = and_parts (suits kind.Number b) _ h0.1 in let h2 = and_parts (suits kind.Number c) _ h1.1 in no h2.1
tenant_each id (a ∷ b ∷ c ∷ d ∷ []) h = let h0 = and_parts (suits kind.Text a) _ h in let h1 = and_parts (suits kind.Number b) _ h0.1 in let h2 = and_parts (suits kind.Number c) _ h1.1 in let h3 = and_parts (suits kind.Number d) _ h2.1 in no h3.1
tenant_each id (a ∷ b ∷ c ∷ d ∷ e ∷ []) h = let h0 = and_parts (suits kind.Text a) _ h in let h1 = and_parts (suits kind.Number b) _ h0.1 in let h2 = and_parts (suits kind.Number c) _ h1.1 in let h3 = and_parts (suits kind.Number d) _ h2.1 in let h4 = and_parts (suits kind.Number e) _ h3.1 in no h4.1
tenant_each id (a ∷ b ∷ c ∷ d ∷ e ∷ f ∷ []) h = let h0 = and_parts (suits kind.Text a) _ h in let h1 = and_parts (suits kind.Number b) _ h0.1 in let h2 = and_parts (suits kind.Number c) _ h1.1 in let h3 = and_parts (suits kind.Number d) _ h2.1 in let h4 = and_parts (suits kind.Number e) _ h3.1 in let h5 = and_parts (suits kind.Number f) _ h4.1 in (λ i. text_is a h0.0 i ∷ number_is b h1.0 i ∷ number_is c h2.0 i ∷ number_is d h3.0 i ∷ number_is e h4.0 i ∷ int_is f h5.0 i ∷ [])
tenant_each id (a ∷ b ∷ c ∷ d ∷ e ∷ f ∷ v ∷ vs) h = let h0 = and_parts (suits kind.Text a) _ h in let h1 = and_parts (suits kind.Number b) _ h0.1 in let h2 = and_parts (suits kind.Number c) _ h1.1 in let h3 = and_parts (suits kind.Number d) _ h2.1 in let h4 = and_parts (suits kind.Number e) _ h3.1 in let h5 = and_parts (suits kind.Number f) _ h4.1 in no h5.1

key_each : (id : Value) (vs : Row) → are_suited key_kinds vs ≡ true → vs ≡ key_form.encode (key_form.decode (id ∷ vs))
key_each id [] h = no h
key_each id (a ∷ []) h = let h0 = and_parts (suits kind.Text a) _ h in no h0.1
key_each id (a ∷ b ∷ []) h = let h0 = and_parts (suits kind.Text a) _ h in let h1 = and_parts (suits kind.Text b) _ h0.1 in no h1.1
key_each id (a ∷ b ∷ c ∷ []) h = let h0 = and_parts (suits kind.Text a) _ h in let h1 = and_parts (suits kind.Text b) _ h0.1 in let h2 = and_parts (suits kind.Text c) _ h1.1 in (λ i. text_is a h0.0 i ∷ text_is b h1.0 i ∷ text_is c h2.0 i ∷ [])
key_each id (a ∷ b ∷ c ∷ v ∷ vs) h = let h0 = and_parts (suits kind.Text a) _ h in let h1 = and_parts (suits kind.Text b) _ h0.1 in let h2 = and_parts (suits kind.Text c) _ h1.1 in no h2.1

bucket_each : (id : Value) (vs : Row) → are_suited bucket_kinds vs ≡ true → vs ≡ bucket_form.encode (bucket_form.decode (id ∷ vs))
bucket_each id [] h = no h
bucket_each id (a ∷ []) h = let h0 = and_parts (suits kind.Text a) _ h in no h0.1
bucket_each id (a ∷ b ∷ []) h = let h0 = and_parts (suits kind.Text a) _ h in let h1 = and_parts (suits kind.Text b) _ h0.1 in no h1.1
bucket_each id (a ∷ b ∷ c ∷ []) h = let h0 = and_parts (suits kind.Text a) _ h in let h1 = and_parts (suits kind.Text b) _ h0.1 in let h2 = and_parts (suits kind.Number c) _ h1.1 in no h2.1
bucket_each id (a ∷ b ∷ c ∷ d ∷ []) h = let h0 = and_parts (suits kind.Text a) _ h in let h1 = and_parts (suits kind.Text b) _ h0.1 in let h2 = and_parts (suits kind.Number c) _ h1.1 in let h3 = and_parts (suits kind.Number d) _ h2.1 in no h3.1
bucket_each id (a ∷ b ∷ c ∷ d ∷ e ∷ []) h = let h0 = and_parts (suits kind.Text a) _ h in let h1 = and_parts (suits kind.Text b) _ h0.1 in let h2 = and_parts (suits kind.Number c) _ h1.1 in let h3 = and_parts (suits kind.Number d) _ h2.1 in let h4 = and_parts (suits kind.MaybeNumber e) _ h3.1 in (λ i. text_is a h0.0 i ∷ text_is b h1.0 i ∷ number_is c h2.0 i ∷ number_is d h3.0 i ∷ maybe_is e h4.0 i ∷ [])
bucket_each id (a ∷ b ∷ c ∷ d ∷ e ∷ v ∷ vs) h = let h0 = and_parts (suits kind.Text a) _ h in let h1 = and_parts (suits kind.Text b) _ h0.1 in let h2 = and_parts (suits kind.Number c) _ h1.1 in let h3 = and_parts (suits kind.Number d) _ h2.1 in let h4 = and_parts (suits kind.MaybeNumber e) _ h3.1 in no h4.1

version_each : (id : Value) (vs : Row) → are_suited version_kinds vs ≡ true → vs ≡ version_form.encode (version_form.decode (id ∷ vs))
version_each id [] h = no h
version_each id (a ∷ []) h = let h0 = and_parts (suits kind.Text a) _ h in no h0.1
version_each id (a ∷ b ∷ []) h = let h0 = and_parts (suits kind.Text a) _ h in let h1 = and_parts (suits kind.Number b) _ h0.1 in no h1.1
version_each id (a ∷ b ∷ c ∷ []) h = let h0 = and_parts (suits kind.Text a) _ h in let h1 = and_parts (suits kind.Number b) _ h0.1 in let h2 = and_parts (suits kind.Text c) _ h1.1 in no h2.1
version_each id (a ∷ b ∷ c ∷ d ∷ []) h = let h0 = and_parts (suits kind.Text a) _ h in let h1 = and_parts (suits kind.Number b) _ h0.1 in let h2 = and_parts (suits kind.Text c) _ h1.1 in let h3 = and_parts (suits kind.Blob d) _ h2.1 in no h3.1
version_each id (a ∷ b ∷ c ∷ d ∷ e ∷ []) h = let h0 = and_parts (suits kind.Text a) _ h in let h1 = and_parts (suits kind.Number b) _ h0.1 in let h2 = and_parts (suits kind.Text c) _ h1.1 in let h3 = and_parts (suits kind.Blob d) _ h2.1 in let h4 = and_parts (suits kind.Number e) _ h3.1 in no h4.1
version_each id (a ∷ b ∷ c ∷ d ∷ e ∷ f ∷ []) h = let h0 = and_parts (suits kind.Text a) _ h in let h1 = and_parts (suits kind.Number b) _ h0.1 in let h2 = and_parts (suits kind.Text c) _ h1.1 in let h3 = and_parts (suits kind.Blob d) _ h2.1 in let h4 = and_parts (suits kind.Number e) _ h3.1 in let h5 = and_parts (suits kind.Number f) _ h4.1 in no h5.1
version_each id (a ∷ b ∷ c ∷ d ∷ e ∷ f ∷ g ∷ []) h = let h0 = and_parts (suits kind.Text a) _ h in let h1 = and_parts (suits kind.Number b) _ h0.1 in let h2 = and_parts (suits kind.Text c) _ h1.1 in let h3 = and_parts (suits kind.Blob d) _ h2.1 in let h4 = and_parts (suits kind.Number e) _ h3.1 in let h5 = and_parts (suits kind.Number f) _ h4.1 in let h6 = and_parts (suits kind.Number g) _ h5.1 in no h6.1
version_each id (a ∷ b ∷ c ∷ d ∷ e ∷ f ∷ g ∷ j ∷ []) h = let h0 = and_parts (suits kind.Text a) _ h in let h1 = and_parts (suits kind.Number b) _ h0.1 in let h2 = and_parts (suits kind.Text c) _ h1.1 in let h3 = and_parts (suits kind.Blob d) _ h2.1 in let h4 = and_parts (suits kind.Number e) _ h3.1 in let h5 = and_parts (suits kind.Number f) _ h4.1 in let h6 = and_parts (suits kind.Number g) _ h5.1 in let h7 = and_parts (suits kind.Number j) _ h6.1 in no h7.1
version_each id (a ∷ b ∷ c ∷ d ∷ e ∷ f ∷ g ∷ j ∷ k ∷ []) h = let h0 = and_parts (suits kind.Text a) _ h in let h1 = and_parts (suits kind.Number b) _ h0.1 in let h2 = and_parts (suits kind.Text c) _ h1.1 in let h3 = and_parts (suits kind.Blob d) _ h2.1 in let h4 = and_parts (suits kind.Number e) _ h3.1 in let h5 = and_parts (suits kind.Number f) _ h4.1 in let h6 = and_parts (suits kind.Number g) _ h5.1 in let h7 = and_parts (suits kind.Number j) _ h6.1 in let h8 = and_parts (suits kind.Text k) _ h7.1 in (λ i. text_is a h0.0 i ∷ number_is b h1.0 i ∷ text_is c h2.0 i ∷ blob_is d h3.0 i ∷ number_is e h4.0 i ∷ number_is f h5.0 i ∷ number_is g h6.0 i ∷ number_is j h7.0 i ∷ text_is k h8.0 i ∷ [])
version_each id (a ∷ b ∷ c ∷ d ∷ e ∷ f ∷ g ∷ j ∷ k ∷ v ∷ vs) h = let h0 = and_parts (suits kind.Text a) _ h in let h1 = and_parts (suits kind.Number b) _ h0.1 in let h2 = and_parts (suits kind.Text c) _ h1.1 in let h3 = and_parts (suits kind.Blob d) _ h2.1 in let h4 = and_parts (suits kind.Number e) _ h3.1 in let h5 = and_parts (suits kind.Number f) _ h4.1 in let h6 = and_parts (suits kind.Number g) _ h5.1 in let h7 = and_parts (suits kind.Number j) _ h6.1 in let h8 = and_parts (suits kind.Text k) _ h7.1 in no h8.1

block_each : (id : Value) (vs : Row) → are_suited block_kinds vs ≡ true → vs ≡ block_form.encode (block_form.decode (id ∷ vs))
block_each id [] h = no h
block_each id (a ∷ []) h = let h0 = and_parts (suits kind.Blob a) _ h in no h0.1
block_each id (a ∷ b ∷ []) h = let h0 = and_parts (suits kind.Blob a) _ h in let h1 = and_parts (suits kind.Number b) _ h0.1 in no h1.1
block_each id (a ∷ b ∷ c ∷ []) h = let h0 = and_parts (suits kind.Blob a) _ h in let h1 = and_parts (suits kind.Number b) _ h0.1 in let h2 = and_parts (suits kind.Blob c) _ h1.1 in (λ i. blob_is a h0.0 i ∷ number_is b h1.0 i ∷ blob_is c h2.0 i ∷ [])
block_each id (a ∷ b ∷ c ∷ v ∷ vs) h = let h0 = and_parts (suits kind.Blob a) _ h in let h1 = and_parts (suits kind.Number b) _ h0.1 in let h2 = and_parts (suits kind.Blob c) _ h1.1 in no h2.1

ref_each : (id : Value) (vs : Row) → are_suited ref_kinds vs ≡ true → vs ≡ ref_form.encode (ref_form.decode (id ∷ vs))
ref_each id [] h = no h
ref_each id (a ∷ []) h = let h0 = and_parts (suits kind.Text a) _ h in no h0.1
ref_each id (a ∷ b ∷ []) h = let h0 = and_parts (suits kind.Text a) _ h in let h1 = and_parts (suits kind.Number b) _ h0.1 in no h1.1
ref_each id (a ∷ b ∷ c ∷ []) h = let h0 = and_parts (suits kind.Text a) _ h in let h1 = and_parts (suits kind.Number b) _ h0.1 in let h2 = and_parts (suits kind.Number c) _ h1.1 in no h2.1
ref_each id (a ∷ b ∷ c ∷ d ∷ []) h = let h0 = and_parts (suits kind.Text a) _ h in let h1 = and_parts (suits kind.Number b) _ h0.1 in let h2 = and_parts (suits kind.Number c) _ h1.1 in let h3 = and_parts (suits kind.Blob d) _ h2.1 in no h3.1
ref_each id (a ∷ b ∷ c ∷ d ∷ e ∷ []) h = let h0 = and_parts (suits kind.Text a) _ h in let h1 = and_parts (suits kind.Number b) _ h0.1 in let h2 = and_parts (suits kind.Number c) _ h1.1 in let h3 = and_parts (suits kind.Blob d) _ h2.1 in let h4 = and_parts (suits kind.Number e) _ h3.1 in no h4.1
ref_each id (a ∷ b ∷ c ∷ d ∷ e ∷ f ∷ []) h = let h0 = and_parts (suits kind.Text a) _ h in let h1 = and_parts (suits kind.Number b) _ h0.1 in let h2 = and_parts (suits kind.Number c) _ h1.1 in let h3 = and_parts (suits kind.Blob d) _ h2.1 in let h4 = and_parts (suits kind.Number e) _ h3.1 in let h5 = and_parts (suits kind.Number f) _ h4.1 in (λ i. text_is a h0.0 i ∷ number_is b h1.0 i ∷ number_is c h2.0 i ∷ blob_is d h3.0 i ∷ number_is e h4.0 i ∷ number_is f h5.0 i ∷ [])
ref_each id (a ∷ b ∷ c ∷ d ∷ e ∷ f ∷ v ∷ vs) h = let h0 = and_parts (suits kind.Text a) _ h in let h1 = and_parts (suits kind.Number b) _ h0.1 in let h2 = and_parts (suits kind.Number c) _ h1.1 in let h3 = and_parts (suits kind.Blob d) _ h2.1 in let h4 = and_parts (suits kind.Number e) _ h3.1 in let h5 = and_parts (suits kind.Number f) _ h4.1 in no h5.1

upload_each : (id : Value) (vs : Row) → are_suited upload_kinds vs ≡ true → vs ≡ stored_upload_form.encode (stored_upload_form.decode (id ∷ vs))
upload_each id [] h = no h
upload_each id (a ∷ []) h = let h0 = and_parts (suits kind.Text a) _ h in no h0.1
upload_each id (a ∷ b ∷ []) h = let h0 = and_parts (suits kind.Text a) _ h in let h1 = and_parts (suits kind.Number b) _ h0.1 in no h1.1
upload_each id (a ∷ b ∷ c ∷ []) h = let h0 = and_parts (suits kind.Text a) _ h in let h1 = and_parts (suits kind.Number b) _ h0.1 in let h2 = and_parts (suits kind.Text c) _ h1.1 in no h2.1
upload_each id (a ∷ b ∷ c ∷ d ∷ []) h = let h0 = and_parts (suits kind.Text a) _ h in let h1 = and_parts (suits kind.Number b) _ h0.1 in let h2 = and_parts (suits kind.Text c) _ h1.1 in let h3 = and_parts (suits kind.Blob d) _ h2.1 in no h3.1
upload_each id (a ∷ b ∷ c ∷ d ∷ e ∷ []) h = let h0 = and_parts (suits kind.Text a) _ h in let h1 = and_parts (suits kind.Number b) _ h0.1 in let h2 = and_parts (suits kind.Text c) _ h1.1 in let h3 = and_parts (suits kind.Blob d) _ h2.1 in let h4 = and_parts (suits kind.Number e) _ h3.1 in no h4.1
upload_each id (a ∷ b ∷ c ∷ d ∷ e ∷ f ∷ []) h = let h0 = and_parts (suits kind.Text a) _ h in let h1 = and_parts (suits kind.Number b) _ h0.1 in let h2 = and_parts (suits kind.Text c) _ h1.1 in let h3 = and_parts (suits kind.Blob d) _ h2.1 in let h4 = and_parts (suits kind.Number e) _ h3.1 in let h5 = and_parts (suits kind.Number f) _ h4.1 in (λ i. text_is a h0.0 i ∷ number_is b h1.0 i ∷ text_is c h2.0 i ∷ blob_is d h3.0 i ∷ number_is e h4.0 i ∷ int_is f h5.0 i ∷ [])
upload_each id (a ∷ b ∷ c ∷ d ∷ e ∷ f ∷ v ∷ vs) h = let h0 = and_parts (suits kind.Text a) _ h in let h1 = and_parts (suits kind.Number b) _ h0.1 in let h2 = and_parts (suits kind.Text c) _ h1.1 in let h3 = and_parts (suits kind.Blob d) _ h2.1 in let h4 = and_parts (suits kind.Number e) _ h3.1 in let h5 = and_parts (suits kind.Number f) _ h4.1 in no h5.1

part_each : (id : Value) (vs : Row) → are_suited part_kinds vs ≡ true → vs ≡ part_form.encode (part_form.decode (id ∷ vs))
part_each id [] h = no h
part_each id (a ∷ []) h = let h0 = and_parts (suits kind.Text a) _ h in no h0.1
part_each id (a ∷ b ∷ []) h = let h0 = and_parts (suits kind.Text a) _ h in let h1 = and_parts (suits kind.Number b) _ h0.1 in no h1.1
part_each id (a ∷ b ∷ c ∷ []) h = let h0 = and_parts (suits kind.Text a) _ h in let h1 = and_parts (suits kind.Number b) _ h0.1 in let h2 = and_parts (suits kind.Number c) _ h1.1 in no h2.1
part_each id (a ∷ b ∷ c ∷ d ∷ []) h = let h0 = and_parts (suits kind.Text a) _ h in let h1 = and_parts (suits kind.Number b) _ h0.1 in let h2 = and_parts (suits kind.Number c) _ h1.1 in let h3 = and_parts (suits kind.Number d) _ h2.1 in no h3.1
part_each id (a ∷ b ∷ c ∷ d ∷ e ∷ []) h = let h0 = and_parts (suits kind.Text a) _ h in let h1 = and_parts (suits kind.Number b) _ h0.1 in let h2 = and_parts (suits kind.Number c) _ h1.1 in let h3 = and_parts (suits kind.Number d) _ h2.1 in let h4 = and_parts (suits kind.Text e) _ h3.1 in no h4.1
part_each id (a ∷ b ∷ c ∷ d ∷ e ∷ f ∷ []) h = let h0 = and_parts (suits kind.Text a) _ h in let h1 = and_parts (suits kind.Number b) _ h0.1 in let h2 = and_parts (suits kind.Number c) _ h1.1 in let h3 = and_parts (suits kind.Number d) _ h2.1 in let h4 = and_parts (suits kind.Text e) _ h3.1 in let h5 = and_parts (suits kind.Number f) _ h4.1 in no h5.1
part_each id (a ∷ b ∷ c ∷ d ∷ e ∷ f ∷ g ∷ []) h = let h0 = and_parts (suits kind.Text a) _ h in let h1 = and_parts (suits kind.Number b) _ h0.1 in let h2 = and_parts (suits kind.Number c) _ h1.1 in let h3 = and_parts (suits kind.Number d) _ h2.1 in let h4 = and_parts (suits kind.Text e) _ h3.1 in let h5 = and_parts (suits kind.Number f) _ h4.1 in let h6 = and_parts (suits kind.Number g) _ h5.1 in (λ i. text_is a h0.0 i ∷ number_is b h1.0 i ∷ number_is c h2.0 i ∷ number_is d h3.0 i ∷ text_is e h4.0 i ∷ number_is f h5.0 i ∷ number_is g h6.0 i ∷ [])
part_each id (a ∷ b ∷ c ∷ d ∷ e ∷ f ∷ g ∷ v ∷ vs) h = let h0 = and_parts (suits kind.Text a) _ h in let h1 = and_parts (suits kind.Number b) _ h0.1 in let h2 = and_parts (suits kind.Number c) _ h1.1 in let h3 = and_parts (suits kind.Number d) _ h2.1 in let h4 = and_parts (suits kind.Text e) _ h3.1 in let h5 = and_parts (suits kind.Number f) _ h4.1 in let h6 = and_parts (suits kind.Number g) _ h5.1 in no h6.1

use_each : (id : Value) (vs : Row) → are_suited use_kinds vs ≡ true → vs ≡ use_form.encode (use_form.decode (id ∷ vs))
use_each id [] h = no h
use_each id (a ∷ []) h = let h0 = and_parts (suits kind.Blob a) _ h in no h0.1
use_each id (a ∷ b ∷ []) h = let h0 = and_parts (suits kind.Blob a) _ h in let h1 = and_parts (suits kind.Number b) _ h0.1 in no h1.1
use_each id (a ∷ b ∷ c ∷ []) h = let h0 = and_parts (suits kind.Blob a) _ h in let h1 = and_parts (suits kind.Number b) _ h0.1 in let h2 = and_parts (suits kind.Number c) _ h1.1 in (λ i. blob_is a h0.0 i ∷ number_is b h1.0 i ∷ int_is c h2.0 i ∷ [])
use_each id (a ∷ b ∷ c ∷ v ∷ vs) h = let h0 = and_parts (suits kind.Blob a) _ h in let h1 = and_parts (suits kind.Number b) _ h0.1 in let h2 = and_parts (suits kind.Number c) _ h1.1 in no h2.1

lock_each : (id : Value) (vs : Row) → are_suited lock_kinds vs ≡ true → vs ≡ lock_form.encode (lock_form.decode (id ∷ vs))
lock_each id [] h = no h
lock_each id (a ∷ []) h = let h0 = and_parts (suits kind.Text a) _ h in no h0.1
lock_each id (a ∷ b ∷ []) h = let h0 = and_parts (suits kind.Text a) _ h in let h1 = and_parts (suits kind.Text b) _ h0.1 in (λ i. text_is a h0.0 i ∷ text_is b h1.0 i ∷ [])
lock_each id (a ∷ b ∷ v ∷ vs) h = let h0 = and_parts (suits kind.Text a) _ h in let h1 = and_parts (suits kind.Text b) _ h0.1 in no h1.1

retain_each : (id : Value) (vs : Row) → are_suited retain_kinds vs ≡ true → vs ≡ retain_form.encode (retain_form.decode (id ∷ vs))
retain_each id [] h = no h
retain_each id (a ∷ []) h = let h0 = and_parts (suits kind.Text a) _ h in no h0.1
retain_each id (a ∷ b ∷ []) h = let h0 = and_parts (suits kind.Text a) _ h in let h1 = and_parts (suits kind.Number b) _ h0.1 in no h1.1
retain_each id (a ∷ b ∷ c ∷ []) h = let h0 = and_parts (suits kind.Text a) _ h in let h1 = and_parts (suits kind.Number b) _ h0.1 in let h2 = and_parts (suits kind.Number c) _ h1.1 in (λ i. text_is a h0.0 i ∷ number_is b h1.0 i ∷ number_is c h2.0 i ∷ [])
retain_each id (a ∷ b ∷ c ∷ v ∷ vs) h = let h0 = and_parts (suits kind.Text a) _ h in let h1 = and_parts (suits kind.Number b) _ h0.1 in let h2 = and_parts (suits kind.Number c) _ h1.1 in no h2.1

tally_each : (id : Value) (vs : Row) → are_suited tally_kinds vs ≡ true → vs ≡ tally_form.encode (tally_form.decode (id ∷ vs))
tally_each id [] h = no h
tally_each id (a ∷ []) h = let h0 = and_parts (suits kind.Text a) _ h in no h0.1
tally_each id (a ∷ b ∷ []) h = let h0 = and_parts (suits kind.Text a) _ h in let h1 = and_parts (suits kind.Number b) _ h0.1 in no h1.1
tally_each id (a ∷ b ∷ c ∷ []) h = let h0 = and_parts (suits kind.Text a) _ h in let h1 = and_parts (suits kind.Number b) _ h0.1 in let h2 = and_parts (suits kind.Number c) _ h1.1 in no h2.1
tally_each id (a ∷ b ∷ c ∷ d ∷ []) h = let h0 = and_parts (suits kind.Text a) _ h in let h1 = and_parts (suits kind.Number b) _ h0.1 in let h2 = and_parts (suits kind.Number c) _ h1.1 in let h3 = and_parts (suits kind.Number d) _ h2.1 in (λ i. text_is a h0.0 i ∷ int_is b h1.0 i ∷ int_is c h2.0 i ∷ int_is d h3.0 i ∷ [])
tally_each id (a ∷ b ∷ c ∷ d ∷ v ∷ vs) h = let h0 = and_parts (suits kind.Text a) _ h in let h1 = and_parts (suits kind.Number b) _ h0.1 in let h2 = and_parts (suits kind.Number c) _ h1.1 in let h3 = and_parts (suits kind.Number d) _ h2.1 in no h3.1

garbage_each : (id : Value) (vs : Row) → are_suited garbage_kinds vs ≡ true → vs ≡ garbage_form.encode (garbage_form.decode (id ∷ vs))
garbage_each id [] h = no h
garbage_each id (a ∷ []) h = let h0 = and_parts (suits kind.Key a) _ h in no h0.1
garbage_each id (a ∷ b ∷ []) h = let h0 = and_parts (suits kind.Key a) _ h in let h1 = and_parts (suits kind.Number b) _ h0.1 in (λ i. null_is a h0.0 i ∷ int_is b h1.0 i ∷ [])
garbage_each id (a ∷ b ∷ v ∷ vs) h = let h0 = and_parts (suits kind.Key a) _ h in let h1 = and_parts (suits kind.Number b) _ h0.1 in no h1.1

pack_each : (id : Value) (vs : Row) → are_suited pack_kinds vs ≡ true → vs ≡ pack_form.encode (pack_form.decode (id ∷ vs))
pack_each id [] h = no h
pack_each id (a ∷ []) h = let h0 = and_parts (suits kind.Number a) _ h in no h0.1
pack_each id (a ∷ b ∷ []) h = let h0 = and_parts (suits kind.Number a) _ h in let h1 = and_parts (suits kind.Number b) _ h0.1 in no h1.1
pack_each id (a ∷ b ∷ c ∷ []) h = let h0 = and_parts (suits kind.Number a) _ h in let h1 = and_parts (suits kind.Number b) _ h0.1 in let h2 = and_parts (suits kind.Number c) _ h1.1 in (λ i. number_is a h0.0 i ∷ number_is b h1.0 i ∷ number_is c h2.0 i ∷ [])
pack_each id (a ∷ b ∷ c ∷ v ∷ vs) h = let h0 = and_parts (suits kind.Number a) _ h in let h1 = and_parts (suits kind.Number b) _ h0.1 in let h2 = and_parts (suits kind.Number c) _ h1.1 in no h2.1

place_each : (id : Value) (vs : Row) → are_suited place_kinds vs ≡ true → vs ≡ place_form.encode (place_form.decode (id ∷ vs))
place_each id [] h = no h
place_each id (a ∷ []) h = let h0 = and_parts (suits kind.Blob a) _ h in no h0.1
place_each id (a ∷ b ∷ []) h = let h0 = and_parts (suits kind.Blob a) _ h in let h1 = and_parts (suits kind.Number b) _ h0.1 in no h1.1
place_each id (a ∷ b ∷ c ∷ []) h = let h0 = and_parts (suits kind.Blob a) _ h in let h1 = and_parts (suits kind.Number b) _ h0.1 in let h2 = and_parts (suits kind.Number c) _ h1.1 in no h2.1
place_each id (a ∷ b ∷ c ∷ d ∷ []) h = let h0 = and_parts (suits kind.Blob a) _ h in let h1 = and_parts (suits kind.Number b) _ h0.1 in let h2 = and_parts (suits kind.Number c) _ h1.1 in let h3 = and_parts (suits kind.Number d) _ h2.1 in no h3.1
place_each id (a ∷ b ∷ c ∷ d ∷ e ∷ []) h = let h0 = and_parts (suits kind.Blob a) _ h in let h1 = and_parts (suits kind.Number b) _ h0.1 in let h2 = and_parts (suits kind.Number c) _ h1.1 in let h3 = and_parts (suits kind.Number d) _ h2.1 in let h4 = and_parts (suits kind.Number e) _ h3.1 in no h4.1
place_each id (a ∷ b ∷ c ∷ d ∷ e ∷ f ∷ []) h = let h0 = and_parts (suits kind.Blob a) _ h in let h1 = and_parts (suits kind.Number b) _ h0.1 in let h2 = and_parts (suits kind.Number c) _ h1.1 in let h3 = and_parts (suits kind.Number d) _ h2.1 in let h4 = and_parts (suits kind.Number e) _ h3.1 in let h5 = and_parts (suits kind.Whole f) _ h4.1 in (λ i. blob_is a h0.0 i ∷ number_is b h1.0 i ∷ number_is c h2.0 i ∷ number_is d h3.0 i ∷ number_is e h4.0 i ∷ whole_is f h5.0 i ∷ [])
place_each id (a ∷ b ∷ c ∷ d ∷ e ∷ f ∷ v ∷ vs) h = let h0 = and_parts (suits kind.Blob a) _ h in let h1 = and_parts (suits kind.Number b) _ h0.1 in let h2 = and_parts (suits kind.Number c) _ h1.1 in let h3 = and_parts (suits kind.Number d) _ h2.1 in let h4 = and_parts (suits kind.Number e) _ h3.1 in let h5 = and_parts (suits kind.Whole f) _ h4.1 in no h5.1

-- ---- the rows of each

pub hosts_are : (rows : List Row) → AreFit host_kinds rows → AreRows host_form rows
hosts_are = rows_are host_form host_kinds host_each

pub tenants_are : (rows : List Row) → AreFit tenant_kinds rows → AreRows stored_tenant_form rows
tenants_are = rows_are stored_tenant_form tenant_kinds tenant_each

pub keys_are : (rows : List Row) → AreFit key_kinds rows → AreRows key_form rows
keys_are = rows_are key_form key_kinds key_each

pub buckets_are : (rows : List Row) → AreFit bucket_kinds rows → AreRows bucket_form rows
buckets_are = rows_are bucket_form bucket_kinds bucket_each

pub versions_are : (rows : List Row) → AreFit version_kinds rows → AreRows version_form rows
versions_are = rows_are version_form version_kinds version_each

pub blocks_are : (rows : List Row) → AreFit block_kinds rows → AreRows block_form rows
blocks_are = rows_are block_form block_kinds block_each

pub refs_are : (rows : List Row) → AreFit ref_kinds rows → AreRows ref_form rows
refs_are = rows_are ref_form ref_kinds ref_each

pub uploads_are : (rows : List Row) → AreFit upload_kinds rows → AreRows stored_upload_form rows
uploads_are = rows_are stored_upload_form upload_kinds upload_each

pub parts_are : (rows : List Row) → AreFit part_kinds rows → AreRows part_form rows
parts_are = rows_are part_form part_kinds part_each

pub uses_are : (rows : List Row) → AreFit use_kinds rows → AreRows use_form rows
uses_are = rows_are use_form use_kinds use_each

pub locks_are : (rows : List Row) → AreFit lock_kinds rows → AreRows lock_form rows
locks_are = rows_are lock_form lock_kinds lock_each

pub retains_are : (rows : List Row) → AreFit retain_kinds rows → AreRows retain_form rows
retains_are = rows_are retain_form retain_kinds retain_each

pub tallies_are : (rows : List Row) → AreFit tally_kinds rows → AreRows tally_form rows
tallies_are = rows_are tally_form tally_kinds tally_each

-- ---- totals that are kept aren't negative

used_each : (id : Value) (vs : Row) → are_suited tenant_kinds vs ≡ true → int_of (column (id ∷ vs) 6) ≡ pos (column_number (column (id ∷ vs) 6))
used_each id [] h = no h
used_each id (a ∷ []) h = let h0 = and_parts (suits kind.Text a) _ h in no h0.1
used_each id (a ∷ b ∷ []) h = let h0 = and_parts (suits kind.Text a) _ h in let h1 = and_parts (suits kind.Number b) _ h0.1 in no h1.1
used_each id (a ∷ b ∷ c ∷ []) h = let h0 = and_parts (suits kind.Text a) _ h in let h1 = and_parts (suits kind.Number b) _ h0.1 in let h2 = and_parts (suits kind.Number c) _ h1.1 in no h2.1
used_each id (a ∷ b ∷ c ∷ d ∷ []) h = let h0 = and_parts (suits kind.Text a) _ h in let h1 = and_parts (suits kind.Number b) _ h0.1 in let h2 = and_parts (suits kind.Number c) _ h1.1 in let h3 = and_parts (suits kind.Number d) _ h2.1 in no h3.1
used_each id (a ∷ b ∷ c ∷ d ∷ e ∷ []) h = let h0 = and_parts (suits kind.Text a) _ h in let h1 = and_parts (suits kind.Number b) _ h0.1 in let h2 = and_parts (suits kind.Number c) _ h1.1 in let h3 = and_parts (suits kind.Number d) _ h2.1 in let h4 = and_parts (suits kind.Number e) _ h3.1 in no h4.1
used_each id (a ∷ b ∷ c ∷ d ∷ e ∷ f ∷ vs) h = let h0 = and_parts (suits kind.Text a) _ h in let h1 = and_parts (suits kind.Number b) _ h0.1 in let h2 = and_parts (suits kind.Number c) _ h1.1 in let h3 = and_parts (suits kind.Number d) _ h2.1 in let h4 = and_parts (suits kind.Number e) _ h3.1 in let h5 = and_parts (suits kind.Number f) _ h4.1 in ap int_of (number_is f h5.0)

pub used_is : (r : Row) → is_fit tenant_kinds r ≡ true → int_of (column r 6) ≡ pos (column_number (column r 6))
used_is [] h = no h
used_is (v ∷ vs) h = used_each v vs (and_parts (is_int v) _ h).1

kept_each : (id : Value) (vs : Row) → are_suited upload_kinds vs ≡ true → int_of (column (id ∷ vs) 6) ≡ pos (column_number (column (id ∷ vs) 6))
kept_each id [] h = no h
kept_each id (a ∷ []) h = let h0 = and_parts (suits kind.Text a) _ h in no h0.1
kept_each id (a ∷ b ∷ []) h = let h0 = and_parts (suits kind.Text a) _ h in let h1 = and_parts (suits kind.Number b) _ h0.1 in no h1.1
kept_each id (a ∷ b ∷ c ∷ []) h = let h0 = and_parts (suits kind.Text a) _ h in let h1 = and_parts (suits kind.Number b) _ h0.1 in let h2 = and_parts (suits kind.Text c) _ h1.1 in no h2.1
kept_each id (a ∷ b ∷ c ∷ d ∷ []) h = let h0 = and_parts (suits kind.Text a) _ h in let h1 = and_parts (suits kind.Number b) _ h0.1 in let h2 = and_parts (suits kind.Text c) _ h1.1 in let h3 = and_parts (suits kind.Blob d) _ h2.1 in no h3.1
kept_each id (a ∷ b ∷ c ∷ d ∷ e ∷ []) h = let h0 = and_parts (suits kind.Text a) _ h in let h1 = and_parts (suits kind.Number b) _ h0.1 in let h2 = and_parts (suits kind.Text c) _ h1.1 in let h3 = and_parts (suits kind.Blob d) _ h2.1 in let h4 = and_parts (suits kind.Number e) _ h3.1 in no h4.1
kept_each id (a ∷ b ∷ c ∷ d ∷ e ∷ f ∷ vs) h = let h0 = and_parts (suits kind.Text a) _ h in let h1 = and_parts (suits kind.Number b) _ h0.1 in let h2 = and_parts (suits kind.Text c) _ h1.1 in let h3 = and_parts (suits kind.Blob d) _ h2.1 in let h4 = and_parts (suits kind.Number e) _ h3.1 in let h5 = and_parts (suits kind.Number f) _ h4.1 in ap int_of (number_is f h5.0)

pub kept_is : (r : Row) → is_fit upload_kinds r ≡ true → int_of (column r 6) ≡ pos (column_number (column r 6))
kept_is [] h = no h
kept_is (v ∷ vs) h = kept_each v vs (and_parts (is_int v) _ h).1

count_each : (id : Value) (vs : Row) → are_suited use_kinds vs ≡ true → int_of (column (id ∷ vs) 3) ≡ pos (column_number (column (id ∷ vs) 3))
count_each id [] h = no h
count_each id (a ∷ []) h = let h0 = and_parts (suits kind.Blob a) _ h in no h0.1
count_each id (a ∷ b ∷ []) h = let h0 = and_parts (suits kind.Blob a) _ h in let h1 = and_parts (suits kind.Number b) _ h0.1 in no h1.1
count_each id (a ∷ b ∷ c ∷ vs) h = let h0 = and_parts (suits kind.Blob a) _ h in let h1 = and_parts (suits kind.Number b) _ h0.1 in let h2 = and_parts (suits kind.Number c) _ h1.1 in ap int_of (number_is c h2.0)

pub count_is : (r : Row) → is_fit use_kinds r ≡ true → int_of (column r 3) ≡ pos (column_number (column r 3))
count_is [] h = no h
count_is (v ∷ vs) h = count_each v vs (and_parts (is_int v) _ h).1

-- the counts of a tally
pub record AreCounts (r : Row) : Type 0 where
  pub versions : int_of (column r 2) ≡ pos (column_number (column r 2))
  pub markers : int_of (column r 3) ≡ pos (column_number (column r 3))
  pub objects : int_of (column r 4) ≡ pos (column_number (column r 4))

tallied_each : (id : Value) (vs : Row) → are_suited tally_kinds vs ≡ true → AreCounts (id ∷ vs)
tallied_each id [] h = no h
tallied_each id (a ∷ []) h = let h0 = and_parts (suits kind.Text a) _ h in no h0.1
tallied_each id (a ∷ b ∷ []) h = let h0 = and_parts (suits kind.Text a) _ h in let h1 = and_parts (suits kind.Number b) _ h0.1 in no h1.1
tallied_each id (a ∷ b ∷ c ∷ []) h = let h0 = and_parts (suits kind.Text a) _ h in let h1 = and_parts (suits kind.Number b) _ h0.1 in let h2 = and_parts (suits kind.Number c) _ h1.1 in no h2.1
tallied_each id (a ∷ b ∷ c ∷ d ∷ vs) h = let h0 = and_parts (suits kind.Text a) _ h in let h1 = and_parts (suits kind.Number b) _ h0.1 in let h2 = and_parts (suits kind.Number c) _ h1.1 in let h3 = and_parts (suits kind.Number d) _ h2.1 in record { versions = ap int_of (number_is b h1.0); markers = ap int_of (number_is c h2.0); objects = ap int_of (number_is d h3.0) }

pub tallied_is : (r : Row) → is_fit tally_kinds r ≡ true → AreCounts r
tallied_is [] h = no h
tallied_is (v ∷ vs) h = tallied_each v vs (and_parts (is_int v) _ h).1

pub garbage_are : (rows : List Row) → AreFit garbage_kinds rows → AreRows garbage_form rows
garbage_are = rows_are garbage_form garbage_kinds garbage_each

garbage_bytes_each : (id : Value) (vs : Row) → are_suited garbage_kinds vs ≡ true → int_of (column (id ∷ vs) 2) ≡ pos (column_number (column (id ∷ vs) 2))
garbage_bytes_each id [] h = no h
garbage_bytes_each id (a ∷ []) h = let h0 = and_parts (suits kind.Key a) _ h in no h0.1
garbage_bytes_each id (a ∷ b ∷ vs) h = let h0 = and_parts (suits kind.Key a) _ h in let h1 = and_parts (suits kind.Number b) _ h0.1 in ap int_of (number_is b h1.0)

pub garbage_is : (r : Row) → is_fit garbage_kinds r ≡ true → int_of (column r 2) ≡ pos (column_number (column r 2))
garbage_is [] h = no h
garbage_is (v ∷ vs) h = garbage_bytes_each v vs (and_parts (is_int v) _ h).1

pub packs_are : (rows : List Row) → AreFit pack_kinds rows → AreRows pack_form rows
packs_are = rows_are pack_form pack_kinds pack_each

pub places_are : (rows : List Row) → AreFit place_kinds rows → AreRows place_form rows
places_are = rows_are place_form place_kinds place_each

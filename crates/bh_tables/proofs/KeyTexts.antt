-- The texts over access keys.
use Rattle.std.proofs.Common.{inl, inr, ◌≡◌, ℤ, pos, codes, List, [], ◌∷◌, ◌&&◌, true, false, refl, ap, ◌∙◌}
use Rattle.std.specs.List.{list_any}
use Rattle.sqlite.specs.Collation.TheVariants.{Binary}
use Rattle.sqlite.specs.declared.types.Value.TheVariants.{Null, Int, Text}
use Rattle.sqlite.specs.Edit.{next_rowid}
use Rattle.sqlite.specs.Effect.{Database}
use Rattle.sqlite.specs.Listing.{understood}
use Rattle.sqlite.specs.Order.{Row}
use Rattle.sqlite.specs.Term.{lit, col}
use Rattle.sqlite_sql.specs.declared.ops.CompareOp.TheVariants.{Eq}
use Rattle.sqlite_value.specs.Keys.{plain, first_key}
use Rattle.sqlite_schema.specs.Rules.{agree}
use Rattle.sqlite_tied.specs.Compute.{everything}
use Rattle.sqlite_typed.proofs.TestLemmas.{at_texts, last_term, then_term, then_key, last_key}
use Rattle.sqlite_value.proofs.OrderLemmas.{value_cmp-Int, value_cmp-Text}
use Rattle.bh_rows.specs.Form.{put}
use Rattle.bh_rows.specs.Keys.{AreUnused}
use Rattle.bh_rows.specs.Scan.{by_rowid, no_limit}
use Rattle.bh_rows.specs.Texts.{MayAdd, InsertText, DeleteText, SelectText, SortedText, SumText}
use Rattle.bh_rows.proofs.FormLemmas.{any_typed}
use Rattle.bh_tables.specs.Schema.{Octets, host_schema, keys_table, at}
use Rattle.bh_tables.specs.Typed.{Totals, KeyRow, key_form, tenant_form, IsHostBy, tables_in}
use Rattle.bh_tables.specs.Shown.{is_key, is_owned_key, is_tenant, by_key_name, shown_key, shown_secret}
use Rattle.bh_tables.proofs.Terms.{is}
use Rattle.bh_tables.proofs.Unfilled.{unfilled_none, none_names}

-- ---- a key of a tenant, whose name no other key of the tenant has, may be added

key_agrees : (i j : ℤ) (a b : KeyRow) → agree plain (1 ∷ 2 ∷ []) (put key_form (i, a)) (1 ∷ 2 ∷ []) (put key_form (j, b)) ≡ is_key b.tenant b.name a
unfolding first_key
key_agrees i j a b = then_term (at_texts false Eq a.tenant b.tenant) (last_term (at_texts false Eq a.name b.name))

pub new_key : {sums : Totals} (db : Database) → IsHostBy sums db → (k : KeyRow) → list_any (is_key k.tenant k.name) (tables_in db).keys ≡ false → list_any (is_tenant k.tenant) (tables_in db).tenants ≡ true → MayAdd key_form host_schema (at 3 keys_table) db.trees k
unfolding everything
new_key {sums} db host k free owned = record {
  suits = record { typed = refl; present = refl; checked = refl };
  free = (any_typed key_form _ (is_key k.tenant k.name) (λ id a. key_agrees id (next_rowid (db.trees 3)) a k) (db.trees 3) host.held.keys ∙ free, tt);
  parents = ap (λ b. b && true) (any_typed (tenant_form sums) _ (is_tenant k.tenant) (λ id t. last_term (at_texts false Eq t.tenant k.tenant)) (db.trees 1) host.held.tenants ∙ owned);
}

-- no key has rights of its own
pub keys_unused : {sums : Totals} (db : Database) → IsHostBy sums db → (rows : List Row) → AreUnused host_schema db.trees 3 rows
unfolding everything
keys_unused db host rows = (none_names _ (db.trees 41) (unfilled_none db host 41 (inr (inr (inl refl)))), tt)

-- ---- the texts

pub secret_shown : (tenant name : Octets) → SelectText key_form host_schema 3 (codes "SELECT secret FROM keys WHERE tenant = ?1 AND name = ?2 ORDER BY rowid") (Text tenant ∷ Text name ∷ []) (is_key tenant name) shown_secret no_limit
unfolding understood everything
secret_shown tenant name = record {
  test = is 1 0 ∷ is 2 1 ∷ [];
  show = col 1 3 ∷ [];
  names = codes "secret" ∷ [];
  means = record { is = refl; plain = (refl, refl); unlisted = refl; whole = refl; given = refl };
  low = refl;
  accepts = refl;
  tests = λ id k. then_term (at_texts false Eq k.tenant tenant) (last_term (at_texts false Eq k.name name));
  shows = λ id k. refl;
}

pub keys_listed : (tenant : Octets) → SortedText key_form host_schema 3 (codes "SELECT name FROM keys WHERE tenant = ?1 ORDER BY name, rowid") (Text tenant ∷ []) (is_owned_key tenant) shown_key by_key_name no_limit
unfolding understood everything
keys_listed tenant = record {
  test = is 1 0 ∷ [];
  show = col 1 2 ∷ [];
  keys = (col 1 2, record { collation = Binary; descending = false }) ∷ by_rowid;
  names = codes "name" ∷ [];
  means = record { is = refl; plain = (refl, refl); unlisted = refl; whole = refl; given = refl };
  low = refl;
  accepts = refl;
  tests = λ id k. last_term (at_texts false Eq k.tenant tenant);
  shows = λ id k. refl;
  orders = λ a b. then_key (value_cmp-Text a.1.name b.1.name) (last_key (value_cmp-Int a.0 b.0));
}

-- 1 for each row
pub keys_counted : (tenant : Octets) → SumText key_form host_schema 3 (codes "SELECT coalesce(sum(1), 0) FROM keys WHERE tenant = ?1") (Text tenant ∷ []) (is_owned_key tenant) (λ _. 1)
unfolding understood everything
keys_counted tenant = record {
  test = is 1 0 ∷ [];
  argument = lit (Int (pos 1));
  names = codes "coalesce(sum(1), 0)" ∷ [];
  means = record { is = refl; plain = (refl, refl); unlisted = refl; whole = refl; given = refl };
  low = refl;
  accepts = refl;
  tests = λ id k. last_term (at_texts false Eq k.tenant tenant);
  reads = λ id k. refl;
}

pub key_inserted : (tenant name secret : Octets) → InsertText key_form host_schema 2 (at 3 keys_table) (codes "INSERT INTO keys (tenant, name, secret) VALUES (?1, ?2, ?3)") (Text tenant ∷ Text name ∷ Text secret ∷ [])
    (record { tenant = tenant; name = name; secret = secret })
unfolding understood everything
key_inserted tenant name secret = record {
  terms = lit Null ∷ col 0 0 ∷ col 0 1 ∷ col 0 2 ∷ [];
  width = 4;
  means = record { is = refl; plain = (refl, refl); unlisted = refl; whole = refl; given = refl };
  gives = refl;
  accepts = refl;
}

pub key_deleted : (tenant name : Octets) → DeleteText key_form host_schema 2 (at 3 keys_table) (codes "DELETE FROM keys WHERE tenant = ?1 AND name = ?2") (Text tenant ∷ Text name ∷ []) (is_key tenant name)
unfolding understood everything
key_deleted tenant name = record {
  test = is 1 0 ∷ is 2 1 ∷ [];
  means = record { is = refl; plain = (refl, refl); unlisted = refl; whole = refl; given = refl };
  accepts = refl;
  tests = λ id k. then_term (at_texts false Eq k.tenant tenant) (last_term (at_texts false Eq k.name name));
}

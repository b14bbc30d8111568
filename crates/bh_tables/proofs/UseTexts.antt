-- The texts over the counts of uses of blocks: a new one, one more, one less, one that goes, and the blocks that have none.
use Rattle.std.proofs.Common.{true≢false, negsuc, ◌≡◌, ◌≤◌, ◌<◌, ◌^◌, ℕ, ℤ, pos, ◌+ℤ◌, ◌-ℤ◌, codes, Bool, true, false, List, [], ◌∷◌, Some, None, cond, arith, refl, sym, ap, ◌∙◌, int_cmp, int_le, int_lt, not, map, zero, suc}
use Rattle.std.specs.List.{list_any}
use Rattle.std.proofs.lemmas.Bool.{and_parts}
use Rattle.std.proofs.lemmas.Int.{ints}
use Rattle.sqlite.specs.Collation.TheVariants.{Binary}
use Rattle.sqlite.specs.declared.types.Value.TheVariants.{Null, Int, Blob}
use Rattle.sqlite.specs.Edit.{next_rowid}
use Rattle.sqlite.specs.Effect.{Database}
use Rattle.sqlite.specs.Listing.{understood}
use Rattle.sqlite.specs.Order.{Row, column}
use Rattle.sqlite.specs.Term.{lit, col, op2}
use Rattle.sqlite.specs.Tree.{Trees}
use Rattle.sqlite_sql.specs.declared.ops.ArithOp.TheVariants.{Add, Sub}
use Rattle.sqlite_sql.specs.declared.ops.BinaryOp.TheVariants.{Compare, Arith}
use Rattle.sqlite_sql.specs.declared.ops.CompareOp.TheVariants.{Eq, Le, Ge}
use Rattle.sqlite_sql.specs.Ops.{binary, is_false, int_arith, int_or, real_arith, from_int, fits_i64}
use Rattle.sqlite_value.specs.Keys.{plain, ascending, first_key}
use Rattle.sqlite_value.proofs.OrderLemmas.{value_cmp-Int, value_cmp-Blob}
use Rattle.sqlite_schema.specs.Rules.{agree, passes_checks}
use Rattle.sqlite_tied.specs.Compute.{everything}
use Rattle.sqlite_typed.specs.Tests.{bytes_cmp}
use Rattle.sqlite_typed.proofs.TestLemmas.{at_blobs, at_ints, last_term, then_term, then_key, last_key}
use Rattle.bh_rows.specs.Form.{put}
use Rattle.bh_rows.specs.Keys.{AreUnused, Suits, watched}
use Rattle.bh_rows.specs.Scan.{by_rowid}
use Rattle.bh_rows.specs.Texts.{MayAdd, InsertText, UpdateText, DeleteText, SortedText}
use Rattle.bh_rows.proofs.FormLemmas.{any_typed}
use Rattle.bh_rows.proofs.ScanLemmas.{then_assoc}
use Rattle.bh_tables.specs.Schema.{host_schema, uses_table, at}
use Rattle.bh_tables.specs.Typed.{Totals, UseRow, use_form, use_columns, is_named, number, IsHostBy}
use Rattle.bh_tables.specs.Shown.{Name, is_unused, by_use_name, shown_use_name}
use Rattle.bh_tables.proofs.Checked.{use_checked}
use Rattle.bh_tables.proofs.Terms.{is}

-- ---- a number that the CHECKs let through can be added to and taken from

untwice : (b : Bool) → not (not b) ≡ true → b ≡ true
untwice true h = refl
untwice false h = h

-- it is from 0 to 2^62
pub record IsKept (n : ℤ) : Type 0 where
  pub least : int_le (pos 0) n ≡ true
  pub most : int_le n (pos 4611686018427387904) ≡ true

pub kept_by : (n : ℤ) → not (is_false (binary (Compare Ge Binary) (Int n) (Int (pos 0)))) ≡ true → not (is_false (binary (Compare Le Binary) (Int n) (Int (pos 4611686018427387904)))) ≡ true → IsKept n
kept_by n low high = record { least = sym (at_ints true Ge n (pos 0)) ∙ untwice _ low; most = sym (at_ints true Le n (pos 4611686018427387904)) ∙ untwice _ high }

fits_after : (m k : ℕ) → int_le (pos m) (pos 4611686018427387904) ≡ true → k < 4611686018427387904 → fits_i64 (pos m +ℤ pos k) ≡ true
fits_after m k high low = grind (arith, ints, high, low)

fits_before : (m k : ℕ) → int_le (pos m) (pos 4611686018427387904) ≡ true → k < 4611686018427387904 → fits_i64 (pos m -ℤ pos k) ≡ true
fits_before m k high low = grind (arith, ints, high, low)

fits_both : (m k l : ℕ) → int_le (pos m) (pos 4611686018427387904) ≡ true → k < 4611686018427387904 → l < 4611686018427387904 → fits_i64 (pos m +ℤ pos k -ℤ pos l) ≡ true
fits_both m k l high low less = grind (arith, ints, high, low, less)

pub added : (n : ℤ) (k : ℕ) → IsKept n → k < 2 ^ 62 → int_arith Add n (pos k) ≡ Int (n +ℤ pos k)
added (pos m) k kept low = ap (λ b. int_or (cond b (Some (pos m +ℤ pos k)) None) (real_arith Add (from_int (pos m)) (from_int (pos k)))) (fits_after m k kept.most low)
added (negsuc m) k kept low = absurd (true≢false (sym kept.least))

pub taken : (n : ℤ) (k : ℕ) → IsKept n → k < 2 ^ 62 → int_arith Sub n (pos k) ≡ Int (n -ℤ pos k)
taken (pos m) k kept low = ap (λ b. int_or (cond b (Some (pos m -ℤ pos k)) None) (real_arith Sub (from_int (pos m)) (from_int (pos k)))) (fits_before m k kept.most low)
taken (negsuc m) k kept low = absurd (true≢false (sym kept.least))

-- a number is added, and then another is taken
pub taken_after : (n : ℤ) (k l : ℕ) → IsKept n → k < 2 ^ 62 → l < 2 ^ 62 → int_arith Sub (n +ℤ pos k) (pos l) ≡ Int (n +ℤ pos k -ℤ pos l)
taken_after (pos m) k l kept low less = ap (λ b. int_or (cond b (Some (pos m +ℤ pos k -ℤ pos l)) None) (real_arith Sub (from_int (pos m +ℤ pos k)) (from_int (pos l)))) (fits_both m k l kept.most low less)
taken_after (negsuc m) k l kept low less = absurd (true≢false (sym kept.least))

-- ---- a count of a block that has none may be added

pub use_agrees : (i j : ℤ) (a b : UseRow) → agree plain (1 ∷ 2 ∷ []) (put use_form (i, a)) (1 ∷ 2 ∷ []) (put use_form (j, b)) ≡ is_named (b.digest, b.ord) a
unfolding first_key
use_agrees i j a b = then_term (at_blobs false Eq a.digest b.digest) (last_term (at_ints false Eq (pos a.ord) (pos b.ord)))

pub new_use : {sums : Totals} (db : Database) → IsHostBy sums db → (q : Name) → list_any (is_named q) sums.uses ≡ false → MayAdd use_form host_schema (at 23 uses_table) db.trees (record { digest = q.0; ord = q.1; uses = pos 1 })
unfolding everything
new_use {sums} db host q free = record {
  suits = record { typed = refl; present = refl; checked = use_checked (next_rowid (db.trees 23)) q.0 q.1 1 (omega arith) };
  free = (any_typed use_form _ (is_named q) (λ id a. use_agrees id (next_rowid (db.trees 23)) a (record { digest = q.0; ord = q.1; uses = pos 1 })) (db.trees 23) host.held.uses ∙ ap (list_any (is_named q)) host.held.counts ∙ free, tt);
  parents = refl;
}

-- no table refers to counts
pub uses_unused : (db : Trees) (rows : List Row) → AreUnused host_schema db 23 rows
unfolding everything
uses_unused db rows = tt

-- ---- the texts

kept_of : (id : ℤ) (u : UseRow) → passes_checks uses_table (Int id ∷ use_columns u) ≡ true → IsKept u.uses
kept_of id u h = let rest = (and_parts _ _ h).1 in let more = and_parts _ _ rest in kept_by u.uses more.0 (and_parts _ _ more.1).0

-- the first reference to a new block is counted
pub use_inserted : (q : Name) → InsertText use_form host_schema 9 (at 23 uses_table) (codes "INSERT INTO uses (digest, ord, uses) VALUES (?1, ?2, 1)") (Blob q.0 ∷ number q.1 ∷ []) (record { digest = q.0; ord = q.1; uses = pos 1 })
unfolding understood everything
use_inserted q = record {
  terms = lit Null ∷ col 0 0 ∷ col 0 1 ∷ lit (Int (pos 1)) ∷ [];
  width = 4;
  means = record { is = refl; plain = (refl, refl); unlisted = refl; whole = refl; given = refl };
  gives = refl;
  accepts = refl;
}

pub uses_raised : (q : Name) → UpdateText use_form host_schema 9 (at 23 uses_table) (codes "UPDATE uses SET uses = uses + 1 WHERE digest = ?1 AND ord = ?2") (Blob q.0 ∷ number q.1 ∷ []) (is_named q) (λ u. record u { uses = u.uses +ℤ pos 1 })
unfolding understood everything binary
uses_raised q = record {
  test = is 1 0 ∷ is 2 1 ∷ [];
  show = col 1 0 ∷ col 1 0 ∷ col 1 1 ∷ col 1 2 ∷ op2 (Arith Add) (col 1 3) (lit (Int (pos 1))) ∷ [];
  means = record { is = refl; plain = (refl, refl); unlisted = refl; whole = refl; given = refl };
  accepts = refl;
  tests = λ id u. then_term (at_blobs false Eq u.digest q.0) (last_term (at_ints false Eq (pos u.ord) (pos q.1)));
  shows = λ id u found was. ap (λ v. Int id ∷ Int id ∷ Blob u.digest ∷ number u.ord ∷ v ∷ []) (added u.uses 1 (kept_of id u was.checked) (omega arith));
}

pub uses_lowered : (q : Name) → UpdateText use_form host_schema 9 (at 23 uses_table) (codes "UPDATE uses SET uses = uses - 1 WHERE digest = ?1 AND ord = ?2") (Blob q.0 ∷ number q.1 ∷ []) (is_named q) (λ u. record u { uses = u.uses -ℤ pos 1 })
unfolding understood everything binary
uses_lowered q = record {
  test = is 1 0 ∷ is 2 1 ∷ [];
  show = col 1 0 ∷ col 1 0 ∷ col 1 1 ∷ col 1 2 ∷ op2 (Arith Sub) (col 1 3) (lit (Int (pos 1))) ∷ [];
  means = record { is = refl; plain = (refl, refl); unlisted = refl; whole = refl; given = refl };
  accepts = refl;
  tests = λ id u. then_term (at_blobs false Eq u.digest q.0) (last_term (at_ints false Eq (pos u.ord) (pos q.1)));
  shows = λ id u found was. ap (λ v. Int id ∷ Int id ∷ Blob u.digest ∷ number u.ord ∷ v ∷ []) (taken u.uses 1 (kept_of id u was.checked) (omega arith));
}

-- a count that is not 0 may be lowered
pub lowered_suits : (id : ℤ) (u : UseRow) → int_lt (pos 0) u.uses ≡ true → Suits (at 23 uses_table) (put use_form (id, u)) → Suits (at 23 uses_table) (put use_form (id, record u { uses = u.uses -ℤ pos 1 }))
lowered_suits id u more was = record { typed = refl; present = refl; checked = go u.uses more (kept_of id u was.checked) }
  where
    one_off : (n : ℕ) → pos n ≡ pos (suc n) -ℤ pos 1
    one_off n = grind (arith, ints)

    below : (n : ℕ) → int_le (pos (suc n)) (pos 4611686018427387904) ≡ true → n ≤ 4611686018427387904
    below n most = grind (arith, ints, most)

    none : int_lt (pos 0) (pos 0) ≡ false
    none = grind (arith, ints)

    go : (n : ℤ) → int_lt (pos 0) n ≡ true → IsKept n → passes_checks uses_table (Int id ∷ use_columns (record u { uses = n -ℤ pos 1 })) ≡ true
    go (pos zero) more kept = absurd (true≢false (sym more ∙ none))
    go (pos (suc n)) more kept = ap (λ z. passes_checks uses_table (Int id ∷ use_columns (record u { uses = z }))) (sym (one_off n)) ∙ use_checked id u.digest u.ord n (below n kept.most)
    go (negsuc n) more kept = absurd (true≢false (sym kept.least))

-- and no key watches it
pub lowered_unwatched : (q : Name) (id : ℤ) (u : UseRow) → is_named q u ≡ true
    → map (column (put use_form (id, record u { uses = u.uses -ℤ pos 1 }))) (watched host_schema (at 23 uses_table)) ≡ map (column (put use_form (id, u))) (watched host_schema (at 23 uses_table))
unfolding everything
lowered_unwatched q id u found = refl

pub use_deleted : (q : Name) → DeleteText use_form host_schema 9 (at 23 uses_table) (codes "DELETE FROM uses WHERE digest = ?1 AND ord = ?2") (Blob q.0 ∷ number q.1 ∷ []) (is_named q)
unfolding understood everything
use_deleted q = record {
  test = is 1 0 ∷ is 2 1 ∷ [];
  means = record { is = refl; plain = (refl, refl); unlisted = refl; whole = refl; given = refl };
  accepts = refl;
  tests = λ id u. then_term (at_blobs false Eq u.digest q.0) (last_term (at_ints false Eq (pos u.ord) (pos q.1)));
}

-- the index on counts has all that it reads, in this order
pub unused_listed : (limit : ℕ) → SortedText use_form host_schema 23 (codes "SELECT digest, ord FROM uses WHERE uses = 0 ORDER BY digest, ord, rowid LIMIT ?1") (number limit ∷ []) is_unused shown_use_name by_use_name (col 0 0)
unfolding understood everything
unused_listed limit = record {
  test = op2 (Compare Eq Binary) (col 1 3) (lit (Int (pos 0))) ∷ [];
  show = col 1 1 ∷ col 1 2 ∷ [];
  keys = (col 1 1, ascending Binary) ∷ (col 1 2, ascending Binary) ∷ by_rowid;
  names = codes "digest" ∷ codes "ord" ∷ [];
  means = record { is = refl; plain = (refl, refl); unlisted = refl; whole = refl; given = refl };
  low = refl;
  accepts = refl;
  tests = λ id u. last_term (at_ints false Eq u.uses (pos 0));
  shows = λ id u. refl;
  orders = λ a b. then_key (value_cmp-Blob a.1.digest b.1.digest) (then_key (value_cmp-Int (pos a.1.ord) (pos b.1.ord)) (last_key (value_cmp-Int a.0 b.0))) ∙ sym (then_assoc (bytes_cmp a.1.digest b.1.digest) (int_cmp (pos a.1.ord) (pos b.1.ord)) (int_cmp a.0 b.0));
}

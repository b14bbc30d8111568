-- The texts that find a sparse pack, and the blocks in a pack.
use Rattle.std.proofs.Common.{ℕ, pos, codes, false, refl, List, [], ◌∷◌}
use Rattle.sqlite.specs.Collation.TheVariants.{Binary}
use Rattle.sqlite.specs.Listing.{understood}
use Rattle.sqlite.specs.Term.{lit, col, op2}
use Rattle.sqlite.specs.declared.types.Value.TheVariants.{Int}
use Rattle.sqlite_sql.specs.declared.ops.BinaryOp.TheVariants.{Compare}
use Rattle.sqlite_sql.specs.declared.ops.CompareOp.TheVariants.{Eq, Lt, Gt, Ge}
use Rattle.sqlite_tied.specs.Compute.{everything}
use Rattle.sqlite_typed.proofs.TestLemmas.{at_ints, last_term, then_term, then_key, last_key}
use Rattle.sqlite_value.specs.Keys.{ascending}
use Rattle.sqlite_value.proofs.OrderLemmas.{value_cmp-Int}
use Rattle.bh_rows.specs.Scan.{by_rowid}
use Rattle.bh_rows.specs.Texts.{SelectText, SortedText}
use Rattle.bh_tables.specs.Packs.{is_in_pack}
use Rattle.bh_tables.specs.Rows.{number, place_form, pack_form}
use Rattle.bh_tables.specs.Schema.{host_schema}
use Rattle.bh_tables.proofs.Terms.{is, one_row}
use Rattle.bh_base.specs.Removal.{shown_number}
use Rattle.bh_compaction.specs.declared.compaction.Sparse.{Sparse}
use Rattle.bh_compaction.specs.Moves.{is_sparse, shown_name, by_offset}

abbrev pub sparse_text : List ℕ
sparse_text = codes "SELECT pack FROM packs WHERE length >= ?1 AND live < ?2 AND live > 0 ORDER BY rowid LIMIT 1"

pub sparse_found : (s : Sparse) → SelectText pack_form host_schema 32 sparse_text (number s.length ∷ number s.live ∷ []) (is_sparse s) shown_number one_row
unfolding understood everything
sparse_found s = record {
  test = op2 (Compare Ge Binary) (col 1 2) (col 0 0) ∷ op2 (Compare Lt Binary) (col 1 3) (col 0 1) ∷ op2 (Compare Gt Binary) (col 1 3) (lit (Int (pos 0))) ∷ [];
  show = col 1 1 ∷ [];
  names = codes "pack" ∷ [];
  means = record { is = refl; plain = (refl, refl); unlisted = refl; whole = refl; given = refl };
  low = refl;
  accepts = refl;
  tests = λ id p. then_term (at_ints false Ge (pos p.length) (pos s.length)) (then_term (at_ints false Lt (pos p.live) (pos s.live)) (last_term (at_ints false Gt (pos p.live) (pos 0))));
  shows = λ id p. refl;
}

abbrev pub names_text : List ℕ
names_text = codes "SELECT digest, ord FROM placed WHERE pack = ?1 ORDER BY place, rowid LIMIT ?2"

pub names_found : (pack limit : ℕ) → SortedText place_form host_schema 34 names_text (number pack ∷ number limit ∷ []) (is_in_pack pack) shown_name by_offset (col 0 1)
unfolding understood everything
names_found pack limit = record {
  test = is 3 0 ∷ [];
  show = col 1 1 ∷ col 1 2 ∷ [];
  keys = (col 1 4, ascending Binary) ∷ by_rowid;
  names = codes "digest" ∷ codes "ord" ∷ [];
  means = record { is = refl; plain = (refl, refl); unlisted = refl; whole = refl; given = refl };
  low = refl;
  accepts = refl;
  tests = λ id p. last_term (at_ints false Eq (pos p.pack) (pos pack));
  shows = λ id p. refl;
  orders = λ a b. then_key (value_cmp-Int (pos a.1.offset) (pos b.1.offset)) (last_key (value_cmp-Int a.0 b.0));
}

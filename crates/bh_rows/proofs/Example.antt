-- A worked example: books on shelves, where a shelf that holds a book cannot go, with one text of each kind.
use Rattle.std.proofs.Common.{arith, ◌≡◌, inl, ◌<◌, ◌^◌, ℕ, ℤ, pos, codes, unsigned_abs, sum_by, List, [], ◌∷◌, ◌++◌, length, map, filter, take, not, ◌&&◌, Bool, true, false, None, Result, OnOk, IfOk, IfErr, IsTrue, Ordering, int_cmp, refl, sym, ap, ◌∙◌}
use Rattle.std.specs.List.{list_any, list_all}
use Rattle.std.proofs.lemmas.Int.{ints}
use Rattle.sqlite.specs.declared.types.Value.{Value}
use Rattle.sqlite.specs.declared.types.Value.TheVariants.{Null, Int, Text as Words}
use Rattle.sqlite.specs.declared.error.Error.{Error}
use Rattle.sqlite.specs.Collation.TheVariants.{Binary}
use Rattle.sqlite.specs.Kind.TheVariants.{Integer, Text}
use Rattle.sqlite.specs.Order.{Row, column}
use Rattle.sqlite.specs.Tree.{Trees}
use Rattle.sqlite.specs.Table.{Table}
use Rattle.sqlite.specs.Schema.{Schema}
use Rattle.sqlite.specs.Term.{Term, lit, col, op2}
use Rattle.sqlite.specs.Change.{created}
use Rattle.sqlite.specs.Edit.{next_rowid}
use Rattle.sqlite.specs.Command.TheVariants.{Begin}
use Rattle.sqlite.specs.Listing.{understood}
use Rattle.sqlite.specs.State.{State, HasCleanDisk, IsLive, Survives, Executes, CommitsBy, CommitsShowing, Shown, FailsToQuery}
use Rattle.sqlite_sql.specs.Aggregate.{count}
use Rattle.sqlite_sql.specs.Ops.{binary, is_false}
use Rattle.sqlite_sql.specs.declared.ops.BinaryOp.TheVariants.{Compare}
use Rattle.sqlite_sql.specs.declared.ops.CompareOp.TheVariants.{Eq, Ge}
use Rattle.sqlite_value.specs.Keys.{plain, first_key}
use Rattle.sqlite_value.proofs.OrderLemmas.{value_cmp-Int}
use Rattle.sqlite_schema.specs.declared.schema.Column.{Column}
use Rattle.sqlite_schema.specs.declared.schema.Action.TheVariants.{NoAction, Restrict}
use Rattle.sqlite_schema.specs.Rules.{has_parent, agree}
use Rattle.sqlite_keyed.specs.Lists.{update_where, delete_where, sort_by}
use Rattle.sqlite_typed.specs.Columns.{bytes_of, int_of}
use Rattle.sqlite_typed.specs.Tests.{bytes_eq}
use Rattle.sqlite_typed.proofs.TestLemmas.{same_bytes, at_texts, at_ints, last_term, then_term, then_key, last_key}
use Rattle.sqlite_tied.specs.Compute.{everything}
use Rattle.bh_rows.specs.Form.{Form, AreRows, put, typed}
use Rattle.bh_rows.specs.Keys.{Pointer, points_at, Suits}
use Rattle.bh_rows.specs.Means.{Means, is_trouble, Asks}
use Rattle.bh_rows.specs.Scan.{by_rowid, no_limit}
use Rattle.bh_rows.specs.Texts.{IsOrderly, IsTableOf, IsReadyAt, Leaves, InsertText, UpdateText, DeleteText, SelectText, SortedText, CountText, SumText}
use Rattle.bh_rows.proofs.CrashLemmas.{turn_leaves}
use Rattle.bh_rows.proofs.CreateLemmas.{Makes}
use Rattle.bh_rows.proofs.FormLemmas.{any_typed}
use Rattle.bh_rows.proofs.DeleteErrors.{none_points, none_named}
use Rattle.bh_rows.proofs.InsertLemmas.{cast_int}
use Rattle.bh_rows.proofs.TextLemmas as text

-- ---- the tables

abbrev given : List ℕ → Rattle.sqlite.specs.Kind.Kind → Column
given name kind = record { name = name; kind = kind; is_strict = true; not_null = true; default = Null; collation = Binary }

abbrev natural_at : ℕ → Term
natural_at at = op2 (Compare Ge Binary) (col 1 at) (lit (Int (pos 0)))

-- CREATE TABLE shelf (name TEXT NOT NULL PRIMARY KEY, room INTEGER NOT NULL CHECK (room >= 0)) STRICT
abbrev shelves : Table
shelves = record {
  name = codes "shelf";
  tree = 0;
  columns = given (codes "name") Text ∷ given (codes "room") Integer ∷ [];
  key = None;
  primary = 1 ∷ [];
  uniques = (1 ∷ []) ∷ [];
  orders = plain ∷ [];
  checks = natural_at 2 ∷ [];
  references = [];
  computed = [];
  stamps = record { places = []; terms = []; formats = [] };
  is_counted = false;
}

-- CREATE TABLE book (shelf TEXT NOT NULL REFERENCES shelf ON DELETE RESTRICT, title TEXT NOT NULL, pages INTEGER NOT NULL CHECK (pages >= 0), PRIMARY KEY (shelf, title)) STRICT
abbrev books : Table
books = record {
  name = codes "book";
  tree = 2;
  columns = given (codes "shelf") Text ∷ given (codes "title") Text ∷ given (codes "pages") Integer ∷ [];
  key = None;
  primary = 1 ∷ 2 ∷ [];
  uniques = (1 ∷ 2 ∷ []) ∷ [];
  orders = plain ∷ [];
  checks = natural_at 3 ∷ [];
  references = record { columns = 1 ∷ []; parent = codes "shelf"; parent_columns = []; on_delete = Restrict; on_update = NoAction; is_deferred = false } ∷ [];
  computed = [];
  stamps = record { places = []; terms = []; formats = [] };
  is_counted = false;
}

abbrev library : Schema
library = record {
  tables = shelves ∷ books ∷ [];
  indexes = record { name = codes "sqlite_autoindex_shelf_1"; tree = 1; table = 0; columns = 1 ∷ []; order = plain; is_unique = true }
      ∷ record { name = codes "sqlite_autoindex_book_1"; tree = 3; table = 2; columns = 1 ∷ 2 ∷ []; order = plain; is_unique = true } ∷ [];
  views = [];
}

-- ---- their typed rows

abbrev number : ℕ → Value
number n = Int (pos n)

pub record Shelf : Type 0 where
  pub name : List ℕ
  pub room : ℕ

pub record Book : Type 0 where
  pub shelf : List ℕ
  pub title : List ℕ
  pub pages : ℕ

abbrev shelf_form : Form Shelf
shelf_form = record {
  encode = λ s. Words s.name ∷ number s.room ∷ [];
  decode = λ r. record { name = bytes_of (column r 1); room = unsigned_abs (int_of (column r 2)) };
  back = λ _ s. refl;
}

abbrev book_form : Form Book
book_form = record {
  encode = λ b. Words b.shelf ∷ Words b.title ∷ number b.pages ∷ [];
  decode = λ r. record { shelf = bytes_of (column r 1); title = bytes_of (column r 2); pages = unsigned_abs (int_of (column r 3)) };
  back = λ _ b. refl;
}

-- ---- once for each table

library_is : IsOrderly library
library_is = record { apart = refl; passive = refl; ignores = refl }

shelves_are : IsTableOf shelf_form library 0 shelves
unfolding everything
shelves_are = record { is_table = refl; plain = refl; low = refl; kept = λ s. simp cast_int; fit = refl }

books_are : IsTableOf book_form library 1 books
unfolding everything
books_are = record { is_table = refl; plain = refl; low = refl; kept = λ b. simp cast_int; fit = refl }

-- ---- the texts, each with its record

abbrev is : ℕ → ℕ → Term
is place param = op2 (Compare Eq Binary) (col 1 place) (col 0 param)

abbrev insert_book_text : List ℕ
insert_book_text = codes "INSERT INTO book (shelf, title, pages) VALUES (?1, ?2, ?3)"

insert_book : (b : Book) → InsertText book_form library 1 books insert_book_text (book_form.encode b) b
unfolding understood everything
insert_book b = record {
  terms = lit Null ∷ col 0 0 ∷ col 0 1 ∷ col 0 2 ∷ [];
  width = 4;
  means = record { is = refl; plain = (refl, refl); unlisted = refl; whole = refl; given = refl };
  gives = refl;
  accepts = refl;
}

abbrev set_room_text : List ℕ
set_room_text = codes "UPDATE shelf SET room = ?2 WHERE name = ?1"

abbrev is_shelf : List ℕ → Shelf → Bool
is_shelf name s = bytes_eq s.name name

set_room : (name : List ℕ) (room : ℕ) → UpdateText shelf_form library 0 shelves set_room_text (Words name ∷ number room ∷ []) (is_shelf name) (λ s. record s { room = room })
unfolding understood everything
set_room name room = record {
  test = is 1 0 ∷ [];
  show = col 1 0 ∷ col 1 0 ∷ col 1 1 ∷ col 0 1 ∷ [];
  means = record { is = refl; plain = (refl, refl); unlisted = refl; whole = refl; given = refl };
  accepts = refl;
  tests = λ id s. last_term (at_texts false Eq s.name name);
  shows = λ id s found was. refl;
}

abbrev remove_book_text : List ℕ
remove_book_text = codes "DELETE FROM book WHERE shelf = ?1 AND title = ?2"

abbrev is_book : List ℕ → List ℕ → Book → Bool
is_book shelf title b = bytes_eq b.shelf shelf && bytes_eq b.title title

remove_book : (shelf title : List ℕ) → DeleteText book_form library 1 books remove_book_text (Words shelf ∷ Words title ∷ []) (is_book shelf title)
unfolding understood everything
remove_book shelf title = record {
  test = is 1 0 ∷ is 2 1 ∷ [];
  means = record { is = refl; plain = (refl, refl); unlisted = refl; whole = refl; given = refl };
  accepts = refl;
  tests = λ id b. then_term (at_texts false Eq b.shelf shelf) (last_term (at_texts false Eq b.title title));
}

abbrev remove_shelf_text : List ℕ
remove_shelf_text = codes "DELETE FROM shelf WHERE name = ?1"

remove_shelf : (name : List ℕ) → DeleteText shelf_form library 0 shelves remove_shelf_text (Words name ∷ []) (is_shelf name)
unfolding understood everything
remove_shelf name = record {
  test = is 1 0 ∷ [];
  means = record { is = refl; plain = (refl, refl); unlisted = refl; whole = refl; given = refl };
  accepts = refl;
  tests = λ id s. last_term (at_texts false Eq s.name name);
}

abbrev room_text : List ℕ
room_text = codes "SELECT room FROM shelf WHERE name = ?1 ORDER BY rowid"

room_of : (name : List ℕ) → SelectText shelf_form library 0 room_text (Words name ∷ []) (is_shelf name) (λ s. number s.room ∷ []) no_limit
unfolding understood everything
room_of name = record {
  test = is 1 0 ∷ [];
  show = col 1 2 ∷ [];
  names = codes "room" ∷ [];
  means = record { is = refl; plain = (refl, refl); unlisted = refl; whole = refl; given = refl };
  low = refl;
  accepts = refl;
  tests = λ id s. last_term (at_texts false Eq s.name name);
  shows = λ id s. refl;
}

abbrev longest_text : List ℕ
longest_text = codes "SELECT title, pages FROM book WHERE shelf = ?1 ORDER BY pages DESC, rowid LIMIT 1"

abbrev longest_first : Book → Book → Ordering
longest_first a b = int_cmp (pos b.pages) (pos a.pages)

longest : (shelf : List ℕ) → SortedText book_form library 2 longest_text (Words shelf ∷ []) (λ b. bytes_eq b.shelf shelf) (λ b. Words b.title ∷ number b.pages ∷ []) longest_first (lit (Int (pos 1)))
unfolding understood everything
longest shelf = record {
  test = is 1 0 ∷ [];
  show = col 1 2 ∷ col 1 3 ∷ [];
  keys = (col 1 3, record { collation = Binary; descending = true }) ∷ by_rowid;
  names = codes "title" ∷ codes "pages" ∷ [];
  means = record { is = refl; plain = (refl, refl); unlisted = refl; whole = refl; given = refl };
  low = refl;
  accepts = refl;
  tests = λ id b. last_term (at_texts false Eq b.shelf shelf);
  shows = λ id b. refl;
  orders = λ a b. then_key (value_cmp-Int (pos b.1.pages) (pos a.1.pages)) (last_key (value_cmp-Int a.0 b.0));
}

abbrev count_text : List ℕ
count_text = codes "SELECT count(*) FROM book WHERE shelf = ?1"

books_on : (shelf : List ℕ) → CountText book_form library 2 count_text (Words shelf ∷ []) (λ b. bytes_eq b.shelf shelf)
unfolding understood everything
books_on shelf = record {
  test = is 1 0 ∷ [];
  names = codes "count(*)" ∷ [];
  means = record { is = refl; plain = (refl, refl); unlisted = refl; whole = refl; given = refl };
  low = refl;
  accepts = refl;
  tests = λ id b. last_term (at_texts false Eq b.shelf shelf);
}

abbrev pages_text : List ℕ
pages_text = codes "SELECT coalesce(sum(pages), 0) FROM book WHERE shelf = ?1"

pages_on : (shelf : List ℕ) → SumText book_form library 2 pages_text (Words shelf ∷ []) (λ b. bytes_eq b.shelf shelf) (λ b. b.pages)
unfolding understood everything
pages_on shelf = record {
  test = is 1 0 ∷ [];
  argument = col 1 3;
  names = codes "coalesce(sum(pages), 0)" ∷ [];
  means = record { is = refl; plain = (refl, refl); unlisted = refl; whole = refl; given = refl };
  low = refl;
  accepts = refl;
  tests = λ id b. last_term (at_texts false Eq b.shelf shelf);
  reads = λ id b. refl;
}

-- ---- what the errors need, once for each table

natural : (n : ℕ) → not (is_false (binary (Compare Ge Binary) (number n) (number 0))) ≡ true
natural n = rw (at_ints true Ge (pos n) (pos 0) ∙ at_least n) refl
  where
    at_least : (n : ℕ) → Rattle.std.proofs.Common.int_le (pos 0) (pos n) ≡ true
    at_least n = grind (arith, ints)

shelf_suits : (id : ℤ) (s : Shelf) → Suits shelves (put shelf_form (id, s))
shelf_suits id s = record { typed = refl; present = refl; checked = ap (λ b. b && true) (natural s.room) }

book_suits : (id : ℤ) (b : Book) → Suits books (put book_form (id, b))
book_suits id b = record { typed = refl; present = refl; checked = ap (λ c. c && true) (natural b.pages) }

-- two books with one key under the index
same_book : (i j : ℤ) (a b : Book) → agree plain (1 ∷ 2 ∷ []) (put book_form (i, a)) (1 ∷ 2 ∷ []) (put book_form (j, b)) ≡ is_book b.shelf b.title a
unfolding first_key
same_book i j a b = then_term (at_texts false Eq a.shelf b.shelf) (last_term (at_texts false Eq a.title b.title))

-- the one reference to shelves
abbrev to_shelves : Pointer
to_shelves = record { child = 2; columns = 1 ∷ []; places = 1 ∷ []; order = plain }

stands_on : (i j : ℤ) (b : Book) (s : Shelf) → points_at to_shelves (put book_form (i, b)) (put shelf_form (j, s)) ≡ bytes_eq b.shelf s.name
unfolding first_key
stands_on i j b s = last_term (at_texts false Eq b.shelf s.name)

has_shelf : (db : Trees) (id : ℤ) (b : Book) → AreRows shelf_form (db 0) → list_any (is_shelf b.shelf) (typed shelf_form (db 0)) ≡ true → list_all (has_parent library.tables db (put book_form (id, b))) books.references ≡ true
unfolding everything
has_shelf db id b held there = ap (λ c. c && true) (any_typed shelf_form _ (is_shelf b.shelf) (λ i s. last_term (at_texts false Eq s.name b.shelf)) (db 0) held ∙ there)

-- ---- what the texts do

pub record IsLibrary (s : State) : Type 0 where
  pub schema : s.now.schema ≡ library
  pub shelves : AreRows shelf_form (s.now.trees 0)
  pub books : AreRows book_form (s.now.trees 2)

abbrev shelves_in : State → List Shelf
shelves_in s = typed shelf_form (s.now.trees 0)

abbrev books_in : State → List Book
books_in s = typed book_form (s.now.trees 2)

module _ (old new : State) (ready : HasCleanDisk old → IsTrue old.is_open → IsLibrary old) (live : IsLive old) where
  shelves_ready : IsReadyAt shelf_form library 0 old
  shelves_ready clean up = let h = ready clean up in (h.schema, h.shelves)

  books_ready : IsReadyAt book_form library 2 old
  books_ready clean up = let h = ready clean up in (h.schema, h.books)

  module _ (result : Result ℕ Error) {P : Trees → Type 0} (s : Survives old new P) (clean : HasCleanDisk new) where
    book_added : (b : Book) → (HasCleanDisk new → Executes insert_book_text (book_form.encode b) old new result) → IsTrue old.is_open → OnOk result (Leaves book_form library 2 old new (books_in old ++ b ∷ []))
    book_added b runs = text.insert_adds book_form library library_is 1 books books_are old new books_ready insert_book_text (book_form.encode b) b (insert_book b) result runs s clean

    -- a book that is not there, on a shelf that is
    book_refused : (b : Book) → (HasCleanDisk new → Executes insert_book_text (book_form.encode b) old new result) → old.step_limit ≡ None
        → list_any (is_book b.shelf b.title) (books_in old) ≡ false → list_any (is_shelf b.shelf) (shelves_in old) ≡ true → IfErr result (λ e. is_trouble e ≡ true)
    book_refused b runs unlimited free there =
        let id = next_rowid (old.now.trees 2) in
        text.insert_only_trouble book_form library library_is 1 books books_are old new books_ready insert_book_text (book_form.encode b) b (insert_book b) live result runs s clean unlimited (λ was up. record {
          suits = book_suits id b;
          free = (any_typed book_form _ (is_book b.shelf b.title) (λ i a. same_book i id a b) (old.now.trees 2) (ready was up).books ∙ free, tt);
          parents = has_shelf old.now.trees id b (ready was up).shelves there;
        })

    room_set : (name : List ℕ) (room : ℕ) → (HasCleanDisk new → Executes set_room_text (Words name ∷ number room ∷ []) old new result) → IsTrue old.is_open
        → OnOk result (Leaves shelf_form library 0 old new (update_where (is_shelf name) (λ s. record s { room = room }) (shelves_in old)))
    room_set name room runs = text.update_sets shelf_form library library_is 0 shelves shelves_are old new shelves_ready set_room_text (Words name ∷ number room ∷ []) (is_shelf name) (λ s. record s { room = room }) (set_room name room) live result runs s clean

    -- the room is in no key
    room_refused : (name : List ℕ) (room : ℕ) → (HasCleanDisk new → Executes set_room_text (Words name ∷ number room ∷ []) old new result) → old.step_limit ≡ None → IfErr result (λ e. is_trouble e ≡ true)
    unfolding everything
    room_refused name room runs = text.update_only_trouble shelf_form library library_is 0 shelves shelves_are old new shelves_ready set_room_text (Words name ∷ number room ∷ []) (is_shelf name) (λ s. record s { room = room }) (set_room name room)
        live (record { suits = λ id s hits was. shelf_suits id (record s { room = room }); unwatched = λ id s hits. refl }) result runs s clean

    book_removed : (shelf title : List ℕ) → (HasCleanDisk new → Executes remove_book_text (Words shelf ∷ Words title ∷ []) old new result) → IsTrue old.is_open → OnOk result (Leaves book_form library 2 old new (delete_where (is_book shelf title) (books_in old)))
    book_removed shelf title runs = text.delete_removes book_form library library_is 1 books books_are old new books_ready remove_book_text (Words shelf ∷ Words title ∷ []) (is_book shelf title) (remove_book shelf title) result runs s clean

    -- nothing points to a book
    book_kept : (shelf title : List ℕ) → (HasCleanDisk new → Executes remove_book_text (Words shelf ∷ Words title ∷ []) old new result) → old.step_limit ≡ None → IfErr result (λ e. is_trouble e ≡ true)
    unfolding everything
    book_kept shelf title runs unlimited = text.delete_only_trouble book_form library library_is 1 books books_are old new books_ready remove_book_text (Words shelf ∷ Words title ∷ []) (is_book shelf title) (remove_book shelf title) live result runs s clean unlimited (λ was up. tt)

    -- a shelf goes, whatever points to it: RESTRICT writes nothing
    shelf_removed : (name : List ℕ) → (HasCleanDisk new → Executes remove_shelf_text (Words name ∷ []) old new result) → IsTrue old.is_open → OnOk result (Leaves shelf_form library 0 old new (delete_where (is_shelf name) (shelves_in old)))
    shelf_removed name runs = text.delete_removes shelf_form library library_is 0 shelves shelves_are old new shelves_ready remove_shelf_text (Words name ∷ []) (is_shelf name) (remove_shelf name) result runs s clean

    -- and it is refused in trouble alone, where no book stands on it
    shelf_kept : (name : List ℕ) → (HasCleanDisk new → Executes remove_shelf_text (Words name ∷ []) old new result) → old.step_limit ≡ None → list_any (λ b. bytes_eq b.shelf name) (books_in old) ≡ false → IfErr result (λ e. is_trouble e ≡ true)
    unfolding everything
    shelf_kept name runs unlimited empty = text.delete_only_trouble shelf_form library library_is 0 shelves shelves_are old new shelves_ready remove_shelf_text (Words name ∷ []) (is_shelf name) (remove_shelf name) live result runs s clean unlimited
        (λ was up. let h = ready was up in (
          none_points shelf_form book_form (old.now.trees 0) (old.now.trees 2) to_shelves (is_shelf name) (λ b s. bytes_eq b.shelf s.name) (λ i b j s. stands_on i j b s) h.shelves h.books
              (none_named (λ b s. bytes_eq b.shelf s.name) (is_shelf name) (λ b. bytes_eq b.shelf name) (λ b s on is. ap (λ n. bytes_eq b.shelf n) (sym (same_bytes s.name name is)) ∙ on) (shelves_in old) (books_in old) empty),
          tt,
        ))

  module _ {X : Type 0} (rows_in : X → List Row) (result : Result X Error) {P : Trees → Type 0} (s : Survives old new P) (clean : HasCleanDisk new) where
    room_shown : (name : List ℕ) → (HasCleanDisk new → IfOk result (λ x. Shown room_text (Words name ∷ []) old new (rows_in x))) → IfOk result (λ x. rows_in x ≡ map (λ s. number s.room ∷ []) (filter (is_shelf name) (shelves_in old)))
    room_shown name ok = text.select_rows shelf_form library 0 old new shelves_ready room_text (Words name ∷ []) (is_shelf name) (λ s. number s.room ∷ []) no_limit (room_of name) rows_in result ok s clean

    longest_shown : (shelf : List ℕ) → (HasCleanDisk new → IfOk result (λ x. Shown longest_text (Words shelf ∷ []) old new (rows_in x)))
        → IfOk result (λ x. rows_in x ≡ take 1 (map (λ b. Words b.title ∷ number b.pages ∷ []) (sort_by longest_first (filter (λ b. bytes_eq b.shelf shelf) (books_in old)))))
    longest_shown shelf ok = text.select_sorted book_form library 2 old new books_ready longest_text (Words shelf ∷ []) (λ b. bytes_eq b.shelf shelf) (λ b. Words b.title ∷ number b.pages ∷ []) longest_first (lit (Int (pos 1))) (longest shelf) rows_in result ok s clean

    books_counted : (shelf : List ℕ) → (HasCleanDisk new → IfOk result (λ x. Shown count_text (Words shelf ∷ []) old new (rows_in x))) → IfOk result (λ x. rows_in x ≡ (count (length (filter (λ b. bytes_eq b.shelf shelf) (books_in old))) ∷ []) ∷ [])
    books_counted shelf ok = text.count_rows book_form library 2 old new books_ready count_text (Words shelf ∷ []) (λ b. bytes_eq b.shelf shelf) (books_on shelf) rows_in result ok s clean

    pages_summed : (shelf : List ℕ) → (HasCleanDisk new → IfOk result (λ x. Shown pages_text (Words shelf ∷ []) old new (rows_in x))) → IfOk result (λ x. rows_in x ≡ (number (sum_by (λ b. b.pages) (filter (λ b. bytes_eq b.shelf shelf) (books_in old))) ∷ []) ∷ [])
    pages_summed shelf ok = text.sum_rows book_form library 2 old new books_ready pages_text (Words shelf ∷ []) (λ b. bytes_eq b.shelf shelf) (λ b. b.pages) (pages_on shelf) rows_in result ok s clean

  module _ {X : Type 0} (rows_in : X → List Row) (result : Result X Error) where
    longest_asks : (shelf : List ℕ) → (HasCleanDisk new → IfOk result (λ x. Shown longest_text (Words shelf ∷ []) old new (rows_in x))) → (HasCleanDisk new → IfErr result (FailsToQuery longest_text (Words shelf ∷ []) old new))
        → Survives old new (CommitsShowing longest_text (Words shelf ∷ []) old) → Asks old new result
    longest_asks shelf = text.sorted_asks book_form library 2 old new books_ready longest_text (Words shelf ∷ []) (λ b. bytes_eq b.shelf shelf) (λ b. Words b.title ∷ number b.pages ∷ []) longest_first (lit (Int (pos 1))) (longest shelf) rows_in result

    count_asks : (shelf : List ℕ) → (HasCleanDisk new → IfOk result (λ x. Shown count_text (Words shelf ∷ []) old new (rows_in x))) → (HasCleanDisk new → IfErr result (FailsToQuery count_text (Words shelf ∷ []) old new))
        → Survives old new (CommitsShowing count_text (Words shelf ∷ []) old) → Asks old new result
    count_asks shelf = text.count_asks book_form library 2 old new books_ready count_text (Words shelf ∷ []) (λ b. bytes_eq b.shelf shelf) (books_on shelf) rows_in result

    pages_asks : (shelf : List ℕ) → (HasCleanDisk old → IsTrue old.is_open → sum_by (λ b. b.pages) (filter (λ b. bytes_eq b.shelf shelf) (books_in old)) < 2 ^ 63)
        → (HasCleanDisk new → IfOk result (λ x. Shown pages_text (Words shelf ∷ []) old new (rows_in x))) → (HasCleanDisk new → IfErr result (FailsToQuery pages_text (Words shelf ∷ []) old new))
        → Survives old new (CommitsShowing pages_text (Words shelf ∷ []) old) → Asks old new result
    pages_asks shelf bound = text.sum_asks book_form library 2 old new books_ready pages_text (Words shelf ∷ []) (λ b. bytes_eq b.shelf shelf) (λ b. b.pages) (pages_on shelf) bound rows_in result

-- ---- the texts that make the tables, and those that turn transactions

abbrev no_tables : Schema
no_tables = record { tables = []; indexes = []; views = [] }

abbrev make_shelves_text : List ℕ
make_shelves_text = codes "CREATE TABLE shelf (name TEXT NOT NULL PRIMARY KEY, room INTEGER NOT NULL CHECK (room >= 0)) STRICT"

abbrev make_books_text : List ℕ
make_books_text = codes "CREATE TABLE book (shelf TEXT NOT NULL REFERENCES shelf ON DELETE RESTRICT, title TEXT NOT NULL, pages INTEGER NOT NULL CHECK (pages >= 0), PRIMARY KEY (shelf, title)) STRICT"

make_shelves : Makes no_tables make_shelves_text shelves
unfolding understood everything
make_shelves = record { means = record { is = refl; plain = (refl, refl); unlisted = refl; whole = refl; given = refl }; text = refl; defined = refl; uncounted = refl }

make_books : Makes (created no_tables shelves) make_books_text (record books { tree = 0 })
unfolding understood everything
make_books = record { means = record { is = refl; plain = (refl, refl); unlisted = refl; whole = refl; given = refl }; text = refl; defined = refl; uncounted = refl }

-- these two make the library
both_made : created (created no_tables shelves) (record books { tree = 0 }) ≡ library
unfolding everything
both_made = refl

begin_means : (schema : Schema) → Means schema (codes "BEGIN") Begin 0
unfolding understood everything
begin_means schema = record { is = refl; plain = (refl, refl); unlisted = refl; whole = refl; given = refl }

-- a BEGIN adds nothing to what a crash may find
begun : (old new : State) → Survives old new (CommitsBy (codes "BEGIN") [] old) → Survives old new (λ _. ⊥)
begun old new = turn_leaves (codes "BEGIN") old new Begin (begin_means old.now.schema) (inl refl)

-- What a call leaves and answers that asks one question and reads its rows.
use Rattle.std.proofs.Common.{◌≡◌, ℕ, ◌<◌, ◌^◌, List, [], ◌∷◌, map, Option, None, Some, option_map, slice_get, Result, Ok, Err, OnOk, IfOk, IfErr, true, refl, sym, ap, ◌∙◌, subst}
use Rattle.std.specs.Global.{Vec}
use Rattle.std.specs.Result.{IsErr, IsErrAnd}
use Rattle.std.specs.List.{AllByRecursion}
use Rattle.std.proofs.lemmas.Result.{IfOk-weaker, IfErr-weaker}
use Rattle.sqlite_keyed.proofs.ListLemmas.{map-map}
use Rattle.sqlite.specs.Order.{Row}
use Rattle.bh_base.specs.Connections.{state}
use Rattle.sqlite.specs.declared.error.Error.{Error}
use Rattle.sqlite_trees.specs.declared.store.Store.{Ghosts}
use Rattle.bh_shelf.specs.declared.shelf.Shelf.{Ghosts as Shelves}
use Rattle.bh_base.specs.declared.connection.Connection.{Connection}
use Rattle.bh_rows.specs.Means.{is_trouble}
use Rattle.bh_tables.specs.Typed.{Tables, number}
use Rattle.bh_base.specs.Connections.{IsIntact, IsClean, tables, WasOpen, IsTrouble, IsTroubleIf}
use Rattle.bh_schema.specs.Calls.{Reads}
use Rattle.bh_base.proofs.Calls.{Question, Total}
use Rattle.bh_schema.proofs.Finds.{handed_on}

-- ---- what an error says nothing of, and what holds whatever is answered

no_answer : {A : Type 0} (P : Type 0) (Q : Error → Type 0) (result : Result A Error) → IsErrAnd result Q → OnOk result P
no_answer P Q (Ok x) err = absurd err
no_answer P Q (Err e) err = tt

any_answer : {A : Type 0} (P : Type 0) (result : Result A Error) → P → OnOk result P
any_answer P (Ok x) h = h
any_answer P (Err e) h = tt

-- no value is said anything of where there is none
pub no_value : {A : Type 0} (P : A → Type 0) (Q : Error → Type 0) (result : Result A Error) → IsErr result × IsErrAnd result Q → IfOk result P
no_value P Q (Ok x) err = absurd err.1
no_value P Q (Err e) err = tt

module _ {S K A : Type 0} (g : Ghosts S) (k : Shelves K) (old new : Connection S K) (result : Result A Error) where
  -- ---- a question that failed: its error is handed on

  module _ (e : Error) (err : IsErr result × IsErrAnd result (λ x. x ≡ e)) where
    pub record Failed (P : Error → Type 0) : Type 0 where
      pub reads : Reads g k old new result
      pub trouble : IfErr result P

    pub failed : {X : Type 0} {rows_in : X → List Row} {shown : Tables → List Row} → Question (state g k old) (state g k new) rows_in shown (Err e) → Failed (IsTrouble g k old new)
    failed q = record {
      reads = record { within = q.within; opens = no_answer _ _ result err.1; same = no_answer _ _ result err.1 };
      trouble = handed_on result _ _ err (λ x same intact unlimited. ap is_trouble same ∙ q.trouble intact unlimited);
    }

    -- the same where it is trouble under a premise
    pub failed_if : (P : Type 0) {X : Type 0} {rows_in : X → List Row} {shown : Tables → List Row} → Question (state g k old) (state g k new) rows_in shown (Err e) → Failed (IsTroubleIf g k old new P)
    failed_if P q = record {
      reads = (failed q).reads;
      trouble = handed_on result _ _ err (λ x same intact unlimited if_so. ap is_trouble same ∙ q.trouble intact unlimited);
    }

    -- the same of a sum
    pub failed_sum : {X : Type 0} {rows_in : X → List Row} {total : Tables → ℕ} → Total (state g k old) (state g k new) rows_in total (Err e) → Failed (IsTroubleIf g k old new (total (tables g k old) < 2 ^ 63))
    failed_sum q = record {
      reads = record { within = q.within; opens = no_answer _ _ result err.1; same = no_answer _ _ result err.1 };
      trouble = handed_on result _ _ err (λ x same intact unlimited low. ap is_trouble same ∙ q.trouble intact unlimited low);
    }

  -- ---- one that was answered, whatever is read of the rows

  pub answered : {X : Type 0} {rows_in : X → List Row} {shown : Tables → List Row} {x : X} → Question (state g k old) (state g k new) rows_in shown (Ok x) → Reads g k old new result
  answered q = record { within = q.within; opens = any_answer _ result q.opens; same = any_answer _ result q.same }

  -- an intact connection is clean that it left
  pub answered_clean : WasOpen g k old new → IsIntact g k new → IsClean g k new
  answered_clean opens intact = record { intact = intact; is_open = (opens intact).1 }

-- the one number of a sum is read
module _ {S K : Type 0} (g : Ghosts S) (k : Shelves K) (old new : Connection S K) (result : Result ℕ Error) where
  pub record Sum (n : ℕ) : Type 0 where
    pub reads : Reads g k old new result
    pub total : IfOk result (λ m. IsClean g k new → m ≡ n)
    pub trouble : IfErr result (IsTroubleIf g k old new (n < 2 ^ 63))

  pub summed : {X : Type 0} {rows_in : X → List Row} {total : Tables → ℕ} {x : X} → Total (state g k old) (state g k new) rows_in total (Ok x) → (rows : List Row) → rows ≡ rows_in x
      → IfOk result (λ n. (m : ℕ) → rows ≡ (number m ∷ []) ∷ [] → n ≡ m) → IfErr result (λ e. (m : ℕ) → rows ≡ (number m ∷ []) ∷ [] → is_trouble e ≡ true) → Sum (total (tables g k old))
  summed {total = total} q rows is read trouble = record {
    reads = record { within = q.within; opens = any_answer _ result q.opens; same = any_answer _ result q.same };
    total = IfOk-weaker result _ _ (λ n told clean. told (total (tables g k old)) (is ∙ q.rows clean)) read;
    trouble = IfErr-weaker result _ _ (λ e told intact unlimited low. told (total (tables g k old)) (is ∙ q.rows (answered_clean g k old new result q.opens intact))) trouble;
  }

-- ---- the first row is read, of what it shows

pub through : {T U X : Type 0} (at : T → U) (view : U → X) (o : Option T) → option_map (λ t. view (at t)) o ≡ option_map view (option_map at o)
through at view None = refl
through at view (Some t) = refl

same_value : {A : Type 0} (o : Option A) → option_map (λ x. x) o ≡ o
same_value None = refl
same_value (Some x) = refl

at_some : {T U : Type 0} (at : T → U) (P : U → Type 0) (o : Option T) → ((t : T) → o ≡ Some t → P (at t)) → (u : U) → option_map at o ≡ Some u → P u
at_some at P None h u is = absurd (cc)
at_some at P (Some t) h u is = let same : at t ≡ u = cc in subst P same (h t refl)

module _ {S K A T U : Type 0} (g : Ghosts S) (k : Shelves K) (old new : Connection S K) (result : Result (Option A) Error) (rows : List Row) (shown : U → Row) (at : T → U) where
  pub record First {M : Type 0} (meaning : A → M) (told : U → M) (IsReadable : U → Type 0) (sought : Option T) : Type 0 where
    pub reads : Reads g k old new result
    pub found : IfOk result (λ found. IsClean g k new → option_map meaning found ≡ option_map (λ t. told (at t)) sought)
    pub trouble : IfErr result (IsTroubleIf g k old new ((t : T) → sought ≡ Some t → IsReadable (at t)))

  pub first : {M : Type 0} (meaning : A → M) (told : U → M) (IsReadable : U → Type 0)
      → IfOk result (λ found. (o : Option U) → slice_get rows 0 ≡ option_map shown o → option_map meaning found ≡ option_map told o)
      → IfErr result (λ e. (o : Option U) → slice_get rows 0 ≡ option_map shown o → ((u : U) → o ≡ Some u → IsReadable u) → is_trouble e ≡ true)
      → {X : Type 0} {rows_in : X → List Row} {all : Tables → List Row} {x : X} → Question (state g k old) (state g k new) rows_in all (Ok x)
      → (sought : Option T) → (IsClean g k new → slice_get rows 0 ≡ option_map (λ t. shown (at t)) sought) → First meaning told IsReadable sought
  first meaning told IsReadable found trouble q sought is = record {
    reads = answered g k old new result q;
    found = IfOk-weaker result _ _ (λ found reads clean. reads (option_map at sought) (is clean ∙ through at shown sought) ∙ sym (through at told sought)) found;
    trouble = IfErr-weaker result _ _ (λ e told intact unlimited readable.
        told (option_map at sought) (is (answered_clean g k old new result q.opens intact) ∙ through at shown sought) (at_some at IsReadable sought readable)) trouble;
  }

  -- a value that stands for itself, and may be read of any row
  pub record Plain (told : U → A) (sought : Option T) : Type 0 where
    pub reads : Reads g k old new result
    pub found : IfOk result (λ found. IsClean g k new → found ≡ option_map (λ t. told (at t)) sought)
    pub trouble : IfErr result (IsTrouble g k old new)

  pub plain : (told : U → A)
      → IfOk result (λ found. (o : Option U) → slice_get rows 0 ≡ option_map shown o → option_map (λ x. x) found ≡ option_map told o)
      → IfErr result (λ e. (o : Option U) → slice_get rows 0 ≡ option_map shown o → ((u : U) → o ≡ Some u → Unit {0}) → is_trouble e ≡ true)
      → {X : Type 0} {rows_in : X → List Row} {all : Tables → List Row} {x : X} → Question (state g k old) (state g k new) rows_in all (Ok x)
      → (sought : Option T) → (IsClean g k new → slice_get rows 0 ≡ option_map (λ t. shown (at t)) sought) → Plain told sought
  plain told found trouble q sought is =
      let it = first (λ x. x) told (λ _. Unit {0}) found trouble q sought is in
      record {
        reads = it.reads;
        found = IfOk-weaker result _ _ (λ found reads clean. sym (same_value found) ∙ reads clean) it.found;
        trouble = IfErr-weaker result _ _ (λ e told intact unlimited. told intact unlimited (λ t is. tt)) it.trouble;
      }

-- ---- all rows are read, of what each shows

all_at : {T U : Type 0} (at : T → U) (P : U → Type 0) (ts : List T) → AllByRecursion (λ t. P (at t)) ts → AllByRecursion P (map at ts)
all_at at P [] all = tt
all_at at P (t ∷ ts) all = (all.0, all_at at P ts all.1)

module _ {S K A T U M : Type 0} (g : Ghosts S) (k : Shelves K) (old new : Connection S K) (result : Result (Vec A) Error) (rows : List Row) (shown : U → Row) (at : T → U) (meaning : A → M) (told : U → M) (IsReadable : U → Type 0) where
  pub record All (ts : List T) : Type 0 where
    pub reads : Reads g k old new result
    pub listed : IfOk result (λ values. IsClean g k new → map meaning values.items ≡ map (λ t. told (at t)) ts)
    pub trouble : IfErr result (IsTroubleIf g k old new (AllByRecursion (λ t. IsReadable (at t)) ts))

  pub all : IfOk result (λ values. (us : List U) → rows ≡ map shown us → map meaning values.items ≡ map told us)
      → IfErr result (λ e. (us : List U) → rows ≡ map shown us → AllByRecursion IsReadable us → is_trouble e ≡ true)
      → {X : Type 0} {rows_in : X → List Row} {view : Tables → List Row} {x : X} → Question (state g k old) (state g k new) rows_in view (Ok x)
      → (ts : List T) → (IsClean g k new → rows ≡ map (λ t. shown (at t)) ts) → All ts
  all read trouble q ts is = record {
    reads = answered g k old new result q;
    listed = IfOk-weaker result _ _ (λ values reads clean. reads (map at ts) (is clean ∙ sym (map-map shown at ts)) ∙ map-map told at ts) read;
    trouble = IfErr-weaker result _ _ (λ e told intact unlimited readable.
        told (map at ts) (is (answered_clean g k old new result q.opens intact) ∙ sym (map-map shown at ts)) (all_at at IsReadable ts readable)) trouble;
  }

-- A CREATE TABLE that nothing stands against is refused in trouble alone.
use Rattle.std.proofs.Common.{◌≡◌, inl, inr, ℕ, ◌+◌, ◌^◌, ◌≤◌, ◌==◌, nat_le, List, [], length, codes, true, false, true≢false, Some, None, Ok, Err, Result, IfErr, IsTrue, refl, sym, ap, subst, ◌∙◌}
use Rattle.std.specs.Char.{is_ascii}
use Rattle.std.specs.List.{list_any, list_all}
use Rattle.std.specs.Str.{IsUtf8}
use Rattle.std.proofs.lemmas.Str.{IsUtf8-from_ascii}
use Rattle.std.proofs.lemmas.Str.Ascii.{IsAscii-from_all}
use Rattle.std.proofs.lemmas.List.Sums.{AllPass-from_list_all}
use Rattle.std.proofs.lemmas.Bool.{le-leb, ltb-true}
use Rattle.sqlite.specs.declared.types.Value.TheVariants.{Text}
use Rattle.sqlite.specs.Schema.{Schema}
use Rattle.sqlite.specs.Table.{Table}
use Rattle.sqlite.specs.Tree.{Trees}
use Rattle.sqlite.specs.Command.TheVariants.{CreateTable}
use Rattle.sqlite.specs.Compile.{table_defined_by}
use Rattle.sqlite.specs.Change.{created, next_tree, is_used, is_reserved, automatics}
use Rattle.sqlite.specs.Effect.{Database}
use Rattle.sqlite.specs.Does.{Does, MakesTable, MakesSequence, lacks_sequence}
use Rattle.sqlite.specs.State.{State, HasCleanDisk, Survives, Executes, mode_of}
use Rattle.sqlite.specs.declared.error.Error.{Error}
use Rattle.sqlite_resolve.specs.declared.error.CompileError.{CompileError}
use Rattle.sqlite_schema.specs.declared.schema.Index.{Index}
use Rattle.sqlite_schema.specs.Rules.{table_reals, index_reals}
use Rattle.sqlite_rules.specs.Lists.{Has}
use Rattle.sqlite_rules.proofs.ListLemmas.{some_from}
use Rattle.sqlite_catalog.specs.Calls.{RefusesTable, IsBadName}
use Rattle.sqlite_catalog.specs.Listing.{is_fit, is_formed}
use Rattle.sqlite_catalog.specs.declared.error.Refusal.{Refusal}
use Rattle.sqlite_catalog.specs.declared.error.Refusal.TheVariants.{Invalid, NameTaken, BadName, TooBig, BadKey, BadText, Violates}
use Rattle.bh_rows.specs.Means.{is_trouble}
use Rattle.bh_rows.proofs.CallLemmas.{clean_before, write_open, write_refused_text}
use Rattle.bh_rows.proofs.CreateLemmas.{Makes}
use Rattle.bh_rows.proofs.RefusedLemmas.{stopped}

-- the schema has no such name, and what the text says of the table can be kept
pub record IsFree (before : Schema) (sql : List ℕ) (table : Table) : Type 0 where
  pub text : list_all is_ascii sql ≡ true
  pub name : list_all is_ascii table.name ≡ true
  pub own : is_reserved table.name ≡ false
  pub free : is_used before table.name ≡ false
  pub keys_free : list_any (λ (i : Index). is_used before i.name) (automatics table 0 0 table.uniques) ≡ false
  pub few : nat_le 65536 (next_tree before + length table.uniques) ≡ false
  pub narrow : nat_le (2 ^ 64) (table_reals table) ≡ false
  pub keys_narrow : list_any (λ key. nat_le (2 ^ 64) (index_reals (table_reals table) key)) table.uniques ≡ false
  pub formed : is_formed table ≡ true
  pub fit : is_fit (Text (codes "table")) (Text table.name) (Text table.name) (Text sql) ≡ true

utf8 : (bs : List ℕ) → list_all is_ascii bs ≡ true → IsUtf8 bs
utf8 bs h = IsUtf8-from_ascii bs (IsAscii-from_all bs (λ k d low. ltb-true _ _ (AllPass-from_list_all is_ascii bs h k d low)))

module _ (before : Schema) (sql : List ℕ) (table : Table) (makes : Makes before sql table) (free : IsFree before sql table) where
  -- the text defines this table alone
  only : (P : Table → Type 0) (t : Table) → table_defined_by sql ≡ Ok t → P t → P table
  only P t is h = let both : ◌≡◌ {A = Result Table CompileError} (Ok t) (Ok table) = sym is ∙ makes.defined in let same : t ≡ table = cc in subst P same h

  below : (a b : ℕ) → nat_le a b ≡ false → ¬ (a ≤ b)
  below a b small le = true≢false (sym (le-leb a b le) ∙ small)

  never_refused : (why : Refusal) → ¬ RefusesTable before sql why
  never_refused (Invalid e) h = absurd (let both : ◌≡◌ {A = Result Table CompileError} (Err e) (Ok table) = sym h ∙ makes.defined in cc)
  never_refused NameTaken h = elim h.2 [
    | inl used ↦ true≢false (sym (only (λ t. is_used before t.name ≡ true) h.0 h.1 used) ∙ free.free)
    | inr key ↦
        let it = only (λ t. (i : Index) × Has (automatics t 0 0 t.uniques) i × (is_used before i.name ≡ true)) h.0 h.1 key in
        true≢false (sym (some_from (λ (i : Index). is_used before i.name) (automatics table 0 0 table.uniques) it.0 it.1 it.2) ∙ free.keys_free)
  ]
  never_refused BadName h = elim (only (λ t. IsBadName t.name (length t.uniques == 0)) h.0 h.1 h.2) [
    | inl unread ↦ unread (utf8 table.name free.name)
    | inr reserved ↦ true≢false (sym reserved.0 ∙ free.own)
  ]
  never_refused TooBig h = elim h.2 [
    | inl many ↦ below 65536 (next_tree before + length table.uniques) free.few (only (λ t. 65536 ≤ next_tree before + length t.uniques) h.0 h.1 many)
    | inr (inl wide) ↦ below (2 ^ 64) (table_reals table) free.narrow (only (λ t. 2 ^ 64 ≤ table_reals t) h.0 h.1 wide)
    | inr (inr key) ↦
        let it = only (λ t. (k : List ℕ) × Has t.uniques k × (2 ^ 64 ≤ index_reals (table_reals t) k)) h.0 h.1 key in
        true≢false (sym (some_from (λ k. nat_le (2 ^ 64) (index_reals (table_reals table) k)) table.uniques it.0 it.1 (le-leb (2 ^ 64) (index_reals (table_reals table) it.0) it.2)) ∙ free.keys_narrow)
  ]
  never_refused BadKey h = true≢false (sym free.formed ∙ only (λ t. is_formed t ≡ false) h.0 h.1 h.2)
  never_refused BadText h = true≢false (sym free.fit ∙ only (λ t. is_fit (Text (codes "table")) (Text t.name) (Text t.name) (Text sql) ≡ false) h.0 h.1 h.2)
  never_refused (Violates rule) h = h

  made_or_trouble : (trees : Trees) (e : Error) → ¬ MakesTable sql (record { schema = before; trees = trees }) (Err (Some e))
  made_or_trouble trees e (inl unread) = unread.0 (utf8 sql free.text)
  made_or_trouble trees e (inr why) = never_refused why.0 why.1

  module _ (old new : State) where
    never_does : (e : Error) → ¬ Does old.step_limit (mode_of old) [] (record { schema = before; trees = old.now.trees }) sql None CreateTable (Err (Some e))
    never_does e h = elim (stopped h) [
      | inl unmade ↦ elim (stopped unmade) [
        | inl refused ↦ made_or_trouble old.now.trees e refused
        | inr more ↦ uncounted more.0 more.1 more.2
      ]
      | inr never ↦ absurd (let x = never.2 in cc)
    ]
      where
        uncounted : (after : Database) → MakesTable sql (record { schema = before; trees = old.now.trees }) (Ok after) → ¬ MakesSequence after (Err (Some e))
        uncounted after made more =
            let schema : after.schema ≡ created before table = made.is ∙ ap (created before) (only (λ t. made.table ≡ t) made.table made.defined refl) in
            let plain : lacks_sequence after.schema ≡ false = ap lacks_sequence schema ∙ makes.uncounted in
            absurd (let x = rw plain at more in cc)

    -- it is refused in trouble alone
    pub create_trouble : (HasCleanDisk old → IsTrue old.is_open → old.now.schema ≡ before) → (result : Result ℕ Error) → (HasCleanDisk new → Executes sql [] old new result) → {P : Trees → Type 0} → Survives old new P → HasCleanDisk new
        → IfErr result (λ e. is_trouble e ≡ true)
    create_trouble ready (Ok count) runs s clean = tt
    create_trouble ready (Err e) runs s clean = elim (write_open sql [] old new e (runs clean)) [
      | inr bad ↦ bad
      | inl up ↦
          let schema = ready (clean_before old new _ s clean) up in
          elim (write_refused_text sql [] old new before schema CreateTable 0 makes.means refl refl e (runs clean)) [
            | inl bad ↦ bad
            | inr refused ↦ absurd (never_does e (subst (λ t. Does old.step_limit (mode_of old) [] (record { schema = before; trees = old.now.trees }) t None CreateTable (Err (Some e))) makes.text refused))
          ]
    ]

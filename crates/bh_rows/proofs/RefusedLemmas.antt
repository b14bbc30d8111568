-- Why an INSERT of one row may be refused.
use Rattle.std.proofs.Common.{arith, ◌≡◌, ◌≢◌, ◌⊎◌, inl, inr, ℕ, zero, suc, ◌/◌, List, [], ◌∷◌, length, length-append, true, false, true≢false, Option, None, Some, slice_get, Ok, Err, Result, sym, ap, subst, ◌∙◌}
use Rattle.sqlite.specs.Order.{Row}
use Rattle.sqlite.specs.Term.{Term}
use Rattle.sqlite.specs.Tree.{Trees}
use Rattle.sqlite.specs.Table.{Table}
use Rattle.sqlite.specs.Schema.{Schema}
use Rattle.sqlite.specs.Source.TheVariants.{Values}
use Rattle.sqlite.specs.Command.{Command}
use Rattle.sqlite.specs.Command.TheVariants.{Insert}
use Rattle.sqlite.specs.Rowids.TheVariants.{Chosen}
use Rattle.sqlite.specs.Edit.{Edit, Applies, IsRefused, edit_of, taken_by}
use Rattle.sqlite.specs.Effect.{value_rows, edit_error}
use Rattle.sqlite.specs.Rows.{Task, Written, stamped}
use Rattle.sqlite.specs.Does.{Does, OnRows, due}
use Rattle.sqlite.specs.State.{State, mode_of}
use Rattle.sqlite.specs.declared.error.Error.{Error}
use Rattle.sqlite.proofs.Callers.{one_step}
use Rattle.sqlite_typing.specs.Types.{accepts_terms}
use Rattle.sqlite_schema.specs.Rules.{Refers}
use Rattle.sqlite_schema.specs.declared.schema.Keys.TheVariants.{Enforced}
use Rattle.sqlite_rules.specs.declared.error.Refusal.{Refusal}
use Rattle.sqlite_rules.specs.Action.{works, Leads, Writes}
use Rattle.sqlite_rules.proofs.ActionLemmas.{no_works}
use Rattle.bh_rows.proofs.InsertLemmas.{plainly, went, same_value}

-- the error that a part stopped with
pub same_stop : {B E : Type 0} {a b : E} → ◌≡◌ {A = Result B E} (Err a) (Err b) → a ≡ b
same_stop e = cc

-- a part that stopped did so first, or went on
pub stopped : {B E R : Type 0} {x : E} {Stops : E → Type 0} → ((stop : E) × Stops stop × (◌≡◌ {A = Result B E} (Err x) (Err stop))) ⊎ R → Stops x ⊎ R
stopped {B} {E} {R} {x} {Stops} (inl s) = inl (subst Stops (sym (same_stop s.2)) s.1)
stopped (inr on) = inr on

-- where no key acts, a step that is refused is refused by a rule
pub one_refusal : (schema : Schema) (db : Trees) (edit : Edit) (r : Refusal) → works schema Enforced 0 edit.table.tree (taken_by db edit) edit.news ≡ [] → Writes schema Enforced db edit (Err (Some r)) → IsRefused schema Enforced db edit r
one_refusal schema db edit r none (inl refused) = let same : r ≡ refused.0 = let e = refused.2 in cc in subst (IsRefused schema Enforced db edit) (sym same) refused.1
one_refusal schema db edit r none (inr (inl big)) = absurd (let e = big.3 in cc)
one_refusal schema db edit r none (inr (inr went_on)) = absurd (settled went_on.2.0 (rw none at went_on.2.1))
  where
    settled : (n : ℕ) → Leads schema Enforced n went_on.0 [] (Err (Some r)) → ⊥
    settled zero h = absurd (let e = h.1 in cc)
    settled (suc n) h = absurd (omega (arith, ap length h.2, length-append h.0 (h.1 ∷ [])))

module _ (schema : Schema) (table : Table) (place : ℕ) (terms : List Term) (width : ℕ) (is_table : slice_get schema.tables place ≡ Some (plainly table))
    (params source : Row) (gives : value_rows (stamped (plainly table) params) width (length terms / width) terms ≡ source ∷ []) (accepts : accepts_terms terms (stamped (plainly table) params) ≡ true)
    (old : State) (unlimited : old.step_limit ≡ None) where
  abbrev command : Command
  command = Insert place (Values terms width)

  abbrev task : Task
  task = record { limit = old.step_limit; keys = Enforced; schema = schema; table = plainly table; params = params }

  abbrev db : Trees
  db = old.now.trees

  abbrev edit : List Row → Edit
  edit = edit_of db (plainly table) [] Chosen 0

  abbrev Cause : Error → Type 0
  Cause e = ((r : Refusal) × IsRefused schema Enforced db (edit (source ∷ [])) r × (e ≡ edit_error r)) ⊎ ((next : Trees) × Applies schema Enforced db (edit (source ∷ [])) next × ¬ Refers (due (mode_of old)) schema next)

  -- why an INSERT is refused
  pub insert_refused : (text : List ℕ) (e : Error) → Does old.step_limit (mode_of old) params (record { schema = schema; trees = db }) text None command (Err (Some e)) → Cause e
  insert_refused text e h =
      let ran : OnRows task (mode_of old) None command db (Err (Some e)) = rw is_table at h in
      elim (stopped ran) [
        | inl wrote ↦ elim (stopped wrote) [
          | inl unread ↦ elim unread [ inl mistyped ↦ absurd (true≢false (sym accepts ∙ mistyped.1)) | inr long ↦ absurd (let some = rw unlimited at long.1 in cc) ]
          | inr read ↦ elim (stopped read.2) [
            | inl uncounted ↦ absurd (let x = uncounted in cc)
            | inr counter ↦ elim (stopped counter.2) [
              | inl unedited ↦ refused read.0 (read.1.1 ∙ gives) unedited.0 unedited.1 unedited.2
              | inr on ↦ elim (stopped on.2) [ inl never ↦ absurd (let x = never in cc) | inr never ↦ absurd (let x = never.2 in cc) ]
            ]
          ]
        ]
        | inr ended ↦ elim (stopped ended.2) [
          | inl untested ↦ inr (broken ended.0 ended.1 untested.0)
          | inr told ↦ elim (stopped told.2) [ inl never ↦ absurd (let x = never in cc) | inr never ↦ absurd (let x = never.2 in cc) ]
        ]
      ]
    where
      refused : (rows : List Row) → rows ≡ source ∷ [] → (why : Option Refusal) → Writes schema Enforced db (edit rows) (Err why) → Some e ≡ Rattle.std.proofs.Common.option_map edit_error why → Cause e
      refused rows is None wrote told = absurd (let x = told in cc)
      refused rows is (Some r) wrote told =
          inl (r, one_refusal schema db (edit (source ∷ [])) r (no_works schema Enforced 0 table.tree (edit (source ∷ [])).news) (subst (λ l. Writes schema Enforced db (edit l) (Err (Some r))) is wrote), (let x = told in cc))

      broken : (w : Written) → Rattle.sqlite.specs.Rows.Inserts task (Values terms width) db (Ok w) → ¬ Refers (due (mode_of old)) schema w.trees → (next : Trees) × Applies schema Enforced db (edit (source ∷ [])) next × ¬ Refers (due (mode_of old)) schema next
      broken w wrote none =
          let given = went wrote in
          let counter = went given.2 in
          let put = went counter.2 in
          let counted = went put.2 in
          let trees : w.trees ≡ put.0 = ap (λ (it : Written). it.trees) (same_value counted.2) ∙ same_value counted.1 in
          let rows : given.0 ≡ source ∷ [] = given.1.1 ∙ gives in
          (put.0, subst (λ l. Applies schema Enforced db (edit l) put.0) rows (one_step schema Enforced db put.0 (edit given.0) (no_works schema Enforced 0 table.tree (edit given.0).news) put.1), subst (λ t. ¬ Refers (due (mode_of old)) schema t) trees none)

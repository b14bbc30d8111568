-- Changes of a block's count of uses: their effect on the counts, when they fail, and their SQL.
use Rattle.std.specs.Prelude.{ℕ, pos, ◌+ℤ◌, ◌-ℤ◌, List, [], ◌∷◌, ◌++◌}
use Rattle.sqlite.specs.declared.types.Value.TheVariants.{Blob}
use Rattle.sqlite_keyed.specs.Lists.{delete_where}
use Rattle.bh_rows.specs.Texts.{InsertText, UpdateText, DeleteText}
use Rattle.bh_tables.specs.Schema.{host_schema, uses_table, at}
use Rattle.bh_tables.specs.Typed.{UseRow, use_form, is_named, raised, lowered, number}
use Rattle.bh_tables.specs.Shown.{Name}
use Rattle.bh_base.specs.Layer.{Standing}
use Rattle.bh_blocks.specs.Uses.{IsUsed}
use Rattle.bh_blocks.specs.declared.uses.UseChange.{UseChange}
use Rattle.bh_blocks.specs.declared.uses.UseChange.TheVariants as change

-- the first count of a block
abbrev pub one_use : Name → UseRow
one_use q = record { digest = q.0; ord = q.1; uses = pos 1 }

abbrev pub uses_after : UseChange → Name → List UseRow → List UseRow
uses_after change.Added q us = us ++ one_use q ∷ []
uses_after change.Raised q us = raised q us
uses_after change.Lowered q us = lowered q us
uses_after change.Removed q us = delete_where (is_named q) us

-- when the store refuses it only by failing; nothing is promised for an increment
abbrev pub MayChange : UseChange → Name → Standing → Type 0
MayChange change.Added q x = ⊥
MayChange change.Raised q x = ⊥
MayChange change.Lowered q x = IsUsed q x
MayChange change.Removed q x = Unit {0}

abbrev pub IsTextOf : UseChange → List ℕ → Type 0
IsTextOf change.Added sql = (q : Name) → InsertText use_form host_schema 9 (at 23 uses_table) sql (Blob q.0 ∷ number q.1 ∷ []) (one_use q)
IsTextOf change.Raised sql = (q : Name) → UpdateText use_form host_schema 9 (at 23 uses_table) sql (Blob q.0 ∷ number q.1 ∷ []) (is_named q)
    (λ u. record u { uses = u.uses +ℤ pos 1 })
IsTextOf change.Lowered sql = (q : Name) → UpdateText use_form host_schema 9 (at 23 uses_table) sql (Blob q.0 ∷ number q.1 ∷ [])
    (is_named q) (λ u. record u { uses = u.uses -ℤ pos 1 })
IsTextOf change.Removed sql =
    (q : Name) → DeleteText use_form host_schema 9 (at 23 uses_table) sql (Blob q.0 ∷ number q.1 ∷ []) (is_named q)

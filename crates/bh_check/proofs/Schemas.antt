-- The schemas of all editions of a host as one: its first tables, and more of them. And what it keeps of other rows.
use Rattle.std.proofs.Common.{◌≡◌, ◌⊎◌, inl, inr, true, List, [], ◌∷◌, ◌++◌, length, refl, sym, ap, ◌∙◌, codes}
use Rattle.sqlite.specs.Schema.{Schema}
use Rattle.sqlite.specs.Table.{Table}
use Rattle.sqlite_schema.specs.declared.schema.Index.{Index}
use Rattle.sqlite_tied.specs.Compute.{everything}
use Rattle.bh_tables.specs.Schema.{first_schema, second_schema, third_schema, fourth_schema, host_schema, at, auto, locks_table, retains_table, tallies_table, packs_table, placed_table, notes_table, upload_notes_table, rights_table, garbage_table, unneeded_table}
use Rattle.bh_tables.specs.Typed.{Totals, TallyRow, GarbageRow}
use Rattle.bh_stored.specs.declared.stored.Edition.{Edition}
use Rattle.bh_stored.specs.declared.stored.Edition.TheVariants.{First, Second, Third, Fourth, Fifth}
use Rattle.bh_check.specs.Checked.{schema_of, edition_with}

-- none is tallied where there is no table of tallies
abbrev pub kept_tallies : Edition → List TallyRow → List TallyRow
kept_tallies First tallies = []
kept_tallies Second tallies = []
kept_tallies Third tallies = tallies
kept_tallies Fourth tallies = tallies
kept_tallies Fifth tallies = tallies

-- nothing is counted of what nobody needs where there is no row for it
abbrev pub kept_garbage : Edition → List GarbageRow → List GarbageRow
kept_garbage First garbage = []
kept_garbage Second garbage = []
kept_garbage Third garbage = []
kept_garbage Fourth garbage = []
kept_garbage Fifth garbage = garbage

-- and that references have the sizes of their blocks is found once no two blocks are known to have one name
abbrev pub kept : Edition → Totals → Totals
kept edition sums = record sums { tallies = kept_tallies edition sums.tallies; garbage = kept_garbage edition sums.garbage; measured = true }

abbrev more_tables : Edition → List Table
more_tables First = []
more_tables Second = at 26 locks_table ∷ at 28 retains_table ∷ []
more_tables Third = at 26 locks_table ∷ at 28 retains_table ∷ at 30 tallies_table ∷ []
more_tables Fourth = at 26 locks_table ∷ at 28 retains_table ∷ at 30 tallies_table ∷ at 32 packs_table ∷ at 34 placed_table ∷ at 37 notes_table ∷ at 39 upload_notes_table ∷ at 41 rights_table ∷ at 43 garbage_table ∷ []
more_tables Fifth = at 26 locks_table ∷ at 28 retains_table ∷ at 30 tallies_table ∷ at 32 packs_table ∷ at 34 placed_table ∷ at 37 notes_table ∷ at 39 upload_notes_table ∷ at 41 rights_table ∷ at 43 garbage_table ∷ at 44 unneeded_table ∷ []

abbrev more_indexes : Edition → List Index
more_indexes First = []
more_indexes Second = auto (codes "sqlite_autoindex_locks_1") 27 26 (1 ∷ 2 ∷ []) ∷ auto (codes "sqlite_autoindex_retains_1") 29 28 (1 ∷ 2 ∷ []) ∷ []
more_indexes Third = auto (codes "sqlite_autoindex_locks_1") 27 26 (1 ∷ 2 ∷ []) ∷ auto (codes "sqlite_autoindex_retains_1") 29 28 (1 ∷ 2 ∷ []) ∷ auto (codes "sqlite_autoindex_tallies_1") 31 30 (1 ∷ []) ∷ []
more_indexes Fourth = auto (codes "sqlite_autoindex_locks_1") 27 26 (1 ∷ 2 ∷ []) ∷ auto (codes "sqlite_autoindex_retains_1") 29 28 (1 ∷ 2 ∷ []) ∷ auto (codes "sqlite_autoindex_tallies_1") 31 30 (1 ∷ [])
    ∷ auto (codes "sqlite_autoindex_packs_1") 33 32 (1 ∷ []) ∷ auto (codes "sqlite_autoindex_placed_1") 35 34 (1 ∷ 2 ∷ []) ∷ auto (codes "sqlite_autoindex_placed_2") 36 34 (3 ∷ 4 ∷ [])
    ∷ auto (codes "sqlite_autoindex_notes_1") 38 37 (1 ∷ 2 ∷ []) ∷ auto (codes "sqlite_autoindex_upload_notes_1") 40 39 (1 ∷ 2 ∷ []) ∷ auto (codes "sqlite_autoindex_rights_1") 42 41 (1 ∷ 2 ∷ []) ∷ []
more_indexes Fifth = auto (codes "sqlite_autoindex_locks_1") 27 26 (1 ∷ 2 ∷ []) ∷ auto (codes "sqlite_autoindex_retains_1") 29 28 (1 ∷ 2 ∷ []) ∷ auto (codes "sqlite_autoindex_tallies_1") 31 30 (1 ∷ [])
    ∷ auto (codes "sqlite_autoindex_packs_1") 33 32 (1 ∷ []) ∷ auto (codes "sqlite_autoindex_placed_1") 35 34 (1 ∷ 2 ∷ []) ∷ auto (codes "sqlite_autoindex_placed_2") 36 34 (3 ∷ 4 ∷ [])
    ∷ auto (codes "sqlite_autoindex_notes_1") 38 37 (1 ∷ 2 ∷ []) ∷ auto (codes "sqlite_autoindex_upload_notes_1") 40 39 (1 ∷ 2 ∷ []) ∷ auto (codes "sqlite_autoindex_rights_1") 42 41 (1 ∷ 2 ∷ []) ∷ []

abbrev pub over : Edition → Schema
over edition = record { tables = first_schema.tables ++ more_tables edition; indexes = first_schema.indexes ++ more_indexes edition; views = [] }

pub over_is : (edition : Edition) → schema_of edition ≡ over edition
over_is First = refl
over_is Second = refl
over_is Third = refl
over_is Fourth = refl
over_is Fifth = refl

-- how many tables there are tells which edition it is
pub told : (schema : Schema) (edition : Edition) → edition ≡ edition_with (length schema.tables) → (schema ≡ first_schema) ⊎ ((schema ≡ second_schema) ⊎ ((schema ≡ third_schema) ⊎ ((schema ≡ fourth_schema) ⊎ (schema ≡ host_schema)))) → schema ≡ schema_of edition
unfolding everything
told schema edition is (inl first) = first ∙ ap schema_of (sym (is ∙ ap (λ (s : Schema). edition_with (length s.tables)) first))
told schema edition is (inr (inl second)) = second ∙ ap schema_of (sym (is ∙ ap (λ (s : Schema). edition_with (length s.tables)) second))
told schema edition is (inr (inr (inl third))) = third ∙ ap schema_of (sym (is ∙ ap (λ (s : Schema). edition_with (length s.tables)) third))
told schema edition is (inr (inr (inr (inl fourth)))) = fourth ∙ ap schema_of (sym (is ∙ ap (λ (s : Schema). edition_with (length s.tables)) fourth))
told schema edition is (inr (inr (inr (inr fifth)))) = fifth ∙ ap schema_of (sym (is ∙ ap (λ (s : Schema). edition_with (length s.tables)) fifth))

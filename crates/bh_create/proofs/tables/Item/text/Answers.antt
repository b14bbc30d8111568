use Rattle.std.proofs.Common.{refl}
use Rattle.bh_tables.proofs.Creates as creates
use Rattle.bh_create.proofs.Building.{table_text, index_text}
use Rattle.bh_create.specs.declared.tables.Item.TheVariants as item
use Rattle.bh_create.proofs.tables.Item.text.Goals as goal

pub returns-in-Host : goal.returns-in-Host
returns-in-Host c = rw c.in-Host.is (table_text item.Host refl creates.makes_host creates.free_host)

pub returns-in-Tenants : goal.returns-in-Tenants
returns-in-Tenants c = rw c.in-Tenants.is (table_text item.Tenants refl creates.makes_tenants creates.free_tenants)

pub returns-in-Keys : goal.returns-in-Keys
returns-in-Keys c = rw c.in-Keys.is (table_text item.Keys refl creates.makes_keys creates.free_keys)

pub returns-in-Buckets : goal.returns-in-Buckets
returns-in-Buckets c = rw c.in-Buckets.is (table_text item.Buckets refl creates.makes_buckets creates.free_buckets)

pub returns-in-Versions : goal.returns-in-Versions
returns-in-Versions c = rw c.in-Versions.is (table_text item.Versions refl creates.makes_versions creates.free_versions)

pub returns-in-Blocks : goal.returns-in-Blocks
returns-in-Blocks c = rw c.in-Blocks.is (table_text item.Blocks refl creates.makes_blocks creates.free_blocks)

pub returns-in-Refs : goal.returns-in-Refs
returns-in-Refs c = rw c.in-Refs.is (table_text item.Refs refl creates.makes_refs creates.free_refs)

pub returns-in-Newest : goal.returns-in-Newest
returns-in-Newest c = rw c.in-Newest.is (index_text item.Newest refl creates.makes_newest creates.free_newest)

pub returns-in-RefsByBlock : goal.returns-in-RefsByBlock
returns-in-RefsByBlock c = rw c.in-RefsByBlock.is (index_text item.RefsByBlock refl creates.makes_refs_by_block creates.free_refs_by_block)

pub returns-in-Uploads : goal.returns-in-Uploads
returns-in-Uploads c = rw c.in-Uploads.is (table_text item.Uploads refl creates.makes_uploads creates.free_uploads)

pub returns-in-Parts : goal.returns-in-Parts
returns-in-Parts c = rw c.in-Parts.is (table_text item.Parts refl creates.makes_parts creates.free_parts)

pub returns-in-UploadsByKey : goal.returns-in-UploadsByKey
returns-in-UploadsByKey c = rw c.in-UploadsByKey.is (index_text item.UploadsByKey refl creates.makes_uploads_by_key creates.free_uploads_by_key)

pub returns-in-UploadsByMoment : goal.returns-in-UploadsByMoment
returns-in-UploadsByMoment c = rw c.in-UploadsByMoment.is (index_text item.UploadsByMoment refl creates.makes_uploads_by_moment creates.free_uploads_by_moment)

pub returns-in-Uses : goal.returns-in-Uses
returns-in-Uses c = rw c.in-Uses.is (table_text item.Uses refl creates.makes_uses creates.free_uses)

pub returns-in-UsesByCount : goal.returns-in-UsesByCount
returns-in-UsesByCount c = rw c.in-UsesByCount.is (index_text item.UsesByCount refl creates.makes_uses_by_count creates.free_uses_by_count)

pub returns-in-Locks : goal.returns-in-Locks
returns-in-Locks c = rw c.in-Locks.is (table_text item.Locks refl creates.makes_locks creates.free_locks)

pub returns-in-Retains : goal.returns-in-Retains
returns-in-Retains c = rw c.in-Retains.is (table_text item.Retains refl creates.makes_retains creates.free_retains)

pub returns-in-Tallies : goal.returns-in-Tallies
returns-in-Tallies c = rw c.in-Tallies.is (table_text item.Tallies refl creates.makes_tallies creates.free_tallies)

pub returns-in-Packs : goal.returns-in-Packs
returns-in-Packs c = rw c.in-Packs.is (table_text item.Packs refl creates.makes_packs creates.free_packs)

pub returns-in-Placed : goal.returns-in-Placed
returns-in-Placed c = rw c.in-Placed.is (table_text item.Placed refl creates.makes_placed creates.free_placed)

pub returns-in-Notes : goal.returns-in-Notes
returns-in-Notes c = rw c.in-Notes.is (table_text item.Notes refl creates.makes_notes creates.free_notes)

pub returns-in-UploadNotes : goal.returns-in-UploadNotes
returns-in-UploadNotes c = rw c.in-UploadNotes.is (table_text item.UploadNotes refl creates.makes_upload_notes creates.free_upload_notes)

pub returns-in-Rights : goal.returns-in-Rights
returns-in-Rights c = rw c.in-Rights.is (table_text item.Rights refl creates.makes_rights creates.free_rights)

pub returns-in-Garbage : goal.returns-in-Garbage
returns-in-Garbage c = rw c.in-Garbage.is (table_text item.Garbage refl creates.makes_garbage creates.free_garbage)

pub returns-in-Unneeded : goal.returns-in-Unneeded
returns-in-Unneeded c = rw c.in-Unneeded.is (table_text item.Unneeded refl creates.makes_unneeded creates.free_unneeded)

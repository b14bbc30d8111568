use Rattle.std.proofs.Common.{refl}
use Rattle.bh_tables.proofs.Creates as creates
use Rattle.bh_migration.specs.declared.making.Added.TheVariants as added
use Rattle.bh_migration.proofs.Made.{text_of}
use Rattle.bh_migration.proofs.making.Added.text.Goals as goal

pub returns-in-Locks : goal.returns-in-Locks
returns-in-Locks c = rw c.in-Locks.is (text_of added.Locks refl creates.makes_locks creates.free_locks)

pub returns-in-Retains : goal.returns-in-Retains
returns-in-Retains c = rw c.in-Retains.is (text_of added.Retains creates.second_made creates.makes_retains creates.free_retains)

pub returns-in-Tallies : goal.returns-in-Tallies
returns-in-Tallies c = rw c.in-Tallies.is (text_of added.Tallies creates.third_made creates.makes_tallies creates.free_tallies)

pub returns-in-Packs : goal.returns-in-Packs
returns-in-Packs c = rw c.in-Packs.is (text_of added.Packs refl creates.makes_packs creates.free_packs)

pub returns-in-Placed : goal.returns-in-Placed
returns-in-Placed c = rw c.in-Placed.is (text_of added.Placed refl creates.makes_placed creates.free_placed)

pub returns-in-Notes : goal.returns-in-Notes
returns-in-Notes c = rw c.in-Notes.is (text_of added.Notes refl creates.makes_notes creates.free_notes)

pub returns-in-UploadNotes : goal.returns-in-UploadNotes
returns-in-UploadNotes c = rw c.in-UploadNotes.is (text_of added.UploadNotes refl creates.makes_upload_notes creates.free_upload_notes)

pub returns-in-Rights : goal.returns-in-Rights
returns-in-Rights c = rw c.in-Rights.is (text_of added.Rights refl creates.makes_rights creates.free_rights)

pub returns-in-Garbage : goal.returns-in-Garbage
returns-in-Garbage c = rw c.in-Garbage.is (text_of added.Garbage creates.fourth_made creates.makes_garbage creates.free_garbage)

pub returns-in-Unneeded : goal.returns-in-Unneeded
returns-in-Unneeded c = rw c.in-Unneeded.is (text_of added.Unneeded creates.all_made creates.makes_unneeded creates.free_unneeded)

-- The schema while its tables and indexes are created, one after another.
use Rattle.sqlite.specs.Schema.{Schema}
use Rattle.sqlite.specs.Change.{created, indexed}
use Rattle.bh_tables.specs.Schema.{no_schema, host_table, tenants_table, keys_table, buckets_table, versions_table, blocks_table}
use Rattle.bh_tables.specs.Schema.{refs_table, uploads_table, parts_table, at, newest, refs_by_block, uploads_by_key, uploads_by_moment}
use Rattle.bh_tables.specs.Schema.{uses_table, uses_by_count, first_schema, locks_table, retains_table, second_schema, tallies_table}
use Rattle.bh_tables.specs.Schema.{third_schema, packs_table, placed_table, notes_table, upload_notes_table, rights_table, garbage_table}
use Rattle.bh_tables.specs.Schema.{fourth_schema, unneeded_table}

abbrev pub with_host : Schema
with_host = created no_schema host_table

abbrev pub with_tenants : Schema
with_tenants = created with_host tenants_table

abbrev pub with_keys : Schema
with_keys = created with_tenants keys_table

abbrev pub with_buckets : Schema
with_buckets = created with_keys buckets_table

abbrev pub with_versions : Schema
with_versions = created with_buckets versions_table

abbrev pub with_blocks : Schema
with_blocks = created with_versions blocks_table

abbrev pub with_refs : Schema
with_refs = created with_blocks refs_table

abbrev pub with_newest : Schema
with_newest = indexed with_refs (at 7 versions_table) newest

abbrev pub with_refs_by_block : Schema
with_refs_by_block = indexed with_newest (at 12 refs_table) refs_by_block

abbrev pub with_uploads : Schema
with_uploads = created with_refs_by_block uploads_table

abbrev pub with_parts : Schema
with_parts = created with_uploads parts_table

abbrev pub with_uploads_by_key : Schema
with_uploads_by_key = indexed with_parts (at 16 uploads_table) uploads_by_key

abbrev pub with_uploads_by_moment : Schema
with_uploads_by_moment = indexed with_uploads_by_key (at 16 uploads_table) uploads_by_moment

abbrev pub with_uses : Schema
with_uses = created with_uploads_by_moment uses_table

abbrev pub with_uses_by_count : Schema
with_uses_by_count = indexed with_uses (at 23 uses_table) uses_by_count

-- over the first schema
abbrev pub with_locks : Schema
with_locks = created first_schema locks_table

abbrev pub with_retains : Schema
with_retains = created with_locks retains_table

-- over the second schema
abbrev pub with_tallies : Schema
with_tallies = created second_schema tallies_table

-- over the third schema
abbrev pub with_packs : Schema
with_packs = created third_schema packs_table

abbrev pub with_placed : Schema
with_placed = created with_packs placed_table

abbrev pub with_notes : Schema
with_notes = created with_placed notes_table

abbrev pub with_upload_notes : Schema
with_upload_notes = created with_notes upload_notes_table

abbrev pub with_rights : Schema
with_rights = created with_upload_notes rights_table

abbrev pub with_garbage : Schema
with_garbage = created with_rights garbage_table

-- over the fourth schema
abbrev pub with_unneeded : Schema
with_unneeded = created fourth_schema unneeded_table

-- The CREATE texts of tables and of indexes, one after another, and that nothing stands against them.
use Rattle.std.proofs.Common.{◌≡◌, codes, refl}
use Rattle.sqlite.specs.Listing.{understood}
use Rattle.sqlite_tied.specs.Compute.{everything}
use Rattle.std.specs.Float.Ieee
use Rattle.sqlite_value.specs.Order.{value_cmp}
use Rattle.sqlite_trees.specs.Sound.{fits_kind, is_free_name, begins, same_name}
use Rattle.bh_rows.proofs.CreateLemmas.{Makes}
use Rattle.bh_rows.proofs.CreateErrors.{IsFree}
use Rattle.bh_rows.specs.Index.{Indexes}
use Rattle.bh_rows.proofs.IndexErrors.{IsFreeIndex}
use Rattle.bh_tables.specs.Schema.{Octets, no_schema, host_schema, host_table, tenants_table, keys_table, buckets_table, versions_table, blocks_table, refs_table, uploads_table, parts_table, at, newest, refs_by_block, uploads_by_key, uploads_by_moment, uses_table, uses_by_count, first_schema, second_schema, third_schema, locks_table, retains_table, tallies_table, packs_table, placed_table, notes_table, upload_notes_table, rights_table, garbage_table, fourth_schema, unneeded_table}
use Rattle.bh_tables.specs.Made.{with_host, with_tenants, with_keys, with_buckets, with_versions, with_blocks, with_refs, with_newest, with_refs_by_block, with_uploads, with_parts, with_uploads_by_key, with_uploads_by_moment, with_uses, with_uses_by_count, with_locks, with_retains, with_tallies, with_packs, with_placed, with_notes, with_upload_notes, with_rights, with_garbage, with_unneeded}

abbrev host_text : Octets
host_text = codes "CREATE TABLE host (id INTEGER PRIMARY KEY CHECK (id = 1), version INTEGER NOT NULL CHECK (version >= 0), latest INTEGER NOT NULL CHECK (latest >= 0), min_part INTEGER NOT NULL CHECK (min_part >= 0), max_body INTEGER NOT NULL CHECK (max_body >= 0), digest INTEGER NOT NULL CHECK (digest >= 0)) STRICT"

pub makes_host : Makes no_schema host_text host_table
unfolding understood everything
makes_host = record { means = record { is = refl; plain = (refl, refl); unlisted = refl; whole = refl; given = refl }; text = refl; defined = refl; uncounted = refl }

pub free_host : IsFree no_schema host_text host_table
unfolding everything fits_kind is_free_name begins same_name value_cmp Ieee.lt Ieee.is_nan
free_host = record { text = refl; name = refl; own = refl; free = refl; keys_free = refl; few = refl; narrow = refl; keys_narrow = refl; formed = refl; fit = refl }

abbrev tenants_text : Octets
tenants_text = codes "CREATE TABLE tenants (tenant TEXT NOT NULL PRIMARY KEY, quota INTEGER NOT NULL CHECK (quota >= 0), next_version INTEGER NOT NULL CHECK (next_version >= 0), next_upload INTEGER NOT NULL CHECK (next_upload >= 0), next_entry INTEGER NOT NULL CHECK (next_entry >= 0), used INTEGER NOT NULL CHECK (used >= 0) CHECK (used <= 4611686018427387904)) STRICT"

pub makes_tenants : Makes with_host tenants_text tenants_table
unfolding understood everything
makes_tenants = record { means = record { is = refl; plain = (refl, refl); unlisted = refl; whole = refl; given = refl }; text = refl; defined = refl; uncounted = refl }

pub free_tenants : IsFree with_host tenants_text tenants_table
unfolding everything fits_kind is_free_name begins same_name value_cmp Ieee.lt Ieee.is_nan
free_tenants = record { text = refl; name = refl; own = refl; free = refl; keys_free = refl; few = refl; narrow = refl; keys_narrow = refl; formed = refl; fit = refl }

abbrev keys_text : Octets
keys_text = codes "CREATE TABLE keys (tenant TEXT NOT NULL REFERENCES tenants ON DELETE RESTRICT, name TEXT NOT NULL, secret TEXT NOT NULL, PRIMARY KEY (tenant, name)) STRICT"

pub makes_keys : Makes with_tenants keys_text keys_table
unfolding understood everything
makes_keys = record { means = record { is = refl; plain = (refl, refl); unlisted = refl; whole = refl; given = refl }; text = refl; defined = refl; uncounted = refl }

pub free_keys : IsFree with_tenants keys_text keys_table
unfolding everything fits_kind is_free_name begins same_name value_cmp Ieee.lt Ieee.is_nan
free_keys = record { text = refl; name = refl; own = refl; free = refl; keys_free = refl; few = refl; narrow = refl; keys_narrow = refl; formed = refl; fit = refl }

abbrev buckets_text : Octets
buckets_text = codes "CREATE TABLE buckets (tenant TEXT NOT NULL REFERENCES tenants ON DELETE RESTRICT, bucket TEXT NOT NULL, created INTEGER NOT NULL CHECK (created >= 0), state INTEGER NOT NULL CHECK (state >= 0) CHECK (state <= 2), days INTEGER CHECK (days >= 0), PRIMARY KEY (tenant, bucket)) STRICT"

pub makes_buckets : Makes with_keys buckets_text buckets_table
unfolding understood everything
makes_buckets = record { means = record { is = refl; plain = (refl, refl); unlisted = refl; whole = refl; given = refl }; text = refl; defined = refl; uncounted = refl }

pub free_buckets : IsFree with_keys buckets_text buckets_table
unfolding everything fits_kind is_free_name begins same_name value_cmp Ieee.lt Ieee.is_nan
free_buckets = record { text = refl; name = refl; own = refl; free = refl; keys_free = refl; few = refl; narrow = refl; keys_narrow = refl; formed = refl; fit = refl }

abbrev versions_text : Octets
versions_text = codes "CREATE TABLE versions (tenant TEXT NOT NULL, seq INTEGER NOT NULL CHECK (seq >= 0), bucket TEXT NOT NULL, okey BLOB NOT NULL, id INTEGER NOT NULL CHECK (id >= 0), marker INTEGER NOT NULL CHECK (marker >= 0), stamp INTEGER NOT NULL CHECK (stamp >= 0), size INTEGER NOT NULL CHECK (size >= 0), sum TEXT NOT NULL, PRIMARY KEY (tenant, seq), UNIQUE (tenant, bucket, okey, id), FOREIGN KEY (tenant, bucket) REFERENCES buckets ON DELETE RESTRICT, CHECK (marker = 0 OR (size = 0 AND sum = ''))) STRICT"

pub makes_versions : Makes with_buckets versions_text versions_table
unfolding understood everything
makes_versions = record { means = record { is = refl; plain = (refl, refl); unlisted = refl; whole = refl; given = refl }; text = refl; defined = refl; uncounted = refl }

pub free_versions : IsFree with_buckets versions_text versions_table
unfolding everything fits_kind is_free_name begins same_name value_cmp Ieee.lt Ieee.is_nan
free_versions = record { text = refl; name = refl; own = refl; free = refl; keys_free = refl; few = refl; narrow = refl; keys_narrow = refl; formed = refl; fit = refl }

abbrev blocks_text : Octets
blocks_text = codes "CREATE TABLE blocks (digest BLOB NOT NULL, ord INTEGER NOT NULL CHECK (ord >= 0), bytes BLOB NOT NULL, PRIMARY KEY (digest, ord)) STRICT"

pub makes_blocks : Makes with_versions blocks_text blocks_table
unfolding understood everything
makes_blocks = record { means = record { is = refl; plain = (refl, refl); unlisted = refl; whole = refl; given = refl }; text = refl; defined = refl; uncounted = refl }

pub free_blocks : IsFree with_versions blocks_text blocks_table
unfolding everything fits_kind is_free_name begins same_name value_cmp Ieee.lt Ieee.is_nan
free_blocks = record { text = refl; name = refl; own = refl; free = refl; keys_free = refl; few = refl; narrow = refl; keys_narrow = refl; formed = refl; fit = refl }

abbrev refs_text : Octets
refs_text = codes "CREATE TABLE refs (tenant TEXT NOT NULL, body INTEGER NOT NULL CHECK (body >= 0), place INTEGER NOT NULL CHECK (place >= 0), digest BLOB NOT NULL, ord INTEGER NOT NULL CHECK (ord >= 0), size INTEGER NOT NULL CHECK (size >= 0), PRIMARY KEY (tenant, body, place), FOREIGN KEY (digest, ord) REFERENCES blocks ON DELETE RESTRICT) STRICT"

pub makes_refs : Makes with_blocks refs_text refs_table
unfolding understood everything
makes_refs = record { means = record { is = refl; plain = (refl, refl); unlisted = refl; whole = refl; given = refl }; text = refl; defined = refl; uncounted = refl }

pub free_refs : IsFree with_blocks refs_text refs_table
unfolding everything fits_kind is_free_name begins same_name value_cmp Ieee.lt Ieee.is_nan
free_refs = record { text = refl; name = refl; own = refl; free = refl; keys_free = refl; few = refl; narrow = refl; keys_narrow = refl; formed = refl; fit = refl }

abbrev newest_text : Octets
newest_text = codes "CREATE INDEX newest ON versions (tenant, bucket, okey, seq DESC)"

pub makes_newest : Indexes with_refs newest_text 4 (at 7 versions_table) newest
unfolding understood everything
makes_newest = record { means = record { is = refl; plain = (refl, refl); unlisted = refl; whole = refl; given = refl }; text = refl; is_table = refl; defined = refl }

pub free_newest : IsFreeIndex with_refs newest_text (at 7 versions_table) newest
unfolding everything fits_kind is_free_name begins same_name value_cmp Ieee.lt Ieee.is_nan
free_newest = record { text = refl; name = refl; owner = refl; own = refl; free = refl; few = refl; narrow = refl; key_narrow = refl; fit = refl; any = refl }

abbrev refs_by_block_text : Octets
refs_by_block_text = codes "CREATE INDEX refs_by_block ON refs (digest, ord)"

pub makes_refs_by_block : Indexes with_newest refs_by_block_text 6 (at 12 refs_table) refs_by_block
unfolding understood everything
makes_refs_by_block = record { means = record { is = refl; plain = (refl, refl); unlisted = refl; whole = refl; given = refl }; text = refl; is_table = refl; defined = refl }

pub free_refs_by_block : IsFreeIndex with_newest refs_by_block_text (at 12 refs_table) refs_by_block
unfolding everything fits_kind is_free_name begins same_name value_cmp Ieee.lt Ieee.is_nan
free_refs_by_block = record { text = refl; name = refl; owner = refl; own = refl; free = refl; few = refl; narrow = refl; key_narrow = refl; fit = refl; any = refl }

abbrev uploads_text : Octets
uploads_text = codes "CREATE TABLE uploads (tenant TEXT NOT NULL, upload INTEGER NOT NULL CHECK (upload >= 0), bucket TEXT NOT NULL, okey BLOB NOT NULL, begun INTEGER NOT NULL CHECK (begun >= 0), bytes_kept INTEGER NOT NULL CHECK (bytes_kept >= 0) CHECK (bytes_kept <= 4611686018427387904), PRIMARY KEY (tenant, upload), FOREIGN KEY (tenant, bucket) REFERENCES buckets ON DELETE RESTRICT) STRICT"

pub makes_uploads : Makes with_refs_by_block uploads_text uploads_table
unfolding understood everything
makes_uploads = record { means = record { is = refl; plain = (refl, refl); unlisted = refl; whole = refl; given = refl }; text = refl; defined = refl; uncounted = refl }

pub free_uploads : IsFree with_refs_by_block uploads_text uploads_table
unfolding everything fits_kind is_free_name begins same_name value_cmp Ieee.lt Ieee.is_nan
free_uploads = record { text = refl; name = refl; own = refl; free = refl; keys_free = refl; few = refl; narrow = refl; keys_narrow = refl; formed = refl; fit = refl }

abbrev parts_text : Octets
parts_text = codes "CREATE TABLE parts (tenant TEXT NOT NULL, upload INTEGER NOT NULL CHECK (upload >= 0), number INTEGER NOT NULL CHECK (number >= 0), size INTEGER NOT NULL CHECK (size >= 0), sum TEXT NOT NULL, stamp INTEGER NOT NULL CHECK (stamp >= 0), body INTEGER NOT NULL CHECK (body >= 0), PRIMARY KEY (tenant, upload, number), UNIQUE (tenant, body), FOREIGN KEY (tenant, upload) REFERENCES uploads ON DELETE RESTRICT) STRICT"

pub makes_parts : Makes with_uploads parts_text parts_table
unfolding understood everything
makes_parts = record { means = record { is = refl; plain = (refl, refl); unlisted = refl; whole = refl; given = refl }; text = refl; defined = refl; uncounted = refl }

pub free_parts : IsFree with_uploads parts_text parts_table
unfolding everything fits_kind is_free_name begins same_name value_cmp Ieee.lt Ieee.is_nan
free_parts = record { text = refl; name = refl; own = refl; free = refl; keys_free = refl; few = refl; narrow = refl; keys_narrow = refl; formed = refl; fit = refl }

abbrev uploads_by_key_text : Octets
uploads_by_key_text = codes "CREATE INDEX uploads_by_key ON uploads (tenant, bucket, okey, upload)"

pub makes_uploads_by_key : Indexes with_parts uploads_by_key_text 7 (at 16 uploads_table) uploads_by_key
unfolding understood everything
makes_uploads_by_key = record { means = record { is = refl; plain = (refl, refl); unlisted = refl; whole = refl; given = refl }; text = refl; is_table = refl; defined = refl }

pub free_uploads_by_key : IsFreeIndex with_parts uploads_by_key_text (at 16 uploads_table) uploads_by_key
unfolding everything fits_kind is_free_name begins same_name value_cmp Ieee.lt Ieee.is_nan
free_uploads_by_key = record { text = refl; name = refl; owner = refl; own = refl; free = refl; few = refl; narrow = refl; key_narrow = refl; fit = refl; any = refl }

abbrev uploads_by_moment_text : Octets
uploads_by_moment_text = codes "CREATE INDEX uploads_by_moment ON uploads (tenant, bucket, begun, upload)"

pub makes_uploads_by_moment : Indexes with_uploads_by_key uploads_by_moment_text 7 (at 16 uploads_table) uploads_by_moment
unfolding understood everything
makes_uploads_by_moment = record { means = record { is = refl; plain = (refl, refl); unlisted = refl; whole = refl; given = refl }; text = refl; is_table = refl; defined = refl }

pub free_uploads_by_moment : IsFreeIndex with_uploads_by_key uploads_by_moment_text (at 16 uploads_table) uploads_by_moment
unfolding everything fits_kind is_free_name begins same_name value_cmp Ieee.lt Ieee.is_nan
free_uploads_by_moment = record { text = refl; name = refl; owner = refl; own = refl; free = refl; few = refl; narrow = refl; key_narrow = refl; fit = refl; any = refl }

abbrev uses_text : Octets
uses_text = codes "CREATE TABLE uses (digest BLOB NOT NULL, ord INTEGER NOT NULL CHECK (ord >= 0), uses INTEGER NOT NULL CHECK (uses >= 0) CHECK (uses <= 4611686018427387904), PRIMARY KEY (digest, ord)) STRICT"

pub makes_uses : Makes with_uploads_by_moment uses_text uses_table
unfolding understood everything
makes_uses = record { means = record { is = refl; plain = (refl, refl); unlisted = refl; whole = refl; given = refl }; text = refl; defined = refl; uncounted = refl }

pub free_uses : IsFree with_uploads_by_moment uses_text uses_table
unfolding everything fits_kind is_free_name begins same_name value_cmp Ieee.lt Ieee.is_nan
free_uses = record { text = refl; name = refl; own = refl; free = refl; keys_free = refl; few = refl; narrow = refl; keys_narrow = refl; formed = refl; fit = refl }

abbrev uses_by_count_text : Octets
uses_by_count_text = codes "CREATE INDEX uses_by_count ON uses (uses, digest, ord)"

pub makes_uses_by_count : Indexes with_uses uses_by_count_text 9 (at 23 uses_table) uses_by_count
unfolding understood everything
makes_uses_by_count = record { means = record { is = refl; plain = (refl, refl); unlisted = refl; whole = refl; given = refl }; text = refl; is_table = refl; defined = refl }

pub free_uses_by_count : IsFreeIndex with_uses uses_by_count_text (at 23 uses_table) uses_by_count
unfolding everything fits_kind is_free_name begins same_name value_cmp Ieee.lt Ieee.is_nan
free_uses_by_count = record { text = refl; name = refl; owner = refl; own = refl; free = refl; few = refl; narrow = refl; key_narrow = refl; fit = refl; any = refl }

-- these are all of the first schema
pub first_made : with_uses_by_count ≡ first_schema
unfolding everything
first_made = refl

abbrev pub locks_text : Octets
locks_text = codes "CREATE TABLE locks (tenant TEXT NOT NULL, bucket TEXT NOT NULL, PRIMARY KEY (tenant, bucket), FOREIGN KEY (tenant, bucket) REFERENCES buckets ON DELETE RESTRICT) STRICT"

pub makes_locks : Makes first_schema locks_text locks_table
unfolding understood everything
makes_locks = record { means = record { is = refl; plain = (refl, refl); unlisted = refl; whole = refl; given = refl }; text = refl; defined = refl; uncounted = refl }

pub free_locks : IsFree first_schema locks_text locks_table
unfolding everything fits_kind is_free_name begins same_name value_cmp Ieee.lt Ieee.is_nan
free_locks = record { text = refl; name = refl; own = refl; free = refl; keys_free = refl; few = refl; narrow = refl; keys_narrow = refl; formed = refl; fit = refl }

abbrev pub retains_text : Octets
retains_text = codes "CREATE TABLE retains (tenant TEXT NOT NULL, seq INTEGER NOT NULL CHECK (seq >= 0), until INTEGER NOT NULL CHECK (until >= 0), PRIMARY KEY (tenant, seq), FOREIGN KEY (tenant, seq) REFERENCES versions ON DELETE RESTRICT) STRICT"

pub makes_retains : Makes with_locks retains_text retains_table
unfolding understood everything
makes_retains = record { means = record { is = refl; plain = (refl, refl); unlisted = refl; whole = refl; given = refl }; text = refl; defined = refl; uncounted = refl }

pub free_retains : IsFree with_locks retains_text retains_table
unfolding everything fits_kind is_free_name begins same_name value_cmp Ieee.lt Ieee.is_nan
free_retains = record { text = refl; name = refl; own = refl; free = refl; keys_free = refl; few = refl; narrow = refl; keys_narrow = refl; formed = refl; fit = refl }

-- and these of the second
pub second_made : with_retains ≡ second_schema
unfolding everything
second_made = refl

abbrev pub tallies_text : Octets
tallies_text = codes "CREATE TABLE tallies (tenant TEXT NOT NULL PRIMARY KEY REFERENCES tenants ON DELETE RESTRICT, versions INTEGER NOT NULL CHECK (versions >= 0) CHECK (versions <= 4611686018427387904), markers INTEGER NOT NULL CHECK (markers >= 0) CHECK (markers <= 4611686018427387904), objects INTEGER NOT NULL CHECK (objects >= 0) CHECK (objects <= 4611686018427387904)) STRICT"

pub makes_tallies : Makes second_schema tallies_text tallies_table
unfolding understood everything
makes_tallies = record { means = record { is = refl; plain = (refl, refl); unlisted = refl; whole = refl; given = refl }; text = refl; defined = refl; uncounted = refl }

pub free_tallies : IsFree second_schema tallies_text tallies_table
unfolding everything fits_kind is_free_name begins same_name value_cmp Ieee.lt Ieee.is_nan
free_tallies = record { text = refl; name = refl; own = refl; free = refl; keys_free = refl; few = refl; narrow = refl; keys_narrow = refl; formed = refl; fit = refl }

-- and these of the third
pub third_made : with_tallies ≡ third_schema
unfolding everything
third_made = refl

abbrev pub packs_text : Octets
packs_text = codes "CREATE TABLE packs (pack INT NOT NULL PRIMARY KEY CHECK (pack >= 0), length INTEGER NOT NULL CHECK (length >= 0) CHECK (length <= 4611686018427387904), live INTEGER NOT NULL CHECK (live >= 0) CHECK (live <= 4611686018427387904)) STRICT"

pub makes_packs : Makes third_schema packs_text packs_table
unfolding understood everything
makes_packs = record { means = record { is = refl; plain = (refl, refl); unlisted = refl; whole = refl; given = refl }; text = refl; defined = refl; uncounted = refl }

pub free_packs : IsFree third_schema packs_text packs_table
unfolding everything fits_kind is_free_name begins same_name value_cmp Ieee.lt Ieee.is_nan
free_packs = record { text = refl; name = refl; own = refl; free = refl; keys_free = refl; few = refl; narrow = refl; keys_narrow = refl; formed = refl; fit = refl }

abbrev pub placed_text : Octets
placed_text = codes "CREATE TABLE placed (digest BLOB NOT NULL, ord INTEGER NOT NULL CHECK (ord >= 0), pack INTEGER NOT NULL CHECK (pack >= 0), place INTEGER NOT NULL CHECK (place >= 0) CHECK (place <= 4611686018427387904), size INTEGER NOT NULL CHECK (size >= 0) CHECK (size <= 4611686018427387904), sum INTEGER NOT NULL, PRIMARY KEY (digest, ord), UNIQUE (pack, place), FOREIGN KEY (digest, ord) REFERENCES blocks ON DELETE RESTRICT, FOREIGN KEY (pack) REFERENCES packs ON DELETE RESTRICT) STRICT"

pub makes_placed : Makes with_packs placed_text placed_table
unfolding understood everything
makes_placed = record { means = record { is = refl; plain = (refl, refl); unlisted = refl; whole = refl; given = refl }; text = refl; defined = refl; uncounted = refl }

pub free_placed : IsFree with_packs placed_text placed_table
unfolding everything fits_kind is_free_name begins same_name value_cmp Ieee.lt Ieee.is_nan
free_placed = record { text = refl; name = refl; own = refl; free = refl; keys_free = refl; few = refl; narrow = refl; keys_narrow = refl; formed = refl; fit = refl }

abbrev pub notes_text : Octets
notes_text = codes "CREATE TABLE notes (tenant TEXT NOT NULL, seq INTEGER NOT NULL CHECK (seq >= 0), note BLOB NOT NULL, PRIMARY KEY (tenant, seq), FOREIGN KEY (tenant, seq) REFERENCES versions ON DELETE RESTRICT) STRICT"

pub makes_notes : Makes with_placed notes_text notes_table
unfolding understood everything
makes_notes = record { means = record { is = refl; plain = (refl, refl); unlisted = refl; whole = refl; given = refl }; text = refl; defined = refl; uncounted = refl }

pub free_notes : IsFree with_placed notes_text notes_table
unfolding everything fits_kind is_free_name begins same_name value_cmp Ieee.lt Ieee.is_nan
free_notes = record { text = refl; name = refl; own = refl; free = refl; keys_free = refl; few = refl; narrow = refl; keys_narrow = refl; formed = refl; fit = refl }

abbrev pub upload_notes_text : Octets
upload_notes_text = codes "CREATE TABLE upload_notes (tenant TEXT NOT NULL, upload INTEGER NOT NULL CHECK (upload >= 0), note BLOB NOT NULL, PRIMARY KEY (tenant, upload), FOREIGN KEY (tenant, upload) REFERENCES uploads ON DELETE RESTRICT) STRICT"

pub makes_upload_notes : Makes with_notes upload_notes_text upload_notes_table
unfolding understood everything
makes_upload_notes = record { means = record { is = refl; plain = (refl, refl); unlisted = refl; whole = refl; given = refl }; text = refl; defined = refl; uncounted = refl }

pub free_upload_notes : IsFree with_notes upload_notes_text upload_notes_table
unfolding everything fits_kind is_free_name begins same_name value_cmp Ieee.lt Ieee.is_nan
free_upload_notes = record { text = refl; name = refl; own = refl; free = refl; keys_free = refl; few = refl; narrow = refl; keys_narrow = refl; formed = refl; fit = refl }

abbrev pub rights_text : Octets
rights_text = codes "CREATE TABLE rights (tenant TEXT NOT NULL, name TEXT NOT NULL, rights TEXT NOT NULL, PRIMARY KEY (tenant, name), FOREIGN KEY (tenant, name) REFERENCES keys ON DELETE RESTRICT) STRICT"

pub makes_rights : Makes with_upload_notes rights_text rights_table
unfolding understood everything
makes_rights = record { means = record { is = refl; plain = (refl, refl); unlisted = refl; whole = refl; given = refl }; text = refl; defined = refl; uncounted = refl }

pub free_rights : IsFree with_upload_notes rights_text rights_table
unfolding everything fits_kind is_free_name begins same_name value_cmp Ieee.lt Ieee.is_nan
free_rights = record { text = refl; name = refl; own = refl; free = refl; keys_free = refl; few = refl; narrow = refl; keys_narrow = refl; formed = refl; fit = refl }

abbrev pub garbage_text : Octets
garbage_text = codes "CREATE TABLE garbage (id INTEGER PRIMARY KEY CHECK (id = 1), bytes INTEGER NOT NULL CHECK (bytes >= 0) CHECK (bytes <= 4611686018427387904)) STRICT"

pub makes_garbage : Makes with_rights garbage_text garbage_table
unfolding understood everything
makes_garbage = record { means = record { is = refl; plain = (refl, refl); unlisted = refl; whole = refl; given = refl }; text = refl; defined = refl; uncounted = refl }

pub free_garbage : IsFree with_rights garbage_text garbage_table
unfolding everything fits_kind is_free_name begins same_name value_cmp Ieee.lt Ieee.is_nan
free_garbage = record { text = refl; name = refl; own = refl; free = refl; keys_free = refl; few = refl; narrow = refl; keys_narrow = refl; formed = refl; fit = refl }

-- and these of the fourth
pub fourth_made : with_garbage ≡ fourth_schema
unfolding everything
fourth_made = refl

abbrev pub unneeded_text : Octets
unneeded_text = codes "CREATE TABLE unneeded (id INTEGER PRIMARY KEY CHECK (id = 1), bytes INTEGER NOT NULL CHECK (bytes >= 0) CHECK (bytes <= 4611686018427387904)) STRICT"

pub makes_unneeded : Makes fourth_schema unneeded_text unneeded_table
unfolding understood everything
makes_unneeded = record { means = record { is = refl; plain = (refl, refl); unlisted = refl; whole = refl; given = refl }; text = refl; defined = refl; uncounted = refl }

pub free_unneeded : IsFree fourth_schema unneeded_text unneeded_table
unfolding everything fits_kind is_free_name begins same_name value_cmp Ieee.lt Ieee.is_nan
free_unneeded = record { text = refl; name = refl; own = refl; free = refl; keys_free = refl; few = refl; narrow = refl; keys_narrow = refl; formed = refl; fit = refl }

-- and these of the fifth
pub all_made : with_unneeded ≡ host_schema
unfolding everything
all_made = refl

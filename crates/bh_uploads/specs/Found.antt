-- The values of a tenant's uploads, and their numbers.
use Rattle.std.specs.Prelude.{ℕ, Bool, false, ◌&&◌, bytes_eq, List, flat_map, find, Option, option_map, Result, Ok, Err, if◌then◌else◌}
use Rattle.std.specs.String.{string_bytes}
use Rattle.std.specs.Option.{option_map_or}
use Rattle.std.specs.Result.{result_map_both}
use Rattle.bh_types.specs.Outcomes.{◌>>=◌, require}
use Rattle.bh_types.specs.declared.bucket_state.BucketState.{BucketState}
use Rattle.bh_types.specs.declared.id.UploadId.{UploadId}
use Rattle.bh_types.specs.declared.refusal.Refusal.{Refusal}
use Rattle.bh_types.specs.declared.refusal.Refusal.TheVariants.{NoSuchUpload, CounterExhausted}
use Rattle.bh_model.specs.Counting.{can_give}
use Rattle.bh_model.specs.Parts.{Naming, completed}
use Rattle.bh_model.specs.State.{Octets, Content, Content.Body, State}
use Rattle.bh_model.specs.Operations.{Outcome, tenant_bucket}
use Rattle.bh_model.specs.Uploads.{find_upload, upload_part}
use Rattle.bh_tables.specs.Typed.{Tables}
use Rattle.bh_tables.specs.Bodies.{whole}
use Rattle.bh_tables.specs.Shown.{is_upload, is_part}
use Rattle.bh_objects.specs.Found.{counts_in, room_in}
use Rattle.bh_uploads.specs.Rows.{SeenUpload, seen_upload}
use Rattle.bh_uploads.specs.declared.joining.Joined.{Joined}
use Rattle.bh_uploads.specs.declared.parts.NewPart.{NewPart}

-- the rule of a tenant's bucket, if it has one
abbrev pub rule_in : Octets → Option State → Result (Option ℕ) Refusal
rule_in name s = result_map_both (λ f. f.1.days) (λ refusal. refusal) (tenant_bucket name s)

-- a counter's next number
abbrev pub given : ℕ → Result ℕ Refusal
given next = if can_give next then Ok next else Err CounterExhausted

-- the number of the tenant's next upload, and that of its next part
abbrev pub next_upload_in : Option State → Result ℕ Refusal
next_upload_in s = do
  c ← counts_in s
  given c.upload

abbrev pub next_entry_in : Option State → Result ℕ Refusal
next_entry_in s = do
  c ← counts_in s
  given c.entry

-- the bytes of the part with a number, if there is one
abbrev pub part_bytes_in : Octets → ℕ → ℕ → Tables → ℕ
part_bytes_in tenant upload number tables = option_map_or (λ p. p.size) (find (is_part tenant upload number) tables.parts) 0

-- the entry number under which that part's bytes are stored
abbrev pub replaced_body : Octets → ℕ → ℕ → Tables → Option ℕ
replaced_body tenant upload number tables = option_map (λ p. p.body) (find (is_part tenant upload number) tables.parts)

-- the number of a new part of a size, in place of one of another size
abbrev pub part_entry_in : ℕ → ℕ → Option State → Result ℕ Refusal
part_entry_in replaced added s = do
  _ ← room_in replaced added s
  next_entry_in s

-- whether an upload is for this bucket and this key
abbrev pub is_begun_for : Octets → Octets → SeenUpload → Bool
is_begun_for bucket key u = bytes_eq u.bucket bucket && bytes_eq u.key key

-- whether the tenant's upload of a number exists, and is for them
abbrev pub upload_there : Octets → Octets → Octets → ℕ → Tables → Result (Unit {0}) Refusal
upload_there tenant bucket key number tables =
    require (option_map_or (λ u. is_begun_for bucket key (seen_upload u))
    (find (is_upload tenant number) tables.uploads) false) NoSuchUpload

-- the upload of a key of a bucket: the bucket's state, and the upload's number
abbrev pub upload_in : Octets → Octets → Option UploadId → Option State → Result (BucketState × ℕ) Refusal
upload_in name key upload s = result_map_both (λ f. (f.bucket.mode, f.number)) (λ refusal. refusal) (find_upload name key upload s)

-- with the object that its named parts make
abbrev pub completion_in : ℕ → Octets → Octets → Option UploadId → List Naming → Option State → Result (BucketState × ℕ × Content) Refusal
completion_in least name key upload names s = do
  f ← find_upload name key upload s
  content ← completed least f.upload.parts names
  Ok (f.bucket.mode, f.number, content)

-- the object of bodies, one after another
abbrev pub joined_bytes : Octets → Tables → List ℕ → Octets
joined_bytes tenant tables bodies = flat_map (λ body. whole tables.refs tables.blocks (tenant, body)) bodies

abbrev pub joined_content : Octets → Tables → Joined → Content
joined_content tenant tables j = Body (joined_bytes tenant tables j.bodies.items) (string_bytes j.checksum)

-- the machine's step of an uploaded part, by the received bytes and the optional checksum
abbrev pub part_step : NewPart → Option Octets → Octets → Option State → Result Outcome Refusal
part_step part given bytes = upload_part part.at part.upload.bucket.now part.upload.key.now part.upload.upload part.number bytes given

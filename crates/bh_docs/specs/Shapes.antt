-- The shapes of request documents, over JSON data as serde_json reads it.
use Rattle.std.specs.Prelude.{ℕ, ℤ, Bool, ◌==◌, ◌&&◌, nat_le, List, [], ◌∷◌, codes, Option, Some, None, option_map, if◌then◌else◌}
use Rattle.std.specs.Option.{option_or}
use Rattle.std.specs.Str.{bytes_eq, is_utf8}
use Rattle.serde_json.specs.Data.{Data, Items, no_items, item, Members}
use Rattle.serde_json.specs.Events.{items_len, members_len}
use Rattle.serde_json.specs.Find.{get_member, as_array, as_integer, as_number, as_object, as_str}
use Rattle.serde_json.specs.Read.{read}
use Rattle.bh_types.specs.declared.bucket_state.BucketState.{BucketState}
use Rattle.bh_types.specs.declared.bucket_state.BucketState.TheVariants.{Enabled, Suspended}
use Rattle.bh_docs.specs.declared.shape.PartShape.{PartShape}
use Rattle.bh_docs.specs.declared.shape.RetentionShape.{RetentionShape}

infixl 10 ◌>>=◌
abbrev pub ◌>>=◌ : {A B : Type 0} → Option A → (A → Option B) → Option B
None >>= f = None
(Some a) >>= f = f a

-- the data of a body that is JSON in UTF-8
-- RFC 8259, section 8.1: UTF-8
abbrev pub data_of : List ℕ → Option Data
data_of body = if is_utf8 body then read body else None

-- ---- parts of a shape

-- the members of an object with that many of them
abbrev pub members_if : ℕ → Members → Option Members
members_if count members = if members_len members == count then Some members else None

abbrev pub members_of : ℕ → Data → Option Members
members_of count d = as_object d >>= members_if count

-- the value of an object's only member, if it has this name
abbrev pub only_member : List ℕ → Data → Option Data
only_member name d = members_of 1 d >>= get_member name

-- the values of an object's only two members, if they have these names
abbrev pub two_members : List ℕ → List ℕ → Data → Option (Data × Data)
two_members first second d = do
  members ← members_of 2 d
  a ← get_member first members
  b ← get_member second members
  Some (a, b)

abbrev pub only_item : Items → Option Data
only_item no_items = None
only_item (item d no_items) = Some d
only_item (item d (item e rest)) = None

-- an integer that fits in 64 bits, with a sign or without
abbrev pub whole : Data → Option ℤ
whole d = as_number d >>= as_integer

-- ---- {"Status":"Enabled"} or {"Status":"Suspended"}

abbrev pub state_named : List ℕ → Option BucketState
state_named text =
    if bytes_eq text (codes "Enabled") then Some Enabled
    else if bytes_eq text (codes "Suspended") then Some Suspended
    else None

-- Amazon S3 API Reference, PutBucketVersioning, as JSON
abbrev pub versioning_shape : Data → Option BucketState
versioning_shape d = do
  status ← only_member (codes "Status") d
  text ← as_str status
  state_named text

-- ---- {"Rules":[{"AbortIncompleteMultipartUpload":{"DaysAfterInitiation":n},"Status":"Enabled"}]}

abbrev pub if_enabled : Data → ℤ → Option ℤ
if_enabled status days = do
  text ← as_str status
  if bytes_eq text (codes "Enabled") then Some days else None

abbrev pub rule_shape : Data → Option ℤ
rule_shape d = do
  members ← two_members (codes "AbortIncompleteMultipartUpload") (codes "Status") d
  number ← only_member (codes "DaysAfterInitiation") members.0
  days ← whole number
  if_enabled members.1 days

-- Amazon S3 API Reference, PutBucketLifecycleConfiguration, as JSON
abbrev pub lifecycle_shape : Data → Option ℤ
lifecycle_shape d = do
  rules ← only_member (codes "Rules") d
  items ← as_array rules
  rule ← only_item items
  rule_shape rule

-- ---- {"Mode":text,"RetainUntilDate":text}

-- a mode and a date, as any texts
abbrev pub retention_view : RetentionShape → List ℕ × List ℕ
retention_view told = (told.mode.now, told.date.now)

-- Amazon S3 API Reference, PutObjectRetention, as JSON
abbrev pub retention_shape : Data → Option (List ℕ × List ℕ)
retention_shape d = do
  members ← two_members (codes "Mode") (codes "RetainUntilDate") d
  mode ← as_str members.0
  date ← as_str members.1
  Some (mode, date)

-- ---- {"Parts":[part,..]}

-- a part's number, and its checksum if one is given
abbrev pub Part : Type 0
Part = ℤ × Option (List ℕ)

abbrev pub part_view : PartShape → Part
part_view part = (part.number, option_map (λ sum. sum.now) part.sum)

-- {"PartNumber":n}
abbrev pub plain_part : Data → Option Part
plain_part d = do
  number ← only_member (codes "PartNumber") d
  n ← whole number
  Some (n, None)

-- {"ChecksumSHA256":text,"PartNumber":n}
abbrev pub checked_part : Data → Option Part
checked_part d = do
  members ← two_members (codes "ChecksumSHA256") (codes "PartNumber") d
  text ← as_str members.0
  n ← whole members.1
  Some (n, Some text)

abbrev pub part_shape : Data → Option Part
part_shape d = option_or (plain_part d) (checked_part d)

abbrev pub parts_shape : Items → Option (List Part)
parts_shape no_items = Some []
parts_shape (item d rest) = do
  part ← part_shape d
  parts ← parts_shape rest
  Some (part ∷ parts)

-- 1 to 10,000
abbrev pub has_part_count : Items → Bool
has_part_count items = nat_le 1 (items_len items) && nat_le (items_len items) 10000

abbrev pub listed_parts : Data → Option Items
listed_parts d = do
  parts ← only_member (codes "Parts") d
  items ← as_array parts
  if has_part_count items then Some items else None

-- Amazon S3 API Reference, CompleteMultipartUpload, as JSON
abbrev pub complete_shape : Data → Option (List Part)
complete_shape d = listed_parts d >>= parts_shape

-- The access key that an id names. The id is `tenant$name` (Ceph Object Gateway, "Multitenancy": a user in a tenant's namespace is written
-- `tenant$user`).
use Rattle.std.specs.Prelude.{ℕ, ◌+◌, Bool, ◌==◌, List, take, drop, position, if◌then◌else◌, Option, Some, None, option_map}
use Rattle.std.specs.Prelude.{option_and_then}
use Rattle.bh_types.specs.Names.{is_tenant_name, is_key_name}
use Rattle.bh_types.specs.declared.access_key.AccessKeyId.{AccessKeyId}

-- 36 is '$'
abbrev pub is_dollar : ℕ → Bool
is_dollar b = b == 36

-- a text, if it is a tenant's name
abbrev pub tenant_named : List ℕ → Option (List ℕ)
tenant_named text = if is_tenant_name text then Some text else None

-- a text, if it is a key's name
abbrev pub key_named : List ℕ → Option (List ℕ)
key_named text = if is_key_name text then Some text else None

-- the key of a tenant and a name: none without a tenant's name
abbrev pub access_key_of : List ℕ → List ℕ → Option AccessKeyId
access_key_of tenant name = option_map (λ t. record { tenant = t; name = key_named name }) (tenant_named tenant)

-- the tenant is the text before the first '$', the key's name the text after it. Either may be
-- missing
abbrev pub access_key : List ℕ → Option AccessKeyId
access_key id = option_and_then (λ i. access_key_of (take i id) (drop (i + 1) id)) (position is_dollar id)

-- the tenant of an access key. Neither the tenant nor the key need exist
abbrev pub tenant_of_key : List ℕ → Option (List ℕ)
tenant_of_key id = option_map (λ (key : AccessKeyId). key.tenant) (access_key id)

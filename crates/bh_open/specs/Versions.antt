-- The known versions of a host.
use Rattle.std.specs.Prelude.{◌≡◌, ◌≢◌, ◌⊎◌, ℕ, Option, MatchOption}
use Rattle.sqlite.specs.Schema.{Schema}
use Rattle.sqlite.specs.Effect.{Database}
use Rattle.bh_tables.specs.Schema.{first_schema, second_schema, third_schema, fourth_schema, host_schema}
use Rattle.bh_tables.specs.Typed.{IsHost, IsFirstHost, IsSecondHost, IsThirdHost, IsFourthHost}
use Rattle.bh_open.specs.declared.found.HostVersion.{HostVersion}
use Rattle.bh_open.specs.declared.found.HostVersion.TheVariants.{First, Second, Third, Fourth, Fifth}

abbrev pub number_of : HostVersion → ℕ
number_of First = 1
number_of Second = 2
number_of Third = 3
number_of Fourth = 4
number_of Fifth = 5

abbrev pub schema_of : HostVersion → Schema
schema_of First = first_schema
schema_of Second = second_schema
schema_of Third = third_schema
schema_of Fourth = fourth_schema
schema_of Fifth = host_schema

-- of a host that is to be upgraded, and of any
abbrev pub IsEarlierSchema : Schema → Type 0
IsEarlierSchema schema = (schema ≡ first_schema) ⊎ ((schema ≡ second_schema) ⊎ ((schema ≡ third_schema) ⊎ (schema ≡ fourth_schema)))

abbrev pub IsHostsSchema : Schema → Type 0
IsHostsSchema schema =
    (schema ≡ first_schema) ⊎ ((schema ≡ second_schema) ⊎ ((schema ≡ third_schema) ⊎ ((schema ≡ fourth_schema) ⊎ (schema ≡ host_schema))))

-- it has the schema, and rows that are typed rows
abbrev pub IsHostWith : HostVersion → Database → Type 0
IsHostWith First db = IsFirstHost db
IsHostWith Second db = IsSecondHost db
IsHostWith Third db = IsThirdHost db
IsHostWith Fourth db = IsFourthHost db
IsHostWith Fifth db = IsHost db

-- of any version
abbrev pub IsAnyHost : Database → Type 0
IsAnyHost db = (version : HostVersion) × IsHostWith version db

-- rows under the schema of an earlier version are typed rows
pub record IsTypedIfEarlier (db : Database) : Type 0 where
  pub first : db.schema ≡ first_schema → IsFirstHost db
  pub second : db.schema ≡ second_schema → IsSecondHost db
  pub third : db.schema ≡ third_schema → IsThirdHost db
  pub fourth : db.schema ≡ fourth_schema → IsFourthHost db

-- the version of a host whose tables have this schema, if they are a host's
abbrev pub IsVersionOf : Schema → Option HostVersion → Type 0
IsVersionOf schema found = MatchOption found ((version : HostVersion) → schema ≢ schema_of version) (λ version. schema ≡ schema_of version)

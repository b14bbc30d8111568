-- Remembered facts of a host's tables.
use Rattle.std.specs.Prelude.{ℕ, Bool, true, false, nat_eq, ◌&&◌, List, [], Option, None, option_and_then, is_none, is_ok}
use Rattle.std.specs.List.{list_all}
use Rattle.std.specs.Option.{option_map_or}
use Rattle.std.specs.FinMap.{entries, get}
use Rattle.bh_types.specs.BucketStates.{state_number}
use Rattle.bh_types.specs.declared.bucket_state.BucketState.{BucketState}
use Rattle.bh_model.specs.Credentials.{authenticate}
use Rattle.bh_model.specs.State.{Octets, Bucket, State}
use Rattle.bh_tables.specs.Typed.{Tables}
use Rattle.bh_view.specs.View.{view, latest_of}
use Rattle.bh_memo.specs.declared.facts.KnownBucket.{KnownBucket}
use Rattle.bh_memo.specs.declared.facts.KnownSecret.{KnownSecret}

-- the last stamp, tenants without a rule, the states of buckets, and the secrets of access keys
pub record Facts : Type 0 where
  pub latest : Option ℕ
  pub quiet : List Octets
  pub buckets : List KnownBucket
  pub secrets : List KnownSecret

abbrev pub nothing : Facts
nothing = record { latest = None; quiet = []; buckets = []; secrets = [] }

-- ---- whether they are true

-- no bucket of a tenant has a rule
abbrev pub has_no_rule : Option State → Bool
has_no_rule s = option_map_or (λ (t : State). list_all (λ (e : Octets × Bucket). is_none e.1.days) (entries t.buckets)) s true

-- a tenant has a bucket of this name, in this state
abbrev pub has_state : Octets → BucketState → Option State → Bool
has_state name state s = option_map_or (λ (b : Bucket). nat_eq (state_number b.mode) (state_number state))
    (option_and_then (λ (t : State). get t.buckets name) s) false

-- an access key is accepted with this secret
abbrev pub is_accepted : KnownSecret → Option State → Bool
is_accepted known s = is_ok (authenticate known.key known.secret s)

-- it is the last stamp, if there is one
abbrev pub is_latest : Option ℕ → Tables → Bool
is_latest latest tables = option_map_or (λ n. nat_eq n (latest_of tables)) latest true

abbrev pub is_quiet : Tables → Octets → Bool
is_quiet tables t = has_no_rule (view tables t)

abbrev pub is_known : Tables → KnownBucket → Bool
is_known tables b = has_state b.bucket b.state (view tables b.tenant)

abbrev pub is_secret : Tables → KnownSecret → Bool
is_secret tables k = is_accepted k (view tables k.key.tenant)

-- so is each fact
abbrev pub holds : Facts → Tables → Bool
holds facts tables =
    is_latest facts.latest tables
    && (list_all (is_quiet tables) facts.quiet
    && (list_all (is_known tables) facts.buckets
    && list_all (is_secret tables) facts.secrets))

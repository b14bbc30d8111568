-- When a row is the one of a host of this version and these limits.
use Rattle.std.proofs.Common.{arith, ◌≡◌, ◌≢◌, ℕ, List, [], ◌∷◌, length, map, slice_get, Some, refl, sym, ap, ◌∙◌, subst}
use Rattle.sqlite.specs.Order.{Row}
use Rattle.bh_types.specs.BlockDigests.{digest_number}
use Rattle.bh_types.specs.Limits.{HostLimits, AreLimits}
use Rattle.bh_types.specs.declared.block_digest.BlockDigest.{BlockDigest}
use Rattle.bh_tables.specs.Typed.{HostRow, Tables}
use Rattle.bh_view.specs.View.{latest_of, limits_in}
use Rattle.bh_tables.specs.Hosts.{with_version}
use Rattle.bh_open.specs.Opening.{digest_in, IsRowOf, Tells, shown_row}
use Rattle.bh_open.specs.Versions.{number_of}
use Rattle.bh_open.specs.declared.found.FoundHost.{FoundHost}
use Rattle.bh_open.specs.declared.found.HostVersion.{HostVersion}
use Rattle.bh_open.specs.declared.found.HostVersion.TheVariants.{Fifth}

same_row : (n : ℕ) (limits : HostLimits) (h : HostRow) → (it : IsRowOf n limits (h ∷ [])) → it.row ≡ h
same_row n limits h it = let e = it.alone in cc

pub other_version : (h : HostRow) (n : ℕ) → ¬ (h.version ≡ n) → (limits : HostLimits) → ¬ IsRowOf n limits (h ∷ [])
other_version h n other limits it = other (ap (λ (r : HostRow). r.version) (sym (same_row n limits h it)) ∙ it.version_is)

pub out_of_range : (h : HostRow) → ¬ AreLimits h.min_part h.max_body → (n : ℕ) (limits : HostLimits) → ¬ IsRowOf n limits (h ∷ [])
out_of_range h out n limits it = out (subst (λ (r : HostRow). AreLimits r.min_part r.max_body) (same_row n limits h it) it.range)

pub other_digest : (h : HostRow) → ((digest : BlockDigest) → digest_number digest ≢ h.digest) → (n : ℕ) (limits : HostLimits) → ¬ IsRowOf n limits (h ∷ [])
other_digest h other n limits it = other it.named (it.number ∙ ap (λ (r : HostRow). r.digest) (same_row n limits h it))

pub in_range : (v : HostVersion) (h : HostRow) (limits : HostLimits) (latest : ℕ) (named : BlockDigest) → h.version ≡ number_of v → h.latest ≡ latest → AreLimits h.min_part h.max_body
    → limits ≡ record { min_part = h.min_part; max_body = h.max_body } → digest_number named ≡ h.digest → Tells v (h ∷ []) (record { version = v; limits = limits; digest = named; latest = latest })
in_range v h limits latest named version same range are number = (record { row = h; alone = refl; version_is = version; range = range; limits_are = are; named = named; number = number }, sym same, number)

pub limits_kept : (tables : Tables) (n : ℕ) (limits : HostLimits) → IsRowOf n limits tables.host → limits_in tables ≡ limits
unfolding limits_in
limits_kept tables n limits it = ap (λ l. limits_in (record tables { host = l })) it.alone ∙ sym it.limits_are

pub latest_kept : (tables : Tables) (n : ℕ) (limits : HostLimits) → (it : IsRowOf n limits tables.host) → it.row.latest ≡ latest_of tables
unfolding latest_of
latest_kept tables n limits it = ap (λ l. latest_of (record tables { host = l })) (sym it.alone)

pub digest_kept : (tables : Tables) (n : ℕ) (limits : HostLimits) → (it : IsRowOf n limits tables.host) → it.row.digest ≡ digest_in tables
unfolding digest_in
digest_kept tables n limits it = ap (λ l. digest_in (record tables { host = l })) (sym it.alone)

-- the row of a host that is brought over
pub told_brought : (v : HostVersion) (rows : List HostRow) (found : FoundHost) → Tells v rows found → Tells Fifth (map (with_version 5) rows) found
told_brought v rows found it = (
  record { row = with_version 5 it.0.row; alone = ap (map (with_version 5)) it.0.alone; version_is = refl; range = it.0.range; limits_are = it.0.limits_are; named = it.0.named; number = it.0.number },
  it.1,
  it.2,
)

-- ---- the rows that are read

-- one row is shown: it is that of the one that is there
pub sole : {P : Type 0} (hosts : List HostRow) (rows : List Row) (row : Row) → rows ≡ map shown_row hosts → length rows ≡ 1 → Some row ≡ slice_get rows 0
    → ((h : HostRow) → hosts ≡ h ∷ [] → row ≡ shown_row h → P) → P
sole [] rows row all one first use_it = absurd (cc)
sole (h ∷ []) rows row all one first use_it = use_it h refl (let e = first ∙ ap (λ (l : List Row). slice_get l 0) all in cc)
sole (h ∷ k ∷ hosts) rows row all one first use_it = let e = ap length (sym all) ∙ one in absurd (omega (arith, e))

-- none or several are shown: no host has them
pub not_sole : (hosts : List HostRow) (rows : List Row) → rows ≡ map shown_row hosts → length rows ≢ 1 → (n : ℕ) (limits : HostLimits) → ¬ IsRowOf n limits hosts
not_sole hosts rows all several n limits it = several (ap length all ∙ ap (λ l. length (map shown_row l)) it.alone)

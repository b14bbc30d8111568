-- The last stamp, read and written.
use Rattle.std.proofs.Common.{arith, ◌≡◌, ◌≤◌, ◌<◌, ℕ, max, cond, Ok, Err, true, find, [], ◌∷◌, map, Option, option_map, unwrap_or, refl, sym, ap, ◌∙◌, subst}
use Rattle.sqlite.specs.State.{State}
use Rattle.bh_types.specs.Limits.{HostLimits}
use Rattle.std.proofs.lemmas.Bool.{le-leb}
use Rattle.bh_types.specs.declared.refusal.Refusal.TheVariants.{ClockOutOfRange}
use Rattle.bh_model.specs.Runs.{last_reading, stamp_of}
use Rattle.bh_model.specs.State.{Octets}
use Rattle.bh_tables.specs.Typed.{Tables, tables_in}
use Rattle.bh_view.specs.Bodies.{IsSoundHost}
use Rattle.bh_view.specs.View.{latest_of, with_latest}
use Rattle.bh_view.specs.Becomes.{IsStamped}
use Rattle.bh_view.proofs.HostChanges.{latest_is, stamped, stamped_again}
use Rattle.bh_storage.specs.Calls.{IsWorking, Stamps}
use Rattle.bh_base.specs.Layer.{standing, Holds}
use Rattle.bh_schema.specs.Rows.{latest_in, with_stamp}
use Rattle.bh_schema.specs.Storage.{seen_in}
use Rattle.bh_schema.proofs.Storing.{shows_in, holds_seen}

-- what is read is the last stamp
pub latest_read : {digest : Octets → Octets} (l : HostLimits) (s : State) (found : Option ℕ) (m : ℕ) → IsWorking (IsSoundHost digest) (seen_in l s) → found ≡ option_map latest_in (find (λ _. true) (tables_in (standing s).now).host) → m ≡ unwrap_or found 0 → m ≡ latest_of (seen_in l s).now
latest_read l s found m working is read =
    let row = working.sound.sound.host.row in
    let host : (tables_in (standing s).now).host ≡ row ∷ [] = ap (λ (t : Tables). t.host) (sym (shows_in _ s working)) ∙ working.sound.sound.host.alone in
    read ∙ ap (λ o. unwrap_or o 0) (is ∙ ap (λ l. option_map latest_in (find (λ _. true) l)) host) ∙ sym (latest_is (seen_in l s).now row working.sound.sound.host.alone)

-- of a reading in its range
stamp_is : (reading last m : ℕ) → reading ≤ last_reading → m ≡ max reading last → stamp_of reading last ≡ Ok m
stamp_is reading last m top is = ap (λ b. cond b (Ok (max reading last)) (Err ClockOutOfRange)) (le-leb _ _ top) ∙ ap (λ x. Ok x) (sym is)

-- a reading that is not past the last stamp
pub stamp_kept : {digest : Octets → Octets} (l : HostLimits) (old new : State) (reading m : ℕ) → IsWorking (IsSoundHost digest) (seen_in l old) → seen_in l new ≡ seen_in l old → m ≡ latest_of (seen_in l old).now → reading ≤ m → reading ≤ last_reading → Stamps reading m (seen_in l old).now (seen_in l new).now
stamp_kept l old new reading m working same is low top =
    let tables = (seen_in l old).now in
    let now : (seen_in l new).now ≡ tables = ap (λ (x : Rattle.bh_storage.specs.Calls.Seen). x.now) same in
    subst (λ t. Stamps reading m tables t) (sym now) (record {
      stamp = stamp_is reading (latest_of tables) m top (omega (arith, is, low));
      is = sym (ap (λ n. with_latest n tables) is ∙ stamped_again tables working.sound.sound);
      latest = sym is;
      views = λ u. refl;
    })

-- a reading past it
pub stamp_written : {digest : Octets → Octets} (l : HostLimits) (old new : State) (reading m : ℕ) → IsWorking (IsSoundHost digest) (seen_in l old) → m ≡ latest_of (seen_in l old).now → m < reading → reading ≤ last_reading
    → Holds (record (tables_in (standing old).now) { host = map (with_stamp reading) (tables_in (standing old).now).host }) (standing new) → IsStamped reading (seen_in l old).now (seen_in l new).now × ((seen_in l new).now ≡ with_latest reading (seen_in l old).now)
stamp_written l old new reading m working is high top h =
    let now : (seen_in l new).now ≡ with_latest reading (seen_in l old).now = (holds_seen _ _ new h).0 ∙ ap (with_latest reading) (sym (shows_in _ old working)) in
    (stamped (seen_in l old).now (seen_in l new).now reading working.sound.sound (omega (arith, is)) top now, now)

pub stamps_of : (old new : Tables) (reading m : ℕ) → m ≡ latest_of old → m < reading → reading ≤ last_reading → new ≡ with_latest reading old → IsStamped reading old new → Stamps reading reading old new
stamps_of old new reading m is high top now it = record { stamp = stamp_is reading (latest_of old) reading top (omega (arith, is, high)); is = now; latest = it.latest; views = it.views }

-- What is seen of a secret, and the answers about credentials.
use Rattle.std.proofs.Common.{◌≡◌, true, false, find, Option, Some, None, option_map, bytes_eq, Ok, Err, refl, sym, ap, ◌∙◌}
use Rattle.sqlite.specs.State.{State}
use Rattle.bh_types.specs.Limits.{HostLimits}
use Rattle.bh_types.specs.declared.access_key.AccessKeyId.{AccessKeyId}
use Rattle.bh_types.specs.declared.refusal.Refusal.TheVariants.{AccessDenied, InvalidAccessKeyId}
use Rattle.bh_model.specs.State.{Octets, State as Machine}
use Rattle.bh_model.specs.Credentials.{secret_of, authenticate}
use Rattle.bh_tables.specs.Typed.{Tables, tables_in}
use Rattle.bh_tables.specs.Shown.{is_key}
use Rattle.bh_view.specs.Bodies.{IsSoundHost}
use Rattle.bh_view.specs.View.{view}
use Rattle.bh_view.proofs.FindLemmas.{first_find, secret_found}
use Rattle.bh_storage.specs.Calls.{IsWorking}
use Rattle.bh_base.specs.Layer.{standing}
use Rattle.bh_schema.specs.Rows.{secret_in}
use Rattle.bh_schema.specs.Storage.{seen_in}
use Rattle.bh_schema.proofs.Storing.{shows_in}

pub secret_seen : {digest : Octets → Octets} (l : HostLimits) (s : State) (t n : Octets) (read : Option Octets) → IsWorking (IsSoundHost digest) (seen_in l s) → read ≡ option_map secret_in (find (is_key t n) (tables_in (standing s).now).keys) → secret_of n (view (seen_in l s).now t) ≡ read
secret_seen l s t n read working is =
    secret_found (seen_in l s).now t working.sound.sound n ∙ ap (option_map secret_in) (first_find (is_key t n) (seen_in l s).now.keys) ∙ ap (λ (x : Tables). option_map secret_in (find (is_key t n) x.keys)) (shows_in _ s working) ∙ sym is

module _ (key : AccessKeyId) (secret n : Octets) (o : Option Machine) (named : key.name ≡ Some n) where
  pub unknown_key : secret_of n o ≡ None → authenticate key secret o ≡ Err InvalidAccessKeyId
  unknown_key none = rw (named, none) refl

  pub right_secret : (known : Octets) → secret_of n o ≡ Some known → bytes_eq secret known ≡ true → authenticate key secret o ≡ Ok tt
  right_secret known is same = rw (named, is, same) refl

  pub wrong_secret : (known : Octets) → secret_of n o ≡ Some known → bytes_eq secret known ≡ false → authenticate key secret o ≡ Err AccessDenied
  wrong_secret known is other = rw (named, is, other) refl

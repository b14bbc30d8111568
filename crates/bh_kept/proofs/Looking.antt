-- What is looked at in a transaction that is rolled back.
use Rattle.std.proofs.Common.{◌≡◌, false, Option, Result, Ok, Err, IfOk, IfSome, refl, sym, ap, subst, ◌∙◌}
use Rattle.std.specs.Result.{result_ok}
use Rattle.sqlite.specs.State.{State}
use Rattle.bh_types.specs.Limits.{HostLimits}
use Rattle.bh_model.specs.State.{Octets}
use Rattle.bh_tables.specs.Hosts.{tables_shown}
use Rattle.bh_tables.specs.Typed.{IsHost, tables_in}
use Rattle.bh_tables.proofs.HostTests.{host_shows}
use Rattle.bh_view.specs.Bodies.{IsSoundHost}
use Rattle.bh_storage.specs.Calls.{Seen, IsAtRest}
use Rattle.bh_cache.specs.Kept.{KeptBlocks}
use Rattle.bh_memo.specs.Facts.{Facts}
use Rattle.bh_memo.specs.Recalled.{recalled}
use Rattle.bh_memo.proofs.Recalling.{rests_alone, rests_under}
use Rattle.bh_base.specs.Layer.{Standing, IsInside, begun, standing, taken_back}
use Rattle.bh_base.specs.Removal.{RestsAgain}
use Rattle.bh_schema.specs.Storage.{beside, seen_in, shown}
use Rattle.bh_schema.proofs.Storing.{plain_sound, readable_host, readable_shows, sound_host}
use Rattle.bh_kept.specs.Freeing.{IsOutside}

-- a transaction on a host's database
pub begun_inside : (old new : Standing) → IsHost old.now → new ≡ begun old → IsInside new
begun_inside old new host is = subst IsInside (sym is) (record { inside = refl; host = host })

-- what was committed stays
pub back_same : (old mid : Standing) → mid.kept ≡ old.kept → mid.limit ≡ old.limit → taken_back mid ≡ taken_back old
back_same old mid kept limit = λ i. record { now = kept i; kept = kept i; inside = false; limit = limit i }

-- a connection of which packs went that no place names shows what it showed
again_seen : {digest : Octets → Octets} (l : HostLimits) (old new : State) → RestsAgain (standing old) (standing new) → IsAtRest (IsSoundHost digest) (seen_in l old) → seen_in l new ≡ seen_in l old
unfolding seen_in
again_seen l old new again rest =
    let host = sound_host (standing old).now rest.sound.sound in
    let now : tables_shown (standing new).now ≡ tables_shown (standing old).now = host_shows (standing new).now again.rest.host ∙ again.tables ∙ sym (host_shows (standing old).now host) in
    let kept : tables_shown (standing new).kept ≡ tables_shown (standing old).kept = ap tables_shown (sym again.rest.settled) ∙ now ∙ sym rest.committed in
    λ i. record { now = now i; kept = kept i; inside = (again.rest.outside ∙ sym rest.outside) i; limits = l }

outside_seen : {digest : Octets → Octets} (l : HostLimits) (s : State) → IsAtRest (IsSoundHost digest) (seen_in l s) → IsOutside (standing s)
unfolding seen_in
outside_seen l s rest = record { outside = rest.outside; host = sound_host (standing s).now rest.sound.sound }

back_seen : {digest : Octets → Octets} (l : HostLimits) (old new : State) → standing new ≡ taken_back (standing old) → IsAtRest (IsSoundHost digest) (seen_in l old) → seen_in l new ≡ seen_in l old
unfolding seen_in
back_seen l old new is rest = ap (shown l) is ∙ (λ i. record { now = rest.committed i; kept = tables_shown (standing old).kept; inside = sym rest.outside i; limits = l })

module _ {digest : Octets → Octets} (facts : Facts) (kept : KeptBlocks) (l : HostLimits) (old : State) (rest : IsAtRest (IsSoundHost digest) (recalled facts (beside kept (seen_in l old)))) where
  under : IsAtRest (IsSoundHost digest) (beside kept (seen_in l old))
  under = rests_under facts (beside kept (seen_in l old)) rest

  plain : beside kept (seen_in l old) ≡ seen_in l old
  plain = plain_sound kept (seen_in l old) under.sound

  alone : IsAtRest (IsSoundHost digest) (seen_in l old)
  alone = subst (IsAtRest (IsSoundHost digest)) plain under

  pub has_host : IsHost (standing old).now
  has_host = readable_host l old alone.sound

  -- what is seen is what the connection shows
  pub shows : (recalled facts (beside kept (seen_in l old))).now ≡ tables_in (standing old).now
  shows = ap (λ (s : Seen). s.now) (rests_alone facts (beside kept (seen_in l old)) rest ∙ plain) ∙ readable_shows l old alone.sound

  pub still : (new : State) → standing new ≡ taken_back (standing old) → recalled facts (beside kept (seen_in l new)) ≡ recalled facts (beside kept (seen_in l old))
  still new is = ap (λ s. recalled facts (beside kept s)) (back_seen l old new is alone)

  -- no transaction is open, and once packs went that no place names all is seen as before
  pub outside : IsOutside (standing old)
  outside = outside_seen l old alone

  pub still_again : (new : State) → RestsAgain (standing old) (standing new) → recalled facts (beside kept (seen_in l new)) ≡ recalled facts (beside kept (seen_in l old))
  still_again new again = ap (λ s. recalled facts (beside kept s)) (again_seen l old new again alone)

pub if_ok : {X E : Type 0} {P Q : X → Type 0} (result : Result X E) (told : Option X) → told ≡ result_ok result → ((x : X) → P x → Q x) → IfOk result P → IfSome told Q
if_ok {X} {E} {P} {Q} (Ok x) told is f h = subst (λ o. IfSome o Q) (sym is) (f x h)
if_ok {X} {E} {P} {Q} (Err e) told is f h = subst (λ o. IfSome o Q) (sym is) tt

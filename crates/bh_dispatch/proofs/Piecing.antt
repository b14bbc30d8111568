-- What is read of an object outside a transaction, in the words of a host's storage.
use Rattle.std.proofs.Common.{◌≡◌, inl, inr, ◌++◌, ℕ, [], Option, Some, None, Result, Ok, Err, sym, ap, subst, ◌∙◌, Vec}
use Rattle.std.specs.Prelude.{IfOk, IfSome, IfNone, OnOk}
use Rattle.sqlite.specs.State.{State}
use Rattle.bh_types.specs.Limits.{HostLimits}
use Rattle.bh_model.specs.State.{Octets}
use Rattle.bh_cache.specs.Kept.{KeptBlocks, Agrees}
use Rattle.bh_storage.specs.Calls.{Seen, IsReadable}
use Rattle.bh_storage.specs.Plans.{to_come}
use Rattle.bh_storage.specs.declared.plan.Plan.{Plan}
use Rattle.bh_tables.specs.Typed.{Tables, IsHost, tables_in}
use Rattle.bh_view.specs.Bodies.{HasBodies, IsSoundHost}
use Rattle.bh_base.specs.Layer.{Standing, standing, IsIntact, IsStateClean}
use Rattle.bh_schema.specs.Storage.{seen_in, beside}
use Rattle.bh_schema.specs.Working.{tables_at}
use Rattle.bh_schema.proofs.Storing.{AreBoth, both, agreeing, beside_agreed, seen_same, readable_host, readable_shows, plain_sound}

pub sound_of : {digest : Octets → Octets} (s : Seen) → IsReadable (IsSoundHost digest) s → IsSoundHost digest s.now
sound_of s (inl rest) = rest.sound
sound_of s (inr working) = working.sound

module _ {digest : Octets → Octets} (kept : KeptBlocks) (l : HostLimits) (s : State) (readable : IsReadable (IsSoundHost digest) (beside kept (seen_in l s))) where
  beside_sound : IsSoundHost digest (beside kept (seen_in l s)).now
  beside_sound = sound_of (beside kept (seen_in l s)) readable

  pub read_plain : beside kept (seen_in l s) ≡ seen_in l s
  read_plain = plain_sound kept (seen_in l s) beside_sound

  read_sound : IsSoundHost digest (seen_in l s).now
  read_sound = subst (λ (x : Seen). IsSoundHost digest x.now) read_plain beside_sound

  pub read_host : IsHost (standing s).now
  read_host = readable_host l s read_sound

  pub read_shows : (beside kept (seen_in l s)).now ≡ tables_at s
  read_shows = ap (λ (x : Seen). x.now) read_plain ∙ readable_shows l s read_sound

  pub read_bodies : HasBodies (tables_at s)
  read_bodies = subst HasBodies (readable_shows l s read_sound) read_sound.bodies

  pub read_agrees : Agrees kept (tables_at s).blocks
  read_agrees = subst (λ (t : Tables). Agrees kept t.blocks) (readable_shows l s read_sound) (agreeing kept (seen_in l s) beside_sound.sound)

  -- what was read is kept, and what is seen stays
  module _ (after : KeptBlocks) (new : State) where
    pub seen_still : IsStateClean new → Agrees after (tables_at new).blocks → standing new ≡ standing s → beside after (seen_in l new) ≡ beside kept (seen_in l s)
    seen_still clean agrees same =
        let seen : seen_in l new ≡ seen_in l s = seen_same l s new same in
        let shows : (seen_in l new).now ≡ tables_at new = subst (λ (x : Seen). x.now ≡ tables_at new) (sym seen) (readable_shows l s read_sound ∙ sym (same_tables_at new same)) in
        beside_agreed after (seen_in l new) (subst (λ (t : Tables). Agrees after t.blocks) (sym shows) agrees) ∙ seen ∙ sym read_plain
      where
        same_tables_at : (new : State) → standing new ≡ standing s → tables_at new ≡ tables_at s
        same_tables_at new same = ap (λ (x : Standing). tables_in x.now) same

-- of what an answer says
module _ {digest : Octets → Octets} (kept : KeptBlocks) (l : HostLimits) (s new : State) (readable : AreBoth s → IsReadable (IsSoundHost digest) (beside kept (seen_in l s))) (was : AreBoth new → AreBoth s) where
  pub seen_after : {X E : Type 0} (after : KeptBlocks) (result : Result X E) → OnOk result (IsIntact new → standing new ≡ standing s) → OnOk result (IsStateClean new → Agrees after (tables_at new).blocks) → OnOk result (AreBoth new → beside after (seen_in l new) ≡ beside kept (seen_in l s))
  seen_after after (Ok x) same agrees = λ clean. seen_still kept l s (readable (was clean)) after new (both clean) (agrees (both clean)) (same clean.0)
  seen_after after (Err e) same agrees = tt

  pub gives_seen : {A E : Type 0} (result : Result (Option (Vec ℕ A)) E) (plan next : Plan) → IfOk result (λ piece. IsStateClean new → HasBodies (tables_at s) → IfSome piece (λ bytes. to_come plan (tables_at s) ≡ bytes.items ++ to_come next (tables_at s)))
      → IfOk result (λ piece. AreBoth new → IfSome piece (λ bytes. to_come plan (beside kept (seen_in l s)).now ≡ bytes.items ++ to_come next (beside kept (seen_in l s)).now))
  gives_seen (Ok (Some bytes)) plan next h = λ clean. subst (λ (t : Tables). to_come plan t ≡ bytes.items ++ to_come next t) (sym (read_shows kept l s (readable (was clean)))) (h (both clean) (read_bodies kept l s (readable (was clean))))
  gives_seen (Ok None) plan next h = λ clean. tt
  gives_seen (Err e) plan next h = tt

  pub ends_seen : {A E : Type 0} (result : Result (Option (Vec ℕ A)) E) (plan : Plan) → IfOk result (λ piece. IsStateClean new → HasBodies (tables_at s) → IfNone piece (to_come plan (tables_at s) ≡ []))
      → IfOk result (λ piece. AreBoth new → IfNone piece (to_come plan (beside kept (seen_in l s)).now ≡ []))
  ends_seen (Ok (Some bytes)) plan h = λ clean. tt
  ends_seen (Ok None) plan h = λ clean. subst (λ (t : Tables). to_come plan t ≡ []) (sym (read_shows kept l s (readable (was clean)))) (h (both clean) (read_bodies kept l s (readable (was clean))))
  ends_seen (Err e) plan h = tt

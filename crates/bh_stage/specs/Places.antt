-- Which connection gives its place to the next one.
use Rattle.std.specs.Prelude.{◌≡◌, ◌==◌, ◌&&◌, ℕ, Bool, true, false, if◌then◌else◌, List, Option, Some, None}
use Rattle.std.specs.List.{find, filter}
use Rattle.std.specs.Option.{option_map, option_or}
use Rattle.slab.specs.Slab.{Slab, get}
use Rattle.bh_stage.specs.declared.connection.Awaited.{Awaited}
use Rattle.bh_stage.specs.declared.connection.Awaited.TheVariants.{Head, Rest, Nothing}
use Rattle.bh_stage.specs.declared.connection.Connection.{Connection}
use Rattle.bh_stage.specs.declared.connection.State.{State}
use Rattle.bh_stage.specs.declared.connection.State.TheVariants.{Coming, Whole, Served, Going, Closing}
use Rattle.bh_stage.specs.declared.draft.Draft.{Draft}
use Rattle.bh_stage.specs.declared.order.Turn.{Turn}

-- a request that is to come, or the rest of it
abbrev pub IsComing : {R W : Type 0} → State R W → Type 0
IsComing (Coming draft writer) = Unit {0}
IsComing (Whole draft writer) = ⊥
IsComing Served = ⊥
IsComing (Going inlet outbox) = ⊥
IsComing (Closing inlet outlet reads) = ⊥

-- there is such a connection: its request isn't whole, and it has no answer
abbrev pub IsAwaited : {R W : Type 0} → Option (Connection R W) → Type 0
IsAwaited None = ⊥
IsAwaited (Some connection) = IsComing connection.state

-- the head of a request is still to come
abbrev pub is_new : {R : Type 0} → Draft R → Bool
is_new draft = (draft.size == 0) && (draft.wanted == 0)

-- what is awaited of a connection
abbrev pub awaited : {R W : Type 0} → State R W → Awaited
awaited (Coming draft writer) = if is_new draft then Head else Rest
awaited (Whole draft writer) = Nothing
awaited Served = Nothing
awaited (Going inlet outbox) = Nothing
awaited (Closing inlet outlet reads) = Nothing

-- and of the one at a key, if it has that number
abbrev pub awaited_of : {R W : Type 0} → Option (Connection R W) → ℕ → Awaited
awaited_of None number = Nothing
awaited_of (Some connection) number = if connection.number == number then awaited connection.state else Nothing

abbrev pub is_head : Awaited → Bool
is_head Head = true
is_head Rest = false
is_head Nothing = false

abbrev pub is_any : Awaited → Bool
is_any Head = true
is_any Rest = true
is_any Nothing = false

module _ {R W : Type 0} (connections : Slab (Connection R W)) where
  -- the connection of a turn is there, and has no head
  abbrev pub lacks_head : Turn → Bool
  lacks_head turn = is_head (awaited_of (get connections turn.key) turn.number)

  -- it is there, and its request comes
  abbrev pub is_coming : Turn → Bool
  is_coming turn = is_any (awaited_of (get connections turn.key) turn.number)

  -- those of which something is awaited, in the order in which they came
  abbrev pub coming : List Turn → List Turn
  coming came = filter is_coming came

  -- none of them lacks a head
  abbrev pub HaveBegun : List Turn → Type 0
  HaveBegun passed = find lacks_head passed ≡ None

  -- the key of the first one that is so
  abbrev pub first_key : (Turn → Bool) → List Turn → Option ℕ
  first_key test turns = option_map (λ turn. turn.key) (find test turns)

  -- which one gives its place: the first without a head of the rest, those that weren't passed, or else the first of all that
  -- came whose request comes. No connection of its kind came earlier
  abbrev pub oldest : List Turn → List Turn → Option ℕ
  oldest rest came = option_or (first_key lacks_head rest) (first_key is_coming came)

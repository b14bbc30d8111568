-- What the ends of a connection tell.
use Rattle.std.specs.Prelude.{◌≡◌, ℕ, Bool, true, false, List, [], drop, is_some, Option, Some, None}
use Rattle.std.specs.Io.Cursor.{cursor_inner, cursor_position}
use Rattle.std.specs.declared.vec.Vec.{Vec}
use Rattle.std.specs.declared.alloc.Global.{Global}
use Rattle.std.specs.declared.io.impls.Cursor.{Cursor}
use Rattle.bh_stage.specs.Records.{bytes_of, told_unless}
use Rattle.bh_stage.specs.declared.kept.Kept.{Kept}
use Rattle.bh_stage.specs.declared.outbox.Outbox.{Outbox}
use Rattle.bh_wires.specs.declared.brought.Brought.{Brought}
use Rattle.bh_wires.specs.declared.brought.Brought.TheVariants.{Request, Own, Nobody}

abbrev pub remaining_of : {R : Type 0} → Option (Kept R) → Option (List ℕ)
remaining_of None = Some []
remaining_of (Some kept) = told_unless (is_some kept.spool) (drop kept.at kept.bytes.items)

abbrev pub contents_of : {W : Type 0} → Option (Outbox W) → Option (List ℕ)
contents_of None = Some []
contents_of (Some outbox) = Some (bytes_of outbox.told.items)

abbrev pub remaining_in : {R : Type 0} → Brought R → Option (List ℕ)
remaining_in {R} (Request kept) = remaining_of {R = R} (Some kept)
remaining_in {R} (Own line) = Some (drop (cursor_position line) (cursor_inner line).items)
remaining_in {R} Nobody = remaining_of {R = R} None

-- what is served next is the host's own line if one is due
abbrev pub IsBrought : {R : Type 0} → Bool → Option (Cursor (Vec ℕ Global)) → Brought R → Type 0
IsBrought true (Some line) brought = brought ≡ Own line
IsBrought due line brought = Unit {0}

-- the answer to the host's own line goes nowhere
abbrev pub contents_in : {W : Type 0} → Bool → Option (Outbox W) → Option (List ℕ)
contents_in true outbox = None
contents_in false outbox = contents_of outbox

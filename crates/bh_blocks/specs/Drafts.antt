-- A body that is stored piece by piece: the blocks stored so far, and the bytes that wait.
use Rattle.std.specs.Prelude.{◌≡◌, ◌++◌}
use Rattle.bh_tables.specs.Schema.{Octets}
use Rattle.bh_tables.specs.Typed.{Tables}
use Rattle.bh_tables.specs.Shown.{Name}
use Rattle.bh_view.specs.Bodies.{pieces, body_stored}
use Rattle.bh_blocks.specs.declared.drafts.Draft.{Draft}

abbrev pub drafted : Draft → Name
drafted draft = (draft.tenant.now, draft.body)

-- whatever bytes are still to come: storing the waiting ones and these, from the draft's place on,
-- gives the same tables as storing the whole body from the start
abbrev pub Goes : (Octets → Octets) → Draft → Tables → Octets → Tables → Type 0
Goes digest draft now given start =
    (more : Octets) → body_stored digest (drafted draft) draft.place (pieces draft.size (draft.waiting.items ++ more)) now
    ≡ body_stored digest (drafted draft) 0 (pieces draft.size (given ++ more)) start

-- The members of the reply documents, as the code lists them.
use Rattle.std.specs.Prelude.{ℕ, List, [], ◌∷◌, Option, Some, None}
use Rattle.std.specs.Borrow.{Bor}
use Rattle.serde_json.specs.Data.{Data, boolean, string, object, no_members}
use Rattle.bh_types.specs.Ids.{version_text, upload_text}
use Rattle.bh_docs.specs.Documents.{natural, moment, with_member}
use Rattle.bh_types.specs.Tokens.{token_text}
use Rattle.bh_docs.specs.declared.document.Shown.{Shown}
use Rattle.bh_docs.specs.declared.document.Shown.TheVariants.{Nothing, Text, Count, Flag, At, Version, Upload, Token}

-- a member's value, as data
abbrev pub shown_data : Shown → Option Data
shown_data Nothing = None
shown_data (Text text) = Some (string text.now)
shown_data (Count count) = Some (natural count)
shown_data (Flag flag) = Some (boolean flag)
shown_data (At instant) = Some (moment instant)
shown_data (Version id) = Some (string (version_text id))
shown_data (Upload id) = Some (string (upload_text id))
shown_data (Token name) = Some (string (token_text name.now))

-- an object with more members, each with its name
abbrev pub with_members : List (Bor (List ℕ) × Shown) → Data → Data
with_members [] document = document
with_members ((name, shown) ∷ rest) document = with_members rest (with_member name.now (shown_data shown) document)

-- the object of these members
abbrev pub object_of : List (Bor (List ℕ) × Shown) → Data
object_of members = with_members members (object no_members)

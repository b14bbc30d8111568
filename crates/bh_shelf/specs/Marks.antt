-- Up to where each pack is written, seen, standing and kept.
use Rattle.std.specs.Prelude.{ℕ, min, slice_index_or}
use Rattle.bh_shelf.specs.declared.marks.Ends.{Ends}
use Rattle.bh_shelf.specs.declared.marks.Marks.{Marks}

-- nothing of a pack is written
abbrev pub no_ends : Ends
no_ends = record { kept = 0; seen = 0; stood = 0; written = 0 }

abbrev pub ends_of : Marks → ℕ → Ends
ends_of marks pack = slice_index_or marks.ends.items pack no_ends

-- all that is seen and stands is kept
abbrev pub all_kept : Ends → Ends
all_kept ends = record ends { kept = min ends.seen ends.stood }

-- all that is written stands
abbrev pub all_stood : Ends → Ends
all_stood ends = record ends { stood = ends.written }

-- no more is seen than is kept
abbrev pub kept_alone : Ends → Ends
kept_alone ends = record ends { seen = ends.kept }

-- what was written next ends here, and is seen
abbrev pub written_to : ℕ → Ends → Ends
written_to end ends = record ends { seen = end; written = end }

-- all before a mark is kept, and nothing is past it
abbrev pub ends_at : ℕ → Ends
ends_at mark = record { kept = mark; seen = mark; stood = mark; written = mark }

abbrev pub kept_of : Marks → ℕ → ℕ
kept_of marks pack = (ends_of marks pack).kept

abbrev pub seen_of : Marks → ℕ → ℕ
seen_of marks pack = (ends_of marks pack).seen

abbrev pub stood_of : Marks → ℕ → ℕ
stood_of marks pack = (ends_of marks pack).stood

abbrev pub written_of : Marks → ℕ → ℕ
written_of marks pack = (ends_of marks pack).written

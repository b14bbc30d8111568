-- The names of files beside another one, which belong to it.
use Rattle.std.specs.Prelude.{Bool, ◌||◌, List, ℕ, codes, nat_eq}
use Rattle.std.specs.List.{ends_with}

-- the name of a log, a journal, a folder of packs, or the file in which a copy or a tenant's host is written first
abbrev pub is_beside : List ℕ → Bool
is_beside name = (ends_with nat_eq name (codes "-wal") || ends_with nat_eq name (codes "-journal"))
    || (ends_with nat_eq name (codes ".partial") || (ends_with nat_eq name (codes ".moving") || ends_with nat_eq name (codes ".packs")))

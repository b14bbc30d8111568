-- What a disk shows whose reads are counted.
use Rattle.bh_file.specs.declared.watched.Watched.{Watched}

-- the disk that it hands calls on to
abbrev pub inner_of : {D : Type 0} → Watched D → D
inner_of f = f.inner

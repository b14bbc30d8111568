use Rattle.bh_pack_files.proofs.file.PackFile.shared.Given as goal

abbrev pub ghost-bring : goal.ghost-bring
ghost-bring g a = g.bytes

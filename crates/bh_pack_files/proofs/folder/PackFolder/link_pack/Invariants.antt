use Rattle.bh_pack_files.proofs.folder.PackFolder.link_pack.Given as goal

abbrev pub ghost-shared : goal.ghost-shared
ghost-shared g a = g.bytes

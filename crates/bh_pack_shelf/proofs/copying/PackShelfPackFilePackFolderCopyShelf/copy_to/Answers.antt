use Rattle.bh_shelf.specs.Laws.{kept_stands}
use Rattle.bh_pack_shelf.proofs.copying.PackShelfPackFilePackFolderCopyShelf.copy_to.Goals as goal

pub returns-in-Ok-clause-copied : goal.returns-in-Ok-clause-copied
returns-in-Ok-clause-copied g c = λ from to pack offset size bytes has.
    let it = c.copy_packs.new.copy in
    kept_stands _ it.packs it.marks it.sound pack offset size bytes (c.in-Ok.ensures.copied from to pack offset size bytes has)

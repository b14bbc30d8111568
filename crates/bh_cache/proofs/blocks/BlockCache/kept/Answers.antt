use Rattle.std.proofs.Common.{◌∙◌, sym, ap, option_copied}
use Rattle.bh_cache.specs.Names.{name_of}
use Rattle.bh_cache.proofs.BlockNames.{exact}
use Rattle.bh_cache.proofs.Keeping.{found_in}
use Rattle.bh_cache.proofs.blocks.BlockCache.kept.Goals as goal

pub returns-in-Some-peek : goal.returns-in-Some-peek
returns-in-Some-peek c =
    let k = c.args.name.now in
    let v = c.in-Some-peek.bytes.now in
    let found = found_in name_of (λ v. v.items) exact c.in-Some.kept k v (sym c.peek.ensures ∙ ap option_copied c.in-Some-peek.is) in
    rw (← c.self.view_is, c.in-Some.is, c.as_slice.ensures.value) found

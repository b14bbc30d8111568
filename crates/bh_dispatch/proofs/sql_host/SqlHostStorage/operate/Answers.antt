use Rattle.bh_dispatch.proofs.sql_host.SqlHostStorage.operate.Goals as goal

pub operate_in_blocks-requires : goal.operate_in_blocks-requires
operate_in_blocks-requires g c = record { positive = c.block_size_of-size.ensures.positive; going = c.requires.going; working = c.requires.working; early = c.requires.early }

pub returns : goal.returns
returns g c =
    let h = c.operate_in_blocks.ensures in
    record { goes_on = h.goes_on; operates = h.operates; measured = h.measured; cuts = rw c.block_size_of-size.ensures.is at h.cuts }

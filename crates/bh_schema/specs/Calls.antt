-- The effect of a call on a connection in a transaction, with this result.
pub use Rattle.bh_base.specs.Calls.{Reads, MayRead, Writes, WritesOn}

-- The functions that name blocks, and the digesters that compute them.
use Rattle.sha2.specs.Sha256.{sha256}
use Rattle.bh_types.specs.declared.block_digest.BlockDigest.{BlockDigest}
use Rattle.bh_types.specs.declared.block_digest.BlockDigest.TheVariants.{Sha256, Fast}
use Rattle.bh_tables.specs.Schema.{Octets}
use Rattle.bh_blocks.specs.SipHash.{siphash}
use Rattle.bh_blocks.specs.declared.digester.FastDigester.{FastDigester}
use Rattle.bh_blocks.specs.declared.digester.Sha256Digester.{Sha256Digester}

abbrev pub digest_by : BlockDigest → Octets → Octets
digest_by Sha256 = sha256
digest_by Fast = siphash

abbrev pub digester_of : BlockDigest → Type 0
digester_of Sha256 = Sha256Digester
digester_of Fast = FastDigester

abbrev pub the_digester : (digest : BlockDigest) → digester_of digest
the_digester Sha256 = record {}
the_digester Fast = record {}

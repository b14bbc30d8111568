-- The first vectors that the authors of SipHash give for 128 bits, under the key of the bytes 0 to 15: of no byte, and of the byte 0.
use Rattle.std.proofs.Common.{◌≡◌, [], ◌∷◌, take, refl}
use Rattle.bh_blocks.specs.SipHash.{keyed, round, absorb, four_rounds, end_of, last_word, start, absorb_both, digest_in, siphash}

of_none : take 16 (siphash []) ≡ 0xa3 ∷ 0x81 ∷ 0x7f ∷ 0x04 ∷ 0xba ∷ 0x25 ∷ 0xa8 ∷ 0xe6 ∷ 0x6d ∷ 0xf6 ∷ 0x72 ∷ 0x14 ∷ 0xc7 ∷ 0x55 ∷ 0x02 ∷ 0x93 ∷ []
unfolding keyed round absorb four_rounds end_of last_word start absorb_both digest_in siphash
of_none = refl

of_one : take 16 (siphash (0 ∷ [])) ≡ 0xda ∷ 0x87 ∷ 0xc1 ∷ 0xd8 ∷ 0x6b ∷ 0x99 ∷ 0xaf ∷ 0x44 ∷ 0x34 ∷ 0x76 ∷ 0x59 ∷ 0x11 ∷ 0x9b ∷ 0x22 ∷ 0xfc ∷ 0x45 ∷ []
unfolding keyed round absorb four_rounds end_of last_word start absorb_both digest_in siphash
of_one = refl

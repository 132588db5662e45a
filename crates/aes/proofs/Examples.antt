-- The examples of FIPS 197, computed. Assumes nothing.
use Rattle.std.proofs.Common.{refl}
use Rattle.block.specs.Bits.{bits, number, bits_of, bytes_of}
use Rattle.aes.specs.Field.{xtime, powers, inverse}
use Rattle.aes.specs.SBox.{s_box, inv_s_box, affine, inv_affine}
use Rattle.aes.specs.Cipher.{mix_columns, inv_mix_columns, whole_round, last_round, rounds, cipher, inv_whole_round, inv_last_round, inv_rounds, inv_cipher}
use Rattle.aes.specs.Schedule.{power, expansion, key_schedule}
use Rattle.aes.specs.Maps.{on_block}
use Rattle.aes.specs.Examples.{Published}

pub published : Published
unfolding bits number bits_of bytes_of xtime powers inverse s_box inv_s_box affine inv_affine mix_columns inv_mix_columns whole_round last_round rounds cipher inv_whole_round inv_last_round inv_rounds inv_cipher power expansion key_schedule on_block
published = record {
  b = record { enciphers = refl; deciphers = refl };
  c1 = record { enciphers = refl; deciphers = refl };
  c2 = record { enciphers = refl; deciphers = refl };
  c3 = record { enciphers = refl; deciphers = refl };
}

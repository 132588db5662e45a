-- The two S-boxes undo each other, and give bytes. Assumes nothing.
use Rattle.std.specs.Prelude.{ℕ, ◌/◌, ◌<◌, refl}
use Rattle.std.proofs.Common.{arith}
use Rattle.aes.specs.Field.{xtime, powers, inverse}
use Rattle.aes.specs.SBox.{s_box, inv_s_box, affine, inv_affine, BoxesUndo}
use Rattle.aes.specs.Rules.{agree}

pub boxes_undo : BoxesUndo
unfolding s_box inv_s_box affine inv_affine inverse powers xtime
boxes_undo = record {
  inv_sub = agree (λ x. inv_s_box (s_box x)) (λ x. x) 256 refl;
  sub_inv = agree (λ x. s_box (inv_s_box x)) (λ x. x) 256 refl;
}

pub sub_lt : (x : ℕ) → x < 256 → s_box x < 256
unfolding s_box affine inverse powers xtime
sub_lt x h = omega (arith, agree (λ x. s_box x / 256) (λ x. 0) 256 refl x h)

pub inv_sub_lt : (x : ℕ) → x < 256 → inv_s_box x < 256
unfolding inv_s_box inv_affine inverse powers xtime
inv_sub_lt x h = omega (arith, agree (λ x. inv_s_box x / 256) (λ x. 0) 256 refl x h)

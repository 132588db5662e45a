use Rattle.std.proofs.Common.{◌≡◌, ◌≤◌, length, ◌∙◌, arith, length-append, length-drop, length-take}
use lib.Seq.{take-append-le}
use Rattle.overlay.proofs.judge.write_front.Goals as goal

pub slice_bounds-bytes-end-2 : goal.slice_bounds-bytes-end-2
slice_bounds-bytes-end-2 g c =
    let k : length c.write.new.bytes ≡ c.size-size.result = c.write.auto.bytes ∙ simp length-take (omega (arith, g.met.B.Block.laws.small)) in
    simp (length-append, length-drop) (omega arith)

pub slice_bounds-copy_from_slice-end : goal.slice_bounds-copy_from_slice-end
slice_bounds-copy_from_slice-end g c =
    let k : length c.write.new.bytes ≡ c.size-size.result = c.write.auto.bytes ∙ simp length-take (omega (arith, g.met.B.Block.laws.small)) in
    simp (length-take, length-append, length-drop) (omega arith)

pub copy_from_slice-requires : goal.copy_from_slice-requires
copy_from_slice-requires g c =
    let k : length c.write.new.bytes ≡ c.size-size.result = c.write.auto.bytes ∙ simp length-take (omega (arith, g.met.B.Block.laws.small)) in
    simp (length-take, length-append, length-drop) (omega arith)

pub returns : goal.returns
returns g c =
    let k : length c.write.new.bytes ≡ c.size-size.result = c.write.auto.bytes ∙ simp length-take (omega (arith, g.met.B.Block.laws.small)) in
    let h : length c.args.buffer.now ≤ length c.write.new.bytes = omega arith in
    let e = c.write.ensures in
    c.copy_from_slice.ensures.after ∙ rw take-append-le (rw e)

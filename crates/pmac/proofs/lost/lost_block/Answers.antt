use Rattle.std.proofs.Common.{◌+◌, ◌-◌, ◌≤◌, ap, ◌∙◌, arith}
use Rattle.bits.specs.Blocks.{blocks}
use Rattle.bits.specs.Memory.{content}
use Rattle.bits.proofs.Counts.{blocks_some}
use Rattle.pmac.specs.Recovery.{lost_inner, lost_last}
use Rattle.pmac.proofs.Spending.{asks_on, asked_both}
use Rattle.pmac.proofs.Recovery.{recovered_inner, recovered_last}
use Rattle.pmac.proofs.lost.lost_block.Goals as goal

pub returns-then-i-block_count : goal.returns-then-i-block_count
returns-then-i-block_count g c =
    let A = g.E.Block.Block.arith in
    let w = g.met.E.Block.Block.laws in
    let m = g.E.Engine.means c.args.engine.now in
    let k = g.E.Engine.means c.decipher.new.self in
    let b = c.args.bits.len in
    let n = blocks A b in
    let l = c.in_ok-l.l in
    let d = c.in_ok-opened.opened in
    let some : 1 ≤ n = blocks_some w b in
    let both = asked_both m (g.E.Engine.means c.encipher.new.self) k c.zero.result c.args.tag l d c.encipher.result c.decipher.result (omega arith)
    c.encipher.ensures.answer c.encipher.ensures.after c.in_ok-l.was c.decipher.ensures.answer c.decipher.ensures.after c.in_ok-opened.was in
    let is = recovered_inner w m.enc c.args.bits.memory.now b (omega arith) m.dec c.args.tag l d c.args.i (both.0 ∙ ap m.enc c.zero.ensures) both.1 (omega arith) in
    asks_on 2 (n - 1) (n + 1) both.2 c.inner_block.ensures (omega arith)
    (ap (λ z. lost_inner A z.enc z.dec l d (content c.args.bits) c.args.i) both.2 ∙ is)

pub returns-else-i-block_count : goal.returns-else-i-block_count
returns-else-i-block_count g c =
    let A = g.E.Block.Block.arith in
    let w = g.met.E.Block.Block.laws in
    let m = g.E.Engine.means c.args.engine.now in
    let k = g.E.Engine.means c.decipher.new.self in
    let b = c.args.bits.len in
    let n = blocks A b in
    let l = c.in_ok-l.l in
    let d = c.in_ok-opened.opened in
    let some : 1 ≤ n = blocks_some w b in
    let both = asked_both m (g.E.Engine.means c.encipher.new.self) k c.zero.result c.args.tag l d c.encipher.result c.decipher.result (omega arith)
    c.encipher.ensures.answer c.encipher.ensures.after c.in_ok-l.was c.decipher.ensures.answer c.decipher.ensures.after c.in_ok-opened.was in
    let is = recovered_last w m.enc c.args.bits.memory.now b (omega arith) m.dec c.args.tag l d c.args.i (both.0 ∙ ap m.enc c.zero.ensures) both.1 (omega arith) in
    asks_on 2 (n - 1) (n + 1) both.2 c.last_block.ensures (omega arith)
    (ap (λ z. lost_last A z.enc l d (content c.args.bits)) both.2 ∙ is)

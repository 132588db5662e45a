use Rattle.std.proofs.Common.{◌≡◌, ◌/◌, [], get_or, map, length, take, sym, ap, ◌∙◌, arith, zero-add}
use Rattle.std.specs.Int.{w32, from_be_bytes}
use Rattle.aes.specs.State.{listed, word_at}
use Rattle.aes.specs.Words.{unpacked}
use Rattle.aes.proofs.Expansion.{word_of_chunk, filled}
use Rattle.aes.proofs.schedule.load.Goals as goal

pub loop-i-preserved : goal.loop-i-preserved
loop-i-preserved c =
    let key = c.args.key.now in
    let i = c.loop-i.i in
    let word = c.from_be_bytes.ensures ∙ ap (λ l. from_be_bytes w32 (get_or l i [])) c.as_chunks.ensures.front in
    filled unpacked (word_at key) c.loop-i.w 0 i c.from_be_bytes.result (omega arith) c.loop-i.invariant
    (word_of_chunk (length key / 4) key i c.from_be_bytes.result (λ k. omega (arith, c.type_inv.key k)) (omega arith) word ∙ ap (word_at key) (sym (zero-add i)))

pub returns : goal.returns
returns c =
    let all : length c.args.key.now / 4 ≡ c.loop-i.i = omega arith in
    ap (λ n. map unpacked (take n c.loop-i.w)) all ∙ c.loop-i.invariant ∙ ap (λ n. listed (word_at c.args.key.now) n 0) (sym all)

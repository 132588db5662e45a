use Rattle.std.proofs.Common.{◌≡◌, ℕ, ◌+◌, ◌*◌, ◌/◌, ◌<◌, get_or, [], ap, ◌∙◌, arith}
use Rattle.std.specs.Simd.{first_chunks}
use Rattle.aes.specs.State.{columns}
use Rattle.aes.specs.Words.{state_of, unpacked}
use Rattle.aes.proofs.Expansion.{chunk_word}
use Rattle.aes.proofs.way_keys.round_key.Goals as goal

pub returns : goal.returns
unfolding state_of
returns c =
    let w = c.args.w.now in
    let r = c.args.r in
    let chunks = c.as_chunks.ensures.front ∙ ap (λ n. first_chunks 4 (n / 4) w) c.told-w in
    let at = λ (j k : ℕ) (h : j < 4) (e : k ≡ 4 * r + j). ap (λ l. unpacked (get_or (get_or l r []) j 0)) chunks ∙ chunk_word 11 w r j k c.requires h e in
    λ i. columns (at 0 (4 * r) (omega arith) (omega arith) i) (at 1 (4 * r + 1) (omega arith) (omega arith) i)
    (at 2 (4 * r + 2) (omega arith) (omega arith) i) (at 3 (4 * r + 3) (omega arith) (omega arith) i)

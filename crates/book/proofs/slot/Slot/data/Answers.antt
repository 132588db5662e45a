use Rattle.std.proofs.Common.{◌≡◌, ℕ, ◌≤◌, Bor, List, length, take, drop, Some, None, Result, Option, IsSome, IfSome, IfOk, subst, sym, refl, ◌∙◌, arith, length-drop}
use Rattle.std.proofs.lemmas.List.{length-take}
use Rattle.std.specs.Option.{ok_or}
use Rattle.book.specs.declared.fault.BookFault.{BookFault}
use Rattle.book.specs.declared.fault.BookFault.TheVariants.{Long}
use Rattle.book.specs.Slots.{bytes_for, data_of}
use Rattle.book.proofs.Slots.{data_part}
use Rattle.book.proofs.slot.Slot.data.Goals as goal

part : (bytes : List ℕ) (n : ℕ) (fault : BookFault) (o : Option (Bor (List ℕ))) → (IsSome o → n ≤ 160) → IfSome o (λ p. p.now ≡ take (bytes_for n) (take 20 (drop 12 bytes)))
    → IfOk (ok_or o fault) (λ p. p.now ≡ data_of bytes 0 n)
part bytes n fault (Some p) few h = h ∙ data_part n bytes (few refl)
part bytes n fault None few h = tt

pub returns-clause-part : goal.returns-clause-part
returns-clause-part c =
    let bytes = c.args.self.bytes.now in
    let l : length (take 20 (drop 12 bytes)) ≡ 20 = simp (length-take, length-drop) (omega arith) in
    let P : Result (Bor (List ℕ)) BookFault → Type 0 = λ r. IfOk r (λ p. p.now ≡ data_of bytes 0 c.args.bits) in
    subst P (sym c.ok_or.ensures.value)
    (part bytes c.args.bits (Long c.args.self.number) c.needed.result (λ some. let most = c.needed.ensures.enough.0 some in omega arith) c.needed.ensures.part)

-- For the `next` of `hex_text::Symbols`: what each turn of its loop keeps and what grows less, so that it ends.
use Rattle.std.proofs.Common.{◌≡◌, length}
use Rattle.der_digits.specs.Symbols.{symbols_left}
use Rattle.der_digits.proofs.hex_text.SymbolsIterator.next.Given as goal

-- what is left of the text has the same symbols
abbrev pub invariant-loop-self : goal.invariant-loop-self
invariant-loop-self l = symbols_left l.self ≡ symbols_left l.fn.self

abbrev pub decreases-loop-self : goal.decreases-loop-self
decreases-loop-self l = length l.self.0.now

-- For `canonical::is_clearly_shortest`: what it returns is right, no sum or product is too large, and no index is out
-- of bounds.
use Rattle.std.proofs.Common.{◌≡◌, ◌≢◌, ◌+◌, ◌-◌, ◌<◌, get_or, arith}
use Rattle.std.specs.Prelude.{All}
use Rattle.std.proofs.lemmas.Bool.{eqb-true}
use Rattle.std.proofs.lemmas.List.Elements.{All-from_get_or}
use Rattle.asn1_outline.proofs.CanonicalEntries.{HasHeaderAt-two_le, HasHeaderAt-within, length-short_length, HasShortestAt-of_size}
use Rattle.asn1_outline.proofs.canonical.is_clearly_shortest.Goals as goal
use Rattle.asn1_outline.proofs.canonical.is_clearly_shortest.Goals.{else-entry-eq0-via-then-entry-eq0+else-octets-entry, else-entry-eq0-via-else-entry-eq0}

pub overflow_add-entry : goal.overflow_add-entry
overflow_add-entry c = omega (arith, HasHeaderAt-within c.args.octets.now c.args.entry.now c.requires)

pub bounds-octets-entry : goal.bounds-octets-entry
bounds-octets-entry c =
    let x = c.args.octets.now in
    let r = c.args.entry.now in
    omega (arith, HasHeaderAt-within x r c.requires, HasHeaderAt-two_le x r c.requires)

pub returns-then-entry-lt128 : goal.returns-then-entry-lt128
returns-then-entry-lt128 c two =
    let x = c.args.octets.now in
    let r = c.args.entry.now in
    let all : All (λ b. b < 256) x = All-from_get_or (λ b. b < 256) x 0 (λ k _. omega (arith, c.type_inv.octets k)) in
    let not : r.contents ≡ 0 → get_or x (r.offset + r.header - 1) 0 ≢ 128 = λ none last. elim c.else-entry-eq0.branch [
      | else-entry-eq0-via-then-entry-eq0+else-octets-entry w ↦ omega (arith, last, w.if-octets-entry.false)
      | else-entry-eq0-via-else-entry-eq0 w ↦ omega (arith, none, w.if-entry-eq0.false)
    ] in
    let small : r.contents < 128 = omega (arith, c.if-entry-lt128.true) in
    let size : r.header ≡ 2 = eqb-true r.header 2 two in
    let one = length-short_length r.contents small in
    HasShortestAt-of_size x r all c.requires (omega (arith, c.if-entry-gt30.false)) not (omega (arith, size, one))

pub returns-else-entry-lt128 : goal.returns-else-entry-lt128
returns-else-entry-lt128 c same =
    let x = c.args.octets.now in
    let r = c.args.entry.now in
    let all : All (λ b. b < 256) x = All-from_get_or (λ b. b < 256) x 0 (λ k _. omega (arith, c.type_inv.octets k)) in
    let not : r.contents ≡ 0 → get_or x (r.offset + r.header - 1) 0 ≢ 128 = λ none last. elim c.else-entry-eq0.branch [
      | else-entry-eq0-via-then-entry-eq0+else-octets-entry w ↦ omega (arith, last, w.if-octets-entry.false)
      | else-entry-eq0-via-else-entry-eq0 w ↦ omega (arith, none, w.if-entry-eq0.false)
    ] in
    let size : r.header ≡ 1 + c.length_size.result = eqb-true r.header (1 + c.length_size.result) same in
    HasShortestAt-of_size x r all c.requires (omega (arith, c.if-entry-gt30.false)) not
    (omega (arith, size, c.length_size.ensures.size))

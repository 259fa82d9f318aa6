-- For `element_header::whole_header`: what it returns is right.
use Rattle.std.proofs.Common.{◌≡◌, true, false, sym, ◌∙◌, arith}
use Rattle.asn1_headers.specs.Front.{HasNoHeader}
use Rattle.dump_walk.specs.Headers.{IsHeaderOf}
use Rattle.dump_walk.proofs.HeaderFronts.{HasNoHeader-front, SameHeader-front}
use Rattle.dump_walk.proofs.element_header.whole_header.Goals as goal

pub returns-in_default : goal.returns-in_default
returns-in_default c = λ other is.
    let none : HasNoHeader c.args.octets.now = rw c.in_default.is at c.in_ok-header.ensures in
    HasNoHeader-front c.args.octets.now other none is.0

pub returns-then-header-octets : goal.returns-then-header-octets
returns-then-header-octets c = λ other is.
    let begins : IsHeaderOf c.args.octets.now c.in-Some.header = rw c.in-Some.is at c.in_ok-header.ensures in
    let same = SameHeader-front c.args.octets.now c.in-Some.header other begins is.0 in
    absurd (omega (arith, same.end, is.1, c.if-header-octets.true))

pub returns-then-is_stray : goal.returns-then-is_stray
returns-then-is_stray c = λ other is.
    let begins : IsHeaderOf c.args.octets.now c.in-Some.header = rw c.in-Some.is at c.in_ok-header.ensures in
    let same = SameHeader-front c.args.octets.now c.in-Some.header other begins is.0 in
    let never : true ≡ false = sym (sym c.is_stray.ensures ∙ c.if-is_stray.true) ∙ (same.stray ∙ is.2) in
    absurd (cc never)

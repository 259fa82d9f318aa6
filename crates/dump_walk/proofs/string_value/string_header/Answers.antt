-- For `string_value::string_header`: what it returns is right.
use Rattle.std.proofs.Common.{◌≡◌, ◌∙◌, true, subst, sym}
use Rattle.asn1_headers.specs.Front.{HasNoHeader}
use Rattle.dump_walk.specs.Headers.{IsHeaderOf}
use Rattle.dump_walk.specs.StringOctets.{is_string_tag}
use Rattle.dump_walk.proofs.HeaderFronts.{HasNoHeader-front, SameHeader-front}
use Rattle.dump_walk.proofs.string_value.string_header.Goals as goal

pub returns-in_default : goal.returns-in_default
returns-in_default c = λ tag other is.
    let none : HasNoHeader c.args.element.now = rw c.in_default.is at c.in_ok-header.ensures in
    HasNoHeader-front c.args.element.now other none is.0

pub returns-in-None : goal.returns-in-None
returns-in-None c = λ tag other is.
    let header = c.in-Some.header in
    let begins : IsHeaderOf c.args.element.now header = rw c.in-Some.is at c.in_ok-header.ensures in
    let same = SameHeader-front c.args.element.now header other begins is.0 in
    c.in-None.ensures (same.class ∙ is.1) (subst (λ z. is_string_tag z ≡ true) (sym (same.tag ∙ is.2)) is.3)

pub returns-in-Some-string_type : goal.returns-in-Some-string_type
returns-in-Some-string_type c =
    let begins : IsHeaderOf c.args.element.now c.in-Some.header = rw c.in-Some.is at c.in_ok-header.ensures in
    let (class, number, is) = c.in-Some-string_type.ensures in
    (begins, class, number, is)

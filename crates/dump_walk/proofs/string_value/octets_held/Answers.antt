-- For `string_value::octets_held`: what it returns is right.
use Rattle.std.proofs.Common.{◌≡◌, ◌==◌, false, inl, inr, refl, rules, subst, sym}
use Rattle.asn1_headers.specs.declared.tags.TheConstants.{BIT_STRING}
use Rattle.dump_walk.specs.StringOctets.{AreInNoPiece, AreInOnePiece, AreOctetsOf}
use Rattle.dump_walk.proofs.string_value.octets_held.Goals as goal

pub returns-in_default : goal.returns-in_default
returns-in_default c =
    let header = c.args.header.now in
    let none : AreInNoPiece c.args.element.now c.args.tag header header.constructed =
    rw c.in_default.is at c.in_ok-contents.ensures in
    inl none

pub returns-then-from-ne-BIT_STRING : goal.returns-then-from-ne-BIT_STRING
returns-then-from-ne-BIT_STRING c =
    let header = c.args.header.now in
    let contents = c.in-Some.contents.items in
    let piece : AreInOnePiece c.args.element.now c.args.tag header header.constructed contents =
    rw c.in-Some.is at c.in_ok-contents.ensures in
    let other : (c.args.tag == BIT_STRING) ≡ false = search rules in
    (contents, piece, inr (other, refl))

pub returns-in-Some-bits_behind_unused : goal.returns-in-Some-bits_behind_unused
returns-in-Some-bits_behind_unused c =
    let header = c.args.header.now in
    let contents = c.in-Some.contents.items in
    let piece : AreInOnePiece c.args.element.now c.args.tag header header.constructed contents =
    rw c.in-Some.is at c.in_ok-contents.ensures in
    let three : c.args.tag ≡ BIT_STRING = search rules in
    let bits = c.in-Some-bits_behind_unused.bits.now in
    let are = subst (λ z. AreOctetsOf z contents bits) (sym three)
    (subst (λ z. AreOctetsOf BIT_STRING z bits) c.deref.ensures.value c.in-Some-bits_behind_unused.ensures) in
    let same = sym c.in_ok-from_slice-in-Some-bits_behind_unused.ensures.items in
    (contents, piece, subst (AreOctetsOf c.args.tag contents) same are)

pub returns : goal.returns
returns c =
    let header = c.args.header.now in
    let contents = c.in-Some.contents.items in
    let piece : AreInOnePiece c.args.element.now c.args.tag header header.constructed contents =
    rw c.in-Some.is at c.in_ok-contents.ensures in
    let three : c.args.tag ≡ BIT_STRING = search rules in
    inr (
      contents,
      piece,
      λ octets are. c.in-None.ensures octets
          (subst (λ z. AreOctetsOf z c.deref.result.now octets) three
          (subst (λ z. AreOctetsOf c.args.tag z octets) (sym c.deref.ensures.value) are)),
    )

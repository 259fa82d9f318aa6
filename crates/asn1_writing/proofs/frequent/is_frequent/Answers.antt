-- For `frequent::is_frequent`: what it returns is right.
use Rattle.std.proofs.Common.{◌≡◌, false, refl, subst, sym, take, arith}
use Rattle.asn1_headers.specs.declared.header.ASN1Class.TheVariants.{Universal}
use Rattle.asn1_headers.specs.declared.tags.TheConstants.{NULL}
use Rattle.asn1_writing.specs.Inner.InPlace.{AreCanonicalContents}
use Rattle.asn1_writing.proofs.FrequentEncodings.{BeginsCanonical-leaf, BeginsCanonical-one_form}
use Rattle.asn1_writing.proofs.frequent.is_frequent.Goals as goal

pub returns-then-has_one_form : goal.returns-then-has_one_form
returns-then-has_one_form c is_true =
    let rest = c.args.rest.now in
    BeginsCanonical-one_form _ rest c.args.leading c.args.length (c.has_one_form.ensures c.if-has_one_form.true)
    c.requires refl

pub returns-then-length-eq0 : goal.returns-then-length-eq0
returns-then-length-eq0 c is_true =
    let rest = c.args.rest.now in
    let five : c.args.leading ≡ 5 = omega (arith, c.if-leading-eq5.true) in
    let none : c.args.length ≡ 0 = omega (arith, c.if-length-eq0.true) in
    BeginsCanonical-leaf _ rest c.args.leading c.args.length (omega (arith, five)) c.requires refl
    (subst (λ n. AreCanonicalContents Universal false n (take c.args.length rest)) (sym five)
    (subst (λ n. AreCanonicalContents Universal false NULL (take n rest)) (sym none)
    (c.are_leaf_contents_clearly_canonical.ensures is_true)))

pub returns-then-leading-eq6 : goal.returns-then-leading-eq6
returns-then-leading-eq6 c is_true =
    let rest = c.args.rest.now in
    let six : c.args.leading ≡ 6 = omega (arith, c.if-leading-eq6.true) in
    let keeps = c.begin_with_identifier.ensures.canonical is_true in
    BeginsCanonical-leaf _ rest c.args.leading c.args.length (omega (arith, six)) c.requires refl
    (subst (λ n. AreCanonicalContents Universal false n (take c.args.length rest)) (sym six) keeps)

-- For `algorithm::SubjectPublicKeyInfo::at`: what it returns is right.
use Rattle.std.proofs.Common.{◌∙◌, ℕ, Option, sym}
use Rattle.asn1_blocks.specs.Tree.{Trees}
use Rattle.asn1_certificate.specs.Sequences.{Found, field, is_leaf, no_more}
use Rattle.asn1_certificate.specs.Types.{is_algorithm_identifier}
use Rattle.asn1_certificate.proofs.Steps.{end-none, end-some, from-none, through}
use Rattle.asn1_certificate.proofs.algorithm.SubjectPublicKeyInfo.at.Goals as goal

pub returns-in_err-fields : goal.returns-in_err-fields
returns-in_err-fields c ns d =
    let from_1 : Trees ℕ → Option Found = field (is_leaf 3) no_more in
    from-none _ _ _ c.from_residual.ensures (c.in_err-fields.ensures ns d (field is_algorithm_identifier from_1))

pub returns-in_err-algorithm : goal.returns-in_err-algorithm
returns-in_err-algorithm c ns d =
    let from_1 : Trees ℕ → Option Found = field (is_leaf 3) no_more in
    from-none _ _ _ c.from_residual-in_err-algorithm.ensures (
    c.in_ok-fields.ensures ns d (field is_algorithm_identifier from_1)
    ∙ c.in_err-algorithm.ensures.field ns is_algorithm_identifier from_1
    (c.begins_with_algorithm-has_algorithm.ensures ns d))

pub returns-in_err-subject_public_key : goal.returns-in_err-subject_public_key
returns-in_err-subject_public_key c ns d =
    let from_1 : Trees ℕ → Option Found = field (is_leaf 3) no_more in
    from-none _ _ _ c.from_residual-in_err-subject_public_key.ensures (
    c.in_ok-fields.ensures ns d (field is_algorithm_identifier from_1)
    ∙ through _ _ _ _
    (c.in_ok-algorithm.ensures.field ns is_algorithm_identifier from_1
    (c.begins_with_algorithm-has_algorithm.ensures ns d))
    (c.in_err-subject_public_key.ensures.field ns (is_leaf 3) no_more
    (c.begins_with_leaf-has_key.ensures ns d)))

pub returns-then-is_some : goal.returns-then-is_some
returns-then-is_some c ns d =
    let from_1 : Trees ℕ → Option Found = field (is_leaf 3) no_more in
    c.in_ok-fields.ensures ns d (field is_algorithm_identifier from_1)
    ∙ through _ _ _ _
    (c.in_ok-algorithm.ensures.field ns is_algorithm_identifier from_1
    (c.begins_with_algorithm-has_algorithm.ensures ns d))
    (through _ _ _ _
    (c.in_ok-subject_public_key.ensures.field ns (is_leaf 3) no_more
    (c.begins_with_leaf-has_key.ensures ns d))
    (end-some ns _ (sym c.is_some.ensures ∙ c.if-is_some.true)))

pub returns : goal.returns
returns c ns d =
    let from_1 : Trees ℕ → Option Found = field (is_leaf 3) no_more in
    c.in_ok-fields.ensures ns d (field is_algorithm_identifier from_1)
    ∙ through _ _ _ _
    (c.in_ok-algorithm.ensures.field ns is_algorithm_identifier from_1
    (c.begins_with_algorithm-has_algorithm.ensures ns d))
    (through _ _ _ _
    (c.in_ok-subject_public_key.ensures.field ns (is_leaf 3) no_more
    (c.begins_with_leaf-has_key.ensures ns d))
    (end-none ns _ (sym c.is_some.ensures ∙ c.if-is_some.false)))

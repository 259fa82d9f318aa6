-- For `validity::Validity::at`: what it returns is right.
use Rattle.std.proofs.Common.{◌∙◌, ℕ, Option, sym}
use Rattle.asn1_blocks.specs.Tree.{Trees}
use Rattle.asn1_certificate.specs.Sequences.{Found, field, no_more}
use Rattle.asn1_certificate.specs.Types.{is_time}
use Rattle.asn1_certificate.proofs.Steps.{end-none, end-some, from-none, through}
use Rattle.asn1_certificate.proofs.validity.Validity.at.Goals as goal

pub returns-in_err-fields : goal.returns-in_err-fields
returns-in_err-fields c ns d =
    let from_1 : Trees ℕ → Option Found = field is_time no_more in
    from-none _ _ _ c.from_residual.ensures (c.in_err-fields.ensures ns d (field is_time from_1))

pub returns-in_err-not_before : goal.returns-in_err-not_before
returns-in_err-not_before c ns d =
    let from_1 : Trees ℕ → Option Found = field is_time no_more in
    from-none _ _ _ c.from_residual-in_err-not_before.ensures (
    c.in_ok-fields.ensures ns d (field is_time from_1)
    ∙ c.in_err-not_before.ensures.field ns is_time from_1
    (c.begins_with_time-has_start.ensures ns d))

pub returns-in_err-not_after : goal.returns-in_err-not_after
returns-in_err-not_after c ns d =
    let from_1 : Trees ℕ → Option Found = field is_time no_more in
    from-none _ _ _ c.from_residual-in_err-not_after.ensures (
    c.in_ok-fields.ensures ns d (field is_time from_1)
    ∙ through _ _ _ _
    (c.in_ok-not_before.ensures.field ns is_time from_1
    (c.begins_with_time-has_start.ensures ns d))
    (c.in_err-not_after.ensures.field ns is_time no_more
    (c.begins_with_time-has_end.ensures ns d)))

pub returns-then-is_some : goal.returns-then-is_some
returns-then-is_some c ns d =
    let from_1 : Trees ℕ → Option Found = field is_time no_more in
    c.in_ok-fields.ensures ns d (field is_time from_1)
    ∙ through _ _ _ _
    (c.in_ok-not_before.ensures.field ns is_time from_1
    (c.begins_with_time-has_start.ensures ns d))
    (through _ _ _ _
    (c.in_ok-not_after.ensures.field ns is_time no_more
    (c.begins_with_time-has_end.ensures ns d))
    (end-some ns _ (sym c.is_some.ensures ∙ c.if-is_some.true)))

pub returns : goal.returns
returns c ns d =
    let from_1 : Trees ℕ → Option Found = field is_time no_more in
    c.in_ok-fields.ensures ns d (field is_time from_1)
    ∙ through _ _ _ _
    (c.in_ok-not_before.ensures.field ns is_time from_1
    (c.begins_with_time-has_start.ensures ns d))
    (through _ _ _ _
    (c.in_ok-not_after.ensures.field ns is_time no_more
    (c.begins_with_time-has_end.ensures ns d))
    (end-none ns _ (sym c.is_some.ensures ∙ c.if-is_some.false)))

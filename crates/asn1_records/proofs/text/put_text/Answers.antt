-- For `text::put_text`: what it returns is right.
use Rattle.std.proofs.Common.{◌≡◌, inl, inr, refl, sym, ap, subst, ◌∙◌}
use Rattle.std.specs.Str.{chars}
use Rattle.asn1_leaves.specs.Contents.Text.{text_contents, text_form}
use Rattle.asn1_records.specs.Puts.{AreAllowed, has_characters, others_status}
use Rattle.asn1_records.specs.Room.{ArePut}
use Rattle.asn1_records.proofs.TextOctets.{text_contents-allowed}
use Rattle.asn1_records.proofs.text.put_text.Goals as goal

pub returns-in-None : goal.returns-in-None
returns-in-None c =
    let text = c.args.text.now in
    let (kind, tag, form) = c.in-Some.ensures in
    let (same, utf8) = c.in-Ok.ensures.cases in
    let here : AreAllowed c.in-Some.form (chars text) =
    subst (λ z. AreAllowed c.in-Some.form (chars z)) same c.in-None.ensures in
    let allowed : AreAllowed (text_form kind) (chars text) = subst (λ z. AreAllowed z (chars text)) form here in
    let octets : c.as_bytes.result.now ≡ text_contents (text_form kind) (chars text) =
    c.as_bytes.ensures.value ∙ same ∙ sym (text_contents-allowed (text_form kind) text utf8 allowed) in
    has_characters kind tag utf8
    (inl (
      allowed,
      subst (λ z. ArePut z c.args.room.now c.put_front.new.room c.put_front.result) octets
          c.put_front.ensures,
    ))

pub returns-in-Some-status_of_others : goal.returns-in-Some-status_of_others
returns-in-Some-status_of_others c =
    let text = c.args.text.now in
    let (kind, tag, form) = c.in-Some.ensures in
    let (same, utf8) = c.in-Ok.ensures.cases in
    let (outcome, others) = c.in-Some-status_of_others.ensures in
    let put = c.nothing_put-in-Some-status_of_others.ensures in
    let none : AreAllowed (text_form kind) (chars text) → ⊥ = λ allowed.
    let here : AreAllowed c.in-Some.form (chars text) = subst (λ z. AreAllowed z (chars text)) (sym form) allowed in
    others (subst (λ z. AreAllowed c.in-Some.form (chars z)) (sym same) here) in
    has_characters kind tag utf8
    (inr (none, (put.status ∙ outcome ∙ ap others_status form, put.offset, put.count, refl)))

-- For `raw::put_raw_text`: what it returns is right.
use Rattle.std.proofs.Common.{◌≡◌, inl, inr, subst}
use Rattle.std.specs.Prelude.{None}
use Rattle.std.specs.Str.{chars}
use Rattle.asn1_leaves.specs.Contents.Text.{text_contents, text_write_fault}
use Rattle.asn1_records.specs.Puts.{ArePutIf}
use Rattle.asn1_records.specs.Raw.{had_no_memory_for_text, has_text}
use Rattle.asn1_records.specs.Status.{out_of_range}
use Rattle.asn1_records.proofs.raw.put_raw_text.Goals as goal

pub returns : goal.returns
returns c =
    let text = c.args.text.now in
    let before = c.args.room.now in
    let after = c.put_formed.new.room in
    let o = c.put_formed.result in
    let (kind, tag, form) = c.in-Some.ensures in
    let (same, utf8) = c.in-Ok.ensures.cases in
    elim c.put_formed.ensures [
      | inl put ↦
          let here = subst (λ z. ArePutIf (text_write_fault c.in-Some.form (chars z) ≡ None)
          (text_contents c.in-Some.form (chars z)) out_of_range before after o) same put in
          has_text kind tag utf8
          (subst (λ f. ArePutIf (text_write_fault f (chars text) ≡ None) (text_contents f (chars text)) out_of_range
          before after o) form here)
      | inr none ↦ had_no_memory_for_text none
    ]

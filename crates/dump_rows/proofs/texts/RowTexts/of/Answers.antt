-- For `texts::RowTexts::of`: what it returns is right.
use Rattle.std.proofs.Common.{◌≡◌, ◌∙◌, ℕ, List, [], ◌∷◌, ◌++◌, ap, append_assoc, string_bytes}
use Rattle.dump_rows.specs.Rows.{columns_text, shown_text}
use Rattle.dump_rows.proofs.texts.RowTexts.of.Goals as goal

-- what stands behind joined texts stands behind the last of them
behind_all :
    (a b c d e f rest : List ℕ) →
    (a ++ (b ++ (c ++ (d ++ (e ++ f))))) ++ rest ≡ a ++ (b ++ (c ++ (d ++ (e ++ (f ++ rest)))))
behind_all a b c d e f rest =
    append_assoc a _ rest
    ∙ ap (λ z. a ++ z) (append_assoc b _ rest
    ∙ ap (λ z. b ++ z) (append_assoc c _ rest
    ∙ ap (λ z. c ++ z) (append_assoc d _ rest ∙ ap (λ z. d ++ z) (append_assoc e f rest))))

pub returns : goal.returns
returns c =
    let row = c.args.row.now in
    let field = shown_text (string_bytes c.in_ok-field_text.field-0) in
    let value = shown_text (string_bytes c.in_ok-value_text.field-0) in
    let fault = shown_text (string_bytes c.in_ok-fault_text.field-0) in
    let line : List ℕ → List ℕ → List ℕ → List ℕ =
    λ columns name mark. shown_text columns ++ (field ++ (shown_text name ++ (value ++ (fault
    ++ (shown_text mark ++ 10 ∷ []))))) in
    record {
      field = field;
      value = value;
      fault = fault;
      line_is =
          behind_all _ field _ value fault _ (10 ∷ [])
          ∙ (ap (λ z. line z (string_bytes c.in_ok-from_str.field-0) (string_bytes c.in_ok-mark_text.field-0))
          (c.in_ok-push_columns.ensures ∙ ap (λ z. z ++ columns_text row) c.in_ok-columns.ensures.bytes)
          ∙ (ap (λ z. line (columns_text row) z (string_bytes c.in_ok-mark_text.field-0)) c.in_ok-from_str.ensures.ok
          ∙ ap (line (columns_text row) row.type_name.now) c.in_ok-mark_text.ensures));
    }

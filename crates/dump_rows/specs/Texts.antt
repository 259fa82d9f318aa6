-- The texts of the line of a row. Private contracts alone name these.
use Rattle.std.specs.Prelude.{ℕ, List, ◌++◌, string_bytes}
use Rattle.dump_rows.specs.Rows.{shown_text}
use Rattle.dump_rows.specs.declared.texts.RowTexts.{RowTexts}

-- the texts, one behind another, as they are shown
abbrev pub line_of : RowTexts → List ℕ
line_of texts =
    shown_text (string_bytes texts.columns) ++ (shown_text (string_bytes texts.field)
    ++ (shown_text (string_bytes texts.type_name) ++ (shown_text (string_bytes texts.value)
    ++ (shown_text (string_bytes texts.fault) ++ shown_text (string_bytes texts.mark)))))

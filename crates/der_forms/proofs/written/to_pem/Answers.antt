-- For `written::to_pem`: what it returns is right (`read_back`).
use Rattle.std.proofs.Common.{◌≡◌, ◌∙◌, List, ℕ, ◌++◌, ap, append_assoc, arith, sym}
use Rattle.std.specs.Prelude.{codes}
use Rattle.std.specs.String.{string_bytes}
use Rattle.base64.specs.GeneralPurpose.{IsBytes}
use Rattle.der_forms.specs.Objects.{objects_of}
use Rattle.der_forms.specs.Written.{base64_lines, boundary, is_label, line_count, written_pem}
use Rattle.der_forms.proofs.ReadBack.{objects_of-written}
use Rattle.der_forms.proofs.written.to_pem.Goals as goal

pub returns-clause-read_back : goal.returns-clause-read_back
returns-clause-read_back c =
    let label : List ℕ = c.args.label.now in
    let octets : List ℕ = c.args.octets.now in
    let begin : List ℕ = boundary (codes "-----BEGIN ") label in
    let end : List ℕ = boundary (codes "-----END ") label in
    let lines : List ℕ = base64_lines (line_count octets) octets in
    let is = ap is_label (sym c.as_bytes.ensures.value) ∙ (sym c.is_label.ensures ∙ c.if-not-is_label.false) in
    let bytes : IsBytes octets = λ i. omega (arith, c.type_inv.octets i) in
    let first : string_bytes c.push_boundary.new.text ≡ begin =
    c.in_ok-push_boundary.ensures ∙ ap (λ (t : List ℕ). t ++ begin) c.new-text.ensures.bytes in
    let middle : string_bytes c.push_lines.new.text ≡ begin ++ lines =
    c.in_ok-push_lines.ensures ∙ ap (λ (t : List ℕ). t ++ lines) first in
    let text : string_bytes c.push_boundary-2.new.text ≡ written_pem label octets =
    c.in_ok-push_boundary-2.ensures
    ∙ (ap (λ (t : List ℕ). t ++ end) middle ∙ append_assoc begin lines end) in
    ap objects_of text ∙ objects_of-written label is octets bytes

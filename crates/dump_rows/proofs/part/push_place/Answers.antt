-- For `part::push_place`: what it returns is right.
use Rattle.std.proofs.Common.{◌≡◌, ℕ, List, ◌++◌, ap, append_assoc, codes, decimal, string_bytes, sym, ◌∙◌}
use Rattle.dump_rows.specs.Parts.{place_text}
use Rattle.dump_rows.specs.Rows.{size_text}
use Rattle.dump_rows.proofs.part.push_place.Goals as goal

pub returns : goal.returns
returns c =
    let place = c.in-Some.place in
    let old = string_bytes c.args.out.now in
    let size = size_text place.contents in
    let end : List ℕ = codes "\"" in
    let front : List ℕ = codes " data-offset=\"" ++ (decimal place.offset ++ (codes "\" data-header=\""
    ++ (decimal place.header ++ codes "\" data-contents=\""))) in
    let begun : string_bytes c.write.new.self ≡ old ++ front = c.in_ok-write.ensures.bytes in
    c.in_ok-push_str.ensures.bytes
    ∙ (ap (λ z. z ++ end) (c.in_ok-push_size.ensures ∙ ap (λ z. z ++ size) begun)
    ∙ (append_assoc (old ++ front) size end
    ∙ (append_assoc old front (size ++ end) ∙ ap (λ z. old ++ place_text z) (sym c.in-Some.is))))

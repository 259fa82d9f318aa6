-- For `printer::Printer::write_line`: what it returns is right.
use Rattle.std.proofs.Common.{◌≡◌, ◌∙◌, List, [], ◌∷◌, ◌++◌, ap, append-nil, append_assoc, refl, subst, sym}
use Rattle.std.proofs.lemmas.Grind.{flat_map-append}
use Rattle.std.proofs.lemmas.Result.{on_ok_weaker}
use Rattle.std.specs.Io.KnownBytes.{Appends}
use Rattle.std.specs.List.{flat_map}
use Rattle.dump_rows.specs.Parts.{written}
use Rattle.dump_rows.specs.declared.part.Look.TheVariants.{Plain}
use Rattle.dump_rows.specs.declared.part.Look.{Look}
use Rattle.dump_rows.specs.declared.part.Part.TheVariants.{End, FoldEnds, Start}
use Rattle.dump_rows.specs.declared.part.Part.{Part}
use Rattle.dump_rows.proofs.printer.Printer.write_line.Goals as goal

-- what is written of parts one after the other is what is written of all
written-all :
    (look : Look) (before texts : List Part) (end : Part) →
    (flat_map (written look) before ++ flat_map (written look) texts) ++ written look end
    ≡ flat_map (written look) (before ++ (texts ++ end ∷ []))
written-all look before texts end =
    append_assoc (flat_map (written look) before) (flat_map (written look) texts) (written look end)
    ∙ (ap (λ z. flat_map (written look) before ++ z)
    (ap (λ z. flat_map (written look) texts ++ z) (sym (append-nil (written look end)))
    ∙ sym (flat_map-append (written look) texts (end ∷ [])))
    ∙ sym (flat_map-append (written look) before (texts ++ end ∷ [])))

pub returns : goal.returns
returns g c =
    let look = c.args.self.now.look in
    let texts = c.args.texts.now in
    let frame = c.args.frame in
    let before : List Part = FoldEnds c.turn-closed.result ∷ Start frame.is_fold frame.is_fault frame.place ∷ [] in
    let end : Part = End frame.is_fold in
    let made : c.as_bytes.result.now ≡ flat_map (written look) (before ++ (texts ++ end ∷ [])) =
    c.as_bytes.ensures.value
    ∙ (c.in_ok-push.ensures
    ∙ (ap (λ z. z ++ written look end) (c.in_ok-push_parts-2.ensures
    ∙ ap (λ z. z ++ flat_map (written look) texts) (c.in_ok-push_parts.ensures
    ∙ ap (λ z. z ++ flat_map (written look) before) c.in_ok-line.ensures.bytes))
    ∙ written-all look before texts end)) in
    on_ok_weaker c.write_part.result
    (λ wrote. record {
      look = refl;
      width = refl;
      parts = before ++ (texts ++ end ∷ []);
      wrote = subst (Appends (g.W.Write.contents c.args.self.now.out) _) made wrote;
      is = flat_map-append (written Plain) texts (end ∷ []);
    }) c.write_part.ensures.written

-- For `printer::Printer::write`: what it returns is right.
use Rattle.std.proofs.Common.{◌≡◌, ◌∙◌, ◌++◌, ap, refl, subst}
use Rattle.std.proofs.lemmas.Result.{on_ok_weaker}
use Rattle.std.specs.Io.KnownBytes.{Appends}
use Rattle.std.specs.List.{flat_map}
use Rattle.dump_rows.specs.Parts.{written}
use Rattle.dump_rows.proofs.printer.Printer.write.Goals as goal

pub returns : goal.returns
returns g c =
    let look = c.args.self.now.look in
    let parts = c.args.parts.now in
    let made : c.as_bytes.result.now ≡ flat_map (written look) parts =
    c.as_bytes.ensures.value
    ∙ (c.in_ok-push_parts.ensures ∙ ap (λ z. z ++ flat_map (written look) parts) c.new-text.ensures.bytes) in
    on_ok_weaker c.write_part.result
    (λ wrote. record {
      look = refl;
      width = refl;
      parts = parts;
      wrote = subst (Appends (g.W.Write.contents c.args.self.now.out) _) made wrote;
      is = refl;
    }) c.write_part.ensures.written

-- For `show::Show::push_part`: what it returns is right.
use Rattle.std.proofs.Common.{[], ◌≡◌, inl, inr, refl}
use Rattle.std.proofs.KnownBytes.{Appends-nil}
use Rattle.std.proofs.lemmas.Result.{IfOk-weaker}
use Rattle.std.specs.Prelude.{None}
use Rattle.der_forms.specs.Objects.{IsReadAs, document_of}
use Rattle.dump_inputs.proofs.show.Show.push_part.Goals as goal

pub returns-in-Err : goal.returns-in-Err
returns-in-Err g c =
    let none : document_of c.args.input.items ≡ None = rw c.in-Err.is at c.in_ok-document.ensures.none in
    ([], Appends-nil (g.W.Write.contents c.args.out.now), (None, inl (none, refl), refl))

pub returns-in-Ok : goal.returns-in-Ok
returns-in-Ok g c =
    let document = c.in-Ok.document.octets.items in
    let is : IsReadAs c.args.input.items document = rw c.in-Ok.is at c.in_ok-document.ensures.found in
    IfOk-weaker c.push_part_meant.result _ _
    (λ outcome (octets, part, (text, put, written)). (text, put, (octets, inr (document, is, part), written)))
    c.push_part_meant.ensures

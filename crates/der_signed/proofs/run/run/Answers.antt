-- For `run::run`: what it returns is right (`written`, `refused`).
use Rattle.std.proofs.Common.{◌≡◌, List, ℕ, None, Some, Option, refl, subst}
use Rattle.std.proofs.lemmas.Result.{err_from_is_err_and}
use Rattle.std.specs.Prelude.{IfSome}
use Rattle.std.specs.Io.KnownBytes.{Appends}
use Rattle.der_forms.specs.Objects.{document_of}
use Rattle.der_signed.specs.Content.{HasDocument, IsContent, IsFaultOf, TellsWhy}
use Rattle.der_signed.specs.declared.run.RunFault.{RunFault}
use Rattle.der_signed.specs.declared.run.RunFault.TheVariants.{NoDocument, NotSigned, Refused, Stream}
use Rattle.der_signed.proofs.run.run.Goals as goal

-- what was written is the content of the input
IfSome-written :
    (known : Option (List ℕ)) (input content lent : List ℕ) (Put : List ℕ → Type 0) → IfSome known (λ b. input ≡ b)
    → HasDocument input (λ octets. IsContent octets content) → lent ≡ content → Put lent
    → IfSome known (λ b. (x : List ℕ) × HasDocument b (λ octets. IsContent octets x) × Put x)
IfSome-written None input content lent Put is has same put = tt
IfSome-written (Some b) input content lent Put is has same put =
    (content, subst (λ z. HasDocument z (λ octets. IsContent octets content)) is has, subst Put same put)

-- what is wrong with the octets of its document is wrong with the input
TellsWhy-document : (e : RunFault) (input octets : List ℕ) → document_of input ≡ Some octets → IsFaultOf e octets →
    TellsWhy e input
TellsWhy-document (Stream f) input octets is fault = tt
TellsWhy-document (NoDocument f) input octets is fault = absurd fault
TellsWhy-document (Refused f) input octets is fault = (octets, is, fault)
TellsWhy-document NotSigned input octets is fault = (octets, is, fault)

-- what is wrong with an input is wrong with the octets that are known of it, if any are
TellsWhy-known : (known : Option (List ℕ)) (e : RunFault) (input : List ℕ) → IfSome known (λ b. input ≡ b) →
    TellsWhy e input → IfSome known (TellsWhy e)
TellsWhy-known None e input is why = tt
TellsWhy-known (Some b) e input is why = subst (TellsWhy e) is why

pub returns-in_err-content-clause-refused : goal.returns-in_err-content-clause-refused
returns-in_err-content-clause-refused g c =
    let e = c.in_err-content.field-0.0 in
    let input = c.in_ok-input.input.items in
    let octets = c.in_ok-octets.octets.items in
    let fault : IsFaultOf e octets = subst (IsFaultOf e) c.deref.ensures.value c.in_err-content.ensures.refused in
    let p = err_from_is_err_and c.from_residual-in_err-content.result c.from_residual-in_err-content.ensures.1 in
    rw (p.1, p.2) (TellsWhy-known (g.R.Read.remaining c.args.r.now) e input c.in_ok-input.ensures.bytes
    (TellsWhy-document e input octets c.in_ok-octets.ensures.document fault))

pub returns-clause-written : goal.returns-clause-written
returns-clause-written g c =
    let octets = c.in_ok-octets.octets.items in
    let content = c.in_ok-content.content.now in
    let own : IsContent octets content =
    subst (λ z. IsContent z content) c.deref.ensures.value c.in_ok-content.ensures.content in
    IfSome-written (g.R.Read.remaining c.args.r.now) c.in_ok-input.input.items content content
    (λ z. Appends (g.W.Write.contents c.args.w.now) (g.W.Write.contents c.write_all.new.w) z)
    c.in_ok-input.ensures.bytes
    (octets, c.in_ok-octets.ensures.document, own) refl c.in_ok-write_all.ensures.written

-- For `convert::round_trip`: what it returns is right (`own`, `decoded`, `same`, `refused`).
use Rattle.std.proofs.Common.{◌<◌, ◌^◌, length, subst, ◌∙◌, arith}
use Rattle.asn1_headers.specs.declared.header.ASN1Class.TheVariants.{Universal}
use Rattle.simple_asn1.specs.Conversions.{Decodes, DecodeFails}
use Rattle.simple_asn1.proofs.Trips.{all_canonical-encoded, OwnEncodeFault-own, Decodes-same, OwnDecodeFault-own}
use Rattle.simple_asn1.proofs.convert.round_trip.Goals as goal

pub returns-in-Err-clause-own : goal.returns-in-Err-clause-own
returns-in-Err-clause-own g c k =
    let x = c.args.x.now in
    OwnEncodeFault-own (g.T.ToASN1.writes x Universal) (g.T.RoundTrip.trees_of x) (g.met.T.RoundTrip.written x)
    g.T.Error.From-2.from_gives c.in-Err.e k c.in-Err.ensures.refused

pub returns-in-Ok-der_decode-clause-decoded : goal.returns-in-Ok-der_decode-clause-decoded
returns-in-Ok-der_decode-clause-decoded g c =
    let x = c.args.x.now in
    let e = c.deref.ensures.value
    ∙ all_canonical-encoded (g.T.ToASN1.writes x Universal) (g.T.RoundTrip.trees_of x) (g.met.T.RoundTrip.written x)
    c.in-Ok.octets.items c.in-Ok.ensures.encoded in
    subst (λ z. Decodes g.T.FromASN1.reads z c.in-Ok-der_decode.y) e c.in-Ok-der_decode.ensures.decoded

pub returns-in-Ok-der_decode-clause-same : goal.returns-in-Ok-der_decode-clause-same
returns-in-Ok-der_decode-clause-same g c f =
    let x = c.args.x.now in
    let e =
    all_canonical-encoded (g.T.ToASN1.writes x Universal) (g.T.RoundTrip.trees_of x) (g.met.T.RoundTrip.written x)
    c.in-Ok.octets.items c.in-Ok.ensures.encoded in
    let small : length c.in-Ok.octets.items < 2 ^ 64 =
    omega (arith, c.in-Ok.octets.small, c.in-Ok.octets.ok.0, c.in-Ok.octets.ok.1) in
    Decodes-same g.T.FromASN1.reads x (g.T.RoundTrip.trees_of x) (subst (λ z. length z < 2 ^ 64) e small)
    (g.met.T.RoundTrip.read_back x) c.in-Ok-der_decode.y f
    (subst (λ z. Decodes g.T.FromASN1.reads z c.in-Ok-der_decode.y) (c.deref.ensures.value ∙ e)
    c.in-Ok-der_decode.ensures.decoded)

pub returns-clause-refused : goal.returns-clause-refused
returns-clause-refused g c =
    let x = c.args.x.now in
    let e = c.deref.ensures.value
    ∙ all_canonical-encoded (g.T.ToASN1.writes x Universal) (g.T.RoundTrip.trees_of x) (g.met.T.RoundTrip.written x)
    c.in-Ok.octets.items c.in-Ok.ensures.encoded in
    subst (λ z. DecodeFails g.T.FromASN1.reads g.T.Error.From-1.from_gives z c.in-Err-der_decode.e) e
    c.in-Err-der_decode.ensures.refused

pub returns-clause-own : goal.returns-clause-own
returns-clause-own g c k =
    let x = c.args.x.now in
    let e =
    all_canonical-encoded (g.T.ToASN1.writes x Universal) (g.T.RoundTrip.trees_of x) (g.met.T.RoundTrip.written x)
    c.in-Ok.octets.items c.in-Ok.ensures.encoded in
    let small : length c.in-Ok.octets.items < 2 ^ 64 =
    omega (arith, c.in-Ok.octets.small, c.in-Ok.octets.ok.0, c.in-Ok.octets.ok.1) in
    OwnDecodeFault-own g.T.FromASN1.reads x (g.T.RoundTrip.trees_of x) (subst (λ z. length z < 2 ^ 64) e small)
    g.T.Error.From-1.from_gives c.in-Err-der_decode.e k
    (subst (λ z. DecodeFails g.T.FromASN1.reads g.T.Error.From-1.from_gives z c.in-Err-der_decode.e)
    (c.deref.ensures.value ∙ e)
    c.in-Err-der_decode.ensures.refused)

-- For `single::broken_rules`: what it returns is right.
use Rattle.std.proofs.Common.{◌≡◌, ◌++◌, ◌∙◌, ◌<◌, [], ℕ, Bool, List, ap, append-nil, append_assoc, arith, length, length-append, refl, slice_range, subst, sym, take, ◌+◌, ◌-◌}
use Rattle.std.proofs.lemmas.List.{length-take-le}
use Rattle.std.proofs.lemmas.List.Elements.{All-from_get_or, All-take}
use Rattle.std.specs.Option.{option_to_list}
use Rattle.asn1_numbers.specs.Octets.{AreOctets}
use Rattle.asn1_headers.specs.Front.{IsAtFront}
use Rattle.asn1_headers.specs.Header.{IsIdentifier, IsLength, shortest_identifier}
use Rattle.asn1_headers.specs.Indefinite.{is_indefinite}
use Rattle.asn1_headers.specs.declared.whole_header.Header.{Header}
use Rattle.asn1_blocks.proofs.ReadSteps.{length-slice_range}
use Rattle.asn1_der.specs.Departures.{Found, ItemsFound, LengthFound, TypeFound}
use Rattle.asn1_der.specs.Rules.{identifier_rule}
use Rattle.asn1_der.specs.Steps.{HasParts}
use Rattle.asn1_der.proofs.Shortest.{AreOctets-parts}
use Rattle.asn1_der.proofs.single.broken_rules.Goals as goal

-- a header whose parts were told apart by their octets has these parts
HasParts-front :
    (octets : List ℕ) (h : Header) (front : IsAtFront octets h) (id len : List ℕ) (tag e : ℕ) (is_80 is_open : Bool) →
    AreOctets octets → id ≡ front.identifier → len ≡ front.len → tag ≡ h.tag → is_80 ≡ is_indefinite len →
    e ≡ h.size + h.announced →
    HasParts (record {
      class = h.class;
      constructed = h.constructed;
      tag = tag;
      identifier = length id;
      size = h.size;
      has_length_80 = is_80;
      is_indefinite = is_open;
      start = h.size;
      end = e;
    }) front.identifier front.len
HasParts-front octets h front id len tag e is_80 is_open all identifier_is len_is tag_is form end_is =
    let parts = AreOctets-parts (take h.size octets) front.identifier front.len []
    (All-take (λ b. b < 256) h.size octets all)
    (front.front_is ∙ ap (λ z. front.identifier ++ z) (sym (append-nil front.len))) in
    record {
      identifier_octets = subst (IsIdentifier front.identifier h.class h.constructed) (sym tag_is) front.fields;
      length_octets = subst (IsLength front.len) (omega (arith, end_is)) front.length_octets;
      identifier_all = parts.0;
      length_all = parts.1;
      identifier_size = ap length identifier_is;
      size_is = omega (
        arith,
        ap length front.front_is,
        length-take-le h.size octets front.within,
        length-append front.identifier front.len,
        ap length identifier_is,
      );
      length_80 = form ∙ ap is_indefinite len_is;
    }

pub returns : goal.returns
returns c front =
    let h = c.args.header.now in
    let octets = c.args.octets.now in
    let (identifier, len) = c.split_front.ensures front in
    let contents = slice_range octets h.size (h.size + h.announced) in
    let all = All-from_get_or (λ b. b < 256) octets 0 (λ k h. omega (arith, c.type_inv.octets k)) in
    let parts = HasParts-front octets h front c.split_front.result.0.now c.split_front.result.1.now _ _ _ _ all
    identifier len c.in_ok-clone.ensures c.is_indefinite-has_length_80.ensures refl in
    let size = length-slice_range octets h.size (h.size + h.announced) (omega arith) c.requires.whole in
    let i = c.identifier_found.result in
    let l = c.length_found.result in
    let t = c.in_ok-of_type.of_type in
    let n = c.items_found.result in
    let a = option_to_list i in
    let b = option_to_list l in
    let d = option_to_list t in
    let e = option_to_list n in
    record {
      own = record {
        of_identifier = i;
        of_length = l;
        of_type = t;
        identifier_found = subst (λ z. Found (front.identifier ≡ shortest_identifier h.class h.constructed z)
            (identifier_rule z) i) c.in_ok-clone.ensures
            (c.identifier_found.ensures front.identifier front.len parts);
        length_found = subst (λ z. LengthFound front.len z l) (sym size)
            (c.length_found.ensures front.identifier front.len parts);
        type_found = subst (λ z. TypeFound z h.class h.constructed h.tag contents t) parts.length_80
            (subst (λ z. TypeFound c.is_indefinite-has_length_80.result h.class h.constructed z contents t)
            c.in_ok-clone.ensures c.in_ok-of_type.ensures);
      };
      of_items = n;
      items_found = subst (λ z. ItemsFound h.constructed z contents n) len c.items_found.ensures;
      rules_are = c.in_ok-push_rule-4.ensures
          ∙ (ap (λ z. z ++ e) (c.in_ok-push_rule-3.ensures
          ∙ ap (λ z. z ++ d) (c.in_ok-push_rule-2.ensures
          ∙ ap (λ z. z ++ b) (c.in_ok-push_rule.ensures ∙ ap (λ z. z ++ a) c.new-rules.ensures.items)))
          ∙ (append_assoc (a ++ b) d e ∙ append_assoc a b (d ++ e)));
    }

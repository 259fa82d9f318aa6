-- For `spelling::prepend_contents`: what it returns is right (`put`).
use Rattle.std.proofs.Common.{◌++◌, ◌∷◌, [], length, ap, ◌∙◌, subst}
use Rattle.std.specs.Prelude.{nat_lt}
use Rattle.simple_asn1.specs.Canonical.{shortest_encoding}
use Rattle.asn1_records.specs.Inner.InRecords.{IsCanonicalBlock}
use Rattle.simple_asn1.specs.Header.{shortest_identifier, shortest_length}
use Rattle.asn1_records.specs.Spelled.{spelled_contents}
use Rattle.asn1_records.proofs.Spellings.{IsState-contents}
use Rattle.asn1_records.proofs.spelling.prepend_contents.Goals as goal

pub returns-clause-put : goal.returns-clause-put
returns-clause-put c rs state =
    let old = c.args.out.now.octets in
    let r = c.args.block.now in
    let (is, within) = c.in-Some.ensures in
    let front = shortest_identifier c.args.class (nat_lt 0 r.constructed) r.tag in
    let put = c.prepend.ensures.octets ∙ ap (λ z. z ++ c.reserve.new.self.octets) is
    ∙ ap (λ z. spelled_contents c.args.octets.now r ++ z) c.in_ok-reserve.ensures.kept in
    let headed = c.in_ok-prepend_header.ensures
    ∙ ap (λ z. front ++ (shortest_length (length z) ++ c.prepend.new.self.octets)) is in
    let started = c.in_ok-push_start.ensures ∙ ap (λ z. c.args.starts.now.items ++ z ∷ []) c.len.ensures in
    IsState-contents c.args.octets.now r c.args.class c.requires.class rs old c.args.starts.now.items
    c.prepend_header.new.out.octets c.push_start.new.starts.items c.args.canonical.now
    c.are_clearly_canonical_with.result state
    c.requires.tag c.requires.items within
    c.prepend.new.self.octets put headed started c.are_clearly_canonical_with.ensures.so_far
    (λ yes. subst (λ z. IsCanonicalBlock (shortest_encoding c.args.class (nat_lt 0 r.constructed) r.tag z)) is
    (c.are_clearly_canonical_with.ensures.this yes))

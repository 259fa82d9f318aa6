-- For `spelling::prepend_items`: what it returns is right (`put`, `refused`).
use Rattle.std.proofs.Common.{◌≡◌, ◌+◌, ◌≤◌, ◌++◌, true, length, ap, ◌∙◌, arith}
use Rattle.simple_asn1.specs.Header.{shortest_identifier, shortest_length}
use Rattle.asn1_records.proofs.Spellings.{IsState-items, start-within}
use Rattle.asn1_records.proofs.spelling.prepend_items.Goals as goal

pub returns-clause-put : goal.returns-clause-put
returns-clause-put c rs state =
    let (few, left, began) = c.in-Some.ensures in
    let sized : c.in-Some-checked_sub.size + c.in-Some.start ≡ length c.args.out.now.octets =
    omega (arith, c.in-Some-checked_sub.ensures, c.len.ensures) in
    let i = shortest_identifier c.args.class true c.args.block.now.tag in
    let l = shortest_length c.in-Some-checked_sub.size in
    let headed = c.in_ok-prepend_header.ensures ∙ ap (λ z. i ++ (l ++ z)) c.in_ok-reserve.ensures.kept in
    IsState-items c.args.octets.now c.args.block.now c.args.class c.requires.class rs c.args.out.now.octets
    c.args.starts.now.items
    c.prepend_header.new.out.octets c.push_start.new.starts.items c.args.canonical.now
    c.are_clearly_canonical_around.result
    state c.in-Some.start c.in-Some-checked_sub.size c.take_starts.new.starts.items
    c.requires.tag c.requires.items few left began sized headed c.in_ok-push_start.ensures (omega arith)
    c.are_clearly_canonical_around.ensures.so_far c.are_clearly_canonical_around.ensures.this

pub returns-in_default-checked_sub-clause-refused : goal.returns-in_default-checked_sub-clause-refused
returns-in_default-checked_sub-clause-refused c same rs state =
    let old = c.args.out.now.octets in
    let (few, left, began) = c.in-Some.ensures in
    let within : c.in-Some.start ≤ length old =
    start-within c.args.octets.now rs old c.args.starts.now.items c.args.canonical.now state c.args.block.now.items
    c.in-Some.start c.requires.items few began in
    absurd (c.in_default-checked_sub.ensures (omega (arith, within, c.len.ensures)))

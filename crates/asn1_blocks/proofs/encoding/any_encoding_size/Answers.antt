-- For `encoding::any_encoding_size`: what it returns is right (`none`, `found`).
use Rattle.std.proofs.lemmas.Grind.{common_steps}
use Rattle.std.proofs.Common.{◌≡◌, ◌+◌, ◌<◌, ◌≤◌, length, drop, take, sym, subst, arith}
use Rattle.std.proofs.lemmas.List.{length-take-le}
use Rattle.asn1_headers.specs.Header.{BeginsWithNo, IsLength}
use Rattle.asn1_blocks.specs.Places.{IsEncoding}
use Rattle.asn1_blocks.proofs.EncodingSizes.{IsEncoding-not_without_identifier, IsEncoding-not_without_length, IsEncoding-not_cut_off, IsEncoding-front, IsEncoding-two_le}
use Rattle.asn1_blocks.proofs.encoding.any_encoding_size.Goals as goal

pub returns-in_default-clause-none : goal.returns-in_default-clause-none
returns-in_default-clause-none c = IsEncoding-not_without_identifier c.args.octets.now c.in_default.ensures.none

pub returns-in-Err-clause-none : goal.returns-in-Err-clause-none
returns-in-Err-clause-none c =
    let (_, le, tag, t) = c.in-Some.ensures.found in
    IsEncoding-not_without_length c.args.octets.now c.in-Some.identifier tag t
    (subst (BeginsWithNo IsLength) c.split_at.ensures.back c.in-Err.ensures.refused)

pub returns-in_default-checked_add-clause-none : goal.returns-in_default-checked_add-clause-none
returns-in_default-checked_add-clause-none c =
    let octets = c.args.octets.now in
    let i = c.in-Some.identifier in
    let m = c.in-Ok.found.0 in
    let l = c.in-Ok.found.1 in
    let (_, le, tag, t) = c.in-Some.ensures.found in
    let u = c.in-Ok.ensures.found in
    let e = c.split_at.ensures.back in
    let few : l ≤ length (drop i octets) = subst (λ z. l ≤ length z) e u.0 in
    IsEncoding-not_cut_off octets i l m tag t le (subst (λ z. IsLength (take l z) m) e u.1) few
    (omega (arith, c.in_default-checked_add.ensures))

pub returns-then-size-octets-clause-found : goal.returns-then-size-octets-clause-found
returns-then-size-octets-clause-found c =
    let octets = c.args.octets.now in
    let i = c.in-Some.identifier in
    let m = c.in-Ok.found.0 in
    let l = c.in-Ok.found.1 in
    let n = c.in-Some-checked_add.size in
    let (_, le, tag, t) = c.in-Some.ensures.found in
    let u = c.in-Ok.ensures.found in
    let e = c.split_at.ensures.back in
    let few : l ≤ length (drop i octets) = subst (λ z. l ≤ length z) e u.0 in
    let s : n ≡ i + l + m = omega (arith, c.in-Some-checked_add.ensures) in
    let fits : n ≤ length octets = omega arith in
    let p : IsEncoding (take (i + l + m) octets) =
    IsEncoding-front octets i l m tag t le (subst (λ z. IsLength (take l z) m) e u.1) few (omega (arith, s, fits)) in
    let q : IsEncoding (take n octets) = subst (λ z. IsEncoding (take z octets)) (sym s) p in
    (omega (arith, IsEncoding-two_le (take n octets) q, length-take-le n octets fits), fits, q)

pub returns-else-size-octets-clause-none : goal.returns-else-size-octets-clause-none
returns-else-size-octets-clause-none c =
    let octets = c.args.octets.now in
    let i = c.in-Some.identifier in
    let m = c.in-Ok.found.0 in
    let l = c.in-Ok.found.1 in
    let n = c.in-Some-checked_add.size in
    let (_, le, tag, t) = c.in-Some.ensures.found in
    let u = c.in-Ok.ensures.found in
    let e = c.split_at.ensures.back in
    let few : l ≤ length (drop i octets) = subst (λ z. l ≤ length z) e u.0 in
    let s : n ≡ i + l + m = omega (arith, c.in-Some-checked_add.ensures) in
    let short : length octets < n = omega arith in
    IsEncoding-not_cut_off octets i l m tag t le (subst (λ z. IsLength (take l z) m) e u.1) few (omega (
      arith,
      s,
      short,
    ))

pub returns-in_default-clause-found : goal.returns-in_default-clause-found
returns-in_default-clause-found c = grind (arith, common_steps)

pub returns-in-Err-clause-found : goal.returns-in-Err-clause-found
returns-in-Err-clause-found c = grind (arith, common_steps)

pub returns-in_default-checked_add-clause-found : goal.returns-in_default-checked_add-clause-found
returns-in_default-checked_add-clause-found c = grind (arith, common_steps)

pub returns-then-size-octets-clause-none : goal.returns-then-size-octets-clause-none
returns-then-size-octets-clause-none c = grind (arith, common_steps)

pub returns-else-size-octets-clause-found : goal.returns-else-size-octets-clause-found
returns-else-size-octets-clause-found c = grind (arith, common_steps)

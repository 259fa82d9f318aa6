-- For `encoding::encoding_size`: what it returns is right (`none`, `found`).
use Rattle.std.proofs.Common.{◌+◌, ◌%◌, ◌<◌, ◌≤◌, length, arith}
use Rattle.std.specs.Prelude.{slice_index_or}
use Rattle.std.proofs.lemmas.Grind.{common_steps}
use Rattle.asn1_blocks.proofs.EncodingSizes.{IsEncoding-short, IsEncoding-not_short_cut_off}
use Rattle.asn1_blocks.proofs.encoding.encoding_size.Goals as goal

pub returns-then-contents-rest-clause-found : goal.returns-then-contents-rest-clause-found
returns-then-contents-rest-clause-found c =
    let octets = c.args.octets.now in
    let two : 2 ≤ length octets = c.in-len2-up.len_at_least in
    let octet : slice_index_or octets 0 0 < 256 = grind (arith, common_steps) in
    let low : slice_index_or octets 0 0 % 32 < 31 = grind (arith, common_steps) in
    let short : slice_index_or octets 1 0 < 128 = grind (arith, common_steps) in
    let fits : 2 + slice_index_or octets 1 0 ≤ length octets = grind (arith, common_steps) in
    (omega arith, fits, IsEncoding-short octets two octet low short fits)

pub returns-else-contents-rest-clause-none : goal.returns-else-contents-rest-clause-none
returns-else-contents-rest-clause-none c =
    let octets = c.args.octets.now in
    let two : 2 ≤ length octets = c.in-len2-up.len_at_least in
    let octet : slice_index_or octets 0 0 < 256 = grind (arith, common_steps) in
    let low : slice_index_or octets 0 0 % 32 < 31 = grind (arith, common_steps) in
    let short : slice_index_or octets 1 0 < 128 = grind (arith, common_steps) in
    let few : length octets < 2 + slice_index_or octets 1 0 = grind (arith, common_steps) in
    IsEncoding-not_short_cut_off octets two octet low short few

-- For `piece::Here::read`: `plain` may be called.
use Rattle.std.proofs.Common.{◌≡◌, arith, length, refl, true}
use Rattle.std.proofs.lemmas.Grind.{common_steps}
use Rattle.std.proofs.lemmas.List.{nil_from_length}
use Rattle.asn1_headers.specs.Indefinite.{begins_with_end}
use Rattle.dump_walk.specs.Fronts.{end_missing, end_there}
use Rattle.dump_walk.proofs.Pieces.{fault_offset-at}
use Rattle.dump_walk.proofs.piece.Here.read.Goals as goal

pub plain-requires-clause-line : goal.plain-requires-clause-line
plain-requires-clause-line c = λ depth.
    let left = c.args.self.left in
    let none : length left.octets.now ≡ 0 = grind (arith, common_steps) in
    let within : left.is_indefinite ≡ true = grind (arith, common_steps) in
    let at = fault_offset-at c.args.self.offset c.in_ok-fault.fault c.in_ok-fault.ensures in
    end_missing within (nil_from_length left.octets.now none) refl refl at

pub plain-requires-then-begins_with_end-clause-line : goal.plain-requires-then-begins_with_end-clause-line
plain-requires-then-begins_with_end-clause-line c = λ depth.
    let left = c.args.self.left in
    let within : left.is_indefinite ≡ true = grind (arith, common_steps) in
    let begins : begins_with_end left.octets.now ≡ true = grind (arith, common_steps) in
    end_there within begins refl refl refl

-- That listing departures counts none exactly for DER, for `simple_asn1_der`.
use Rattle.std.proofs.Common.{◌≡◌, ℕ, inl, inr, List, [], ◌∷◌, length, map, refl, sym, ap, ◌∙◌, arith}
use Rattle.std.specs.Prelude.{◌↔◌}
use Rattle.asn1_der.specs.declared.rule.Departure.{Departure}
use Rattle.asn1_der.specs.Der.{IsDer}
use Rattle.simple_asn1.specs.Fault.{DecodeFault, bad_boolean_length, empty_buffer, incomplete, invalid_bit_string_length, invalid_class, invalid_date_value, length_too_large, not_canonical, out_of_memory, overflow, printable_string_failure, utf8_failure}
use Rattle.asn1_records.specs.Departures.{AnswersDepartures, departure_record}
use Rattle.asn1_records.specs.Room.{was_found, was_refused}
use Rattle.asn1_records.specs.Status.{done, status_of}
use Rattle.asn1_records.specs.declared.record.DepartureRecord.{DepartureRecord}
use Rattle.asn1_records.specs.declared.record.Outcome.{Outcome}

-- no fault has the number of what was done
status_of-not_done : (fault : DecodeFault) → status_of fault ≡ 0 → ⊥
status_of-not_done empty_buffer e = absurd (omega (arith, e))
status_of-not_done (bad_boolean_length n) e = absurd (omega (arith, e))
status_of-not_done (length_too_large n) e = absurd (omega (arith, e))
status_of-not_done (utf8_failure n size) e = absurd (omega (arith, e))
status_of-not_done printable_string_failure e = absurd (omega (arith, e))
status_of-not_done (invalid_date_value text) e = absurd (omega (arith, e))
status_of-not_done (invalid_bit_string_length n) e = absurd (omega (arith, e))
status_of-not_done incomplete e = absurd (omega (arith, e))
status_of-not_done (not_canonical n) e = absurd (omega (arith, e))
status_of-not_done out_of_memory e = absurd (omega (arith, e))
status_of-not_done (invalid_class n) e = absurd (omega (arith, e))
status_of-not_done overflow e = absurd (omega (arith, e))

-- the count is 0 exactly if no departures were found
count-none : (found : List Departure) (count : ℕ) → count ≡ length (map departure_record found) →
    (count ≡ 0) ↔ (found ≡ [])
count-none [] count e = ((λ z. refl), (λ none. e))
count-none (d ∷ found) count e = ((λ z. absurd (omega (arith, e, z))), (λ none. cc))

-- listing that is done counts no departures exactly of DER
pub count-none_iff_der : (octets : List ℕ) (before after : List DepartureRecord) (o : Outcome) →
    AnswersDepartures octets before after o
    → o.status ≡ done → (o.count ≡ 0) ↔ IsDer octets
count-none_iff_der octets before after o (was_found records (found, are, same, e) put) is_done =
    let none = count-none found o.count (put.0 ∙ ap length e) in
    ((λ z. same.0 (none.0 z)), (λ der. none.1 (same.1 der)))
count-none_iff_der octets before after o (was_refused (inl (status, place)) count kept) is_done =
    absurd (omega (arith, status, is_done))
count-none_iff_der octets before after o (was_refused (inr (fault, at, status)) count kept) is_done =
    absurd (status_of-not_done fault (sym status ∙ is_done))

-- For `padding::has_padded_component`: what each turn of its loop keeps.
use Rattle.std.proofs.Common.{◌≡◌, drop}
use Rattle.asn1_der.specs.Padding.{has_padded_component, is_padded_from}
use Rattle.asn1_der.proofs.padding.has_padded_component.Given as goal

-- an octet 80 stands where a subidentifier begins exactly if one does among the octets that are left
abbrev pub invariant-loop-octet : goal.invariant-loop-octet
invariant-loop-octet l = has_padded_component l.contents ≡ is_padded_from l.begins (drop l.octet-index l.contents)

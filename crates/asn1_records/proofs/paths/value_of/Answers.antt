-- For `paths::value_of`: what it returns is right.
use Rattle.std.proofs.Common.{◌≡◌, sym, ap, ◌∙◌}
use Rattle.std.proofs.lemmas.Option.{MatchOption-at_none, MatchOption-at_some}
use Rattle.asn1_outline.specs.Shapes.{entries_of, shape_entry}
use Rattle.asn1_outline.specs.declared.entry.Entry.{Entry}
use Rattle.asn1_records.specs.Paths.{index_at, integer_in, value_at, value_with}
use Rattle.asn1_records.proofs.NamedEntries.{value_at-path, value_first}
use Rattle.asn1_records.proofs.paths.value_of.Goals as goal

pub returns-in_default : goal.returns-in_default
returns-in_default c all has =
    let x = c.args.octets.now in
    let es = entries_of 0 0 all in
    let path = c.path_in.result.now in
    let none = MatchOption-at_none _ _ c.in_default.is (c.in_ok-found.ensures.named all has) in
    c.no_value.ensures ∙ ap (value_first x) (sym none) ∙ sym (value_at-path x all path)
    ∙ ap (λ p. value_at x es (index_at es p)) c.path_in.ensures

pub returns : goal.returns
returns c all has =
    let x = c.args.octets.now in
    let es = entries_of 0 0 all in
    let path = c.path_in.result.now in
    let f = c.in-Some.found in
    let (items, later, is, _) = MatchOption-at_some _ _ f c.in-Some.is (c.in_ok-found.ensures.named all has) in
    let entry : c.header_entry-entry.result ≡ shape_entry f.offset f.header 0 1 0 = c.header_entry-entry.ensures in
    c.value_with.ensures ∙ ap (value_with c.header_entry-entry.result) c.integer_in.ensures
    ∙ ap (λ (e : Entry). value_with e (integer_in x e)) entry ∙ ap (value_first x) (sym is)
    ∙ sym (value_at-path x all path) ∙ ap (λ p. value_at x es (index_at es p)) c.path_in.ensures

-- The first of the entries, which the builder of entries keeps.
use Rattle.std.proofs.Common.{◌≡◌, ℕ, ◌+◌, ◌-◌, ◌<◌, ◌≤◌, ◌++◌, List, [], ◌∷◌, get_or, length, set, take, sym, ap, ◌∙◌, subst, arith, length-append, suc-add, zero-add}
use Rattle.std.proofs.lemmas.List.{get_or_append_left, length-set, length-take-le, set-append_left, take_all}
use Rattle.std.proofs.Math.Seq.{take-append-add}
use Rattle.asn1_outline.specs.Entries.{no_entry}
use Rattle.asn1_outline.specs.Listing.{KeepsOf, with_items_at, with_items}
use Rattle.asn1_outline.specs.declared.entry.Entry.{Entry}
use Rattle.asn1_outline.specs.declared.entry_builder.EntryBuilder.{EntryBuilder}

-- there are as many entries as are kept and beyond them
pub length-front : (b : EntryBuilder) (all : List Entry) → KeepsOf b all → length all ≡ length b.kept.items + b.beyond
length-front b all w = omega (arith, ap length w.whole, length-append b.kept.items w.others, w.count)

-- an entry that is not kept is changed among the others
set-append_right : {A : Type 0} (xs ys : List A) (n : ℕ) (a : A) → set (xs ++ ys) (length xs + n) a ≡ xs ++ set ys n a
set-append_right [] ys n a = ap (λ k. set ys k a) (zero-add n)
set-append_right (x ∷ xs) ys n a =
    ap (λ k. set (x ∷ (xs ++ ys)) k a) (suc-add (length xs) n) ∙ ap (λ z. x ∷ z) (set-append_right xs ys n a)

-- setting the items of an entry that is not kept leaves the kept entries as they are
pub KeepsOf-with_items_behind : (b : EntryBuilder) (all : List Entry) (entry items : ℕ) → length b.kept.items ≤ entry →
    KeepsOf b all → KeepsOf b (with_items_at all entry items)
KeepsOf-with_items_behind b all entry items le w =
    let own = length b.kept.items in
    let new = with_items items (length all) (get_or all entry no_entry) in
    let at : own + (entry - own) ≡ entry = omega (arith, le) in
    record {
      others = set w.others (entry - own) new;
      whole = ap (λ z. set z entry new) w.whole ∙ ap (λ z. set (b.kept.items ++ w.others) z new) (sym at)
          ∙ set-append_right b.kept.items w.others (entry - own) new;
      count = length-set w.others (entry - own) new ∙ w.count;
    }

-- setting the items of a kept entry changes it among the kept entries
pub KeepsOf-with_items_within :
    (b c : EntryBuilder) (all : List Entry) (entry items next : ℕ) (r : Entry) → entry < length b.kept.items →
    KeepsOf b all →
    r ≡ get_or b.kept.items entry no_entry → next ≡ length all →
    c.kept.items ≡ set b.kept.items entry (with_items items next r) →
    c.beyond ≡ b.beyond → KeepsOf c (with_items_at all entry items)
KeepsOf-with_items_within b c all entry items next r lt w is at new same =
    let there : r ≡ get_or all entry no_entry =
    is ∙ sym (ap (λ z. get_or z entry no_entry) w.whole ∙ get_or_append_left b.kept.items w.others no_entry entry lt) in
    let made = with_items items (length all) (get_or all entry no_entry) in
    let put : c.kept.items ≡ set b.kept.items entry made =
    new ∙ ap (λ z. set b.kept.items entry (with_items items z r)) at
    ∙ ap (λ z. set b.kept.items entry (with_items items (length all) z)) there in
    record {
      others = w.others;
      whole = ap (λ z. set z entry made) w.whole ∙ set-append_left b.kept.items w.others entry made lt
          ∙ ap (λ z. z ++ w.others) (sym put);
      count = w.count ∙ sym same;
    }

-- cutting entries behind the kept ones keeps these, and counts fewer beyond them
pub KeepsOf-take_behind :
    (b c : EntryBuilder) (all : List Entry) (n : ℕ) → length b.kept.items ≤ n → n - length b.kept.items ≤ b.beyond →
    KeepsOf b all →
    c.kept.items ≡ b.kept.items → c.beyond ≡ n - length b.kept.items → KeepsOf c (take n all)
KeepsOf-take_behind b c all n le few w same beyond =
    let own = length b.kept.items in
    let at : own + (n - own) ≡ n = omega (arith, le) in
    record {
      others = take (n - own) w.others;
      whole = ap (take n) w.whole ∙ ap (λ z. take z (b.kept.items ++ w.others)) (sym at)
          ∙ take-append-add b.kept.items w.others (n - own)
          ∙ ap (λ z. z ++ take (n - own) w.others) (sym same);
      count = length-take-le (n - own) w.others (omega (arith, few, w.count)) ∙ sym beyond;
    }

-- cutting behind all entries leaves them as they are
pub KeepsOf-take_all : (b : EntryBuilder) (all : List Entry) (n : ℕ) → length b.kept.items + b.beyond ≤ n →
    KeepsOf b all →
    KeepsOf b (take n all)
KeepsOf-take_all b all n le w = subst (KeepsOf b) (sym (take_all n all (omega (arith, le, length-front b all w)))) w

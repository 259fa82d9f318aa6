-- For `read_loop::refuse`: its loop keeps its invariant, what it returns is right, and `keep` may be called.
use Rattle.std.proofs.Common.{◌≡◌, true, inr, length, ap, arith}
use Rattle.std.proofs.lemmas.Grind.{common_steps}
use Rattle.asn1_blocks.specs.Inner.OpenFrames.{is_attempt}
use Rattle.asn1_blocks.proofs.Reader.Stopping.{CanBeKept-inside, end-enclosing_le, GoesOn-kept, IsFaultyDocument-refused, IsRefused-leave_frame, IsRefused-taken, work_left-taken_lt, HasAttempt-inside}
use Rattle.asn1_blocks.proofs.read_loop.refuse.Goals as goal

pub loop-parent-preserved : goal.loop-parent-preserved
loop-parent-preserved g c =
    record {
      faulty = λ n most w.
          let octets = c.args.octets.now in
          let r = c.loop-parent.reader in
          let k = (c.replace-items.result) in
          let h = c.replace-items.new.dest in
          let after = c.pop.new.self in
          let own = c.replace-items.ensures.value in
          let is = c.in-Some.ensures.items in
          let before = c.loop-parent.invariant.faulty n most w in
          let taken = IsRefused-taken g.B.Builder.holds octets r.builder r.inner k c.in-Some.parent h r.outer.items
          after.items _ r.index n own c.replace-items.ensures.after is before.refused in
          let no : is_attempt k.extent.kind ≡ true → ⊥ = grind (arith, common_steps) in
          record {
            refused =
                IsRefused-leave_frame g.B.Builder.holds octets r.builder k h after _ r.index n c.requires.small taken
                (λ d. no (ap is_attempt d));
            nearer = omega (
              arith,
              before.nearer,
              work_left-taken_lt (length octets) r.inner k c.in-Some.parent r.outer.items after.items own is,
              end-enclosing_le g.B.Builder.holds octets r.builder k h after _ r.index n c.requires.small taken,
            );
          };
    }

pub keep-requires : goal.keep-requires
keep-requires g c =
    let octets = c.args.octets.now in
    let r = c.loop-parent.reader in
    let k = (c.replace-items.result) in
    let h = c.replace-items.new.dest in
    let after = c.pop.new.self in
    let (n, most, w) = c.requires.faulty in
    let before = c.loop-parent.invariant.faulty n most w in
    let taken =
    IsRefused-taken g.B.Builder.holds octets r.builder r.inner k c.in-Some.parent h r.outer.items after.items
    _ r.index n c.replace-items.ensures.value c.replace-items.ensures.after c.in-Some.ensures.items before.refused in
    let yes : is_attempt k.extent.kind ≡ true = grind (arith, common_steps) in
    let a = HasAttempt-inside g.B.Builder.holds octets r.builder k h after _ r.index n c.requires.small taken yes in
    CanBeKept-inside g.B.Builder.holds octets r.builder k h after _ r.index n c.requires.small taken a

pub returns-in-Some : goal.returns-in-Some
returns-in-Some g c =
    record {
      recovered = λ n most w.
          let octets = c.args.octets.now in
          let r = c.loop-parent.reader in
          let k = (c.replace-items.result) in
          let h = c.replace-items.new.dest in
          let after = c.pop.new.self in
          let own = c.replace-items.ensures.value in
          let is = c.in-Some.ensures.items in
          let before = c.loop-parent.invariant.faulty n most w in
          let taken = IsRefused-taken g.B.Builder.holds octets r.builder r.inner k c.in-Some.parent h r.outer.items
          after.items _ r.index n own c.replace-items.ensures.after is before.refused in
          let yes : is_attempt k.extent.kind ≡ true = grind (arith, common_steps) in
          let a =
          HasAttempt-inside g.B.Builder.holds octets r.builder k h after _ r.index n c.requires.small taken yes in
          let depth : c.len-depth.result ≡ length after.items = grind (arith, common_steps) in
          let near = work_left-taken_lt (length octets) r.inner k c.in-Some.parent r.outer.items after.items own is in
          GoesOn-kept g.B.Builder.holds octets r.builder k h after _ r.index n c.requires.small taken a
          c.len-depth.result c.keep.new.self
          c.keep.new.parent r.fault most depth c.in-Ok.ensures (omega (arith, near, before.nearer));
    }

pub returns : goal.returns
returns g c =
    record {
      recovered = λ n most w.
          let r = c.loop-parent.reader in
          let before = c.loop-parent.invariant.faulty n most w in
          let none : length r.outer.items ≡ 0 = grind (arith, common_steps) in
          inr
          (IsFaultyDocument-refused g.B.Builder.holds c.args.octets.now r.builder r.inner r.outer.items _ r.index n none
          before.refused);
    }

use Rattle.std.proofs.Common.{◌≡◌, ◌∙◌, ◌++◌, ◌∷◌, ◌+◌, ◌==◌, [], if◌then◌else◌, suc, ℕ, Vec, Global, length, ap, arith}
use Rattle.pst_base.specs.declared.subs.Sub.{Sub}
use Rattle.property_context.proofs.PlaceLaws.{free-most, pass-placing, push-data}
use Rattle.property_context.proofs.placing.pass_all.Goals as goal

pub subs-preserved : goal.subs-preserved
subs-preserved c =
    let placed : c.pass.new.p.placed.items ≡ c.subs.p.placed.items ++ c.in-Some.sub ∷ [] =
    c.in_ok-pass.ensures.placed ∙ ap (λ (v : Vec Sub Global). v.items ++ c.in-Some.sub ∷ []) c.in-Some.ensures.placed in
    let left : c.pass.new.p.left.items ≡ c.next_up.new.p.left.items = ap (λ q. q.items) c.in_ok-pass.ensures.left in
    let free : c.pass.new.p.free ≡ (if c.in-Some.sub.nid.bits == c.subs.p.free then c.subs.p.free + 32 else c.subs.p.free) =
    c.in_ok-pass.ensures.free ∙ ap (λ (n : ℕ). if c.in-Some.sub.nid.bits == n then n + 32 else n) c.in-Some.ensures.free in
    let most = free-most c.subs.p.free c.pass.new.p.free c.in-Some.sub.nid.bits free in
    let len : length c.subs.p.left.items ≡ suc (length c.next_up.new.p.left.items) = ap length c.in-Some.ensures.left in
    let len2 : length c.pass.new.p.left.items ≡ length c.next_up.new.p.left.items = ap length left in
    record {
      room = omega (arith, most, len, len2, c.subs.invariant.room);
      kept = λ nid bs h. push-data c.subs.p c.pass.new.p (c.in-Some.sub ∷ []) placed nid bs (c.subs.invariant.kept nid bs h);
      placing = λ long rest h. pass-placing c.subs.p c.pass.new.p c.in-Some.sub c.next_up.new.p.left.items long rest (c.subs.invariant.placing long rest h) c.in-Some.ensures.left left c.in-Some.ensures.first placed free;
    }

use Rattle.std.proofs.Common.{◌≡◌, ◌≤◌, ◌+◌, ◌∷◌, [], ℕ, List, length, rules, subst, sym, ap, ◌∙◌, arith, length-append, ◌^◌, map, ◌*◌}
use Rattle.std.proofs.lemmas.Grind.{common_steps}
use Rattle.tree_edit.specs.Shapes.{leaf, RiseIn}
use Rattle.tree_edit.specs.Plans.{AreKeys, AreWritable, keys_of}
use Rattle.tree_edit.proofs.CountLaws.{few-start, few-next, few-end, some-more}
use Rattle.tree_edit.specs.declared.plan.Child.{Child}
use Rattle.tree_edit.proofs.MergeLaws.{rise-drop}
use Rattle.tree_edit.proofs.WriteLaws.{writable-push, rise-take, fits-page, keys-more, own-key}
use Rattle.tree_edit.proofs.PackLaws.{leaves-start, leaves-next, cut-again}
use Rattle.tree_edit.proofs.pack.pack_leaves.Goals as goal

pub loop-rest-init : goal.loop-rest-init
loop-rest-init g c =
    let none = ap (λ (l : List _). length l) c.new-out.ensures.items in
    record {
      so_far = leaves-start g.E.Entry.key c.args.pages.now.items c.args.entries.now c.new-out.result.items c.new-out.ensures.items;
      rises = c.requires.rises;
      keys = subst (λ (l : List (ℕ × Child)). AreKeys g.E.Entry.rule (keys_of l)) (sym c.new-out.ensures.items) tt;
      writable = λ h. h;
      grows = omega (arith, none);
      within = omega arith;
      few = few-start c.most_at-most.result (length c.args.entries.now) _ none;
    }

pub loop-rest-preserved : goal.loop-rest-preserved
loop-rest-preserved g c =
    let some : 1 ≤ length c.split_at.result.0.now = grind (arith, common_steps) in
    let number : c.len.result ≡ length c.loop-rest.pages.items = search rules in
    let front = c.split_at.ensures.front_len in
    let back = c.split_at.ensures.back_len in
    let out = ap (λ (l : List _). length l) c.in_ok-push.ensures.items ∙ length-append c.loop-rest.out.items (_ ∷ []) in
    let pages = ap (λ (l : List _). length l) c.in_ok-push-2.ensures.items ∙ length-append c.loop-rest.pages.items (_ ∷ []) in
    let within = c.loop-rest.invariant.within in
    let grows = c.loop-rest.invariant.grows in
    record {
      so_far = leaves-next g.E.Entry.key c.args.pages.now.items c.loop-rest.pages.items _ c.loop-rest.out.items _ c.args.entries.now c.loop-rest.rest.now c.split_at.result.0.now c.split_at.result.1.now c.index-here-0.result _ _ _ c.loop-rest.invariant.so_far
          (cut-again _ c.loop-rest.rest.now c.split_at.result.0.now c.split_at.result.1.now c.split_at.ensures.front c.split_at.ensures.back) some c.index-here-0.is c.in_ok-push-2.ensures.items c.in_ok-push.ensures.items number
          c.key.ensures.value (λ name. ap leaf c.in_ok-from_slice.ensures.items);
      rises = subst (λ (l : List _). RiseIn 0 (2 ^ 64) (map g.E.Entry.key l)) (sym c.split_at.ensures.back) (rise-drop g.E.Entry.key 0 (2 ^ 64) c.share.result c.loop-rest.rest.now c.loop-rest.invariant.rises);
      keys = keys-more g.E.Entry.rule c.loop-rest.out.items ((c.key.result, _) ∷ []) c.push.new.self.items c.loop-rest.invariant.keys
          (own-key g.E.Entry.rule _ _ c.key.result g.met.E.Entry.steady (g.met.E.Entry.keyed c.index-here-0.result c.key.ensures.fits) c.key.ensures.value, tt) c.in_ok-push.ensures.items;
      writable = λ h. subst (AreWritable g.E.Entry.key g.E.Entry.rule g.E.Entry.size) (sym c.in_ok-push-2.ensures.items) (writable-push g.E.Entry.key g.E.Entry.rule g.E.Entry.size c.loop-rest.pages.items _ (c.loop-rest.invariant.writable h)
          (subst (λ (l : List _). (length l * g.E.Entry.size ≤ 488) × RiseIn 0 (2 ^ 64) (map g.E.Entry.key l)) (sym c.in_ok-from_slice.ensures.items) (
            let m = c.share.ensures.fits in fits-page (length c.split_at.result.0.now) c.most_at-most.result g.E.Entry.size (omega (arith, m, front)) c.most_at-most.ensures.holds,
            subst (λ (l : List _). RiseIn 0 (2 ^ 64) (map g.E.Entry.key l)) (sym c.split_at.ensures.front) (rise-take g.E.Entry.key 0 (2 ^ 64) c.share.result c.loop-rest.rest.now c.loop-rest.invariant.rises),
          )));
      grows = omega (arith, out, pages, grows);
      within = omega (arith, back, within);
      few = few-next c.most_at-most.result (length c.args.entries.now) (length c.loop-rest.out.items) (length c.loop-rest.rest.now) c.share.result _ _ c.loop-rest.invariant.few c.share.ensures.few
          (omega (arith, out)) (omega (arith, back)) (let s = c.loop-rest-test.true in omega (arith, s));
    }

pub returns-clause-grows : goal.returns-clause-grows
returns-clause-grows g c = c.loop-rest.invariant.grows

pub returns-clause-few : goal.returns-clause-few
returns-clause-few g c = λ n k e fits le.
    let low = c.most_at-most.ensures.low in
    few-end c.most_at-most.result (length c.args.entries.now) (length c.loop-rest.out.items) (length c.loop-rest.rest.now) c.loop-rest.invariant.few (k + e)
    (some-more c.most_at-most.result n k e (length c.args.entries.now) (omega (arith, low)) (c.most_at-most.ensures.most n fits) le)

pub returns-clause-keys : goal.returns-clause-keys
returns-clause-keys g c = c.loop-rest.invariant.keys

pub returns-clause-writable : goal.returns-clause-writable
returns-clause-writable g c = c.loop-rest.invariant.writable

pub returns-clause-most : goal.returns-clause-most
returns-clause-most g c = (c.most_at-most.result, record { holds = c.most_at-most.ensures.holds; whole = c.most_at-most.ensures.most })

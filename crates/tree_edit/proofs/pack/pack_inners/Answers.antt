use Rattle.std.proofs.Common.{◌≡◌, ◌≤◌, ◌+◌, ◌∷◌, [], ℕ, List, length, rules, refl, sym, ap, ◌∙◌, arith, length-append, ◌^◌, subst}
use Rattle.tree_edit.specs.declared.plan.Child.TheVariants.{Old}
use Rattle.std.proofs.lemmas.Grind.{common_steps}
use Rattle.tree_edit.specs.Shapes.{inner, RiseIn}
use Rattle.tree_edit.specs.Plans.{AreKeys, resolved, AreWritable, keys_of}
use Rattle.tree_edit.proofs.CountLaws.{few-start, few-next, few-end, most-inner, some-more}
use Rattle.tree_edit.specs.declared.plan.Child.{Child}
use Rattle.tree_edit.proofs.MergeLaws.{rise-drop}
use Rattle.tree_edit.proofs.WriteLaws.{writable-push, rise-take, keys-more, keys-take, keys-drop, first-key}
use Rattle.tree_edit.proofs.PackLaws.{inners-start, inners-next, cut-again}
use Rattle.tree_edit.proofs.pack.pack_inners.Goals as goal

pub loop-rest-init : goal.loop-rest-init
loop-rest-init g c =
    let none = ap (λ (l : List _). length l) c.new-out.ensures.items in
    record {
      so_far = inners-start g.E.Entry.key c.args.level c.args.pages.now.items c.args.children.now c.new-out.result.items c.new-out.ensures.items;
      rises = c.requires.rises;
      keys = subst (λ (l : List (ℕ × Child)). AreKeys g.E.Entry.rule (keys_of l)) (sym c.new-out.ensures.items) tt;
      left = c.requires.keys;
      writable = λ h. h;
      grows = omega (arith, none);
      within = omega arith;
      few = few-start c.most_at-most.result (length c.args.children.now) _ none;
      some = λ h. omega (arith, h);
    }

pub loop-rest-preserved : goal.loop-rest-preserved
loop-rest-preserved g c =
    let some : 1 ≤ length c.split_at.result.0.now = grind (arith, common_steps) in
    let number : c.len.result ≡ length c.loop-rest.pages.items = search rules in
    let front = c.split_at.ensures.front_len in
    let back = c.split_at.ensures.back_len in
    let out = ap (λ (l : List _). length l) c.in_ok-push.ensures.items ∙ length-append c.loop-rest.out.items (_ ∷ []) in
    let pages = ap (λ (l : List _). length l) c.in_ok-push-2.ensures.items ∙ length-append c.loop-rest.pages.items (_ ∷ []) in
    let within = c.loop-rest.invariant.within in
    let here_keys : AreKeys g.E.Entry.rule (keys_of c.split_at.result.0.now) =
    subst (λ (l : List (ℕ × Child)). AreKeys g.E.Entry.rule (keys_of l)) (sym c.split_at.ensures.front) (keys-take g.E.Entry.rule c.share.result c.loop-rest.rest.now c.loop-rest.invariant.left) in
    let grows = c.loop-rest.invariant.grows in
    record {
      so_far = inners-next g.E.Entry.key c.args.level c.args.pages.now.items c.loop-rest.pages.items _ c.loop-rest.out.items _ c.args.children.now c.loop-rest.rest.now c.split_at.result.0.now c.split_at.result.1.now _ _ _ (0, Old (record { bid = record { bits = 0 }; ib = 0 })) c.loop-rest.invariant.so_far
          (cut-again _ c.loop-rest.rest.now c.split_at.result.0.now c.split_at.result.1.now c.split_at.ensures.front c.split_at.ensures.back) some refl c.in_ok-push-2.ensures.items c.in_ok-push.ensures.items number
          (λ name. ap (λ (l : List _). inner c.args.level (resolved name l)) c.in_ok-from_slice.ensures.items);
      rises = subst (λ (l : List (ℕ × Child)). RiseIn 0 (2 ^ 64) (keys_of l)) (sym c.split_at.ensures.back) (rise-drop (λ (x : ℕ × Child). x.0) 0 (2 ^ 64) c.share.result c.loop-rest.rest.now c.loop-rest.invariant.rises);
      keys = keys-more g.E.Entry.rule c.loop-rest.out.items (_ ∷ []) c.push.new.self.items c.loop-rest.invariant.keys
          (first-key g.E.Entry.rule c.split_at.result.0.now (0, Old (record { bid = record { bits = 0 }; ib = 0 })) some here_keys, tt) c.in_ok-push.ensures.items;
      left = subst (λ (l : List (ℕ × Child)). AreKeys g.E.Entry.rule (keys_of l)) (sym c.split_at.ensures.back) (keys-drop g.E.Entry.rule c.share.result c.loop-rest.rest.now c.loop-rest.invariant.left);
      writable = λ h. subst (AreWritable g.E.Entry.key g.E.Entry.rule g.E.Entry.size) (sym c.in_ok-push-2.ensures.items) (writable-push g.E.Entry.key g.E.Entry.rule g.E.Entry.size c.loop-rest.pages.items _ (c.loop-rest.invariant.writable h) (
        c.requires.low,
        c.requires.high,
        let m = c.share.ensures.fits in let top = c.most_at-most.ensures.high in let items = ap (λ (l : List (ℕ × Child)). length l) c.in_ok-from_slice.ensures.items in omega (arith, m, top, front, items),
        subst (λ (l : List (ℕ × Child)). RiseIn 0 (2 ^ 64) (keys_of l)) (sym (c.in_ok-from_slice.ensures.items ∙ c.split_at.ensures.front)) (rise-take (λ (x : ℕ × Child). x.0) 0 (2 ^ 64) c.share.result c.loop-rest.rest.now c.loop-rest.invariant.rises),
        subst (λ (l : List (ℕ × Child)). AreKeys g.E.Entry.rule (keys_of l)) (sym c.in_ok-from_slice.ensures.items) here_keys,
      ));
      grows = omega (arith, out, pages, grows);
      within = omega (arith, back, within);
      few = few-next c.most_at-most.result (length c.args.children.now) (length c.loop-rest.out.items) (length c.loop-rest.rest.now) c.share.result _ _ c.loop-rest.invariant.few c.share.ensures.few
          (omega (arith, out)) (omega (arith, back)) (let s = c.loop-rest-test.true in omega (arith, s));
      some = λ h. omega (arith, out);
    }

pub returns-clause-grows : goal.returns-clause-grows
returns-clause-grows g c = c.loop-rest.invariant.grows

pub returns-clause-few : goal.returns-clause-few
returns-clause-few g c = λ k e le.
    let most = most-inner g.E.Entry.size c.args.level c.most_at-most.result c.most_at-most.ensures.most c.requires.low in
    few-end c.most_at-most.result (length c.args.children.now) (length c.loop-rest.out.items) (length c.loop-rest.rest.now) c.loop-rest.invariant.few (k + e)
    (some-more c.most_at-most.result 20 k e (length c.args.children.now) (omega (arith, most)) most le)

pub returns-clause-some : goal.returns-clause-some
returns-clause-some g c = λ le. let none = c.loop-rest-test.false in let some = c.loop-rest.invariant.some le in omega (arith, none, some)

pub returns-clause-keys : goal.returns-clause-keys
returns-clause-keys g c = c.loop-rest.invariant.keys

pub returns-clause-writable : goal.returns-clause-writable
returns-clause-writable g c = c.loop-rest.invariant.writable

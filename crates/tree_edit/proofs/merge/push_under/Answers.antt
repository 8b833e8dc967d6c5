use Rattle.std.proofs.Common.{◌∙◌, ◌++◌, ◌+◌, [], ◌∷◌, drop, List, ap, sym, arith, append_assoc}
use Rattle.std.proofs.lemmas.List.{append-nil}
use Rattle.tree_edit.specs.Edits.{under}
use Rattle.tree_edit.proofs.MergeLaws.{below-step, equal-step, above-step}
use Rattle.tree_edit.proofs.merge.push_under.Goals as goal

pub returns-then-here-key-clause-under : goal.returns-then-here-key-clause-under
returns-then-here-key-clause-under g c =
    let test = c.loop-i-test.true in
    let value = c.key-here.ensures.value in
    let more = c.if-here-key.true in
    let here = above-step g.E.Entry.key c.args.entries.now c.loop-i.i c.args.key c.index-entries-i.result (omega (arith, test)) c.index-entries-i.is c.requires.rises (omega (arith, value, more)) in
    sym (append-nil c.loop-i.out.items) ∙ ap (λ (l : List _). c.loop-i.out.items ++ l) (sym here.under) ∙ c.loop-i.invariant.under

pub returns-then-here-key-clause-over : goal.returns-then-here-key-clause-over
returns-then-here-key-clause-over g c =
    let test = c.loop-i-test.true in
    let value = c.key-here.ensures.value in
    let more = c.if-here-key.true in
    let here = above-step g.E.Entry.key c.args.entries.now c.loop-i.i c.args.key c.index-entries-i.result (omega (arith, test)) c.index-entries-i.is c.requires.rises (omega (arith, value, more)) in
    sym here.over ∙ c.loop-i.invariant.over

pub returns-then-here-key-2-clause-under : goal.returns-then-here-key-2-clause-under
returns-then-here-key-2-clause-under g c =
    let test = c.loop-i-test.true in
    let value = c.key-here.ensures.value in
    let more = c.if-here-key-2.true in
    let here = equal-step g.E.Entry.key c.args.entries.now c.loop-i.i c.args.key c.index-entries-i.result (omega (arith, test)) c.index-entries-i.is c.requires.rises (omega (arith, value, more)) in
    sym (append-nil c.loop-i.out.items) ∙ ap (λ (l : List _). c.loop-i.out.items ++ l) (sym here.under) ∙ c.loop-i.invariant.under

pub returns-then-here-key-2-clause-over : goal.returns-then-here-key-2-clause-over
returns-then-here-key-2-clause-over g c =
    let test = c.loop-i-test.true in
    let value = c.key-here.ensures.value in
    let more = c.if-here-key-2.true in
    let here = equal-step g.E.Entry.key c.args.entries.now c.loop-i.i c.args.key c.index-entries-i.result (omega (arith, test)) c.index-entries-i.is c.requires.rises (omega (arith, value, more)) in
    sym here.over ∙ c.loop-i.invariant.over

pub loop-i-preserved : goal.loop-i-preserved
loop-i-preserved g c =
    let test = c.loop-i-test.true in
    let value = c.key-here.ensures.value in
    let a = c.if-here-key.false in
    let b = c.if-here-key-2.false in
    let here = below-step g.E.Entry.key c.args.entries.now c.loop-i.i c.args.key c.index-entries-i.result (omega (arith, test)) c.index-entries-i.is (omega (arith, value, a, b)) in
    let es = c.args.entries.now in
    record {
      within = omega (arith, test);
      under = ap (λ (l : List _). l ++ under g.E.Entry.key c.args.key (drop (c.loop-i.i + 1) es)) c.in_ok-push.ensures.items
          ∙ append_assoc c.loop-i.out.items (c.index-entries-i.result ∷ []) (under g.E.Entry.key c.args.key (drop (c.loop-i.i + 1) es))
          ∙ ap (λ (l : List _). c.loop-i.out.items ++ l) (sym here.under) ∙ c.loop-i.invariant.under;
      over = sym here.over ∙ c.loop-i.invariant.over;
    }

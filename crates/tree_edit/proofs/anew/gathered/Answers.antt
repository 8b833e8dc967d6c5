use Rattle.std.proofs.Common.{◌≡◌, ◌++◌, ◌-◌, ◌^◌, ℕ, List, Option, suc, map, sym, ap, subst, ◌∙◌, arith}
use Rattle.std.proofs.lemmas.List.{append-nil}
use Rattle.pst_base.specs.declared.ids.Bref.{Bref as Brefs}
use Rattle.tree_edit.specs.Shapes.{RiseIn}
use Rattle.tree_edit.specs.Steps.{TellsBelow, TellsUnder}
use Rattle.tree_edit.proofs.LoopLaws.{later-same}
use Rattle.tree_edit.proofs.StepLaws.{same-keys}
use Rattle.tree_edit.proofs.StopLaws.{stops-then, stops-handed}
use Rattle.tree_edit.proofs.anew.gathered.Goals as goal

pub returns-then-level-eq0-clause-rises : goal.returns-then-level-eq0-clause-rises
returns-then-level-eq0-clause-rises g c =
    subst (λ (l : List _). RiseIn 0 (2 ^ 64) (map g.E.Entry.key l)) (sym (c.in_ok-push_leaf.ensures ∙ ap (λ (l : List _). l ++ map g.E.Entry.entry_of c.args.page.now.entries) c.new-entries.ensures.items))
    (subst (RiseIn 0 (2 ^ 64)) (sym (same-keys g.E.Entry.rule g.E.Entry.entry_of g.E.Entry.key g.met.E.Entry.key_read c.args.page.now.entries)) c.requires.rises)

pub returns-then-level-eq0-clause-gathered : goal.returns-then-level-eq0-clause-gathered
returns-then-level-eq0-clause-gathered g c = λ find told es ps under.
    let here = under.of_leaf (sym c.level.ensures.value ∙ c.if-level-eq0.true) in (
      c.in_ok-push_leaf.ensures ∙ ap (λ (l : List _). l ++ map g.E.Entry.entry_of c.args.page.now.entries) c.new-entries.ensures.items ∙ sym here.0,
      sym (append-nil c.args.freed.now.items) ∙ ap (λ (l : List Brefs). c.args.freed.now.items ++ l) (sym here.1),
    )

pub returns-clause-rises : goal.returns-clause-rises
returns-clause-rises g c = c.in_ok-gather_children.ensures.rises (subst (λ (l : List _). RiseIn 0 0 (map g.E.Entry.key l)) (sym c.new-entries.ensures.items) tt)

pub returns-clause-gathered : goal.returns-clause-gathered
returns-clause-gathered g c = λ find told es ps under.
    let value = c.level.ensures.value in
    let test = c.if-level-eq0.false in
    let level : c.args.page.now.level ≡ suc (c.args.page.now.level - 1) = omega (arith, value, test) in
    let all = c.in_ok-gather_children.ensures.gathered find told (c.args.page.now.level - 1) level es ps (under.of_inner (c.args.page.now.level - 1) level) in
    (all.0 ∙ ap (λ (l : List _). l ++ es) c.new-entries.ensures.items, all.1)

pub returns-in_err-gather_children-clause-stopped : goal.returns-in_err-gather_children-clause-stopped
returns-in_err-gather_children-clause-stopped g c =
    let Tells : (Brefs → Option (List ℕ)) → Type 0 = TellsUnder g.E.Entry.rule g.E.Entry.size g.E.Entry.entry_of g.E.Entry.key c.args.page.now in
    let Below : (Brefs → Option (List ℕ)) → Type 0 = TellsBelow g.E.Entry.rule g.E.Entry.size g.E.Entry.entry_of g.E.Entry.key c.args.page.now (2 ^ 64) in
    let value = c.level.ensures.value in
    let test = c.if-level-eq0.false in
    let level : c.args.page.now.level ≡ suc (c.args.page.now.level - 1) = omega (arith, value, test) in
    stops-handed Tells (g.S.PageSource.view c.args.s.now) (g.S.PageSource.view c.gather_children.new.s) c.in_err-gather_children.field-0.0 c.from_residual-in_err-gather_children.result c.from_residual-in_err-gather_children.ensures.1
    (stops-then Tells Below (g.S.PageSource.view c.args.s.now) (g.S.PageSource.view c.args.s.now) (g.S.PageSource.view c.gather_children.new.s) c.in_err-gather_children.field-0.0 (later-same (g.S.PageSource.view c.args.s.now))
    (λ find told tells. (c.args.page.now.level - 1, level, tells.0, tells.1, tells.2.of_inner (c.args.page.now.level - 1) level)) c.in_err-gather_children.ensures.stopped)

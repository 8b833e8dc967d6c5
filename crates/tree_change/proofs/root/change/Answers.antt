use Rattle.std.proofs.Common.{inl, inr, ◌<◌, ◌≡◌, ◌≤◌, ◌+◌, ◌*◌, ◌^◌, ◌++◌, [], ◌∷◌, ℕ, List, length, subst, sym, ap, ◌∙◌, arith, ◌-◌, Option}
use Rattle.pst_base.specs.declared.ids.Bref.{Bref as Brefs}
use Rattle.tree_edit.specs.declared.plan.Child.{Child}
use Rattle.tree_edit.specs.declared.plan.PlanPage.{PlanPage}
use Rattle.tree_edit.specs.declared.below.Level.{Level}
use Rattle.tree_edit.specs.Edits.{edited, puts}
use Rattle.tree_edit.specs.Plans.{AreWritable, IsPlan, tally}
use Rattle.tree_edit.specs.Steps.{AreSpare, TellsUnder, AreFew, Lifts, Replaces}
use Rattle.tree_change.specs.Tops.{IsTop}
use Rattle.tree_edit.specs.Pages.{shapes}
use Rattle.tree_edit.specs.Source.{TellsWhole}
use Rattle.tree_change.proofs.AnewLaws.{of-some, of-none, many-edits}
use Rattle.tree_edit.proofs.LoopLaws.{later-then}
use Rattle.tree_change.proofs.RootLaws.{plan-nothing, plan-of, root-under, root-level}
use Rattle.tree_change.proofs.CountLaws.{whole-count, spare-whole}
use Rattle.tree_edit.proofs.StopLaws.{stops-source, stops-then, stops-handed, stops-here, any-page, any-of-root}
use Rattle.tree_change.proofs.root.change.Goals as goal

pub returns-then-edits-eq0-clause-plan : goal.returns-then-edits-eq0-clause-plan
returns-then-edits-eq0-clause-plan g c = λ find told es ps whole.
    plan-nothing (shapes g.E.Entry.rule g.E.Entry.size g.E.Entry.entry_of find) g.E.Entry.key c.new-pages.result.items c.new-freed.result.items c.args.root es ps c.args.edits.now c.if-edits-eq0.true c.new-pages.ensures.items c.new-freed.ensures.items whole

pub returns-clause-later : goal.returns-clause-later
returns-clause-later g c = later-then c.page.ensures.later c.edit_root.ensures.later

pub returns-clause-plan : goal.returns-clause-plan
returns-clause-plan g c = λ find told es ps whole.
    let under = root-under g.E.Entry.rule g.E.Entry.size g.E.Entry.entry_of g.E.Entry.key find c.args.root c.in_ok-body.body c.in_ok-page.page es ps (c.in_ok-body.ensures.found find told) c.in_ok-page.ensures.page whole.level whole.tree in
    let none : c.new-pages.result.items ≡ [] = c.new-pages.ensures.items in
    let first : c.push.new.self.items ≡ c.args.root ∷ [] = c.in_ok-push.ensures.items ∙ ap (λ (l : List Brefs). l ++ (c.args.root ∷ [])) c.new-freed.ensures.items in
    let replaces : Replaces (shapes g.E.Entry.rule g.E.Entry.size g.E.Entry.entry_of find) g.E.Entry.key c.in_ok-below.below.level (2 ^ 64) [] c.edit_root.new.pages.items c.push.new.self.items c.edit_root.new.freed.items c.in_ok-below.below.children.items (edited g.E.Entry.key es c.args.edits.now) under.0 =
    subst (λ (l : List (PlanPage _)). Replaces (shapes g.E.Entry.rule g.E.Entry.size g.E.Entry.entry_of find) g.E.Entry.key c.in_ok-below.below.level (2 ^ 64) l c.edit_root.new.pages.items c.push.new.self.items c.edit_root.new.freed.items c.in_ok-below.below.children.items (edited g.E.Entry.key es c.args.edits.now) under.0) none
    (c.in_ok-below.ensures.replaces find (c.page.ensures.later.told find told) es under.0 under.2) in
    let top : IsTop c.lifted.new.pages.items c.root_of.new.pages.items c.in-Some.top.children.items c.in_ok-root.root =
    subst (λ (l : List (ℕ × Child)). IsTop c.lifted.new.pages.items c.root_of.new.pages.items l c.in_ok-root.root) c.as_slice.ensures.value c.in_ok-root.ensures.top in
    plan-of (shapes g.E.Entry.rule g.E.Entry.size g.E.Entry.entry_of find) g.E.Entry.key c.in_ok-below.below.level c.in-Some.top.level c.edit_root.new.pages.items c.lifted.new.pages.items c.root_of.new.pages.items
    c.push.new.self.items c.edit_root.new.freed.items c.args.root c.in_ok-root.root c.in_ok-below.below.children.items c.in-Some.top.children.items (edited g.E.Entry.key es c.args.edits.now) ps under.0
    (of-some (λ (t : Level). t.level ≤ 7) c.in_ok-top.field-0 c.in-Some.top c.in-Some.is c.in_ok-top.ensures.level) under.1 first c.in_ok-below.ensures.rises (of-some (λ (t : Level). length t.children.items ≤ 1) c.in_ok-top.field-0 c.in-Some.top c.in-Some.is c.in_ok-top.ensures.few) replaces (of-some (λ (t : Level). Lifts g.E.Entry.key c.in_ok-below.below.level t.level c.edit_root.new.pages.items c.lifted.new.pages.items c.in_ok-below.below.children.items t.children.items) c.in_ok-top.field-0 c.in-Some.top c.in-Some.is c.in_ok-top.ensures.lifts) top

pub returns-then-edits-eq0-clause-bound : goal.returns-then-edits-eq0-clause-bound
returns-then-edits-eq0-clause-bound g c = λ find told es ps whole. let none = ap (λ (l : List (PlanPage _)). length l) c.new-pages.ensures.items in inl (omega (arith, none))

pub returns-clause-bound : goal.returns-clause-bound
returns-clause-bound g c = λ find told es ps whole.
    let level = root-level g.E.Entry.rule g.E.Entry.size g.E.Entry.entry_of g.E.Entry.key find c.args.root c.in_ok-body.body c.in_ok-page.page es ps (c.in_ok-body.ensures.found find told) c.in_ok-page.ensures.page whole.level whole.tree in
    let none = ap (λ (l : List (PlanPage _)). length l) c.new-pages.ensures.items in
    let some = c.if-edits-eq0.false in
    let value = ap (λ (l : List (ℕ × Child)). length l) c.as_slice.ensures.value in
    let grows = c.in_ok-root.ensures.grows in
    inl (subst (λ (n : ℕ). length c.root_of.new.pages.items ≤ (2 * (n + 2)) * length c.args.edits.now) level
    (whole-count c.in_ok-page.page.level (length c.args.edits.now) (length c.edit_root.new.pages.items) (length c.lifted.new.pages.items) (length c.root_of.new.pages.items) (length c.in_ok-below.below.children.items) (length c.in-Some.top.children.items)
    (omega arith) (subst (λ (n : ℕ). AreFew c.in_ok-page.page.level (length c.args.edits.now) n (length c.edit_root.new.pages.items) (length c.in_ok-below.below.children.items)) none c.in_ok-below.ensures.few)
    (of-some (λ (t : Level). length c.lifted.new.pages.items + length t.children.items ≤ length c.edit_root.new.pages.items + length c.in_ok-below.below.children.items) c.in_ok-top.field-0 c.in-Some.top c.in-Some.is c.in_ok-top.ensures.plain) (of-some (λ (t : Level). 1 ≤ length c.in_ok-below.below.children.items → 1 ≤ length t.children.items) c.in_ok-top.field-0 c.in-Some.top c.in-Some.is c.in_ok-top.ensures.some) (of-some (λ (t : Level). (e : ℕ) → length c.in_ok-below.below.children.items ≤ 20 + e → length c.lifted.new.pages.items ≤ length c.edit_root.new.pages.items + 1 + 2 * e) c.in_ok-top.field-0 c.in-Some.top c.in-Some.is c.in_ok-top.ensures.grown) (omega (arith, grows, value))))

pub returns-then-edits-eq0-clause-writable : goal.returns-then-edits-eq0-clause-writable
returns-then-edits-eq0-clause-writable g c = subst (AreWritable g.E.Entry.key g.E.Entry.rule g.E.Entry.size) (sym c.new-pages.ensures.items) tt

pub returns-clause-writable : goal.returns-clause-writable
returns-clause-writable g c =
    c.in_ok-root.ensures.writable (c.in_ok-top.ensures.writable (c.in_ok-below.ensures.writable (subst (AreWritable g.E.Entry.key g.E.Entry.rule g.E.Entry.size) (sym c.new-pages.ensures.items) tt)))

pub returns-then-edits-eq0-clause-spare : goal.returns-then-edits-eq0-clause-spare
returns-then-edits-eq0-clause-spare g c = λ find told es ps whole. let none = ap (λ (l : List (PlanPage _)). length l) c.new-pages.ensures.items in omega (arith, none)

pub returns-clause-spare : goal.returns-clause-spare
returns-clause-spare g c = λ find told es ps whole.
    let found = c.in_ok-body.ensures.found find told in
    let level = root-level g.E.Entry.rule g.E.Entry.size g.E.Entry.entry_of g.E.Entry.key find c.args.root c.in_ok-body.body c.in_ok-page.page es ps found c.in_ok-page.ensures.page whole.level whole.tree in
    let under = root-under g.E.Entry.rule g.E.Entry.size g.E.Entry.entry_of g.E.Entry.key find c.args.root c.in_ok-body.body c.in_ok-page.page es ps found c.in_ok-page.ensures.page whole.level whole.tree in
    let none = ap (λ (l : List (PlanPage _)). length l) c.new-pages.ensures.items in
    let one = ap (λ (l : List Brefs). length l) (c.in_ok-push.ensures.items ∙ ap (λ (l : List Brefs). l ++ (c.args.root ∷ [])) c.new-freed.ensures.items) in
    let value = ap (λ (l : List (ℕ × Child)). length l) c.as_slice.ensures.value in
    let grows = c.in_ok-root.ensures.grows in
    subst (λ (n : ℕ). length c.root_of.new.pages.items ≤ length c.edit_root.new.freed.items + (n - 1 + 3) * puts g.E.Entry.key es c.args.edits.now) level
    (spare-whole (c.in_ok-page.page.level - 1) (puts g.E.Entry.key es c.args.edits.now) (length c.edit_root.new.pages.items) (length c.lifted.new.pages.items) (length c.root_of.new.pages.items) (length c.push.new.self.items) (length c.edit_root.new.freed.items)
    (length c.in_ok-below.below.children.items) (length c.in-Some.top.children.items)
    (subst (λ (n : ℕ). AreSpare (c.in_ok-page.page.level - 1) (puts g.E.Entry.key es c.args.edits.now) n (length c.edit_root.new.pages.items) (length c.push.new.self.items) (length c.edit_root.new.freed.items) (length c.in_ok-below.below.children.items)) none
    (c.in_ok-below.ensures.spare find (c.page.ensures.later.told find told) es under.0 under.2)) one (of-some (λ (t : Level). length c.lifted.new.pages.items + length t.children.items ≤ length c.edit_root.new.pages.items + length c.in_ok-below.below.children.items) c.in_ok-top.field-0 c.in-Some.top c.in-Some.is c.in_ok-top.ensures.plain) (of-some (λ (t : Level). 1 ≤ length c.in_ok-below.below.children.items → 1 ≤ length t.children.items) c.in_ok-top.field-0 c.in-Some.top c.in-Some.is c.in_ok-top.ensures.some) (of-some (λ (t : Level). (e : ℕ) → length c.in_ok-below.below.children.items ≤ 20 + e → length c.lifted.new.pages.items ≤ length c.edit_root.new.pages.items + 1 + 2 * e) c.in_ok-top.field-0 c.in-Some.top c.in-Some.is c.in_ok-top.ensures.grown) (omega (arith, grows, value)))

-- ---- written anew

pub returns-in_default-clause-later : goal.returns-in_default-clause-later
returns-in_default-clause-later g c = later-then (later-then c.page.ensures.later c.edit_root.ensures.later) c.rewritten.ensures.later

pub returns-in_err-plan-clause-later : goal.returns-in_err-plan-clause-later
returns-in_err-plan-clause-later g c = later-then (later-then c.page.ensures.later c.edit_root.ensures.later) c.rewritten.ensures.later

pub returns-in_default-clause-writable : goal.returns-in_default-clause-writable
returns-in_default-clause-writable g c = c.in_ok-plan.ensures.writable

pub returns-in_default-clause-plan : goal.returns-in_default-clause-plan
returns-in_default-clause-plan g c = λ find told es ps whole.
    let under = root-under g.E.Entry.rule g.E.Entry.size g.E.Entry.entry_of g.E.Entry.key find c.args.root c.in_ok-body.body c.in_ok-page.page es ps (c.in_ok-body.ensures.found find told) c.in_ok-page.ensures.page whole.level whole.tree in
    let told_then = c.edit_root.ensures.later.told find (c.page.ensures.later.told find told) in
    subst (λ (l : List Brefs). IsPlan (shapes g.E.Entry.rule g.E.Entry.size g.E.Entry.entry_of find) g.E.Entry.key c.in_ok-plan.plan.pages.items c.in_ok-plan.plan.freed.items c.in_ok-plan.plan.root (edited g.E.Entry.key es c.args.edits.now) l) (sym under.1)
    (c.in_ok-plan.ensures.plan find told_then es under.0 under.2)

pub returns-in_default-clause-bound : goal.returns-in_default-clause-bound
returns-in_default-clause-bound g c = λ find told es ps whole.
    let found = c.in_ok-body.ensures.found find told in
    let level = root-level g.E.Entry.rule g.E.Entry.size g.E.Entry.entry_of g.E.Entry.key find c.args.root c.in_ok-body.body c.in_ok-page.page es ps found c.in_ok-page.ensures.page whole.level whole.tree in
    let under = root-under g.E.Entry.rule g.E.Entry.size g.E.Entry.entry_of g.E.Entry.key find c.args.root c.in_ok-body.body c.in_ok-page.page es ps found c.in_ok-page.ensures.page whole.level whole.tree in
    let told_then = c.edit_root.ensures.later.told find (c.page.ensures.later.told find told) in
    let none = ap (λ (l : List (PlanPage _)). length l) c.new-pages.ensures.items in
    let freed : c.in_ok-plan.plan.freed.items ≡ ps = c.in_ok-plan.ensures.freed find told_then es under.0 under.2 ∙ sym under.1 in
    let many = of-none (20 ^ (7 - c.in_ok-below.below.level) < length c.in_ok-below.below.children.items) c.in_ok-top.field-0 c.in_default.not-Some c.in_ok-top.ensures.many in
    inr (record {
      many = subst (λ (n : ℕ). 20 ^ (7 - (n - 1)) < 20 + length c.args.edits.now) level
          (many-edits c.in_ok-page.page.level c.in_ok-below.below.level (length c.args.edits.now) (length c.edit_root.new.pages.items) (length c.in_ok-below.below.children.items) c.in_ok-below.ensures.lower
          (subst (λ (n : ℕ). AreFew c.in_ok-page.page.level (length c.args.edits.now) n (length c.edit_root.new.pages.items) (length c.in_ok-below.below.children.items)) none c.in_ok-below.ensures.few) many);
      all = λ ib. ap (tally ib) freed;
    })

pub returns-in_default-clause-spare : goal.returns-in_default-clause-spare
returns-in_default-clause-spare g c = λ find told es ps whole.
    let found = c.in_ok-body.ensures.found find told in
    let level = root-level g.E.Entry.rule g.E.Entry.size g.E.Entry.entry_of g.E.Entry.key find c.args.root c.in_ok-body.body c.in_ok-page.page es ps found c.in_ok-page.ensures.page whole.level whole.tree in
    let under = root-under g.E.Entry.rule g.E.Entry.size g.E.Entry.entry_of g.E.Entry.key find c.args.root c.in_ok-body.body c.in_ok-page.page es ps found c.in_ok-page.ensures.page whole.level whole.tree in
    let told_then = c.edit_root.ensures.later.told find (c.page.ensures.later.told find told) in
    subst (λ (n : ℕ). length c.in_ok-plan.plan.pages.items ≤ length c.in_ok-plan.plan.freed.items + (n - 1 + 3) * puts g.E.Entry.key es c.args.edits.now) level
    (c.in_ok-plan.ensures.spare find told_then es under.0 under.2)

-- ---- stops

pub returns-in_err-body-clause-stopped : goal.returns-in_err-body-clause-stopped
returns-in_err-body-clause-stopped g c =
    let Tells : (Brefs → Option (List ℕ)) → Type 0 = TellsWhole g.E.Entry.rule g.E.Entry.size g.E.Entry.entry_of g.E.Entry.key c.args.root in
    stops-handed Tells (g.S.PageSource.view c.args.s.now) (g.S.PageSource.view c.page.new.self) c.in_err-body.field-0.0 c.from_residual.result c.from_residual.ensures.1
    (stops-source Tells (g.S.PageSource.view c.args.s.now) (g.S.PageSource.view c.page.new.self) c.in_err-body.field-0.0 c.in_err-body.ensures.stopped)

pub returns-in_err-page-clause-stopped : goal.returns-in_err-page-clause-stopped
returns-in_err-page-clause-stopped g c =
    let Tells : (Brefs → Option (List ℕ)) → Type 0 = TellsWhole g.E.Entry.rule g.E.Entry.size g.E.Entry.entry_of g.E.Entry.key c.args.root in
    stops-handed Tells (g.S.PageSource.view c.args.s.now) (g.S.PageSource.view c.page.new.self) c.in_err-page.field-0.0 c.from_residual-in_err-page.result c.from_residual-in_err-page.ensures.1
    (stops-here Tells (g.S.PageSource.view c.args.s.now) (g.S.PageSource.view c.page.new.self) c.in_err-page.field-0.0 c.args.root c.in_ok-body.body c.in_err-page.ensures.changed c.in_ok-body.ensures.found (λ find told found tells.
    let whole = tells.2 in
    let top = any-page g.E.Entry.rule g.E.Entry.size g.E.Entry.entry_of g.E.Entry.key g.met.E.Entry.key_read find c.args.root c.in_ok-body.body found whole.level 0 0 (2 ^ 64) tells.0 tells.1
    (any-of-root (shapes g.E.Entry.rule g.E.Entry.size g.E.Entry.entry_of find) g.E.Entry.key whole.level 0 (2 ^ 64) c.args.root tells.0 tells.1 whole.tree) in
    c.in_err-page.ensures.none top.page top.reads top.rises))

pub returns-in_err-below-clause-stopped : goal.returns-in_err-below-clause-stopped
returns-in_err-below-clause-stopped g c =
    let Tells : (Brefs → Option (List ℕ)) → Type 0 = TellsWhole g.E.Entry.rule g.E.Entry.size g.E.Entry.entry_of g.E.Entry.key c.args.root in
    let Under : (Brefs → Option (List ℕ)) → Type 0 = TellsUnder g.E.Entry.rule g.E.Entry.size g.E.Entry.entry_of g.E.Entry.key c.in_ok-page.page in
    stops-handed Tells (g.S.PageSource.view c.args.s.now) (g.S.PageSource.view c.edit_root.new.s) c.in_err-below.field-0.0 c.from_residual-in_err-below.result c.from_residual-in_err-below.ensures.1
    (stops-then Tells Under (g.S.PageSource.view c.args.s.now) (g.S.PageSource.view c.page.new.self) (g.S.PageSource.view c.edit_root.new.s) c.in_err-below.field-0.0 c.page.ensures.later (λ find told tells.
    let under = root-under g.E.Entry.rule g.E.Entry.size g.E.Entry.entry_of g.E.Entry.key find c.args.root c.in_ok-body.body c.in_ok-page.page tells.0 tells.1 (c.in_ok-body.ensures.found find told) c.in_ok-page.ensures.page (tells.2).level (tells.2).tree in
    (tells.0, under.0, under.2)) c.in_err-below.ensures.stopped)

pub returns-in_err-plan-clause-stopped : goal.returns-in_err-plan-clause-stopped
returns-in_err-plan-clause-stopped g c =
    let Tells : (Brefs → Option (List ℕ)) → Type 0 = TellsWhole g.E.Entry.rule g.E.Entry.size g.E.Entry.entry_of g.E.Entry.key c.args.root in
    let Under : (Brefs → Option (List ℕ)) → Type 0 = TellsUnder g.E.Entry.rule g.E.Entry.size g.E.Entry.entry_of g.E.Entry.key c.in_ok-page.page in
    stops-handed Tells (g.S.PageSource.view c.args.s.now) (g.S.PageSource.view c.rewritten.new.s) c.in_err-plan.field-0.0 c.from_residual-in_err-plan.result c.from_residual-in_err-plan.ensures.1
    (stops-then Tells Under (g.S.PageSource.view c.args.s.now) (g.S.PageSource.view c.edit_root.new.s) (g.S.PageSource.view c.rewritten.new.s) c.in_err-plan.field-0.0 (later-then c.page.ensures.later c.edit_root.ensures.later) (λ find told tells.
    let under = root-under g.E.Entry.rule g.E.Entry.size g.E.Entry.entry_of g.E.Entry.key find c.args.root c.in_ok-body.body c.in_ok-page.page tells.0 tells.1 (c.in_ok-body.ensures.found find told) c.in_ok-page.ensures.page (tells.2).level (tells.2).tree in
    (tells.0, under.0, under.2)) c.in_err-plan.ensures.stopped)

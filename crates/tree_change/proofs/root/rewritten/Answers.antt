use Rattle.std.proofs.Common.{◌≡◌, ◌≤◌, ◌+◌, ◌^◌, ◌++◌, [], ◌∷◌, ℕ, List, length, refl, sym, ap, subst, ◌∙◌, arith}
use Rattle.pst_base.specs.declared.ids.Bref.{Bref as Brefs}
use Rattle.tree_edit.specs.declared.plan.Child.{Child}
use Rattle.tree_edit.specs.declared.plan.PlanPage.{PlanPage}
use Rattle.tree_edit.specs.declared.below.Level.{Level}
use Rattle.tree_edit.specs.Edits.{edited, puts}
use Rattle.tree_edit.specs.Plans.{AreWritable}
use Rattle.tree_edit.specs.Steps.{Lifts, Replaces}
use Rattle.tree_edit.specs.Pages.{shapes}
use Rattle.tree_change.specs.Tops.{IsTop, Narrows, room}
use Rattle.tree_change.proofs.AnewLaws.{of-some, widths-same, widths-under, spare-anew}
use Rattle.tree_change.proofs.RootLaws.{plan-of}
use Rattle.tree_change.proofs.root.rewritten.Goals as goal

pub returns-clause-plan : goal.returns-clause-plan
returns-clause-plan g c = λ find told es ps under.
    let first : c.push.new.self.items ≡ c.args.root ∷ [] = c.in_ok-push.ensures.items ∙ ap (λ (l : List Brefs). l ++ (c.args.root ∷ [])) c.new-freed.ensures.items in
    let replaces : Replaces (shapes g.E.Entry.rule g.E.Entry.size g.E.Entry.entry_of find) g.E.Entry.key 0 (2 ^ 64) [] c.repacked.new.pages.items c.push.new.self.items c.repacked.new.freed.items c.in_ok-leaves.leaves.items (edited g.E.Entry.key es c.args.edits.now) ps =
    subst (λ (l : List (PlanPage _)). Replaces (shapes g.E.Entry.rule g.E.Entry.size g.E.Entry.entry_of find) g.E.Entry.key 0 (2 ^ 64) l c.repacked.new.pages.items c.push.new.self.items c.repacked.new.freed.items c.in_ok-leaves.leaves.items (edited g.E.Entry.key es c.args.edits.now) ps) c.new-pages.ensures.items
    (c.in_ok-leaves.ensures.replaces find told es ps under) in
    let lifts = of-some (λ (t : Level). Lifts g.E.Entry.key 0 t.level c.repacked.new.pages.items c.lifted.new.pages.items c.in_ok-leaves.leaves.items t.children.items) c.in_ok-top.field-0 c.in-Some.top c.in-Some.is c.in_ok-top.ensures.lifts in
    let few = of-some (λ (t : Level). length t.children.items ≤ 1) c.in_ok-top.field-0 c.in-Some.top c.in-Some.is c.in_ok-top.ensures.few in
    let level = of-some (λ (t : Level). t.level ≤ 7) c.in_ok-top.field-0 c.in-Some.top c.in-Some.is c.in_ok-top.ensures.level in
    let top : IsTop c.lifted.new.pages.items c.root_of.new.pages.items c.in-Some.top.children.items c.in_ok-root.root =
    subst (λ (l : List (ℕ × Child)). IsTop c.lifted.new.pages.items c.root_of.new.pages.items l c.in_ok-root.root) c.as_slice.ensures.value c.in_ok-root.ensures.top in
    plan-of (shapes g.E.Entry.rule g.E.Entry.size g.E.Entry.entry_of find) g.E.Entry.key 0 c.in-Some.top.level c.repacked.new.pages.items c.lifted.new.pages.items c.root_of.new.pages.items
    c.push.new.self.items c.repacked.new.freed.items c.args.root c.in_ok-root.root c.in_ok-leaves.leaves.items c.in-Some.top.children.items (edited g.E.Entry.key es c.args.edits.now) (c.args.root ∷ ps) ps
    level refl first c.in_ok-leaves.ensures.rises few replaces lifts top

pub returns-clause-freed : goal.returns-clause-freed
returns-clause-freed g c = λ find told es ps under.
    c.in_ok-leaves.ensures.freed find told es ps under ∙ ap (λ (l : List Brefs). l ++ ps) (c.in_ok-push.ensures.items ∙ ap (λ (l : List Brefs). l ++ (c.args.root ∷ [])) c.new-freed.ensures.items)

pub returns-clause-writable : goal.returns-clause-writable
returns-clause-writable g c =
    c.in_ok-root.ensures.writable (c.in_ok-top.ensures.writable (c.in_ok-leaves.ensures.writable (subst (AreWritable g.E.Entry.key g.E.Entry.rule g.E.Entry.size) (sym c.new-pages.ensures.items) tt)))

pub returns-clause-spare : goal.returns-clause-spare
returns-clause-spare g c = λ find told es ps under.
    let gone : 1 + length ps ≡ length c.repacked.new.freed.items =
    let e = ap (λ (l : List Brefs). length l) (c.in_ok-leaves.ensures.freed find told es ps under ∙ ap (λ (l : List Brefs). l ++ ps) (c.in_ok-push.ensures.items ∙ ap (λ (l : List Brefs). l ++ (c.args.root ∷ [])) c.new-freed.ensures.items)) in
    omega (arith, e) in
    let few = c.in_ok-leaves.ensures.few find told es ps under in
    let widths = widths-same few.0 c.args.page.now.level 1 1 (length es) (length es) (1 + length ps) (length c.repacked.new.freed.items) refl refl gone
    (widths-under g.E.Entry.rule g.E.Entry.size few.0 g.E.Entry.entry_of g.E.Entry.key find few.1 c.args.page.now es ps c.requires.fits under) in
    let none = ap (λ (l : List (PlanPage _)). length l) c.new-pages.ensures.items in
    let leaves = c.in_ok-leaves.ensures.grows in
    let value = ap (λ (l : List (ℕ × Child)). length l) c.as_slice.ensures.value in
    let grows = c.in_ok-root.ensures.grows in
    let plain = of-some (λ (t : Level). length c.lifted.new.pages.items + length t.children.items ≤ length c.repacked.new.pages.items + length c.in_ok-leaves.leaves.items) c.in_ok-top.field-0 c.in-Some.top c.in-Some.is c.in_ok-top.ensures.plain in
    let some = of-some (λ (t : Level). 1 ≤ length c.in_ok-leaves.leaves.items → 1 ≤ length t.children.items) c.in_ok-top.field-0 c.in-Some.top c.in-Some.is c.in_ok-top.ensures.some in
    let narrow = of-some (λ (t : Level). (n u : ℕ) (ms : List ℕ) → Narrows n ms → length c.in_ok-leaves.leaves.items ≤ n + u → length c.lifted.new.pages.items ≤ length c.repacked.new.pages.items + room u ms) c.in_ok-top.field-0 c.in-Some.top c.in-Some.is c.in_ok-top.ensures.narrow in
    spare-anew few.0 c.args.page.now.level (length es) (puts g.E.Entry.key es c.args.edits.now) (length c.repacked.new.pages.items) (length c.lifted.new.pages.items) (length c.root_of.new.pages.items)
    (length c.repacked.new.freed.items) (length c.in_ok-leaves.leaves.items) (length c.in-Some.top.children.items) widths (omega (arith, gone)) few.2 (omega (arith, leaves, none)) plain some narrow (omega (arith, grows, value))

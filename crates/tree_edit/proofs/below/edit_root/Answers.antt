use Rattle.std.proofs.Common.{◌≡◌, ◌+◌, ◌++◌, ◌-◌, ◌^◌, ◌≤◌, [], ℕ, suc, List, length, map, subst, sym, ap, refl, ◌∙◌, arith, inl, inr, ◌*◌, Option}
use Rattle.std.proofs.lemmas.List.{append-nil}
use Rattle.pst_base.specs.declared.ids.Bref.{Bref as Brefs}
use Rattle.btree_pages.specs.Pages.{size_at}
use Rattle.tree_edit.specs.Shapes.{RiseIn, AreBelow, IsTree}
use Rattle.tree_edit.specs.Edits.{edited, puts}
use Rattle.tree_edit.specs.Steps.{TellsBelow, TellsUnder, Lays, Replaces}
use Rattle.tree_edit.specs.Pages.{shapes, child_in}
use Rattle.tree_edit.proofs.EditLaws.{edited-rise}
use Rattle.tree_edit.proofs.StepLaws.{same-keys}
use Rattle.tree_edit.proofs.CountLaws.{edited-short, inner-fits}
use Rattle.tree_edit.proofs.PutLaws.{edited-length}
use Rattle.tree_edit.proofs.SpareLaws.{spare-more}
use Rattle.tree_edit.proofs.LoopLaws.{later-same}
use Rattle.tree_edit.proofs.StopLaws.{stops-then, stops-handed}
use Rattle.tree_edit.proofs.RootLaws.{replaces-root, no-items}
use Rattle.tree_edit.proofs.below.edit_root.Goals as goal

pub edit_leaf-requires-clause-rises : goal.edit_leaf-requires-clause-rises
edit_leaf-requires-clause-rises g c = subst (RiseIn 0 (2 ^ 64)) (sym (same-keys g.E.Entry.rule g.E.Entry.entry_of g.E.Entry.key g.met.E.Entry.key_read c.args.page.now.entries)) c.requires.rises

pub returns-then-level-eq0-clause-rises : goal.returns-then-level-eq0-clause-rises
returns-then-level-eq0-clause-rises g c =
    c.in_ok-children.ensures.lays.rises 0 (2 ^ 64) (edited-rise g.E.Entry.key 0 (2 ^ 64) (map g.E.Entry.entry_of c.args.page.now.entries) c.args.edits.now
    (subst (RiseIn 0 (2 ^ 64)) (sym (same-keys g.E.Entry.rule g.E.Entry.entry_of g.E.Entry.key g.met.E.Entry.key_read c.args.page.now.entries)) c.requires.rises) c.requires.edits)

pub returns-then-level-eq0-clause-replaces : goal.returns-then-level-eq0-clause-replaces
returns-then-level-eq0-clause-replaces g c = λ find told es ps under.
    let zero_level : c.args.page.now.level ≡ 0 = sym c.level.ensures.value ∙ c.if-level-eq0.true in
    let here = under.of_leaf zero_level in
    let rises = edited-rise g.E.Entry.key 0 (2 ^ 64) (map g.E.Entry.entry_of c.args.page.now.entries) c.args.edits.now
    (subst (RiseIn 0 (2 ^ 64)) (sym (same-keys g.E.Entry.rule g.E.Entry.entry_of g.E.Entry.key g.met.E.Entry.key_read c.args.page.now.entries)) c.requires.rises) c.requires.edits in
    subst (λ (l : List _). Replaces (shapes g.E.Entry.rule g.E.Entry.size g.E.Entry.entry_of find) g.E.Entry.key 0 (2 ^ 64) c.args.pages.now.items c.edit_leaf.new.pages.items c.args.freed.now.items c.args.freed.now.items c.in_ok-children.children.items (edited g.E.Entry.key l c.args.edits.now) ps) (sym here.0)
    (replaces-root (shapes g.E.Entry.rule g.E.Entry.size g.E.Entry.entry_of find) g.E.Entry.key (2 ^ 64) c.args.pages.now.items c.edit_leaf.new.pages.items c.args.freed.now.items c.args.freed.now.items c.in_ok-children.children.items
    (edited g.E.Entry.key (map g.E.Entry.entry_of c.args.page.now.entries) c.args.edits.now) ps (sym (append-nil c.args.freed.now.items) ∙ ap (λ (l : List Brefs). c.args.freed.now.items ++ l) (sym here.1)) rises c.in_ok-children.ensures.lays)

pub returns-then-count-eq0-clause-rises : goal.returns-then-count-eq0-clause-rises
returns-then-count-eq0-clause-rises g c =
    let made : c.as_slice.result.now ≡ edited g.E.Entry.key [] c.args.edits.now = c.as_slice.ensures.value ∙ c.in_ok-entries.ensures in
    c.in_ok-children-2.ensures.lays.rises 0 (2 ^ 64) (subst (λ (l : List _). RiseIn 0 (2 ^ 64) (map g.E.Entry.key l)) (sym made) (edited-rise g.E.Entry.key 0 (2 ^ 64) [] c.args.edits.now tt c.requires.edits))

pub returns-then-count-eq0-clause-replaces : goal.returns-then-count-eq0-clause-replaces
returns-then-count-eq0-clause-replaces g c = λ find told es ps under.
    let value = c.level.ensures.value in
    let test = c.if-level-eq0.false in
    let level : c.args.page.now.level ≡ suc (c.args.page.now.level - 1) = omega (arith, value, test) in
    let none : c.args.page.now.entries ≡ [] = no-items c.args.page.now.entries (sym c.count.ensures ∙ c.if-count-eq0.true) in
    let here : (es ≡ []) × (ps ≡ []) =
    subst (λ (l : List (List ℕ)). AreBelow (IsTree (shapes g.E.Entry.rule g.E.Entry.size g.E.Entry.entry_of find) g.E.Entry.key (c.args.page.now.level - 1)) (2 ^ 64) (map (child_in g.E.Entry.rule) l) es ps) none (under.of_inner (c.args.page.now.level - 1) level) in
    let made : c.as_slice.result.now ≡ edited g.E.Entry.key [] c.args.edits.now = c.as_slice.ensures.value ∙ c.in_ok-entries.ensures in
    subst (λ (l : List _). Replaces (shapes g.E.Entry.rule g.E.Entry.size g.E.Entry.entry_of find) g.E.Entry.key 0 (2 ^ 64) c.args.pages.now.items c.pack_leaves.new.pages.items c.args.freed.now.items c.args.freed.now.items c.in_ok-children-2.children.items (edited g.E.Entry.key l c.args.edits.now) ps) (sym here.0)
    (replaces-root (shapes g.E.Entry.rule g.E.Entry.size g.E.Entry.entry_of find) g.E.Entry.key (2 ^ 64) c.args.pages.now.items c.pack_leaves.new.pages.items c.args.freed.now.items c.args.freed.now.items c.in_ok-children-2.children.items
    (edited g.E.Entry.key [] c.args.edits.now) ps (sym (append-nil c.args.freed.now.items) ∙ ap (λ (l : List Brefs). c.args.freed.now.items ++ l) (sym here.1)) (edited-rise g.E.Entry.key 0 (2 ^ 64) [] c.args.edits.now tt c.requires.edits)
    (subst (λ (l : List _). Lays g.E.Entry.key c.args.pages.now.items c.pack_leaves.new.pages.items c.in_ok-children-2.children.items l) made c.in_ok-children-2.ensures.lays))

pub returns-clause-replaces : goal.returns-clause-replaces
returns-clause-replaces g c = λ find told es ps under.
    let value = c.level.ensures.value in
    let value_2 = c.level-2.ensures.value in
    let test = c.if-level-eq0.false in
    let some = c.if-count-eq0.false in
    let count = c.count.ensures in
    let level : c.args.page.now.level ≡ suc (c.level-2.result - 1) = omega (arith, value, value_2, test) in
    c.in_ok-children-3.ensures.replaces find told (c.level-2.result - 1) level (omega (arith, some, count)) es ps (under.of_inner (c.level-2.result - 1) level)

pub returns-then-level-eq0-clause-few : goal.returns-then-level-eq0-clause-few
returns-then-level-eq0-clause-few g c =
    inl (c.in_ok-children.ensures.few (subst (λ (n : ℕ). length c.args.page.now.entries * size_at g.E.Entry.size n ≤ 488) (sym c.level.ensures.value ∙ c.if-level-eq0.true) c.requires.fits), c.in_ok-children.ensures.grows)

pub returns-then-count-eq0-clause-few : goal.returns-then-count-eq0-clause-few
returns-then-count-eq0-clause-few g c =
    let made = ap (λ (l : List _). length l) (c.as_slice.ensures.value ∙ c.in_ok-entries.ensures) in
    let short = edited-short g.E.Entry.key [] c.args.edits.now in
    inl (c.in_ok-children-2.ensures.few 0 1 (length c.args.edits.now) (omega arith) (omega (arith, made, short)), c.in_ok-children-2.ensures.grows)

pub returns-clause-few : goal.returns-clause-few
returns-clause-few g c =
    let value = c.level.ensures.value in
    let test = c.if-level-eq0.false in
    let low : 1 ≤ c.args.page.now.level = omega (arith, value, test) in
    let fit = inner-fits g.E.Entry.size c.args.page.now.level (length c.args.page.now.entries) low c.requires.fits in
    let few = c.in_ok-children-3.ensures.few in
    inr (low, omega (arith, fit, few), c.in_ok-children-3.ensures.grows)

pub pack_leaves-requires : goal.pack_leaves-requires
pack_leaves-requires g c =
    record { rises = subst (λ (l : List _). RiseIn 0 (2 ^ 64) (map g.E.Entry.key l)) (sym (c.as_slice.ensures.value ∙ c.in_ok-entries.ensures)) (edited-rise g.E.Entry.key 0 (2 ^ 64) [] c.args.edits.now tt c.requires.edits) }

-- ---- how many pages

pub returns-then-level-eq0-clause-spare : goal.returns-then-level-eq0-clause-spare
returns-then-level-eq0-clause-spare g c = λ find told es ps under.
    let here = under.of_leaf (sym c.level.ensures.value ∙ c.if-level-eq0.true) in
    let news = c.in_ok-children.ensures.news (subst (λ (n : ℕ). length c.args.page.now.entries * size_at g.E.Entry.size n ≤ 488) (sym c.level.ensures.value ∙ c.if-level-eq0.true) c.requires.fits) in
    inl (subst (λ (l : List _). length c.in_ok-children.children.items ≤ 1 + puts g.E.Entry.key l c.args.edits.now) (sym here.0) news, c.in_ok-children.ensures.grows, refl)

pub returns-then-count-eq0-clause-spare : goal.returns-then-count-eq0-clause-spare
returns-then-count-eq0-clause-spare g c = λ find told es ps under.
    let value = c.level.ensures.value in
    let test = c.if-level-eq0.false in
    let level : c.args.page.now.level ≡ suc (c.args.page.now.level - 1) = omega (arith, value, test) in
    let none : c.args.page.now.entries ≡ [] = no-items c.args.page.now.entries (sym c.count.ensures ∙ c.if-count-eq0.true) in
    let here : (es ≡ []) × (ps ≡ []) =
    subst (λ (l : List (List ℕ)). AreBelow (IsTree (shapes g.E.Entry.rule g.E.Entry.size g.E.Entry.entry_of find) g.E.Entry.key (c.args.page.now.level - 1)) (2 ^ 64) (map (child_in g.E.Entry.rule) l) es ps) none (under.of_inner (c.args.page.now.level - 1) level) in
    let made = ap (λ (l : List _). length l) (c.as_slice.ensures.value ∙ c.in_ok-entries.ensures) in
    let short = edited-length g.E.Entry.key 0 (2 ^ 64) [] c.args.edits.now c.requires.edits in
    let news = c.in_ok-children-2.ensures.few 0 1 (puts g.E.Entry.key [] c.args.edits.now) (omega arith) (omega (arith, made, short)) in
    inl (subst (λ (l : List _). length c.in_ok-children-2.children.items ≤ 1 + puts g.E.Entry.key l c.args.edits.now) (sym here.0) news, c.in_ok-children-2.ensures.grows, refl)

pub returns-clause-spare : goal.returns-clause-spare
returns-clause-spare g c = λ find told es ps under.
    let value = c.level.ensures.value in
    let value_2 = c.level-2.ensures.value in
    let test = c.if-level-eq0.false in
    let some = c.if-count-eq0.false in
    let count = c.count.ensures in
    let low : 1 ≤ c.args.page.now.level = omega (arith, value, test) in
    let level : c.args.page.now.level ≡ suc (c.args.page.now.level - 1) = omega (arith, low) in
    let fit = inner-fits g.E.Entry.size c.args.page.now.level (length c.args.page.now.entries) low c.requires.fits in
    inr (spare-more (c.args.page.now.level - 1) (length c.args.page.now.entries) 20 (puts g.E.Entry.key es c.args.edits.now) (length c.args.pages.now.items) (length c.edit_children.new.pages.items)
    (length c.args.freed.now.items) (length c.edit_children.new.freed.items) (length c.in_ok-children-3.children.items) fit
    (c.in_ok-children-3.ensures.spare find told (c.args.page.now.level - 1) level (omega (arith, some, count)) es ps (under.of_inner (c.args.page.now.level - 1) level)))

-- ---- stops

pub returns-in_err-children-3-clause-stopped : goal.returns-in_err-children-3-clause-stopped
returns-in_err-children-3-clause-stopped g c =
    let Tells : (Brefs → Option (List ℕ)) → Type 0 = TellsUnder g.E.Entry.rule g.E.Entry.size g.E.Entry.entry_of g.E.Entry.key c.args.page.now in
    let Below : (Brefs → Option (List ℕ)) → Type 0 = TellsBelow g.E.Entry.rule g.E.Entry.size g.E.Entry.entry_of g.E.Entry.key c.args.page.now (2 ^ 64) in
    let value = c.level.ensures.value in
    let test = c.if-level-eq0.false in
    let level : c.args.page.now.level ≡ suc (c.args.page.now.level - 1) = omega (arith, value, test) in
    stops-handed Tells (g.S.PageSource.view c.args.s.now) (g.S.PageSource.view c.edit_children.new.s) c.in_err-children-3.field-0.0 c.from_residual-in_err-children-3.result c.from_residual-in_err-children-3.ensures.1
    (stops-then Tells Below (g.S.PageSource.view c.args.s.now) (g.S.PageSource.view c.args.s.now) (g.S.PageSource.view c.edit_children.new.s) c.in_err-children-3.field-0.0 (later-same (g.S.PageSource.view c.args.s.now))
    (λ find told tells. (c.args.page.now.level - 1, level, tells.0, tells.1, tells.2.of_inner (c.args.page.now.level - 1) level)) c.in_err-children-3.ensures.stopped)

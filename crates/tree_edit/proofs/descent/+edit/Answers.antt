use Rattle.std.proofs.Common.{◌≡◌, ◌⊎◌, ⊎_elim, inl, inr, ◌++◌, ◌≤◌, ◌<◌, ◌+◌, ◌*◌, ◌^◌, ◌∷◌, [], ℕ, List, Option, suc, map, take, length, ◌-◌, sym, ap, subst, ◌∙◌, arith, length-append}
use Rattle.pst_base.specs.declared.ids.Bref.{Bref as Brefs}
use Rattle.btree_pages.specs.Pages.{keys, size_at}
use Rattle.tree_edit.specs.declared.plan.Child.{Child}
use Rattle.tree_edit.specs.Shapes.{RiseIn}
use Rattle.tree_edit.specs.Edits.{AreEdits}
use Rattle.tree_edit.specs.Plans.{AreKeys, keys_of}
use Rattle.tree_edit.specs.Joins.{IsMost, kept_child, size_of}
use Rattle.tree_edit.specs.Steps.{TellsTree, TellsBelow}
use Rattle.tree_edit.specs.Pages.{shapes}
use Rattle.tree_edit.proofs.ShapeLaws.{rise-widen}
use Rattle.tree_edit.proofs.EditLaws.{edited-rise}
use Rattle.tree_edit.proofs.RootLaws.{no-items}
use Rattle.std.proofs.lemmas.Nat.{mul-le}
use Rattle.std.proofs.lemmas.List.{length-map}
use Rattle.tree_edit.proofs.LoopLaws.{later-then, loop-begin, loop-stays, kept-seat, size-begin, size-join, ample-moves, loop-kept, loop-read, loop-front, loop-end, order-end, settled-out}
use Rattle.tree_edit.proofs.RoomLaws.{IsAmple, ample-start, ample-kept, ample-front, ample-end}
use Rattle.tree_edit.proofs.StepLaws.{child-seated, inner-below, same-keys, leaf-read, inner-read, leaf-count, inner-count, leaf-few, inner-few}
use Rattle.tree_edit.proofs.WriteLaws.{edits-widen}
use Rattle.tree_edit.proofs.StopLaws.{stops-source, stops-then, stops-handed, stops-here, loop-stops, kept-stops, any-page, any-of-tree}
use Rattle.tree_edit.proofs.PackLaws.{cut-again}
use Rattle.tree_edit.proofs.CountLaws.{edited-short}
use Rattle.tree_edit.proofs.descent.+edit.Goals as goal

-- ---- one page

pub edit_below-merged_leaf-requires-clause-rises : goal.edit_below-merged_leaf-requires-clause-rises
edit_below-merged_leaf-requires-clause-rises g t c =
    subst (RiseIn 0 (2 ^ 64)) (sym (same-keys g.E.Entry.rule g.E.Entry.entry_of g.E.Entry.key g.met.E.Entry.key_read c.in-Some.page.entries))
    (rise-widen c.args.seat.low (c.args.seat.high + 1) 0 (2 ^ 64) (keys g.E.Entry.rule c.in-Some.page.entries) c.in-Some.ensures.rises (omega arith) (omega arith))

pub edit_below-returns-then-level-eq0-clause-entries : goal.edit_below-returns-then-level-eq0-clause-entries
edit_below-returns-then-level-eq0-clause-entries g t c =
    subst (λ (l : List _). RiseIn c.args.seat.low (c.args.seat.high + 1) (map g.E.Entry.key l)) (sym c.in_ok-merged_leaf.ensures)
    (edited-rise g.E.Entry.key c.args.seat.low (c.args.seat.high + 1) (map g.E.Entry.entry_of c.in-Some.page.entries) c.args.edits.now
    (subst (RiseIn c.args.seat.low (c.args.seat.high + 1)) (sym (same-keys g.E.Entry.rule g.E.Entry.entry_of g.E.Entry.key g.met.E.Entry.key_read c.in-Some.page.entries)) c.in-Some.ensures.rises) c.requires.edits)

pub edit_below-returns-then-level-eq0-clause-children : goal.edit_below-returns-then-level-eq0-clause-children
edit_below-returns-then-level-eq0-clause-children g t c = subst (λ (l : List (ℕ × Child)). RiseIn c.args.seat.low (c.args.seat.high + 1) (keys_of l)) (sym c.new.ensures.items) tt

pub edit_below-returns-then-level-eq0-clause-keys : goal.edit_below-returns-then-level-eq0-clause-keys
edit_below-returns-then-level-eq0-clause-keys g t c = subst (λ (l : List (ℕ × Child)). AreKeys g.E.Entry.rule (keys_of l)) (sym c.new.ensures.items) tt

pub edit_below-returns-then-level-eq0-clause-few : goal.edit_below-returns-then-level-eq0-clause-few
edit_below-returns-then-level-eq0-clause-few g t c =
    let made = ap (λ (l : List _). length l) c.in_ok-merged_leaf.ensures in
    let short = edited-short g.E.Entry.key (map g.E.Entry.entry_of c.in-Some.page.entries) c.args.edits.now in
    let len = length-map c.in-Some.page.entries g.E.Entry.entry_of in
    leaf-few g.E.Entry.size c.args.level (length c.in-Some.page.entries) (length c.args.edits.now) c.in_ok-merged_leaf.field-0.items c.new.result.items c.if-level-eq0.true
    (subst (λ (n : ℕ). length c.in-Some.page.entries * size_at g.E.Entry.size n ≤ 488) c.in-Some.ensures.level c.in-Some.ensures.few) (omega (arith, made, short, len))

pub edit_below-returns-then-level-eq0-clause-becomes : goal.edit_below-returns-then-level-eq0-clause-becomes
edit_below-returns-then-level-eq0-clause-becomes g t c = λ find told es ps tree.
    leaf-read g.E.Entry.rule g.E.Entry.size g.E.Entry.entry_of g.E.Entry.key find c.args.seat.at c.in_ok-body.body c.in-Some.page (c.in_ok-body.ensures.found find told) c.in-Some.ensures.page
    c.args.level c.args.seat.key (c.args.seat.high + 1) c.args.pages.now.items c.args.freed.now.items c.push.new.self.items c.in_ok-merged_leaf.field-0.items c.new.result.items c.args.edits.now es ps
    c.if-level-eq0.true c.in-Some.ensures.level c.in_ok-push.ensures.items c.in_ok-merged_leaf.ensures tree

pub edit_below-returns-then-level-eq0-clause-spare : goal.edit_below-returns-then-level-eq0-clause-spare
edit_below-returns-then-level-eq0-clause-spare g t c = λ find told es ps tree.
    let one = ap (λ (l : List Brefs). length l) c.in_ok-push.ensures.items ∙ length-append c.args.freed.now.items (c.args.seat.at ∷ []) in
    leaf-count g.E.Entry.rule g.E.Entry.size g.E.Entry.entry_of g.E.Entry.key find c.args.seat.at c.in_ok-body.body c.in-Some.page (c.in_ok-body.ensures.found find told) c.in-Some.ensures.page
    c.args.level c.args.seat.key (c.args.seat.high + 1) (length c.args.pages.now.items) (length c.args.freed.now.items) (length c.push.new.self.items) c.in_ok-merged_leaf.field-0.items c.new.result.items c.args.edits.now es ps
    c.if-level-eq0.true c.in-Some.ensures.level c.in-Some.ensures.few (edits-widen g.E.Entry.key c.args.seat.low (c.args.seat.high + 1) 0 (2 ^ 64) c.args.edits.now (omega arith) (omega arith) c.requires.edits) (omega (arith, one)) c.in_ok-merged_leaf.ensures tree

pub edit_below-returns-clause-later : goal.edit_below-returns-clause-later
edit_below-returns-clause-later g t c = later-then c.page.ensures.later c.edit_children.ensures.later

pub edit_below-returns-clause-entries : goal.edit_below-returns-clause-entries
edit_below-returns-clause-entries g t c = subst (λ (l : List _). RiseIn c.args.seat.low (c.args.seat.high + 1) (map g.E.Entry.key l)) (sym c.new-2.ensures.items) tt

pub edit_below-returns-clause-few : goal.edit_below-returns-clause-few
edit_below-returns-clause-few g t c =
    let low = c.if-level-eq0.false in
    let n : ℕ = c.args.level - 1 in
    let level : c.args.level ≡ suc n = omega (arith, low) in
    inner-few g.E.Entry.size n c.args.level (length c.in-Some.page.entries) (length c.args.edits.now) c.new-2.result.items c.in_ok-children.children.items level
    (subst (λ (m : ℕ). length c.in-Some.page.entries * size_at g.E.Entry.size m ≤ 488) c.in-Some.ensures.level c.in-Some.ensures.few) c.in_ok-children.ensures.few

pub edit_below-returns-clause-grows : goal.edit_below-returns-clause-grows
edit_below-returns-clause-grows g t c = subst (λ (n : ℕ). length c.edit_children.new.pages.items ≤ length c.args.pages.now.items + (2 * n) * length c.args.edits.now) c.in-Some.ensures.level c.in_ok-children.ensures.grows

pub edit_below-returns-clause-becomes : goal.edit_below-returns-clause-becomes
edit_below-returns-clause-becomes g t c = λ find told es ps tree.
    let low = c.if-level-eq0.false in
    let n : ℕ = c.args.level - 1 in
    let level : c.args.level ≡ suc n = omega (arith, low) in
    inner-read g.E.Entry.rule g.E.Entry.size g.E.Entry.entry_of g.E.Entry.key find c.args.seat.at c.in_ok-body.body c.in-Some.page (c.in_ok-body.ensures.found find told) c.in-Some.ensures.page
    n c.args.level c.args.seat.key (c.args.seat.high + 1) c.args.pages.now.items c.edit_children.new.pages.items c.args.freed.now.items c.push.new.self.items c.edit_children.new.freed.items c.new-2.result.items c.in_ok-children.children.items c.args.edits.now es ps
    level c.in-Some.ensures.level c.in_ok-push.ensures.items
    (λ fs qs below. c.in_ok-children.ensures.replaces find (c.page.ensures.later.told find told) n (c.in-Some.ensures.level ∙ level) c.in-Some.ensures.some fs qs below) tree

pub edit_below-returns-clause-spare : goal.edit_below-returns-clause-spare
edit_below-returns-clause-spare g t c = λ find told es ps tree.
    let low = c.if-level-eq0.false in
    let n : ℕ = c.args.level - 1 in
    let level : c.args.level ≡ suc n = omega (arith, low) in
    let one = ap (λ (l : List Brefs). length l) c.in_ok-push.ensures.items ∙ length-append c.args.freed.now.items (c.args.seat.at ∷ []) in
    inner-count g.E.Entry.rule g.E.Entry.size g.E.Entry.entry_of g.E.Entry.key find c.args.seat.at c.in_ok-body.body c.in-Some.page (c.in_ok-body.ensures.found find told) c.in-Some.ensures.page
    n c.args.level c.args.seat.key (c.args.seat.high + 1) (length c.args.pages.now.items) (length c.edit_children.new.pages.items) (length c.args.freed.now.items) (length c.push.new.self.items) (length c.edit_children.new.freed.items) c.new-2.result.items c.in_ok-children.children.items c.args.edits.now es ps
    level c.in-Some.ensures.level c.in-Some.ensures.few (omega (arith, one))
    (λ fs qs below. c.in_ok-children.ensures.spare find (c.page.ensures.later.told find told) n (c.in-Some.ensures.level ∙ level) c.in-Some.ensures.some fs qs below) tree

-- ---- the children

pub edit_children-loop-i-init : goal.edit_children-loop-i-init
edit_children-loop-i-init g t c =
    let span = c.requires.span in
    let none = ap (λ (l : List _). length l) c.new-out.ensures.items in
    let kept = ap (λ (k : Option _). length (kept_child k)) c.held_child-held.ensures.kept in
    record {
      main = loop-begin g.E.Entry.rule g.E.Entry.size g.E.Entry.entry_of g.E.Entry.key (g.S.PageSource.view c.args.s.now) c.args.page.now c.args.low c.args.high c.most_at-most.result c.args.pages.now.items c.args.freed.now.items c.new-out.result.items c.held_child-held.result.kept c.held_child-held.result.content.entries.items c.held_child-held.result.content.children.items
          c.args.edits.now (omega (arith, span)) c.requires.edits c.new-out.ensures.items c.held_child-held.ensures.kept c.held_child-held.ensures.entries c.held_child-held.ensures.children;
      writable = λ h. h;
      within = omega arith;
      end = omega arith;
      ample = subst (λ (e : ℕ). IsAmple c.args.page.now.level c.most_at-most.result 0 e (size_of (c.level-level.result - 1) c.held_child-held.result.content.entries.items c.held_child-held.result.content.children.items) (length c.new-out.result.items + length (kept_child c.held_child-held.result.kept)) (length c.args.pages.now.items) (length c.args.pages.now.items))
          (let e : 0 ≡ length c.args.edits.now - length c.args.edits.now = omega arith in e)
          (ample-start c.args.page.now.level c.most_at-most.result (size_of (c.level-level.result - 1) c.held_child-held.result.content.entries.items c.held_child-held.result.content.children.items) (length c.new-out.result.items + length (kept_child c.held_child-held.result.kept)) (length c.args.pages.now.items)
          (size-begin (c.level-level.result - 1) c.held_child-held.result.content.entries.items c.held_child-held.result.content.children.items c.held_child-held.ensures.entries c.held_child-held.ensures.children) (omega (arith, none, kept)));
    }

pub edit_children-edit_below-requires : goal.edit_children-edit_below-requires
edit_children-edit_below-requires g t c κs within =
    let test = c.loop-i-test.true in
    let count = c.count-count.ensures in
    let is = c.child_seat-seat.ensures in
    let seated = child-seated g.E.Entry.rule c.args.low c.args.high c.args.page.now.entries c.loop-i.i c.child_seat-seat.result.key c.child_seat-seat.result.low c.child_seat-seat.result.high c.child_seat-seat.result.at (omega (arith, test, count)) c.requires.rises is.child is.first is.later is.last is.next in
    let low_is = seated.low_is in
    let high_is = seated.high_is in
    let floor = seated.stands.floor in
    let next = seated.stands.next in
    let edits_in = subst (λ (m : ℕ). AreEdits g.E.Entry.key m (c.child_seat-seat.result.high + 1) (take c.count_up_to-n.result c.loop-i.rest.now)) (sym low_is)
    (c.count_up_to-n.ensures.front _ (c.args.high + 1) c.loop-i.invariant.main.edits_in (omega (arith, high_is, floor, next))) in
    let inner = c.requires.inner in
    let level = c.level-level.ensures.value in
    let measure : 2 * c.args.page.now.level ≡ t = c.decreases in
    let falls : 2 * (c.level-level.result - 1) + 1 < t = omega (arith, inner, level, measure) in (
      falls,
      (
        within.0,
        (
          within.1,
          (
            subst (λ (l : List (ℕ × Option _)). AreEdits g.E.Entry.key c.child_seat-seat.result.low (c.child_seat-seat.result.high + 1) l) (sym c.split_at-in-loop-i.ensures.front) edits_in,
            (omega (arith, low_is, floor), (omega (arith, high_is, next), let h = c.level-level.ensures.high in omega (arith, h))),
          ),
        ),
      ),
    )

pub edit_children-edit_below-requires-in-Some : goal.edit_children-edit_below-requires-in-Some
edit_children-edit_below-requires-in-Some g t c κs within =
    let inner = c.requires.inner in
    let value = c.level-level.ensures.value in
    let level_is : c.args.page.now.level ≡ suc (c.level-level.result - 1) = omega (arith, inner, value) in
    let is_most : IsMost g.E.Entry.size (c.level-level.result - 1) c.most_at-most.result = record { holds = c.most_at-most.ensures.holds; whole = c.most_at-most.ensures.most } in
    let low_most = c.most_at-most.ensures.low in
    let test = c.loop-i-test.true in
    let count = c.count-count.ensures in
    let is = c.child_seat-seat.ensures in
    let seated = child-seated g.E.Entry.rule c.args.low c.args.high c.args.page.now.entries c.loop-i.i c.child_seat-seat.result.key c.child_seat-seat.result.low c.child_seat-seat.result.high c.child_seat-seat.result.at (omega (arith, test, count)) c.requires.rises is.child is.first is.later is.last is.next in
    let low_is = seated.low_is in
    let high_is = seated.high_is in
    let floor = seated.stands.floor in
    let next = seated.stands.next in
    let edits_in = subst (λ (m : ℕ). AreEdits g.E.Entry.key m (c.child_seat-seat.result.high + 1) (take c.count_up_to-n.result c.loop-i.rest.now)) (sym low_is)
    (c.count_up_to-n.ensures.front _ (c.args.high + 1) c.loop-i.invariant.main.edits_in (omega (arith, high_is, floor, next))) in
    let mine_in = subst (λ (l : List (ℕ × Option _)). AreEdits g.E.Entry.key c.child_seat-seat.result.low (c.child_seat-seat.result.high + 1) l) (sym c.split_at-in-loop-i.ensures.front) edits_in in
    let others_in = subst (λ (l : List (ℕ × Option _)). AreEdits g.E.Entry.key (c.child_seat-seat.result.high + 1) (c.args.high + 1) l) (sym c.split_at-in-loop-i.ensures.back)
    (c.count_up_to-n.ensures.back _ (c.args.high + 1) c.loop-i.invariant.main.edits_in (omega (arith, high_is, floor, next))) in
    let cut = cut-again c.count_up_to-n.result c.loop-i.rest.now c.split_at-in-loop-i.result.0.now c.split_at-in-loop-i.result.1.now c.split_at-in-loop-i.ensures.front c.split_at-in-loop-i.ensures.back in
    let loop_now = loop-read g.E.Entry.rule g.E.Entry.size g.E.Entry.entry_of g.E.Entry.key (g.S.PageSource.view c.args.s.now) (g.S.PageSource.view c.loop-i.s) (g.S.PageSource.view c.edit_below.new.s) c.args.page.now c.args.low c.args.high c.most_at-most.result c.loop-i.i (c.level-level.result - 1) c.quarter-least.result c.args.pages.now.items c.loop-i.pages.items c.edit_below.new.pages.items c.behind.new.pages.items
    c.args.freed.now.items c.loop-i.freed.items c.edit_below.new.freed.items c.loop-i.out.items c.behind.new.out.items c.loop-i.held.kept c.in_ok-held.held.kept c.loop-i.held.content.entries.items c.in_ok-more.more.entries.items c.in_ok-held.held.content.entries.items
    c.loop-i.held.content.children.items c.in_ok-more.more.children.items c.in_ok-held.held.content.children.items c.args.edits.now c.loop-i.rest.now c.split_at-in-loop-i.result.0.now c.split_at-in-loop-i.result.1.now c.child_seat-seat.result
    (omega (arith, low_most)) is_most level_is c.loop-i.invariant.main c.edit_below.ensures.later seated cut mine_in others_in c.in_ok-more.ensures.entries c.in_ok-more.ensures.children c.in_ok-more.ensures.keys
    (λ find told fs qs tree. c.in_ok-more.ensures.becomes find told fs qs tree) (λ find told fs qs tree. c.in_ok-more.ensures.spare find told fs qs tree) c.in_ok-held.ensures.moves in
    let measure : 2 * c.args.page.now.level ≡ t = c.decreases in
    let falls : 2 * (c.level-level.result - 1) + 1 < t = omega (arith, inner, value, measure) in
    let of_seat = kept-seat c.in-Some.before loop_now c.in-Some.ensures.kept in (
      falls,
      (
        within.0,
        (
          within.1,
          (
            subst (λ (l : List (ℕ × Option _)). AreEdits g.E.Entry.key c.in-Some.before.low (c.in-Some.before.high + 1) l) (sym c.split_at.ensures.front) tt,
            (of_seat.0, (of_seat.1, let h = c.level-level.ensures.high in omega (arith, h))),
          ),
        ),
      ),
    )

pub edit_children-loop-i-preserved-then-stays : goal.edit_children-loop-i-preserved-then-stays
edit_children-loop-i-preserved-then-stays g t c =
    let inner = c.requires.inner in
    let value = c.level-level.ensures.value in
    let level_is : c.args.page.now.level ≡ suc (c.level-level.result - 1) = omega (arith, inner, value) in
    let is_most : IsMost g.E.Entry.size (c.level-level.result - 1) c.most_at-most.result = record { holds = c.most_at-most.ensures.holds; whole = c.most_at-most.ensures.most } in
    let low_most = c.most_at-most.ensures.low in
    let test = c.loop-i-test.true in
    let count = c.count-count.ensures in
    let is = c.child_seat-seat.ensures in
    let seated = child-seated g.E.Entry.rule c.args.low c.args.high c.args.page.now.entries c.loop-i.i c.child_seat-seat.result.key c.child_seat-seat.result.low c.child_seat-seat.result.high c.child_seat-seat.result.at (omega (arith, test, count)) c.requires.rises is.child is.first is.later is.last is.next in
    let low_is = seated.low_is in
    let high_is = seated.high_is in
    let floor = seated.stands.floor in
    let next = seated.stands.next in
    let edits_in = subst (λ (m : ℕ). AreEdits g.E.Entry.key m (c.child_seat-seat.result.high + 1) (take c.count_up_to-n.result c.loop-i.rest.now)) (sym low_is)
    (c.count_up_to-n.ensures.front _ (c.args.high + 1) c.loop-i.invariant.main.edits_in (omega (arith, high_is, floor, next))) in
    let mine_in = subst (λ (l : List (ℕ × Option _)). AreEdits g.E.Entry.key c.child_seat-seat.result.low (c.child_seat-seat.result.high + 1) l) (sym c.split_at-in-loop-i.ensures.front) edits_in in
    let others_in = subst (λ (l : List (ℕ × Option _)). AreEdits g.E.Entry.key (c.child_seat-seat.result.high + 1) (c.args.high + 1) l) (sym c.split_at-in-loop-i.ensures.back)
    (c.count_up_to-n.ensures.back _ (c.args.high + 1) c.loop-i.invariant.main.edits_in (omega (arith, high_is, floor, next))) in
    let cut = cut-again c.count_up_to-n.result c.loop-i.rest.now c.split_at-in-loop-i.result.0.now c.split_at-in-loop-i.result.1.now c.split_at-in-loop-i.ensures.front c.split_at-in-loop-i.ensures.back in
    let cut_len : length c.loop-i.rest.now ≡ length c.split_at-in-loop-i.result.0.now + length c.split_at-in-loop-i.result.1.now = ap (λ (l : List (ℕ × Option _)). length l) cut ∙ length-append c.split_at-in-loop-i.result.0.now c.split_at-in-loop-i.result.1.now in
    let settles = c.in_ok-settle.ensures.settles in
    let stays = c.stays.ensures.stays c.if-stays.true in
    let front = c.split_at-in-loop-i.ensures.front_len in
    let none : c.split_at-in-loop-i.result.0.now ≡ [] = no-items c.split_at-in-loop-i.result.0.now (omega (arith, stays, front)) in
    let within = c.loop-i.invariant.within in
    let out_is = settled-out g.E.Entry.key g.E.Entry.rule g.E.Entry.size (c.level-level.result - 1) c.loop-i.pages.items c.settle.new.pages.items c.loop-i.out.items c.settle.new.out.items c.loop-i.held.kept c.loop-i.held.content.entries.items c.loop-i.held.content.children.items settles in
    let kept = ap (λ (k : Option _). length (kept_child k)) c.held_child-held-then-stays.ensures.kept in
    let size = size-begin (c.level-level.result - 1) c.held_child-held-then-stays.result.content.entries.items c.held_child-held-then-stays.result.content.children.items c.held_child-held-then-stays.ensures.entries c.held_child-held-then-stays.ensures.children in
    record {
      main = loop-stays g.E.Entry.rule g.E.Entry.size g.E.Entry.entry_of g.E.Entry.key (g.S.PageSource.view c.args.s.now) (g.S.PageSource.view c.loop-i.s) c.args.page.now c.args.low c.args.high c.most_at-most.result (c.loop-i.i + 1) c.args.pages.now.items c.settle.new.pages.items c.args.freed.now.items c.loop-i.freed.items c.settle.new.out.items c.held_child-held-then-stays.result.kept
          c.held_child-held-then-stays.result.content.entries.items c.held_child-held-then-stays.result.content.children.items c.args.edits.now c.split_at-in-loop-i.result.1.now c.child_seat-seat.result
          c.held_child-held-then-stays.ensures.kept c.held_child-held-then-stays.ensures.entries c.held_child-held-then-stays.ensures.children
          (loop-kept g.E.Entry.rule g.E.Entry.size g.E.Entry.entry_of g.E.Entry.key (g.S.PageSource.view c.args.s.now) (g.S.PageSource.view c.loop-i.s) c.args.page.now c.args.low c.args.high c.most_at-most.result c.loop-i.i (c.level-level.result - 1) c.args.pages.now.items c.loop-i.pages.items c.settle.new.pages.items c.args.freed.now.items c.loop-i.freed.items c.loop-i.out.items c.settle.new.out.items c.loop-i.held.kept c.loop-i.held.content.entries.items
          c.loop-i.held.content.children.items c.args.edits.now c.loop-i.rest.now c.split_at-in-loop-i.result.0.now c.split_at-in-loop-i.result.1.now c.child_seat-seat.result is_most level_is c.loop-i.invariant.main seated is.key (omega (arith, low_is, floor)) (omega (arith, high_is, next)) cut none mine_in others_in settles);
      writable = λ h. c.in_ok-settle.ensures.writable (c.loop-i.invariant.writable h);
      within = omega (arith, cut_len, within);
      end = omega (arith, test, count);
      ample = subst (λ (e : ℕ). IsAmple c.args.page.now.level c.most_at-most.result (c.loop-i.i + 1) e (size_of (c.level-level.result - 1) c.held_child-held-then-stays.result.content.entries.items c.held_child-held-then-stays.result.content.children.items) (length c.settle.new.out.items + length (kept_child c.held_child-held-then-stays.result.kept)) (length c.args.pages.now.items) (length c.settle.new.pages.items))
          (let e : length c.args.edits.now - length c.loop-i.rest.now ≡ length c.args.edits.now - length c.split_at-in-loop-i.result.1.now = omega (arith, cut_len, stays, front) in e)
          (ample-kept c.args.page.now.level c.most_at-most.result c.loop-i.i (length c.args.edits.now - length c.loop-i.rest.now) (size_of (c.level-level.result - 1) c.loop-i.held.content.entries.items c.loop-i.held.content.children.items) (length c.loop-i.out.items + length (kept_child c.loop-i.held.kept)) (length c.args.pages.now.items) (length c.loop-i.pages.items) (length settles.pieces)
          (length c.settle.new.out.items + length (kept_child c.held_child-held-then-stays.result.kept)) (size_of (c.level-level.result - 1) c.held_child-held-then-stays.result.content.entries.items c.held_child-held-then-stays.result.content.children.items) (length c.settle.new.pages.items) c.loop-i.invariant.ample (λ k le. settles.makes.few c.most_at-most.result k is_most le) size (omega (arith, out_is, kept)) settles.makes.grows);
    }

pub edit_children-loop-i-preserved : goal.edit_children-loop-i-preserved
edit_children-loop-i-preserved g t c =
    let inner = c.requires.inner in
    let value = c.level-level.ensures.value in
    let level_is : c.args.page.now.level ≡ suc (c.level-level.result - 1) = omega (arith, inner, value) in
    let is_most : IsMost g.E.Entry.size (c.level-level.result - 1) c.most_at-most.result = record { holds = c.most_at-most.ensures.holds; whole = c.most_at-most.ensures.most } in
    let low_most = c.most_at-most.ensures.low in
    let test = c.loop-i-test.true in
    let count = c.count-count.ensures in
    let is = c.child_seat-seat.ensures in
    let seated = child-seated g.E.Entry.rule c.args.low c.args.high c.args.page.now.entries c.loop-i.i c.child_seat-seat.result.key c.child_seat-seat.result.low c.child_seat-seat.result.high c.child_seat-seat.result.at (omega (arith, test, count)) c.requires.rises is.child is.first is.later is.last is.next in
    let low_is = seated.low_is in
    let high_is = seated.high_is in
    let floor = seated.stands.floor in
    let next = seated.stands.next in
    let edits_in = subst (λ (m : ℕ). AreEdits g.E.Entry.key m (c.child_seat-seat.result.high + 1) (take c.count_up_to-n.result c.loop-i.rest.now)) (sym low_is)
    (c.count_up_to-n.ensures.front _ (c.args.high + 1) c.loop-i.invariant.main.edits_in (omega (arith, high_is, floor, next))) in
    let mine_in = subst (λ (l : List (ℕ × Option _)). AreEdits g.E.Entry.key c.child_seat-seat.result.low (c.child_seat-seat.result.high + 1) l) (sym c.split_at-in-loop-i.ensures.front) edits_in in
    let others_in = subst (λ (l : List (ℕ × Option _)). AreEdits g.E.Entry.key (c.child_seat-seat.result.high + 1) (c.args.high + 1) l) (sym c.split_at-in-loop-i.ensures.back)
    (c.count_up_to-n.ensures.back _ (c.args.high + 1) c.loop-i.invariant.main.edits_in (omega (arith, high_is, floor, next))) in
    let cut = cut-again c.count_up_to-n.result c.loop-i.rest.now c.split_at-in-loop-i.result.0.now c.split_at-in-loop-i.result.1.now c.split_at-in-loop-i.ensures.front c.split_at-in-loop-i.ensures.back in
    let cut_len : length c.loop-i.rest.now ≡ length c.split_at-in-loop-i.result.0.now + length c.split_at-in-loop-i.result.1.now = ap (λ (l : List (ℕ × Option _)). length l) cut ∙ length-append c.split_at-in-loop-i.result.0.now c.split_at-in-loop-i.result.1.now in
    let loop_now = loop-read g.E.Entry.rule g.E.Entry.size g.E.Entry.entry_of g.E.Entry.key (g.S.PageSource.view c.args.s.now) (g.S.PageSource.view c.loop-i.s) (g.S.PageSource.view c.edit_below.new.s) c.args.page.now c.args.low c.args.high c.most_at-most.result c.loop-i.i (c.level-level.result - 1) c.quarter-least.result c.args.pages.now.items c.loop-i.pages.items c.edit_below.new.pages.items c.behind.new.pages.items
    c.args.freed.now.items c.loop-i.freed.items c.edit_below.new.freed.items c.loop-i.out.items c.behind.new.out.items c.loop-i.held.kept c.in_ok-held.held.kept c.loop-i.held.content.entries.items c.in_ok-more.more.entries.items c.in_ok-held.held.content.entries.items
    c.loop-i.held.content.children.items c.in_ok-more.more.children.items c.in_ok-held.held.content.children.items c.args.edits.now c.loop-i.rest.now c.split_at-in-loop-i.result.0.now c.split_at-in-loop-i.result.1.now c.child_seat-seat.result
    (omega (arith, low_most)) is_most level_is c.loop-i.invariant.main c.edit_below.ensures.later seated cut mine_in others_in c.in_ok-more.ensures.entries c.in_ok-more.ensures.children c.in_ok-more.ensures.keys
    (λ find told fs qs tree. c.in_ok-more.ensures.becomes find told fs qs tree) (λ find told fs qs tree. c.in_ok-more.ensures.spare find told fs qs tree) c.in_ok-held.ensures.moves in
    let front = c.split_at-in-loop-i.ensures.front_len in
    let back = c.split_at-in-loop-i.ensures.back_len in
    let within = c.loop-i.invariant.within in
    let least = c.quarter-least.ensures in
    let low_level : c.args.page.now.level - 1 ≡ c.level-level.result - 1 = omega (arith, value) in
    let reads : (1 ≤ length c.split_at-in-loop-i.result.0.now) ⊎ ((1 ≤ size_of (c.level-level.result - 1) c.loop-i.held.content.entries.items c.loop-i.held.content.children.items) × (size_of (c.level-level.result - 1) c.loop-i.held.content.entries.items c.loop-i.held.content.children.items < c.quarter-least.result)) =
    ⊎_elim (λ (h : 1 ≤ c.count_up_to-n.result). inl (omega (arith, h, front))) (λ (h : (1 ≤ size_of (c.level-level.result - 1) c.loop-i.held.content.entries.items c.loop-i.held.content.children.items) × (size_of (c.level-level.result - 1) c.loop-i.held.content.entries.items c.loop-i.held.content.children.items < c.quarter-least.result)). inr h) (c.stays.ensures.reads c.if-stays.false) in
    let grown : length c.edit_below.new.pages.items ≤ length c.loop-i.pages.items + (2 * (c.args.page.now.level - 1)) * length c.split_at-in-loop-i.result.0.now = subst (λ (m : ℕ). length c.edit_below.new.pages.items ≤ length c.loop-i.pages.items + (2 * m) * length c.split_at-in-loop-i.result.0.now) (sym low_level) c.in_ok-more.ensures.grows in
    let ample_now = ample-moves g.E.Entry.key g.E.Entry.rule g.E.Entry.size c.args.page.now.level (c.level-level.result - 1) c.most_at-most.result c.quarter-least.result c.loop-i.i (length c.args.edits.now - length c.loop-i.rest.now) (length c.split_at-in-loop-i.result.0.now) (length c.args.edits.now - length c.split_at-in-loop-i.result.1.now)
    (length c.args.pages.now.items) (length c.loop-i.pages.items) c.edit_below.new.pages.items c.behind.new.pages.items c.loop-i.out.items c.behind.new.out.items c.loop-i.held.kept c.in_ok-held.held.kept c.loop-i.held.content.entries.items c.in_ok-more.more.entries.items c.in_ok-held.held.content.entries.items
    c.loop-i.held.content.children.items c.in_ok-more.more.children.items c.in_ok-held.held.content.children.items inner (omega (arith, low_most)) (omega (arith, least, low_most)) is_most c.loop-i.invariant.ample (c.in_ok-more.ensures.few c.most_at-most.result is_most) grown reads c.in_ok-held.ensures.moves (omega (arith, cut_len, within)) in
    record {
      main = loop_now;
      writable = λ h. c.in_ok-held.ensures.writable (c.in_ok-more.ensures.writable (c.loop-i.invariant.writable h));
      within = omega (arith, cut_len, within);
      end = omega (arith, test, count);
      ample = ample_now;
    }

pub edit_children-loop-i-preserved-in-Some : goal.edit_children-loop-i-preserved-in-Some
edit_children-loop-i-preserved-in-Some g t c =
    let inner = c.requires.inner in
    let value = c.level-level.ensures.value in
    let level_is : c.args.page.now.level ≡ suc (c.level-level.result - 1) = omega (arith, inner, value) in
    let is_most : IsMost g.E.Entry.size (c.level-level.result - 1) c.most_at-most.result = record { holds = c.most_at-most.ensures.holds; whole = c.most_at-most.ensures.most } in
    let low_most = c.most_at-most.ensures.low in
    let test = c.loop-i-test.true in
    let count = c.count-count.ensures in
    let is = c.child_seat-seat.ensures in
    let seated = child-seated g.E.Entry.rule c.args.low c.args.high c.args.page.now.entries c.loop-i.i c.child_seat-seat.result.key c.child_seat-seat.result.low c.child_seat-seat.result.high c.child_seat-seat.result.at (omega (arith, test, count)) c.requires.rises is.child is.first is.later is.last is.next in
    let low_is = seated.low_is in
    let high_is = seated.high_is in
    let floor = seated.stands.floor in
    let next = seated.stands.next in
    let edits_in = subst (λ (m : ℕ). AreEdits g.E.Entry.key m (c.child_seat-seat.result.high + 1) (take c.count_up_to-n.result c.loop-i.rest.now)) (sym low_is)
    (c.count_up_to-n.ensures.front _ (c.args.high + 1) c.loop-i.invariant.main.edits_in (omega (arith, high_is, floor, next))) in
    let mine_in = subst (λ (l : List (ℕ × Option _)). AreEdits g.E.Entry.key c.child_seat-seat.result.low (c.child_seat-seat.result.high + 1) l) (sym c.split_at-in-loop-i.ensures.front) edits_in in
    let others_in = subst (λ (l : List (ℕ × Option _)). AreEdits g.E.Entry.key (c.child_seat-seat.result.high + 1) (c.args.high + 1) l) (sym c.split_at-in-loop-i.ensures.back)
    (c.count_up_to-n.ensures.back _ (c.args.high + 1) c.loop-i.invariant.main.edits_in (omega (arith, high_is, floor, next))) in
    let cut = cut-again c.count_up_to-n.result c.loop-i.rest.now c.split_at-in-loop-i.result.0.now c.split_at-in-loop-i.result.1.now c.split_at-in-loop-i.ensures.front c.split_at-in-loop-i.ensures.back in
    let cut_len : length c.loop-i.rest.now ≡ length c.split_at-in-loop-i.result.0.now + length c.split_at-in-loop-i.result.1.now = ap (λ (l : List (ℕ × Option _)). length l) cut ∙ length-append c.split_at-in-loop-i.result.0.now c.split_at-in-loop-i.result.1.now in
    let loop_now = loop-read g.E.Entry.rule g.E.Entry.size g.E.Entry.entry_of g.E.Entry.key (g.S.PageSource.view c.args.s.now) (g.S.PageSource.view c.loop-i.s) (g.S.PageSource.view c.edit_below.new.s) c.args.page.now c.args.low c.args.high c.most_at-most.result c.loop-i.i (c.level-level.result - 1) c.quarter-least.result c.args.pages.now.items c.loop-i.pages.items c.edit_below.new.pages.items c.behind.new.pages.items
    c.args.freed.now.items c.loop-i.freed.items c.edit_below.new.freed.items c.loop-i.out.items c.behind.new.out.items c.loop-i.held.kept c.in_ok-held.held.kept c.loop-i.held.content.entries.items c.in_ok-more.more.entries.items c.in_ok-held.held.content.entries.items
    c.loop-i.held.content.children.items c.in_ok-more.more.children.items c.in_ok-held.held.content.children.items c.args.edits.now c.loop-i.rest.now c.split_at-in-loop-i.result.0.now c.split_at-in-loop-i.result.1.now c.child_seat-seat.result
    (omega (arith, low_most)) is_most level_is c.loop-i.invariant.main c.edit_below.ensures.later seated cut mine_in others_in c.in_ok-more.ensures.entries c.in_ok-more.ensures.children c.in_ok-more.ensures.keys
    (λ find told fs qs tree. c.in_ok-more.ensures.becomes find told fs qs tree) (λ find told fs qs tree. c.in_ok-more.ensures.spare find told fs qs tree) c.in_ok-held.ensures.moves in
    let front = c.split_at-in-loop-i.ensures.front_len in
    let back = c.split_at-in-loop-i.ensures.back_len in
    let within = c.loop-i.invariant.within in
    let least = c.quarter-least.ensures in
    let low_level : c.args.page.now.level - 1 ≡ c.level-level.result - 1 = omega (arith, value) in
    let reads : (1 ≤ length c.split_at-in-loop-i.result.0.now) ⊎ ((1 ≤ size_of (c.level-level.result - 1) c.loop-i.held.content.entries.items c.loop-i.held.content.children.items) × (size_of (c.level-level.result - 1) c.loop-i.held.content.entries.items c.loop-i.held.content.children.items < c.quarter-least.result)) =
    ⊎_elim (λ (h : 1 ≤ c.count_up_to-n.result). inl (omega (arith, h, front))) (λ (h : (1 ≤ size_of (c.level-level.result - 1) c.loop-i.held.content.entries.items c.loop-i.held.content.children.items) × (size_of (c.level-level.result - 1) c.loop-i.held.content.entries.items c.loop-i.held.content.children.items < c.quarter-least.result)). inr h) (c.stays.ensures.reads c.if-stays.false) in
    let grown : length c.edit_below.new.pages.items ≤ length c.loop-i.pages.items + (2 * (c.args.page.now.level - 1)) * length c.split_at-in-loop-i.result.0.now = subst (λ (m : ℕ). length c.edit_below.new.pages.items ≤ length c.loop-i.pages.items + (2 * m) * length c.split_at-in-loop-i.result.0.now) (sym low_level) c.in_ok-more.ensures.grows in
    let ample_now = ample-moves g.E.Entry.key g.E.Entry.rule g.E.Entry.size c.args.page.now.level (c.level-level.result - 1) c.most_at-most.result c.quarter-least.result c.loop-i.i (length c.args.edits.now - length c.loop-i.rest.now) (length c.split_at-in-loop-i.result.0.now) (length c.args.edits.now - length c.split_at-in-loop-i.result.1.now)
    (length c.args.pages.now.items) (length c.loop-i.pages.items) c.edit_below.new.pages.items c.behind.new.pages.items c.loop-i.out.items c.behind.new.out.items c.loop-i.held.kept c.in_ok-held.held.kept c.loop-i.held.content.entries.items c.in_ok-more.more.entries.items c.in_ok-held.held.content.entries.items
    c.loop-i.held.content.children.items c.in_ok-more.more.children.items c.in_ok-held.held.content.children.items inner (omega (arith, low_most)) (omega (arith, least, low_most)) is_most c.loop-i.invariant.ample (c.in_ok-more.ensures.few c.most_at-most.result is_most) grown reads c.in_ok-held.ensures.moves (omega (arith, cut_len, within)) in
    let none_len = ap (λ (l : List (ℕ × Option _)). length l) c.split_at.ensures.front in
    let first_few : size_of (c.level-level.result - 1) c.in_ok-first.first.entries.items c.in_ok-first.first.children.items ≤ c.most_at-most.result + 0 = subst (λ (e : ℕ). size_of (c.level-level.result - 1) c.in_ok-first.first.entries.items c.in_ok-first.first.children.items ≤ c.most_at-most.result + e) none_len (c.in_ok-first.ensures.few c.most_at-most.result is_most) in
    let first_grown : length c.edit_below-in-Some.new.pages.items ≤ length c.behind.new.pages.items + (2 * (c.args.page.now.level - 1)) * 0 = subst (λ (e : ℕ). length c.edit_below-in-Some.new.pages.items ≤ length c.behind.new.pages.items + (2 * (c.args.page.now.level - 1)) * e) none_len
    (subst (λ (m : ℕ). length c.edit_below-in-Some.new.pages.items ≤ length c.behind.new.pages.items + (2 * m) * length c.split_at.result.0.now) (sym low_level) c.in_ok-first.ensures.grows) in
    let was = ap (λ (k : Option _). length (kept_child k)) c.in-Some.ensures.kept in
    let gone = ap (λ (k : Option _). length (kept_child k)) c.in_ok-held-2.ensures.kept in
    record {
      main = loop-front g.E.Entry.rule g.E.Entry.size g.E.Entry.entry_of g.E.Entry.key (g.S.PageSource.view c.args.s.now) (g.S.PageSource.view c.edit_below.new.s) (g.S.PageSource.view c.edit_below-in-Some.new.s) c.args.page.now c.args.low c.args.high c.most_at-most.result (c.loop-i.i + 1) (c.level-level.result - 1) c.args.pages.now.items c.behind.new.pages.items c.edit_below-in-Some.new.pages.items
          c.args.freed.now.items c.edit_below.new.freed.items c.edit_below-in-Some.new.freed.items c.behind.new.out.items c.in_ok-held.held.kept c.in_ok-held-2.held.kept c.in_ok-held.held.content.entries.items c.in_ok-first.first.entries.items c.in_ok-held-2.held.content.entries.items
          c.in_ok-held.held.content.children.items c.in_ok-first.first.children.items c.in_ok-held-2.held.content.children.items c.args.edits.now c.split_at-in-loop-i.result.1.now c.split_at.result.0.now c.in-Some.before
          is_most level_is loop_now c.edit_below-in-Some.ensures.later c.in-Some.ensures.kept c.split_at.ensures.front c.in_ok-first.ensures.entries c.in_ok-first.ensures.children c.in_ok-first.ensures.keys
          (λ find told fs qs tree. c.in_ok-first.ensures.becomes find told fs qs tree) (λ find told fs qs tree. c.in_ok-first.ensures.spare find told fs qs tree) c.in_ok-held-2.ensures.kept c.in_ok-held-2.ensures.entries c.in_ok-held-2.ensures.children;
      writable = λ h. c.in_ok-first.ensures.writable (c.in_ok-held.ensures.writable (c.in_ok-more.ensures.writable (c.loop-i.invariant.writable h)));
      within = omega (arith, cut_len, within);
      end = omega (arith, test, count);
      ample = ample-front c.args.page.now.level c.most_at-most.result c.quarter-least.result (c.loop-i.i + 1) (length c.args.edits.now - length c.split_at-in-loop-i.result.1.now) (size_of (c.level-level.result - 1) c.in_ok-held.held.content.entries.items c.in_ok-held.held.content.children.items) (size_of (c.level-level.result - 1) c.in_ok-first.first.entries.items c.in_ok-first.first.children.items)
          (length c.behind.new.out.items + length (kept_child c.in_ok-held.held.kept)) (length c.behind.new.out.items + length (kept_child c.in_ok-held-2.held.kept)) (length c.args.pages.now.items) (length c.behind.new.pages.items) (length c.edit_below-in-Some.new.pages.items)
          (size_of (c.level-level.result - 1) c.in_ok-held-2.held.content.entries.items c.in_ok-held-2.held.content.children.items) (omega (arith, least, low_most)) ample_now first_few first_grown c.in-Some.ensures.some c.in-Some.ensures.few (omega (arith, was, gone))
          (ap (λ (l : List _). size_of (c.level-level.result - 1) l c.in_ok-held-2.held.content.children.items) c.in_ok-held-2.ensures.entries ∙ ap (λ (l : List (ℕ × Child)). size_of (c.level-level.result - 1) (c.in_ok-first.first.entries.items ++ c.in_ok-held.held.content.entries.items) l) c.in_ok-held-2.ensures.children
          ∙ size-join (c.level-level.result - 1) c.in_ok-first.first.entries.items c.in_ok-held.held.content.entries.items c.in_ok-first.first.children.items c.in_ok-held.held.content.children.items);
    }

pub edit_children-settle-requires-clause-entries : goal.edit_children-settle-requires-clause-entries
edit_children-settle-requires-clause-entries g t c = rise-widen c.loop-i.invariant.main.order.next _ 0 (2 ^ 64) (map g.E.Entry.key c.loop-i.held.content.entries.items) c.loop-i.invariant.main.order.entries_rise (omega arith) (let top = c.loop-i.invariant.main.top in omega (arith, top))

pub edit_children-settle-requires-clause-children : goal.edit_children-settle-requires-clause-children
edit_children-settle-requires-clause-children g t c = rise-widen c.loop-i.invariant.main.order.next _ 0 (2 ^ 64) (keys_of c.loop-i.held.content.children.items) c.loop-i.invariant.main.order.children_rise (omega arith) (let top = c.loop-i.invariant.main.top in omega (arith, top))

pub edit_children-settle-requires-clause-keys : goal.edit_children-settle-requires-clause-keys
edit_children-settle-requires-clause-keys g t c = c.loop-i.invariant.main.order.children_keys

pub edit_children-behind-requires-clause-entries : goal.edit_children-behind-requires-clause-entries
edit_children-behind-requires-clause-entries g t c = rise-widen c.loop-i.invariant.main.order.next _ 0 (2 ^ 64) (map g.E.Entry.key c.loop-i.held.content.entries.items) c.loop-i.invariant.main.order.entries_rise (omega arith) (let top = c.loop-i.invariant.main.top in omega (arith, top))

pub edit_children-behind-requires-clause-children : goal.edit_children-behind-requires-clause-children
edit_children-behind-requires-clause-children g t c = rise-widen c.loop-i.invariant.main.order.next _ 0 (2 ^ 64) (keys_of c.loop-i.held.content.children.items) c.loop-i.invariant.main.order.children_rise (omega arith) (let top = c.loop-i.invariant.main.top in omega (arith, top))

pub edit_children-behind-requires-clause-keys : goal.edit_children-behind-requires-clause-keys
edit_children-behind-requires-clause-keys g t c = c.loop-i.invariant.main.order.children_keys

pub edit_children-settle-requires-2-clause-entries : goal.edit_children-settle-requires-2-clause-entries
edit_children-settle-requires-2-clause-entries g t c = rise-widen c.loop-i.invariant.main.order.next _ 0 (2 ^ 64) (map g.E.Entry.key c.loop-i.held.content.entries.items) c.loop-i.invariant.main.order.entries_rise (omega arith) (let top = c.loop-i.invariant.main.top in omega (arith, top))

pub edit_children-settle-requires-2-clause-children : goal.edit_children-settle-requires-2-clause-children
edit_children-settle-requires-2-clause-children g t c = rise-widen c.loop-i.invariant.main.order.next _ 0 (2 ^ 64) (keys_of c.loop-i.held.content.children.items) c.loop-i.invariant.main.order.children_rise (omega arith) (let top = c.loop-i.invariant.main.top in omega (arith, top))

pub edit_children-settle-requires-2-clause-keys : goal.edit_children-settle-requires-2-clause-keys
edit_children-settle-requires-2-clause-keys g t c = c.loop-i.invariant.main.order.children_keys

pub edit_children-returns-in_err-more-clause-later : goal.edit_children-returns-in_err-more-clause-later
edit_children-returns-in_err-more-clause-later g t c = later-then c.loop-i.invariant.main.later c.edit_below.ensures.later

pub edit_children-returns-in_err-held-clause-later : goal.edit_children-returns-in_err-held-clause-later
edit_children-returns-in_err-held-clause-later g t c = later-then c.loop-i.invariant.main.later c.edit_below.ensures.later

pub edit_children-returns-in_err-first-clause-later : goal.edit_children-returns-in_err-first-clause-later
edit_children-returns-in_err-first-clause-later g t c = later-then (later-then c.loop-i.invariant.main.later c.edit_below.ensures.later) c.edit_below-in-Some.ensures.later

pub edit_children-returns-in_err-held-2-clause-later : goal.edit_children-returns-in_err-held-2-clause-later
edit_children-returns-in_err-held-2-clause-later g t c = later-then (later-then c.loop-i.invariant.main.later c.edit_below.ensures.later) c.edit_below-in-Some.ensures.later

pub edit_children-returns-clause-replaces : goal.edit_children-returns-clause-replaces
edit_children-returns-clause-replaces g t c = λ find told n is some es ps below.
    let inner = c.requires.inner in
    let value = c.level-level.ensures.value in
    let level_is : c.args.page.now.level ≡ suc (c.level-level.result - 1) = omega (arith, inner, value) in
    let is_most : IsMost g.E.Entry.size (c.level-level.result - 1) c.most_at-most.result = record { holds = c.most_at-most.ensures.holds; whole = c.most_at-most.ensures.most } in
    let low_most = c.most_at-most.ensures.low in
    let test = c.loop-i-test.false in
    let count = c.count-count.ensures in
    let end = c.loop-i.invariant.end in
    let all : c.loop-i.i ≡ length c.args.page.now.entries = omega (arith, test, count, end) in
    (loop-end g.E.Entry.rule g.E.Entry.size g.E.Entry.entry_of g.E.Entry.key (g.S.PageSource.view c.args.s.now) (g.S.PageSource.view c.loop-i.s) c.args.page.now c.args.low c.args.high c.most_at-most.result c.loop-i.i (c.level-level.result - 1) c.args.pages.now.items c.loop-i.pages.items c.settle-2.new.pages.items c.args.freed.now.items c.loop-i.freed.items c.loop-i.out.items c.settle-2.new.out.items c.loop-i.held.kept c.loop-i.held.content.entries.items
    c.loop-i.held.content.children.items c.args.edits.now c.loop-i.rest.now is_most level_is c.loop-i.invariant.main c.in_ok-settle-2.ensures.settles all some find told n is es ps below).replaces

pub edit_children-returns-clause-spare : goal.edit_children-returns-clause-spare
edit_children-returns-clause-spare g t c = λ find told n is some es ps below.
    let inner = c.requires.inner in
    let value = c.level-level.ensures.value in
    let level_is : c.args.page.now.level ≡ suc (c.level-level.result - 1) = omega (arith, inner, value) in
    let is_most : IsMost g.E.Entry.size (c.level-level.result - 1) c.most_at-most.result = record { holds = c.most_at-most.ensures.holds; whole = c.most_at-most.ensures.most } in
    let low_most = c.most_at-most.ensures.low in
    let test = c.loop-i-test.false in
    let count = c.count-count.ensures in
    let end = c.loop-i.invariant.end in
    let all : c.loop-i.i ≡ length c.args.page.now.entries = omega (arith, test, count, end) in
    (loop-end g.E.Entry.rule g.E.Entry.size g.E.Entry.entry_of g.E.Entry.key (g.S.PageSource.view c.args.s.now) (g.S.PageSource.view c.loop-i.s) c.args.page.now c.args.low c.args.high c.most_at-most.result c.loop-i.i (c.level-level.result - 1) c.args.pages.now.items c.loop-i.pages.items c.settle-2.new.pages.items c.args.freed.now.items c.loop-i.freed.items c.loop-i.out.items c.settle-2.new.out.items c.loop-i.held.kept c.loop-i.held.content.entries.items
    c.loop-i.held.content.children.items c.args.edits.now c.loop-i.rest.now is_most level_is c.loop-i.invariant.main c.in_ok-settle-2.ensures.settles all some find told n is es ps below).spare

pub edit_children-returns-clause-later : goal.edit_children-returns-clause-later
edit_children-returns-clause-later g t c = c.loop-i.invariant.main.later

pub edit_children-returns-clause-writable : goal.edit_children-returns-clause-writable
edit_children-returns-clause-writable g t c = λ h. c.in_ok-settle-2.ensures.writable (c.loop-i.invariant.writable h)

pub edit_children-returns-clause-rises : goal.edit_children-returns-clause-rises
edit_children-returns-clause-rises g t c = rise-widen c.args.low _ c.args.low (c.args.high + 1) (keys_of c.settle-2.new.out.items) (order-end g.E.Entry.rule g.E.Entry.key g.E.Entry.size (c.level-level.result - 1) c.args.low _ c.loop-i.pages.items c.settle-2.new.pages.items c.loop-i.out.items c.settle-2.new.out.items c.loop-i.held.kept c.loop-i.held.content.entries.items c.loop-i.held.content.children.items c.loop-i.invariant.main.order c.in_ok-settle-2.ensures.settles).0 (omega arith) c.loop-i.invariant.main.top

pub edit_children-returns-clause-keys : goal.edit_children-returns-clause-keys
edit_children-returns-clause-keys g t c = (order-end g.E.Entry.rule g.E.Entry.key g.E.Entry.size (c.level-level.result - 1) c.args.low _ c.loop-i.pages.items c.settle-2.new.pages.items c.loop-i.out.items c.settle-2.new.out.items c.loop-i.held.kept c.loop-i.held.content.entries.items c.loop-i.held.content.children.items c.loop-i.invariant.main.order c.in_ok-settle-2.ensures.settles).1

pub edit_children-returns-clause-few : goal.edit_children-returns-clause-few
edit_children-returns-clause-few g t c =
    let inner = c.requires.inner in
    let value = c.level-level.ensures.value in
    let level_is : c.args.page.now.level ≡ suc (c.level-level.result - 1) = omega (arith, inner, value) in
    let is_most : IsMost g.E.Entry.size (c.level-level.result - 1) c.most_at-most.result = record { holds = c.most_at-most.ensures.holds; whole = c.most_at-most.ensures.most } in
    let low_most = c.most_at-most.ensures.low in
    let test = c.loop-i-test.false in
    let count = c.count-count.ensures in
    let end = c.loop-i.invariant.end in
    let all : c.loop-i.i ≡ length c.args.page.now.entries = omega (arith, test, count, end) in
    let settles = c.in_ok-settle-2.ensures.settles in
    let out_is = settled-out g.E.Entry.key g.E.Entry.rule g.E.Entry.size (c.level-level.result - 1) c.loop-i.pages.items c.settle-2.new.pages.items c.loop-i.out.items c.settle-2.new.out.items c.loop-i.held.kept c.loop-i.held.content.entries.items c.loop-i.held.content.children.items settles in
    let ends = ample-end c.args.page.now.level c.most_at-most.result c.loop-i.i (length c.args.edits.now - length c.loop-i.rest.now) (size_of (c.level-level.result - 1) c.loop-i.held.content.entries.items c.loop-i.held.content.children.items) (length c.loop-i.out.items + length (kept_child c.loop-i.held.kept)) (length c.args.pages.now.items) (length c.loop-i.pages.items)
    (length settles.pieces) (length c.settle-2.new.out.items) (length c.settle-2.new.pages.items) c.loop-i.invariant.ample (λ k le. settles.makes.few c.most_at-most.result k is_most le) out_is settles.makes.grows in
    let few = ends.0 in
    omega (arith, few, all)

pub edit_children-returns-clause-grows : goal.edit_children-returns-clause-grows
edit_children-returns-clause-grows g t c =
    let inner = c.requires.inner in
    let value = c.level-level.ensures.value in
    let level_is : c.args.page.now.level ≡ suc (c.level-level.result - 1) = omega (arith, inner, value) in
    let is_most : IsMost g.E.Entry.size (c.level-level.result - 1) c.most_at-most.result = record { holds = c.most_at-most.ensures.holds; whole = c.most_at-most.ensures.most } in
    let low_most = c.most_at-most.ensures.low in
    let settles = c.in_ok-settle-2.ensures.settles in
    let out_is = settled-out g.E.Entry.key g.E.Entry.rule g.E.Entry.size (c.level-level.result - 1) c.loop-i.pages.items c.settle-2.new.pages.items c.loop-i.out.items c.settle-2.new.out.items c.loop-i.held.kept c.loop-i.held.content.entries.items c.loop-i.held.content.children.items settles in
    let ends = ample-end c.args.page.now.level c.most_at-most.result c.loop-i.i (length c.args.edits.now - length c.loop-i.rest.now) (size_of (c.level-level.result - 1) c.loop-i.held.content.entries.items c.loop-i.held.content.children.items) (length c.loop-i.out.items + length (kept_child c.loop-i.held.kept)) (length c.args.pages.now.items) (length c.loop-i.pages.items)
    (length settles.pieces) (length c.settle-2.new.out.items) (length c.settle-2.new.pages.items) c.loop-i.invariant.ample (λ k le. settles.makes.few c.most_at-most.result k is_most le) out_is settles.makes.grows in
    let grows = ends.1 in
    let less : (2 * c.args.page.now.level) * (length c.args.edits.now - length c.loop-i.rest.now) ≤ (2 * c.args.page.now.level) * length c.args.edits.now = mul-le (2 * c.args.page.now.level) (length c.args.edits.now - length c.loop-i.rest.now) (2 * c.args.page.now.level) (length c.args.edits.now) (omega arith) (omega arith) in
    omega (arith, grows, less)

-- ---- stops

pub edit_below-returns-in_err-body-clause-stopped : goal.edit_below-returns-in_err-body-clause-stopped
edit_below-returns-in_err-body-clause-stopped g t c =
    let Tells : (Brefs → Option (List ℕ)) → Type 0 = TellsTree g.E.Entry.rule g.E.Entry.size g.E.Entry.entry_of g.E.Entry.key c.args.level c.args.seat.key (c.args.seat.high + 1) c.args.seat.at in
    stops-handed Tells (g.S.PageSource.view c.args.s.now) (g.S.PageSource.view c.page.new.self) c.in_err-body.field-0.0 c.from_residual.result c.from_residual.ensures.1
    (stops-source Tells (g.S.PageSource.view c.args.s.now) (g.S.PageSource.view c.page.new.self) c.in_err-body.field-0.0 c.in_err-body.ensures.stopped)

pub edit_below-returns-in_default-clause-stopped : goal.edit_below-returns-in_default-clause-stopped
edit_below-returns-in_default-clause-stopped g t c =
    let Tells : (Brefs → Option (List ℕ)) → Type 0 = TellsTree g.E.Entry.rule g.E.Entry.size g.E.Entry.entry_of g.E.Entry.key c.args.level c.args.seat.key (c.args.seat.high + 1) c.args.seat.at in
    stops-here Tells (g.S.PageSource.view c.args.s.now) (g.S.PageSource.view c.page.new.self) c.changed.result c.args.seat.at c.in_ok-body.body c.changed.ensures c.in_ok-body.ensures.found (λ find told found tells.
    let top = any-page g.E.Entry.rule g.E.Entry.size g.E.Entry.entry_of g.E.Entry.key g.met.E.Entry.key_read find c.args.seat.at c.in_ok-body.body found c.args.level 1 c.args.seat.key (c.args.seat.high + 1) tells.0 tells.1
    (any-of-tree (shapes g.E.Entry.rule g.E.Entry.size g.E.Entry.entry_of find) g.E.Entry.key c.args.level c.args.seat.key (c.args.seat.high + 1) c.args.seat.at tells.0 tells.1 tells.2) in
    c.in_default.ensures.none top.page top.reads
    (rise-widen c.args.seat.key (c.args.seat.high + 1) c.args.seat.low (c.args.seat.high + 1) (keys g.E.Entry.rule top.page.entries) top.rises c.requires.low (omega arith)) top.level top.some)

pub edit_below-returns-in_err-children-clause-stopped : goal.edit_below-returns-in_err-children-clause-stopped
edit_below-returns-in_err-children-clause-stopped g t c =
    let Tells : (Brefs → Option (List ℕ)) → Type 0 = TellsTree g.E.Entry.rule g.E.Entry.size g.E.Entry.entry_of g.E.Entry.key c.args.level c.args.seat.key (c.args.seat.high + 1) c.args.seat.at in
    let Below : (Brefs → Option (List ℕ)) → Type 0 = TellsBelow g.E.Entry.rule g.E.Entry.size g.E.Entry.entry_of g.E.Entry.key c.in-Some.page (c.args.seat.high + 1) in
    let low = c.if-level-eq0.false in
    let n : ℕ = c.args.level - 1 in
    let level : c.args.level ≡ suc n = omega arith in
    stops-handed Tells (g.S.PageSource.view c.args.s.now) (g.S.PageSource.view c.edit_children.new.s) c.in_err-children.field-0.0 c.from_residual-in_err-children.result c.from_residual-in_err-children.ensures.1
    (stops-then Tells Below (g.S.PageSource.view c.args.s.now) (g.S.PageSource.view c.page.new.self) (g.S.PageSource.view c.edit_children.new.s) c.in_err-children.field-0.0 c.page.ensures.later (λ find told tells.
    let below = inner-below g.E.Entry.rule g.E.Entry.size g.E.Entry.entry_of g.E.Entry.key find c.args.seat.at c.in_ok-body.body c.in-Some.page (c.in_ok-body.ensures.found find told) c.in-Some.ensures.page
    n c.args.level c.args.seat.key (c.args.seat.high + 1) tells.0 tells.1 level c.in-Some.ensures.level tells.2 in
    (n, (c.in-Some.ensures.level ∙ level), tells.0, below.0, below.1)) c.in_err-children.ensures.stopped)

pub edit_children-returns-in_err-more-clause-stopped : goal.edit_children-returns-in_err-more-clause-stopped
edit_children-returns-in_err-more-clause-stopped g t c =
    let Tells : (Brefs → Option (List ℕ)) → Type 0 = TellsBelow g.E.Entry.rule g.E.Entry.size g.E.Entry.entry_of g.E.Entry.key c.args.page.now (c.args.high + 1) in
    let inner = c.requires.inner in
    let value = c.level-level.ensures.value in
    let level_is : c.args.page.now.level ≡ suc (c.level-level.result - 1) = omega (arith, inner, value) in
    let is_most : IsMost g.E.Entry.size (c.level-level.result - 1) c.most_at-most.result = record { holds = c.most_at-most.ensures.holds; whole = c.most_at-most.ensures.most } in
    let low_most = c.most_at-most.ensures.low in
    let test = c.loop-i-test.true in
    let count = c.count-count.ensures in
    let is = c.child_seat-seat.ensures in
    let seated = child-seated g.E.Entry.rule c.args.low c.args.high c.args.page.now.entries c.loop-i.i c.child_seat-seat.result.key c.child_seat-seat.result.low c.child_seat-seat.result.high c.child_seat-seat.result.at (omega (arith, test, count)) c.requires.rises is.child is.first is.later is.last is.next in
    let low_is = seated.low_is in
    let high_is = seated.high_is in
    let floor = seated.stands.floor in
    let next = seated.stands.next in
    let edits_in = subst (λ (m : ℕ). AreEdits g.E.Entry.key m (c.child_seat-seat.result.high + 1) (take c.count_up_to-n.result c.loop-i.rest.now)) (sym low_is)
    (c.count_up_to-n.ensures.front _ (c.args.high + 1) c.loop-i.invariant.main.edits_in (omega (arith, high_is, floor, next))) in
    stops-handed Tells (g.S.PageSource.view c.args.s.now) (g.S.PageSource.view c.edit_below.new.s) c.in_err-more.field-0.0 c.from_residual-in_err-more.result c.from_residual-in_err-more.ensures.1
    (loop-stops g.E.Entry.rule g.E.Entry.size g.E.Entry.entry_of g.E.Entry.key (g.S.PageSource.view c.args.s.now) (g.S.PageSource.view c.loop-i.s) (g.S.PageSource.view c.edit_below.new.s) c.args.page.now c.args.low c.args.high c.most_at-most.result c.loop-i.i c.args.pages.now.items c.loop-i.pages.items c.args.freed.now.items c.loop-i.freed.items c.loop-i.out.items c.loop-i.held.kept c.loop-i.held.content.entries.items c.loop-i.held.content.children.items
    c.args.edits.now c.loop-i.rest.now (c.level-level.result - 1) c.in_err-more.field-0.0 c.loop-i.invariant.main level_is (c.child_seat-seat.result.key, c.child_seat-seat.result.at) c.child_seat-seat.result.low c.child_seat-seat.result.high seated c.in_err-more.ensures.stopped)

pub edit_children-returns-in_err-first-clause-stopped : goal.edit_children-returns-in_err-first-clause-stopped
edit_children-returns-in_err-first-clause-stopped g t c =
    let Tells : (Brefs → Option (List ℕ)) → Type 0 = TellsBelow g.E.Entry.rule g.E.Entry.size g.E.Entry.entry_of g.E.Entry.key c.args.page.now (c.args.high + 1) in
    let inner = c.requires.inner in
    let value = c.level-level.ensures.value in
    let level_is : c.args.page.now.level ≡ suc (c.level-level.result - 1) = omega (arith, inner, value) in
    let is_most : IsMost g.E.Entry.size (c.level-level.result - 1) c.most_at-most.result = record { holds = c.most_at-most.ensures.holds; whole = c.most_at-most.ensures.most } in
    let low_most = c.most_at-most.ensures.low in
    let test = c.loop-i-test.true in
    let count = c.count-count.ensures in
    let is = c.child_seat-seat.ensures in
    let seated = child-seated g.E.Entry.rule c.args.low c.args.high c.args.page.now.entries c.loop-i.i c.child_seat-seat.result.key c.child_seat-seat.result.low c.child_seat-seat.result.high c.child_seat-seat.result.at (omega (arith, test, count)) c.requires.rises is.child is.first is.later is.last is.next in
    let low_is = seated.low_is in
    let high_is = seated.high_is in
    let floor = seated.stands.floor in
    let next = seated.stands.next in
    let edits_in = subst (λ (m : ℕ). AreEdits g.E.Entry.key m (c.child_seat-seat.result.high + 1) (take c.count_up_to-n.result c.loop-i.rest.now)) (sym low_is)
    (c.count_up_to-n.ensures.front _ (c.args.high + 1) c.loop-i.invariant.main.edits_in (omega (arith, high_is, floor, next))) in
    let mine_in = subst (λ (l : List (ℕ × Option _)). AreEdits g.E.Entry.key c.child_seat-seat.result.low (c.child_seat-seat.result.high + 1) l) (sym c.split_at-in-loop-i.ensures.front) edits_in in
    let others_in = subst (λ (l : List (ℕ × Option _)). AreEdits g.E.Entry.key (c.child_seat-seat.result.high + 1) (c.args.high + 1) l) (sym c.split_at-in-loop-i.ensures.back)
    (c.count_up_to-n.ensures.back _ (c.args.high + 1) c.loop-i.invariant.main.edits_in (omega (arith, high_is, floor, next))) in
    let cut = cut-again c.count_up_to-n.result c.loop-i.rest.now c.split_at-in-loop-i.result.0.now c.split_at-in-loop-i.result.1.now c.split_at-in-loop-i.ensures.front c.split_at-in-loop-i.ensures.back in
    let loop_now = loop-read g.E.Entry.rule g.E.Entry.size g.E.Entry.entry_of g.E.Entry.key (g.S.PageSource.view c.args.s.now) (g.S.PageSource.view c.loop-i.s) (g.S.PageSource.view c.edit_below.new.s) c.args.page.now c.args.low c.args.high c.most_at-most.result c.loop-i.i (c.level-level.result - 1) c.quarter-least.result c.args.pages.now.items c.loop-i.pages.items c.edit_below.new.pages.items c.behind.new.pages.items
    c.args.freed.now.items c.loop-i.freed.items c.edit_below.new.freed.items c.loop-i.out.items c.behind.new.out.items c.loop-i.held.kept c.in_ok-held.held.kept c.loop-i.held.content.entries.items c.in_ok-more.more.entries.items c.in_ok-held.held.content.entries.items
    c.loop-i.held.content.children.items c.in_ok-more.more.children.items c.in_ok-held.held.content.children.items c.args.edits.now c.loop-i.rest.now c.split_at-in-loop-i.result.0.now c.split_at-in-loop-i.result.1.now c.child_seat-seat.result
    (omega (arith, low_most)) is_most level_is c.loop-i.invariant.main c.edit_below.ensures.later seated cut mine_in others_in c.in_ok-more.ensures.entries c.in_ok-more.ensures.children c.in_ok-more.ensures.keys
    (λ find told fs qs tree. c.in_ok-more.ensures.becomes find told fs qs tree) (λ find told fs qs tree. c.in_ok-more.ensures.spare find told fs qs tree) c.in_ok-held.ensures.moves in
    stops-handed Tells (g.S.PageSource.view c.args.s.now) (g.S.PageSource.view c.edit_below-in-Some.new.s) c.in_err-first.field-0.0 c.from_residual-in_err-first.result c.from_residual-in_err-first.ensures.1
    (kept-stops g.E.Entry.rule g.E.Entry.size g.E.Entry.entry_of g.E.Entry.key (g.S.PageSource.view c.args.s.now) (g.S.PageSource.view c.edit_below.new.s) (g.S.PageSource.view c.edit_below-in-Some.new.s) c.args.page.now c.args.low c.args.high c.most_at-most.result (c.loop-i.i + 1) c.args.pages.now.items c.behind.new.pages.items c.args.freed.now.items c.edit_below.new.freed.items c.behind.new.out.items c.in_ok-held.held.kept
    c.in_ok-held.held.content.entries.items c.in_ok-held.held.content.children.items c.args.edits.now c.split_at-in-loop-i.result.1.now (c.level-level.result - 1) c.in_err-first.field-0.0 loop_now level_is c.in-Some.before c.in-Some.ensures.kept c.in_err-first.ensures.stopped)

use Rattle.std.proofs.Common.{◌≡◌, ◌<◌, ◌+◌, ◌-◌, ◌*◌, ℕ, List, Option, suc, map, sym, subst, ◌∙◌, arith}
use Rattle.pst_base.specs.declared.ids.Bref.{Bref as Brefs}
use Rattle.btree_pages.specs.Pages.{keys}
use Rattle.tree_edit.specs.Shapes.{RiseIn}
use Rattle.tree_edit.specs.Steps.{TellsBelow, TellsTree}
use Rattle.tree_edit.specs.Pages.{shapes}
use Rattle.tree_edit.proofs.ShapeLaws.{rise-widen}
use Rattle.tree_edit.proofs.LoopLaws.{later-then}
use Rattle.tree_edit.proofs.StepLaws.{child-seated, inner-below, same-keys}
use Rattle.tree_edit.proofs.StopLaws.{stops-source, stops-then, stops-handed, stops-here, any-page, any-of-tree}
use Rattle.tree_edit.proofs.GatherLaws.{rise-behind, gather-begin, gather-next, gather-stops, gather-rises, gather-all, leaf-gathered, inner-gathered}
use Rattle.tree_edit.proofs.anew.+gather.Goals as goal

-- ---- one page

pub gather_below-returns-in_default-clause-stopped : goal.gather_below-returns-in_default-clause-stopped
gather_below-returns-in_default-clause-stopped g t c =
    let Tells : (Brefs → Option (List ℕ)) → Type 0 = TellsTree g.E.Entry.rule g.E.Entry.size g.E.Entry.entry_of g.E.Entry.key c.args.level c.args.seat.key (c.args.seat.high + 1) c.args.seat.at in
    stops-here Tells (g.S.PageSource.view c.args.s.now) (g.S.PageSource.view c.page.new.self) c.changed.result c.args.seat.at c.in_ok-body.body c.changed.ensures c.in_ok-body.ensures.found (λ find told found tells.
    let top = any-page g.E.Entry.rule g.E.Entry.size g.E.Entry.entry_of g.E.Entry.key g.met.E.Entry.key_read find c.args.seat.at c.in_ok-body.body found c.args.level 1 c.args.seat.key (c.args.seat.high + 1) tells.0 tells.1
    (any-of-tree (shapes g.E.Entry.rule g.E.Entry.size g.E.Entry.entry_of find) g.E.Entry.key c.args.level c.args.seat.key (c.args.seat.high + 1) c.args.seat.at tells.0 tells.1 tells.2) in
    c.in_default.ensures.none top.page top.reads
    (rise-widen c.args.seat.key (c.args.seat.high + 1) c.args.seat.low (c.args.seat.high + 1) (keys g.E.Entry.rule top.page.entries) top.rises c.requires.low (omega arith)) top.level top.some)

pub gather_below-returns-then-level-eq0-clause-rises : goal.gather_below-returns-then-level-eq0-clause-rises
gather_below-returns-then-level-eq0-clause-rises g t c =
    let low = c.requires.low in
    let high = c.requires.high in
    rise-behind g.E.Entry.key c.args.seat.low (c.args.seat.high + 1) c.args.entries.now.items (map g.E.Entry.entry_of c.in-Some.page.entries) c.push_leaf.new.out.items c.in_ok-push_leaf.ensures (omega (arith, low, high))
    (subst (RiseIn c.args.seat.low (c.args.seat.high + 1)) (sym (same-keys g.E.Entry.rule g.E.Entry.entry_of g.E.Entry.key g.met.E.Entry.key_read c.in-Some.page.entries)) c.in-Some.ensures.rises)

pub gather_below-returns-then-level-eq0-clause-gathered : goal.gather_below-returns-then-level-eq0-clause-gathered
gather_below-returns-then-level-eq0-clause-gathered g t c = λ find told es ps tree.
    leaf-gathered g.E.Entry.rule g.E.Entry.size g.E.Entry.entry_of g.E.Entry.key find c.args.seat.at c.in_ok-body.body c.in-Some.page (c.in_ok-body.ensures.found find told) c.in-Some.ensures.page
    c.args.level c.args.seat.key (c.args.seat.high + 1) c.args.entries.now.items c.push_leaf.new.out.items c.args.freed.now.items c.push.new.self.items es ps c.if-level-eq0.true c.in-Some.ensures.level c.in_ok-push.ensures.items c.in_ok-push_leaf.ensures tree

pub gather_below-returns-clause-later : goal.gather_below-returns-clause-later
gather_below-returns-clause-later g t c = later-then c.page.ensures.later c.gather_children.ensures.later

pub gather_below-returns-clause-rises : goal.gather_below-returns-clause-rises
gather_below-returns-clause-rises g t c = c.in_ok-gather_children.ensures.rises

pub gather_below-returns-clause-gathered : goal.gather_below-returns-clause-gathered
gather_below-returns-clause-gathered g t c = λ find told es ps tree.
    let low = c.if-level-eq0.false in
    let n : ℕ = c.args.level - 1 in
    let level : c.args.level ≡ suc n = omega (arith, low) in
    inner-gathered g.E.Entry.rule g.E.Entry.size g.E.Entry.entry_of g.E.Entry.key find c.args.seat.at c.in_ok-body.body c.in-Some.page (c.in_ok-body.ensures.found find told) c.in-Some.ensures.page
    n c.args.level c.args.seat.key (c.args.seat.high + 1) c.args.entries.now.items c.gather_children.new.entries.items c.args.freed.now.items c.push.new.self.items c.gather_children.new.freed.items es ps level c.in-Some.ensures.level c.in_ok-push.ensures.items
    (λ fs qs below. c.in_ok-gather_children.ensures.gathered find (c.page.ensures.later.told find told) n (c.in-Some.ensures.level ∙ level) fs qs below) tree

pub gather_below-returns-in_err-body-clause-stopped : goal.gather_below-returns-in_err-body-clause-stopped
gather_below-returns-in_err-body-clause-stopped g t c =
    let Tells : (Brefs → Option (List ℕ)) → Type 0 = TellsTree g.E.Entry.rule g.E.Entry.size g.E.Entry.entry_of g.E.Entry.key c.args.level c.args.seat.key (c.args.seat.high + 1) c.args.seat.at in
    stops-handed Tells (g.S.PageSource.view c.args.s.now) (g.S.PageSource.view c.page.new.self) c.in_err-body.field-0.0 c.from_residual.result c.from_residual.ensures.1
    (stops-source Tells (g.S.PageSource.view c.args.s.now) (g.S.PageSource.view c.page.new.self) c.in_err-body.field-0.0 c.in_err-body.ensures.stopped)

pub gather_below-returns-in_err-gather_children-clause-stopped : goal.gather_below-returns-in_err-gather_children-clause-stopped
gather_below-returns-in_err-gather_children-clause-stopped g t c =
    let Tells : (Brefs → Option (List ℕ)) → Type 0 = TellsTree g.E.Entry.rule g.E.Entry.size g.E.Entry.entry_of g.E.Entry.key c.args.level c.args.seat.key (c.args.seat.high + 1) c.args.seat.at in
    let Below : (Brefs → Option (List ℕ)) → Type 0 = TellsBelow g.E.Entry.rule g.E.Entry.size g.E.Entry.entry_of g.E.Entry.key c.in-Some.page (c.args.seat.high + 1) in
    let low = c.if-level-eq0.false in
    let n : ℕ = c.args.level - 1 in
    let level : c.args.level ≡ suc n = omega (arith, low) in
    stops-handed Tells (g.S.PageSource.view c.args.s.now) (g.S.PageSource.view c.gather_children.new.s) c.in_err-gather_children.field-0.0 c.from_residual-in_err-gather_children.result c.from_residual-in_err-gather_children.ensures.1
    (stops-then Tells Below (g.S.PageSource.view c.args.s.now) (g.S.PageSource.view c.page.new.self) (g.S.PageSource.view c.gather_children.new.s) c.in_err-gather_children.field-0.0 c.page.ensures.later (λ find told tells.
    let below = inner-below g.E.Entry.rule g.E.Entry.size g.E.Entry.entry_of g.E.Entry.key find c.args.seat.at c.in_ok-body.body c.in-Some.page (c.in_ok-body.ensures.found find told) c.in-Some.ensures.page
    n c.args.level c.args.seat.key (c.args.seat.high + 1) tells.0 tells.1 level c.in-Some.ensures.level tells.2 in
    (n, (c.in-Some.ensures.level ∙ level), tells.0, below.0, below.1)) c.in_err-gather_children.ensures.stopped)

-- ---- the children

pub gather_children-loop-i-init : goal.gather_children-loop-i-init
gather_children-loop-i-init g t c =
    gather-begin g.E.Entry.rule g.E.Entry.size g.E.Entry.entry_of g.E.Entry.key (g.S.PageSource.view c.args.s.now) c.args.page.now c.args.low c.args.high c.args.entries.now.items c.args.freed.now.items

pub gather_children-gather_below-requires : goal.gather_children-gather_below-requires
gather_children-gather_below-requires g t c κs within =
    let test = c.loop-i-test.true in
    let count = c.count-i-end.ensures in
    let is = c.child_seat-seat.ensures in
    let seated = child-seated g.E.Entry.rule c.args.low c.args.high c.args.page.now.entries c.loop-i.i c.child_seat-seat.result.key c.child_seat-seat.result.low c.child_seat-seat.result.high c.child_seat-seat.result.at (omega (arith, test, count)) c.requires.rises is.child is.first is.later is.last is.next in
    let low_is = seated.low_is in
    let high_is = seated.high_is in
    let floor = seated.stands.floor in
    let next = seated.stands.next in
    let inner = c.requires.inner in
    let level = c.level-level.ensures.value in
    let measure : 2 * c.args.page.now.level ≡ t = c.decreases in
    let falls : 2 * (c.level-level.result - 1) + 1 < t = omega (arith, inner, level, measure) in
    (falls, (within.0, (within.1, (omega (arith, low_is, floor), omega (arith, high_is, next)))))

pub gather_children-loop-i-preserved : goal.gather_children-loop-i-preserved
gather_children-loop-i-preserved g t c =
    let test = c.loop-i-test.true in
    let count = c.count-i-end.ensures in
    let is = c.child_seat-seat.ensures in
    let inner = c.requires.inner in
    let value = c.level-level.ensures.value in
    let level_is : c.args.page.now.level ≡ suc (c.level-level.result - 1) = omega (arith, inner, value) in
    let seated = child-seated g.E.Entry.rule c.args.low c.args.high c.args.page.now.entries c.loop-i.i c.child_seat-seat.result.key c.child_seat-seat.result.low c.child_seat-seat.result.high c.child_seat-seat.result.at (omega (arith, test, count)) c.requires.rises is.child is.first is.later is.last is.next in
    gather-next g.E.Entry.rule g.E.Entry.size g.E.Entry.entry_of g.E.Entry.key (g.S.PageSource.view c.args.s.now) (g.S.PageSource.view c.loop-i.s) (g.S.PageSource.view c.gather_below.new.s) c.args.page.now c.args.low c.args.high c.loop-i.i (c.level-level.result - 1)
    c.args.entries.now.items c.loop-i.entries.items c.gather_below.new.entries.items c.args.freed.now.items c.loop-i.freed.items c.gather_below.new.freed.items level_is c.loop-i.invariant
    (c.child_seat-seat.result.key, c.child_seat-seat.result.at) c.child_seat-seat.result.low c.child_seat-seat.result.high seated c.gather_below.ensures.later c.in_ok-gather_below.ensures.rises
    (λ find told es ps tree. c.in_ok-gather_below.ensures.gathered find told es ps tree)

pub gather_children-returns-in_err-gather_below-clause-later : goal.gather_children-returns-in_err-gather_below-clause-later
gather_children-returns-in_err-gather_below-clause-later g t c = later-then c.loop-i.invariant.later c.gather_below.ensures.later

pub gather_children-returns-in_err-gather_below-clause-stopped : goal.gather_children-returns-in_err-gather_below-clause-stopped
gather_children-returns-in_err-gather_below-clause-stopped g t c =
    let Tells : (Brefs → Option (List ℕ)) → Type 0 = TellsBelow g.E.Entry.rule g.E.Entry.size g.E.Entry.entry_of g.E.Entry.key c.args.page.now (c.args.high + 1) in
    let test = c.loop-i-test.true in
    let count = c.count-i-end.ensures in
    let is = c.child_seat-seat.ensures in
    let inner = c.requires.inner in
    let value = c.level-level.ensures.value in
    let level_is : c.args.page.now.level ≡ suc (c.level-level.result - 1) = omega (arith, inner, value) in
    let seated = child-seated g.E.Entry.rule c.args.low c.args.high c.args.page.now.entries c.loop-i.i c.child_seat-seat.result.key c.child_seat-seat.result.low c.child_seat-seat.result.high c.child_seat-seat.result.at (omega (arith, test, count)) c.requires.rises is.child is.first is.later is.last is.next in
    stops-handed Tells (g.S.PageSource.view c.args.s.now) (g.S.PageSource.view c.gather_below.new.s) c.in_err-gather_below.field-0.0 c.from_residual.result c.from_residual.ensures.1
    (gather-stops g.E.Entry.rule g.E.Entry.size g.E.Entry.entry_of g.E.Entry.key (g.S.PageSource.view c.args.s.now) (g.S.PageSource.view c.loop-i.s) (g.S.PageSource.view c.gather_below.new.s) c.args.page.now c.args.low c.args.high c.loop-i.i (c.level-level.result - 1)
    c.args.entries.now.items c.loop-i.entries.items c.gather_below.new.entries.items c.args.freed.now.items c.loop-i.freed.items c.gather_below.new.freed.items level_is c.loop-i.invariant
    (c.child_seat-seat.result.key, c.child_seat-seat.result.at) c.child_seat-seat.result.low c.child_seat-seat.result.high seated c.in_err-gather_below.field-0.0 c.in_err-gather_below.ensures.stopped)

pub gather_children-returns-clause-later : goal.gather_children-returns-clause-later
gather_children-returns-clause-later g t c = c.loop-i.invariant.later

pub gather_children-returns-clause-rises : goal.gather_children-returns-clause-rises
gather_children-returns-clause-rises g t c =
    let test = c.loop-i-test.false in
    let count = c.count-i-end.ensures in
    let inner = c.requires.inner in
    let value = c.level-level.ensures.value in
    let level_is : c.args.page.now.level ≡ suc (c.level-level.result - 1) = omega (arith, inner, value) in
    gather-rises g.E.Entry.rule g.E.Entry.size g.E.Entry.entry_of g.E.Entry.key (g.S.PageSource.view c.args.s.now) (g.S.PageSource.view c.loop-i.s) (g.S.PageSource.view c.loop-i.s) c.args.page.now c.args.low c.args.high c.loop-i.i (c.level-level.result - 1)
    c.args.entries.now.items c.loop-i.entries.items c.loop-i.entries.items c.args.freed.now.items c.loop-i.freed.items c.loop-i.freed.items level_is c.loop-i.invariant (omega (arith, test, count)) c.requires.span

pub gather_children-returns-clause-gathered : goal.gather_children-returns-clause-gathered
gather_children-returns-clause-gathered g t c = λ find told n is es ps below.
    let test = c.loop-i-test.false in
    let count = c.count-i-end.ensures in
    let inner = c.requires.inner in
    let value = c.level-level.ensures.value in
    let level_is : c.args.page.now.level ≡ suc (c.level-level.result - 1) = omega (arith, inner, value) in
    gather-all g.E.Entry.rule g.E.Entry.size g.E.Entry.entry_of g.E.Entry.key (g.S.PageSource.view c.args.s.now) (g.S.PageSource.view c.loop-i.s) (g.S.PageSource.view c.loop-i.s) c.args.page.now c.args.low c.args.high c.loop-i.i (c.level-level.result - 1)
    c.args.entries.now.items c.loop-i.entries.items c.loop-i.entries.items c.args.freed.now.items c.loop-i.freed.items c.loop-i.freed.items level_is c.loop-i.invariant (omega (arith, test, count)) find told n is es ps below

use Rattle.std.proofs.Common.{◌≡◌, ◌≤◌, ◌<◌, ◌-◌, ◌∙◌, Ok, length, sym, ap, subst, arith}
use Rattle.std.proofs.lemmas.Result.{err_from_is_err_and}
use Rattle.pst_outside.specs.World.{Image}
use Rattle.file_layout.specs.declared.stops.PageRefusal.TheVariants.{Faulty}
use Rattle.file_layout.specs.declared.tree_pages.Seat.{Seat}
use Rattle.file_layout.specs.Trees.{AllPages, tree_in, FileTree, faulty, page_at}
use Rattle.file_layout.specs.Walk.{walk, AddsBefore, AddsReached, StopsWalk}
use Rattle.file_layout.proofs.PlaceLaws.{pages-more}
use Rattle.file_layout.proofs.ReachLaws.{before-none, before-next, reached-leaf, reached-next, reached-none}
use Rattle.file_layout.proofs.Underway.{depth_of, deeper, page_framed, faulty_stops, outside_stops, child_stops, underway-start, underway-next, underway-end, leaf-end, untouched_then}
use Rattle.file_layout.proofs.trees.+read_below.Goals as goal

pub returns-in_err-bytes-clause-refused : goal.returns-in_err-bytes-clause-refused
returns-in_err-bytes-clause-refused g t c =
    let p = err_from_is_err_and c.from_residual.result c.from_residual.ensures.1 in
    rw (p.1, p.2) (λ told.
    outside_stops (tree_in (g.W.Outside.view c.args.w.now).here c.args.eof c.args.kind g.E.Entry.size g.E.Entry.rule) c.args.seat c.in_err-bytes.field-0.0 c.in_err-bytes.ensures.refused)

pub returns-in_err-bytes-clause-before : goal.returns-in_err-bytes-clause-before
returns-in_err-bytes-clause-before g t c =
    let p = err_from_is_err_and c.from_residual.result c.from_residual.ensures.1 in
    rw (p.1, p.2) (λ told. before-none g.E.Entry.entry_of (tree_in (g.W.Outside.view c.args.w.now).here c.args.eof c.args.kind g.E.Entry.size g.E.Entry.rule) c.args.seat c.args.entries.now.items c.in_err-bytes.field-0.0)

pub returns-in-Err-clause-before : goal.returns-in-Err-clause-before
returns-in-Err-clause-before g t c = λ told. before-none g.E.Entry.entry_of (tree_in (g.W.Outside.view c.args.w.now).here c.args.eof c.args.kind g.E.Entry.size g.E.Entry.rule) c.args.seat c.args.entries.now.items c.bad_page.result

pub returns-in-Err-clause-refused : goal.returns-in-Err-clause-refused
returns-in-Err-clause-refused g t c = λ told.
    let tree : FileTree = tree_in (g.W.Outside.view c.args.w.now).here c.args.eof c.args.kind g.E.Entry.size g.E.Entry.rule in
    faulty_stops tree c.args.seat (Faulty c.in-Err.fault) c.bad_page.result c.bad_page.ensures
    (page_framed tree c.args.seat c.in_ok-bytes.bytes (c.in_ok-bytes.ensures.bytes told) ∙ ap faulty (sym c.tree_page.ensures ∙ c.in-Err.is))

pub returns-then-level-eq0-clause-found : goal.returns-then-level-eq0-clause-found
returns-then-level-eq0-clause-found g t c = λ told.
    let tree : FileTree = tree_in (g.W.Outside.view c.args.w.now).here c.args.eof c.args.kind g.E.Entry.size g.E.Entry.rule in
    let page : page_at tree c.args.seat ≡ Ok c.in-Ok.page =
    page_framed tree c.args.seat c.in_ok-bytes.bytes (c.in_ok-bytes.ensures.bytes told) ∙ ap faulty (sym c.tree_page.ensures ∙ c.in-Ok.is) in
    leaf-end g.E.Entry.entry_of tree c.args.seat c.in-Ok.page _ _ _ _ page (sym c.level.ensures.value ∙ c.if-level-eq0.true) c.in_ok-push.ensures.items c.in_ok-push_leaf.ensures

pub returns-then-level-eq0-clause-reached : goal.returns-then-level-eq0-clause-reached
returns-then-level-eq0-clause-reached g t c = λ told.
    let tree : FileTree = (tree_in (g.W.Outside.view c.args.w.now).here c.args.eof c.args.kind g.E.Entry.size g.E.Entry.rule) in
    let page : page_at tree c.args.seat ≡ Ok c.in-Ok.page =
    page_framed tree c.args.seat c.in_ok-bytes.bytes (c.in_ok-bytes.ensures.bytes told) ∙ ap faulty (sym c.tree_page.ensures ∙ c.in-Ok.is) in
    reached-leaf g.E.Entry.entry_of tree c.args.seat c.in-Ok.page _ _ page (sym c.level.ensures.value ∙ c.if-level-eq0.true) c.in_ok-push_leaf.ensures

pub returns-then-level-eq0-clause-placed : goal.returns-then-level-eq0-clause-placed
returns-then-level-eq0-clause-placed g t c = λ h.
    subst (AllPages c.args.eof) (sym c.in_ok-push.ensures.items) (pages-more c.args.eof c.args.seat.at c.args.pages.now.items h c.in_ok-bytes.ensures.placed)

pub loop-i-init : goal.loop-i-init
loop-i-init g t c =
    record {
      placed = λ h. subst (AllPages c.args.eof) (sym c.in_ok-push.ensures.items) (pages-more c.args.eof c.args.seat.at c.args.pages.now.items h c.in_ok-bytes.ensures.placed);
      same = c.seat_bytes.ensures.same;
      so_far = λ told.
          let tree : FileTree = tree_in (g.W.Outside.view c.args.w.now).here c.args.eof c.args.kind g.E.Entry.size g.E.Entry.rule in
          let page : page_at tree c.args.seat ≡ Ok c.in-Ok.page =
          page_framed tree c.args.seat c.in_ok-bytes.bytes (c.in_ok-bytes.ensures.bytes told) ∙ ap faulty (sym c.tree_page.ensures ∙ c.in-Ok.is) in
          underway-start g.E.Entry.entry_of tree c.args.seat c.in-Ok.page _ _ _ page (λ zero. c.if-level-eq0.false (c.level.ensures.value ∙ zero)) c.in_ok-push.ensures.items;
      reached = λ told. reached-none g.E.Entry.entry_of (tree_in (g.W.Outside.view c.args.w.now).here c.args.eof c.args.kind g.E.Entry.size g.E.Entry.rule) c.args.seat c.args.entries.now.items;
    }

pub read_below-requires : goal.read_below-requires
read_below-requires g t c = λ κs lives.
    let child : depth_of c.child.result.level ≡ c.in-Ok.page.level - 1 = ap (λ (s : Seat). depth_of s.level) c.child.ensures in
    let less : c.in-Ok.page.level - 1 < depth_of c.args.seat.level =
    deeper c.args.kind g.E.Entry.rule g.E.Entry.size c.args.seat c.in_ok-bytes.bytes c.in-Ok.page (sym c.tree_page.ensures ∙ c.in-Ok.is) (λ zero. c.if-level-eq0.false (c.level.ensures.value ∙ zero)) in
    let measure : depth_of c.args.seat.level ≡ t = c.decreases in
    let falls : depth_of c.child.result.level < t = omega (arith, child, less, measure) in
    let same = c.loop-i.invariant.same.stays in
    (falls, (lives.0, (lives.1, λ told. subst (λ (i : Image). c.args.eof ≤ length i.main) (sym (same.here told)) (c.requires (same.told told)))))

pub returns-in_err-read_below-clause-refused : goal.returns-in_err-read_below-clause-refused
returns-in_err-read_below-clause-refused g t c =
    let p = err_from_is_err_and c.from_residual-in_err-read_below.result c.from_residual-in_err-read_below.ensures.1 in
    rw (p.1, p.2) (λ told.
    let before = c.read_below.ensures.same.stays.told told in
    let test = c.loop-i-test.true in
    let count = c.count-i-end.ensures in
    child_stops g.E.Entry.entry_of (tree_in (g.W.Outside.view c.args.w.now).here c.args.eof c.args.kind g.E.Entry.size g.E.Entry.rule) c.args.seat c.in-Ok.page c.loop-i.i _ _ _ _ c.child.result
    (c.loop-i.invariant.so_far before) (omega (arith, test, count)) c.child.ensures c.in_err-read_below.field-0.0
    (subst (λ (i : Image). StopsWalk c.in_err-read_below.field-0.0 (walk (tree_in i c.args.eof c.args.kind g.E.Entry.size g.E.Entry.rule) c.child.result)) (c.loop-i.invariant.same.stays.here before)
    (c.in_err-read_below.ensures.refused told)))

pub returns-in_err-read_below-clause-before : goal.returns-in_err-read_below-clause-before
returns-in_err-read_below-clause-before g t c =
    let p = err_from_is_err_and c.from_residual-in_err-read_below.result c.from_residual-in_err-read_below.ensures.1 in
    rw (p.1, p.2) (λ told.
    let before = c.read_below.ensures.same.stays.told told in
    let start = c.in_ok-bytes.ensures.same.keeps_told (c.loop-i.invariant.same.stays.told before) in
    let test = c.loop-i-test.true in
    let count = c.count-i-end.ensures in
    let tree : FileTree = (tree_in (g.W.Outside.view c.args.w.now).here c.args.eof c.args.kind g.E.Entry.size g.E.Entry.rule) in
    let page : page_at tree c.args.seat ≡ Ok c.in-Ok.page =
    page_framed tree c.args.seat c.in_ok-bytes.bytes (c.in_ok-bytes.ensures.bytes start) ∙ ap faulty (sym c.tree_page.ensures ∙ c.in-Ok.is) in
    before-next g.E.Entry.entry_of tree c.args.seat c.in-Ok.page c.loop-i.i c.child.result _ _ _ page (λ zero. c.if-level-eq0.false (c.level.ensures.value ∙ zero)) (omega (arith, test, count)) c.child.ensures
    (c.loop-i.invariant.reached before) c.in_err-read_below.field-0.0
    (subst (λ (i : Image). AddsBefore c.in_err-read_below.field-0.0 g.E.Entry.entry_of (tree_in i c.args.eof c.args.kind g.E.Entry.size g.E.Entry.rule) c.child.result c.loop-i.entries.items c.read_below.new.entries.items) (c.loop-i.invariant.same.stays.here before)
    (c.in_err-read_below.ensures.before told)))

pub loop-i-preserved : goal.loop-i-preserved
loop-i-preserved g t c =
    record {
      placed = λ h. c.in_ok-read_below.ensures.placed (c.loop-i.invariant.placed h);
      same = untouched_then c.loop-i.invariant.same c.read_below.ensures.same;
      so_far = λ told.
          let before = c.read_below.ensures.same.stays.told told in
          let test = c.loop-i-test.true in
          let count = c.count-i-end.ensures in
          let child = c.in_ok-read_below.ensures.found told in
          underway-next g.E.Entry.entry_of (tree_in (g.W.Outside.view c.args.w.now).here c.args.eof c.args.kind g.E.Entry.size g.E.Entry.rule) c.args.seat c.in-Ok.page c.loop-i.i _ _ _ _ _ _ child.0 c.child.result
          (c.loop-i.invariant.so_far before) (omega (arith, test, count)) c.child.ensures
          (subst (λ (i : Image). walk (tree_in i c.args.eof c.args.kind g.E.Entry.size g.E.Entry.rule) c.child.result ≡ Ok child.0) (c.loop-i.invariant.same.stays.here before) child.1)
          child.2;
      reached = λ told.
          let before = c.read_below.ensures.same.stays.told told in
          let start = c.in_ok-bytes.ensures.same.keeps_told (c.loop-i.invariant.same.stays.told before) in
          let test = c.loop-i-test.true in
          let count = c.count-i-end.ensures in
          let tree : FileTree = (tree_in (g.W.Outside.view c.args.w.now).here c.args.eof c.args.kind g.E.Entry.size g.E.Entry.rule) in
          let page : page_at tree c.args.seat ≡ Ok c.in-Ok.page =
          page_framed tree c.args.seat c.in_ok-bytes.bytes (c.in_ok-bytes.ensures.bytes start) ∙ ap faulty (sym c.tree_page.ensures ∙ c.in-Ok.is) in
          reached-next g.E.Entry.entry_of tree c.args.seat c.in-Ok.page c.loop-i.i c.child.result _ _ _ page (λ zero. c.if-level-eq0.false (c.level.ensures.value ∙ zero)) (omega (arith, test, count)) c.child.ensures
          (c.loop-i.invariant.reached before)
          (subst (λ (i : Image). AddsReached g.E.Entry.entry_of (tree_in i c.args.eof c.args.kind g.E.Entry.size g.E.Entry.rule) c.child.result c.loop-i.entries.items c.read_below.new.entries.items) (c.loop-i.invariant.same.stays.here before) (c.in_ok-read_below.ensures.reached told));
    }

pub returns-clause-found : goal.returns-clause-found
returns-clause-found g t c = λ told.
    let test = c.loop-i-test.false in
    let count = c.count-i-end.ensures in
    underway-end g.E.Entry.entry_of (tree_in (g.W.Outside.view c.args.w.now).here c.args.eof c.args.kind g.E.Entry.size g.E.Entry.rule) c.args.seat c.in-Ok.page c.loop-i.i _ _ _ _
    (c.loop-i.invariant.so_far told) (omega (arith, test, count))

use Rattle.std.proofs.Common.{sym, subst, arith}
use Rattle.std.proofs.lemmas.Result.{on_ok_weaker, IfErr-weaker}
use Rattle.pst_outside.specs.World.{Image}
use Rattle.file_layout.specs.Trees.{tree_in, root_seat, IsWhole}
use Rattle.file_layout.specs.Walk.{AddsBefore, AddsReached, StopsTree}
use Rattle.file_blocks.proofs.FileLaws.{no_shorter}
use Rattle.file_layout.proofs.WalkLaws.{walk-whole, whole-walk, found_same, adds-same, stops-tree}
use Rattle.file_layout.proofs.trees.read_tree.Goals as goal

pub returns-clause-tree : goal.returns-clause-tree
returns-clause-tree g c =
    on_ok_weaker c.read_below.result
    (λ found told.
    let same = c.read_below.ensures.same.stays in
    let here = same.here told in
    let walked = found told in
    let long = no_shorter (g.W.Outside.view c.args.w.now).here.main (g.W.Outside.view c.args.w.now).here.side in
    let room = c.requires (same.told told) in
    let whole : IsWhole (tree_in (g.W.Outside.view c.args.w.now).here c.args.eof c.args.kind g.E.Entry.size g.E.Entry.rule) c.args.root walked.0 =
    walk-whole (tree_in (g.W.Outside.view c.args.w.now).here c.args.eof c.args.kind g.E.Entry.size g.E.Entry.rule) c.args.root walked.0 (omega (arith, room, long)) walked.1 in
    (walked.0, subst (λ (i : Image). IsWhole (tree_in i c.args.eof c.args.kind g.E.Entry.size g.E.Entry.rule) c.args.root walked.0) (sym here) whole, walked.2))
    c.read_below.ensures.found

pub returns-clause-only : goal.returns-clause-only
returns-clause-only g c =
    on_ok_weaker c.read_below.result
    (λ walks told found whole.
    let same = c.read_below.ensures.same.stays in
    let walked = walks told in
    let here : IsWhole (tree_in (g.W.Outside.view c.args.w.now).here c.args.eof c.args.kind g.E.Entry.size g.E.Entry.rule) c.args.root found =
    subst (λ (i : Image). IsWhole (tree_in i c.args.eof c.args.kind g.E.Entry.size g.E.Entry.rule) c.args.root found) (same.here told) whole in
    adds-same walked.0 found
    (found_same walked.1 (whole-walk (tree_in (g.W.Outside.view c.args.w.now).here c.args.eof c.args.kind g.E.Entry.size g.E.Entry.rule) c.args.root found here)) walked.2)
    c.read_below.ensures.found

pub returns-clause-refused : goal.returns-clause-refused
returns-clause-refused g c =
    IfErr-weaker c.read_below.result _ _
    (λ stop stops told.
    let here = c.read_below.ensures.same.stays.here told in
    subst (λ (i : Image). StopsTree stop (tree_in i c.args.eof c.args.kind g.E.Entry.size g.E.Entry.rule) c.args.root) (sym here)
    (stops-tree (tree_in (g.W.Outside.view c.args.w.now).here c.args.eof c.args.kind g.E.Entry.size g.E.Entry.rule) c.args.root stop (stops told)))
    c.read_below.ensures.refused

pub returns-clause-reached : goal.returns-clause-reached
returns-clause-reached g c =
    on_ok_weaker c.read_below.result
    (λ reaches told.
    let here = c.read_below.ensures.same.stays.here told in
    subst (λ (i : Image). AddsReached g.E.Entry.entry_of (tree_in i c.args.eof c.args.kind g.E.Entry.size g.E.Entry.rule) (root_seat c.args.root) c.args.entries.now.items c.read_below.new.entries.items) (sym here) (reaches told))
    c.read_below.ensures.reached

pub returns-clause-before : goal.returns-clause-before
returns-clause-before g c =
    IfErr-weaker c.read_below.result _ _
    (λ stop stops told.
    let here = c.read_below.ensures.same.stays.here told in
    subst (λ (i : Image). AddsBefore stop g.E.Entry.entry_of (tree_in i c.args.eof c.args.kind g.E.Entry.size g.E.Entry.rule) (root_seat c.args.root) c.args.entries.now.items c.read_below.new.entries.items) (sym here) (stops told))
    c.read_below.ensures.before

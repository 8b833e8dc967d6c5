use Rattle.std.proofs.Common.{◌≡◌, ◌^◌, List, length, map, sym, ap, subst, ◌∙◌, arith}
use Rattle.tree_edit.specs.Shapes.{RiseIn}
use Rattle.tree_edit.specs.Edits.{edited, puts}
use Rattle.tree_edit.specs.Steps.{Lays}
use Rattle.tree_edit.specs.Pages.{shapes}
use Rattle.tree_edit.proofs.EditLaws.{edited-rise}
use Rattle.tree_edit.proofs.PutLaws.{edited-length}
use Rattle.tree_edit.proofs.RootLaws.{replaces-root}
use Rattle.tree_edit.proofs.below.repacked.Goals as goal

pub pack_leaves-requires : goal.pack_leaves-requires
pack_leaves-requires g c = record {
  rises = subst (λ (l : List _). RiseIn 0 (2 ^ 64) (map g.E.Entry.key l)) (sym (c.as_slice-2.ensures.value ∙ c.in_ok-entries.ensures))
      (edited-rise g.E.Entry.key 0 (2 ^ 64) c.as_slice.result.now c.args.edits.now (subst (λ (l : List _). RiseIn 0 (2 ^ 64) (map g.E.Entry.key l)) (sym c.as_slice.ensures.value) c.in_ok-before.ensures.rises) c.requires.edits);
}

pub returns-clause-rises : goal.returns-clause-rises
returns-clause-rises g c =
    c.in_ok-leaves.ensures.lays.rises 0 (2 ^ 64) (subst (λ (l : List _). RiseIn 0 (2 ^ 64) (map g.E.Entry.key l)) (sym (c.as_slice-2.ensures.value ∙ c.in_ok-entries.ensures))
    (edited-rise g.E.Entry.key 0 (2 ^ 64) c.as_slice.result.now c.args.edits.now (subst (λ (l : List _). RiseIn 0 (2 ^ 64) (map g.E.Entry.key l)) (sym c.as_slice.ensures.value) c.in_ok-before.ensures.rises) c.requires.edits))

pub returns-clause-replaces : goal.returns-clause-replaces
returns-clause-replaces g c = λ find told es ps under.
    let all = c.in_ok-before.ensures.gathered find told es ps under in
    let before : c.as_slice.result.now ≡ es = c.as_slice.ensures.value ∙ all.0 in
    let made : c.as_slice-2.result.now ≡ edited g.E.Entry.key es c.args.edits.now = c.as_slice-2.ensures.value ∙ c.in_ok-entries.ensures ∙ ap (λ (l : List _). edited g.E.Entry.key l c.args.edits.now) before in
    let old_rises : RiseIn 0 (2 ^ 64) (map g.E.Entry.key es) = subst (λ (l : List _). RiseIn 0 (2 ^ 64) (map g.E.Entry.key l)) all.0 c.in_ok-before.ensures.rises in
    let rises = edited-rise g.E.Entry.key 0 (2 ^ 64) es c.args.edits.now old_rises c.requires.edits in
    let lays : Lays g.E.Entry.key c.args.pages.now.items c.pack_leaves.new.pages.items c.in_ok-leaves.leaves.items (edited g.E.Entry.key es c.args.edits.now) =
    subst (λ (l : List _). Lays g.E.Entry.key c.args.pages.now.items c.pack_leaves.new.pages.items c.in_ok-leaves.leaves.items l) made c.in_ok-leaves.ensures.lays in
    replaces-root (shapes g.E.Entry.rule g.E.Entry.size g.E.Entry.entry_of find) g.E.Entry.key (2 ^ 64) c.args.pages.now.items c.pack_leaves.new.pages.items c.args.freed.now.items c.gathered.new.freed.items c.in_ok-leaves.leaves.items (edited g.E.Entry.key es c.args.edits.now) ps all.1 rises lays

pub returns-clause-freed : goal.returns-clause-freed
returns-clause-freed g c = λ find told es ps under. (c.in_ok-before.ensures.gathered find told es ps under).1

pub returns-clause-few : goal.returns-clause-few
returns-clause-few g c = λ find told es ps under.
    let all = c.in_ok-before.ensures.gathered find told es ps under in
    let before : c.as_slice.result.now ≡ es = c.as_slice.ensures.value ∙ all.0 in
    let made : c.as_slice-2.result.now ≡ edited g.E.Entry.key es c.args.edits.now = c.as_slice-2.ensures.value ∙ c.in_ok-entries.ensures ∙ ap (λ (l : List _). edited g.E.Entry.key l c.args.edits.now) before in
    let long = ap (λ (l : List _). length l) made in
    let short = edited-length g.E.Entry.key 0 (2 ^ 64) es c.args.edits.now c.requires.edits in
    let most = c.in_ok-leaves.ensures.most in
    (most.0, most.1, λ k le. c.in_ok-leaves.ensures.few most.0 k (puts g.E.Entry.key es c.args.edits.now) most.1.holds (omega (arith, long, short, le)))

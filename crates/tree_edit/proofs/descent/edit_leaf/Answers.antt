use Rattle.std.proofs.Common.{List, length, map, ap, subst, ◌^◌, sym, ◌∙◌, arith}
use Rattle.std.proofs.lemmas.List.{length-map}
use Rattle.tree_edit.specs.Shapes.{RiseIn}
use Rattle.tree_edit.proofs.EditLaws.{edited-rise}
use Rattle.tree_edit.specs.Edits.{puts}
use Rattle.tree_edit.proofs.CountLaws.{edited-short}
use Rattle.tree_edit.proofs.PutLaws.{edited-length}
use Rattle.tree_edit.proofs.descent.edit_leaf.Goals as goal

pub returns-clause-few : goal.returns-clause-few
returns-clause-few g c = λ fits.
    let made = ap (λ (l : List _). length l) (c.as_slice.ensures.value ∙ c.in_ok-entries.ensures) in
    let short = edited-short g.E.Entry.key (map g.E.Entry.entry_of c.args.page.now.entries) c.args.edits.now in
    let len = length-map c.args.page.now.entries g.E.Entry.entry_of in
    c.in_ok-leaves.ensures.few (length c.args.page.now.entries) 1 (length c.args.edits.now) fits (omega (arith, made, short, len))

pub pack_leaves-requires : goal.pack_leaves-requires
pack_leaves-requires g c =
    record { rises = subst (λ (l : List _). RiseIn 0 (2 ^ 64) (map g.E.Entry.key l)) (sym (c.as_slice.ensures.value ∙ c.in_ok-entries.ensures)) (edited-rise g.E.Entry.key 0 (2 ^ 64) (map g.E.Entry.entry_of c.args.page.now.entries) c.args.edits.now c.requires.rises c.requires.edits) }

pub returns-clause-news : goal.returns-clause-news
returns-clause-news g c = λ fits.
    let made = ap (λ (l : List _). length l) (c.as_slice.ensures.value ∙ c.in_ok-entries.ensures) in
    let short = edited-length g.E.Entry.key 0 (2 ^ 64) (map g.E.Entry.entry_of c.args.page.now.entries) c.args.edits.now c.requires.edits in
    let len = length-map c.args.page.now.entries g.E.Entry.entry_of in
    c.in_ok-leaves.ensures.few (length c.args.page.now.entries) 1 (puts g.E.Entry.key (map g.E.Entry.entry_of c.args.page.now.entries) c.args.edits.now) fits (omega (arith, made, short, len))

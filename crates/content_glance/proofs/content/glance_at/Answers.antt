use Rattle.std.proofs.Common.{◌≡◌, ◌∙◌, ℕ, Some, None, sym, ap}
use Rattle.std.proofs.lemmas.Result.{IfOk-weaker}
use Rattle.bth_tree.specs.Records.{entry_of}
use Rattle.content_glance.specs.Glances.{NamesSubnode, RecordTells, Tells}
use Rattle.heap_on_node.specs.Heap.{item}
use Rattle.content_glance.proofs.TellLaws.{tells-absent, tells-below, tells-found, tells-no_tree, tells-other}
use Rattle.content_glance.proofs.content.glance_at.Goals as goal

pub returns-in-Ok-Some-clause-told : goal.returns-in-Ok-Some-clause-told
returns-in-Ok-Some-clause-told c =
    let look = rw c.in-Ok-Some.field-0-is at c.in-Ok-Some.ensures in
    let here : entry_of c.args.id look.0 ≡ Some c.in-Ok-Some.entry.now = ap (λ (n : ℕ). entry_of n look.0) (sym c.from.ensures) ∙ sym look.2 in
    rw (← c.in-Ok.ensures.same)
    (IfOk-weaker c.told_by.result (RecordTells (item c.in-Ok.view) (c.args.id, c.in-Ok-Some.entry.now)) (Tells c.in-Ok.view c.args.id)
    (λ told h. tells-found c.in-Ok.view c.in-Some.root c.args.id look.0 c.in-Ok-Some.entry.now told c.in-Some.ensures look.1 here h) c.told_by.ensures)

pub returns-in-Ok-Some-clause-below : goal.returns-in-Ok-Some-clause-below
returns-in-Ok-Some-clause-below c =
    let look = rw c.in-Ok-Some.field-0-is at c.in-Ok-Some.ensures in
    let here : entry_of c.args.id look.0 ≡ Some c.in-Ok-Some.entry.now = ap (λ (n : ℕ). entry_of n look.0) (sym c.from.ensures) ∙ sym look.2 in
    rw (← c.in-Ok.ensures.same)
    (IfOk-weaker c.told_by.result (RecordTells (item c.in-Ok.view) (c.args.id, c.in-Ok-Some.entry.now)) (NamesSubnode c.in-Ok.view c.args.id)
    (λ told h. tells-below c.in-Ok.view c.in-Some.root c.args.id look.0 c.in-Ok-Some.entry.now told c.in-Some.ensures look.1 here h) c.told_by.ensures)

pub returns-in-Ok-Some-2-clause-told : goal.returns-in-Ok-Some-2-clause-told
returns-in-Ok-Some-2-clause-told c =
    let look = rw c.in-Ok-Some.field-0-is at c.in-Ok-Some.ensures in
    let here : entry_of c.args.id look.0 ≡ Some c.in-Ok-Some.entry.now = ap (λ (n : ℕ). entry_of n look.0) (sym c.from.ensures) ∙ sym look.2 in
    rw (← c.in-Ok.ensures.same)
    (tells-other c.in-Ok.view c.in-Some.root c.args.id look.0 c.in-Ok-Some.entry.now c.in-Some.ensures look.1 here c.if-entry-eq-ENTRY_LEN.false)

pub returns-in-Ok-None-clause-told : goal.returns-in-Ok-None-clause-told
returns-in-Ok-None-clause-told c =
    let look = rw c.in-Ok-None.field-0-is at c.in-Ok-None.ensures in
    let none : entry_of c.args.id look.0 ≡ None = ap (λ (n : ℕ). entry_of n look.0) (sym c.from.ensures) ∙ sym look.2 in
    rw (← c.in-Ok.ensures.same) (tells-absent c.in-Ok.view c.in-Some.root c.args.id look.0 c.in-Some.ensures look.1 none)

pub returns-in-Err-clause-told : goal.returns-in-Err-clause-told
returns-in-Err-clause-told c = rw (← c.in-Ok.ensures.same) (tells-no_tree c.in-Ok.view c.in-Some.root c.args.id c.in-Some.ensures c.in-Err.ensures)

use Rattle.std.proofs.Common.{◌≡◌, ◌∙◌, ◌++◌, ◌∷◌, [], ℕ, List, Option, ap, append-nil, append_assoc, arith, refl, sym, subst}
use Rattle.std.proofs.lemmas.Bool.{and_parts}
use Rattle.std.proofs.lemmas.Slice.Zip.{all_zipped_more}
use Rattle.std.specs.List.{AllZip, list_all}
use Rattle.pst_base.specs.declared.ids.Nid.{Nid}
use Rattle.node_port.specs.declared.node.NodeRec.{NodeRec}
use Rattle.mail_objects.specs.declared.object.Object.{Object}
use Rattle.mail_tree.specs.Changing.{entry_fits}
use Rattle.mail_draft.specs.Written.{Writes}
use Rattle.mail_draft.proofs.FitLaws.{fits-anywhere}
use Rattle.mail_draft.proofs.SortedLaws.{StartsAt, entries-kept, sorted-keys}
use Rattle.mail_draft.proofs.WrittenLaws.{tree-after, written-ascend}
use Rattle.mail_draft.proofs.ending.finish.Goals as goal

pub loop-nid-init : goal.loop-nid-init
loop-nid-init c =
    let es = c.args.draft.now.objects.entries in
    let items = c.into_iter-nid-iterator.ensures.into_iter_gives.0 in
    record {
      written = ([], sym items, subst (AllZip Writes []) (sym c.in_ok-nodes.ensures.items) tt);
      fits = ap (list_all entry_fits) (items ∙ sym (entries-kept es (sorted-keys es c.len.ensures.ordered))) ∙ c.requires;
    }

pub write_entry-requires : goal.write_entry-requires
write_entry-requires c = λ q.
    let object = c.in-Some.object.now in
    let id = c.in-Some.nid.now in
    let fit = ap (list_all entry_fits) (sym c.in-Some.ensures.steps) ∙ c.loop-nid.invariant.fits in
    fits-anywhere id q object (and_parts (entry_fits (id, object)) (list_all entry_fits c.next.new.self) fit).0

pub loop-nid-preserved : goal.loop-nid-preserved
loop-nid-preserved c =
    let object = c.in-Some.object.now in
    let id = c.in-Some.nid.now in
    let written = c.loop-nid.invariant.written in
    let fit = ap (list_all entry_fits) (sym c.in-Some.ensures.steps) ∙ c.loop-nid.invariant.fits in
    record {
      written = (
        written.0 ++ (id, object) ∷ [],
        written.1 ∙ ap (λ (es : List (ℕ × Option Object)). written.0 ++ es) c.in-Some.ensures.steps ∙ sym (append_assoc written.0 ((id, object) ∷ []) c.next.new.self),
        subst (AllZip Writes (written.0 ++ (id, object) ∷ [])) (sym c.in_ok-push.ensures.items)
            (all_zipped_more Writes written.0 c.loop-nid.nodes.items (id, object) (record { bits = id }, c.in_ok-write_entry.field-0) written.2 (refl, c.in_ok-write_entry.ensures)),
      );
      fits = (and_parts (entry_fits (id, object)) (list_all entry_fits c.next.new.self) fit).1;
    }

-- after the loop the entries are all that were written
all-written : (es taken left : List (ℕ × Option Object)) (cs : List (Nid × Option NodeRec)) → es ≡ taken ++ left → left ≡ [] → AllZip Writes taken cs → AllZip Writes es cs
all-written es taken left cs whole none writes =
    subst (λ (xs : List (ℕ × Option Object)). AllZip Writes xs cs) (sym (whole ∙ ap (λ (xs : List (ℕ × Option Object)). taken ++ xs) none ∙ append-nil taken)) writes

starts : (es : List (ℕ × Option Object)) → StartsAt 0 es
starts [] = tt
starts (e ∷ es) = omega arith

pub returns-clause-ascend : goal.returns-clause-ascend
returns-clause-ascend c =
    let es = c.args.draft.now.objects.entries in
    let written = c.loop-nid.invariant.written in
    written-ascend 0 es c.loop-nid.nodes.items (sorted-keys es c.len.ensures.ordered) (starts es)
    (all-written es written.0 c.loop-nid.nid-iterator c.loop-nid.nodes.items written.1 c.in-None.ensures.steps.0 written.2)

pub returns-clause-written : goal.returns-clause-written
returns-clause-written c =
    let es = c.args.draft.now.objects.entries in
    let written = c.loop-nid.invariant.written in
    subst (λ (xs : List (ℕ × Option Object)). AllZip Writes xs c.loop-nid.nodes.items) (sym (entries-kept es (sorted-keys es c.len.ensures.ordered)))
    (all-written es written.0 c.loop-nid.nid-iterator c.loop-nid.nodes.items written.1 c.in-None.ensures.steps.0 written.2)

pub returns-clause-shows : goal.returns-clause-shows
returns-clause-shows c = λ N T o is stands q.
    let es = c.args.draft.now.objects.entries in
    let written = c.loop-nid.invariant.written in
    tree-after c.args.draft.now c.loop-nid.nodes.items N T o is (sorted-keys es c.len.ensures.ordered)
    (all-written es written.0 c.loop-nid.nid-iterator c.loop-nid.nodes.items written.1 c.in-None.ensures.steps.0 written.2)
    stands q

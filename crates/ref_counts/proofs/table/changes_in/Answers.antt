use Rattle.std.proofs.Common.{ap, ◌∙◌, ◌++◌, ◌≡◌, ℕ, List}
use Rattle.std.proofs.lemmas.Result.{IfOk-weaker}
use Rattle.ref_counts.specs.Tables.{refs_in}
use Rattle.ref_counts.specs.Changes.{AreAllChanges, AreRefChanges}
use Rattle.ref_counts.proofs.ChangeLaws.{are-changes}
use Rattle.ref_counts.proofs.table.changes_in.Goals as goal

pub returns : goal.returns
returns c =
    let refs = c.args.refs.now in
    let taken = c.as_slice-3.result.now in
    let put = c.as_slice-4.result.now in
    let touched = c.as_slice-5.result.now in
    let both = c.extend_from_slice-2.new.self.items in
    let is : both ≡ c.args.taken.items ++ c.args.put.items =
    c.in_ok-extend_from_slice-2.ensures.items
    ∙ ap (λ (xs : List ℕ). xs ++ c.as_slice-2.result.now) (c.in_ok-extend_from_slice.ensures.items ∙ ap (λ (xs : List ℕ). xs ++ c.as_slice.result.now) c.new-both.ensures.items ∙ c.as_slice.ensures.value)
    ∙ ap (λ (xs : List ℕ). c.args.taken.items ++ xs) c.as_slice-2.ensures.value in
    IfOk-weaker c.changes_of.result (λ cs. AreAllChanges (refs_in refs) (refs_in taken) (refs_in put) touched cs.items) (λ cs. AreRefChanges (refs_in refs) c.args.taken.items c.args.put.items cs.items)
    (λ cs all. are-changes refs taken put touched c.args.taken.items c.args.put.items both cs.items
    (λ key. ap (λ (xs : List (ℕ × ℕ)). refs_in xs key) c.as_slice-3.ensures.value ∙ c.in_ok-taken.ensures.numbers key)
    (λ key. ap (λ (xs : List (ℕ × ℕ)). refs_in xs key) c.as_slice-4.ensures.value ∙ c.in_ok-put.ensures.numbers key)
    (λ key. ap (λ (xs : List (ℕ × ℕ)). refs_in xs key) c.as_slice-5.ensures.value ∙ c.in_ok-touched.ensures.numbers key) is all)
    c.changes_of.ensures

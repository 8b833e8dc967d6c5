-- A running search lists what it is to list after the touched messages came and went.
use Rattle.std.proofs.Common.{◌∙◌, inl}
use Rattle.mail_tree.specs.Changing.{as_message}
use Rattle.mail_tree.specs.Step.{after}
use Rattle.mail_tree.specs.Tree.{object_at}
use Rattle.mail_searches.specs.Relisting.{around, relisted}
use Rattle.search_lists.specs.Laws.{Relists}
use Rattle.search_lists.proofs.ListLaws.{are-rows, rows-are}
use Rattle.search_lists.proofs.RowLaws.{relisted-ascends, relisted-at}

pub relists : Relists
relists T o ts s columns rows touched run e =
    let old = are-rows T s rows e in
    let T' = after T o in
    rows-are T' s (relisted (around T o) s columns ts rows) (relisted-ascends (around T o) s columns run ts rows old.0)
    (λ k. relisted-at (around T o) s columns run (λ m. as_message (object_at T m)) (λ m. as_message (object_at T' m)) ts rows k touched.old touched.new old.0
    (λ none. old.1 k ∙ touched.others s k none) (λ some. inl (old.1 k)))

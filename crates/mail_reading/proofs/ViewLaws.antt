-- On a whole tree a view is shown or refused.
use Rattle.std.proofs.Common.{◌∙◌, ℕ, ap, inl, inr}
use Rattle.std.proofs.lemmas.Bool.{cases_Bool}
use Rattle.mail_tree.specs.Changing.{contents, nothing}
use Rattle.mail_tree.specs.Places.{find_place, is_plain}
use Rattle.mail_tree.specs.Whole.{Fine, IsWhole}
use Rattle.mail_tree.proofs.AfterTree.{now_nothing}
use Rattle.mail_tree.proofs.FineLaws.{cases_Option, fine_either, fine_then}
use Rattle.mail_tree.proofs.Settles.{messages_of}
use Rattle.mail_searches.specs.Searches.{results}
use Rattle.mail_searches.specs.Searching.{AreSearches, Searching, is_own}
use Rattle.search_folders.specs.mail_folders.Pieces.{plain_in}
use Rattle.search_lists.proofs.ClearLaws.{none_unclear}
use Rattle.mail_reading.specs.Viewed.{contents_in, listed_ids, listing_of, plain_contents}

module _ (X : Searching) (whole : IsWhole X.tree) (are : AreSearches X) where
  fine_plain : (f : ℕ) → Fine (plain_contents X.tree f) (λ t. Unit {0})
  unfolding plain_in
  fine_plain f = elim (cases_Option (find_place f X.tree.places)) [
    | inl none ↦ rw none tt
    | inr p ↦ rw p.1 (elim (cases_Bool (is_plain p.0)) [
      | inr foreign ↦ rw foreign tt
      | inl plain ↦ rw plain (let t = messages_of whole.objects f p.0 p.1 plain in rw (ap (λ at. at (contents f)) (now_nothing X.tree) ∙ t.1) tt)
    ])
  ]

  fine_contents : (f : ℕ) → Fine (contents_in X f) (λ t. Unit {0})
  unfolding contents_in
  fine_contents f = fine_either (λ t. Unit {0}) (is_own X.own f) _ _
      (λ own. let t = are.tables f own in rw (ap (λ at. at (results f)) (now_nothing X.tree) ∙ t.1) tt) (λ other. fine_plain f)

  pub fine_listing : (f : ℕ) → Fine (listing_of X f) (λ l. Unit {0})
  unfolding listing_of listed_ids
  fine_listing f = fine_then (λ t. Unit {0}) (λ l. Unit {0}) (contents_in X f) _ (fine_contents f) (λ t u. rw (none_unclear X.tree nothing t.table.rows whole) tt)

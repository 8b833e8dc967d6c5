use Rattle.std.proofs.Common.{◌∙◌, sym}
use Rattle.mail_draft.specs.Desks.{coming_of}
use Rattle.search_folders.proofs.Lines.{lists_folder}
use Rattle.search_folders.proofs.listing.listing_where.Goals as goal

pub returns-clause-answer : goal.returns-clause-answer
returns-clause-answer g c = record {
  says = λ T s.
      let D = (g.D.Desk.view c.list_folder.new.desk).changed in
      lists_folder (coming_of T D) T c.args.folder.bits c.args.own.now _ _ (sym c.contains.ensures ∙ c.if-contains.false) (c.in_ok-listing.ensures.answer.says T s) (c.in_ok-with_marks.ensures T D);
  fits = c.in_ok-listing.ensures.answer.fits;
}

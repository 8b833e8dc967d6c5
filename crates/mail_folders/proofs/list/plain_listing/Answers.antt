use Rattle.std.proofs.Common.{◌∙◌, Ok}
use Rattle.mail_tree.specs.Folders.{listed, unchanged}
use Rattle.mail_folders.specs.Pieces.{plain_listing}
use Rattle.mail_draft.proofs.DeskCalls.{comes_exit, comes_then, comes_unchanged}
use Rattle.mail_folders.proofs.list.plain_listing.Goals as goal

pub returns-in_err-lines-clause-answer : goal.returns-in_err-lines-clause-answer
unfolding plain_listing
returns-in_err-lines-clause-answer g c = comes_exit _ c.in_err-lines.ensures.answer c.from_residual.ensures.1

pub returns-clause-answer : goal.returns-clause-answer
unfolding plain_listing
returns-clause-answer g c =
    let coming = c.replied.ensures in
    comes_then (λ T D lines. Ok (unchanged T (listed lines))) c.in_ok-lines.ensures.answer c.in_ok-lines.ensures.reads
    (comes_unchanged c.replied.result (listed c.in_ok-lines.lines.items) (c.in_ok-lines.ensures.reads.changed ∙ c.requires.fresh) coming.places coming.last (coming.reply ∙ c.listed.ensures))

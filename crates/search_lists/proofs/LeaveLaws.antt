-- No command by itself changes a table of what a search lists.
use Rattle.std.proofs.Common.{ap, inr}
use Rattle.mail_tree.specs.Changing.{newest}
use Rattle.mail_tree.specs.Step.{outcome}
use Rattle.mail_tree.specs.Tree.{object_at}
use Rattle.mail_laws.specs.Stays.{Leaves}
use Rattle.mail_laws.proofs.Keeping.{if_weaker}
use Rattle.mail_laws.proofs.KeptLaws.{leaves_searches}
use Rattle.search_lists.specs.Laws.{LeavesAll, LeavesResults}

pub leaves_all : LeavesAll
leaves_all T c w = if_weaker (Leaves T) (LeavesResults T) (outcome T c) (leaves_searches T c w) (λ o leaves q is. ap (λ x. newest x (object_at T q)) (leaves.nodes q (inr (inr (inr is)))))

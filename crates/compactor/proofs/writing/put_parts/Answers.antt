use Rattle.copy_part.proofs.Keeping.{keeps_along}
use Rattle.compactor.proofs.writing.put_parts.Goals as goal

pub returns-in_err-put_tree-clause-keeps : goal.returns-in_err-put_tree-clause-keeps
returns-in_err-put_tree-clause-keeps g c = keeps_along c.in_ok-copy_blocks.ensures.keeps c.in_err-put_tree.ensures.keeps

pub returns-in_err-put_tree-2-clause-keeps : goal.returns-in_err-put_tree-2-clause-keeps
returns-in_err-put_tree-2-clause-keeps g c = keeps_along (keeps_along c.in_ok-copy_blocks.ensures.keeps c.in_ok-put_tree.ensures.keeps) c.in_err-put_tree-2.ensures.keeps

pub returns-clause-keeps : goal.returns-clause-keeps
returns-clause-keeps g c = keeps_along (keeps_along c.in_ok-copy_blocks.ensures.keeps c.in_ok-put_tree.ensures.keeps) c.in_ok-put_tree-2.ensures.keeps

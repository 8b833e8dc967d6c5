use Rattle.search_folders.proofs.Set.{set_on}
use Rattle.search_folders.proofs.criteria.with_criteria.Goals as goal

pub returns-clause-answer : goal.returns-clause-answer
returns-clause-answer g c = record {
  says = λ X s k.
      set_on _ X _ _ c.args.criteria _ _ _ _ _ c.in_ok-set.ensures.set c.in_ok-saying.ensures.says (rw c.requires.fresh at (c.in_ok-saying.ensures.answer.says X.tree s))
      c.new-own.ensures c.is_stopped-stopped.ensures (c.setting.ensures.answer.says X (c.in_ok-saying.ensures.drafts.shows X.tree s) k);
  fits = c.setting.ensures.answer.fits;
}

use Rattle.copy_pieces.proofs.AddLaws.{adds-write}
use Rattle.compactor.proofs.writing.put_dense.Goals as goal

pub returns-clause-copy : goal.returns-clause-copy
returns-clause-copy g c = λ told. record {
  page = c.seal-page.result;
  sealed = c.seal-page.ensures.page;
  adds = adds-write (g.W.Outside.view c.args.w.now).here.copy (g.W.Outside.view c.put.new.w).here.copy 0x4200 c.seal-page.result (c.in_ok-put.ensures.copy told);
}

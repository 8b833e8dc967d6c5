use Rattle.std.proofs.Common.{◌≡◌, ◌≤◌, Bool, true}
use Rattle.pst_outside.specs.Calls.{NeverFall}
use Rattle.mail_searches.specs.Searching.{Searching}
use Rattle.search_mends.specs.Mends.{HasMendable, LeavesMended}
use Rattle.store_session.specs.Disks.{medium}
use Rattle.search_mends.proofs.Reaching.{Reached}
use Rattle.search_mends.proofs.Runs.{RunsTo}
use Rattle.search_mends.proofs.all.mend_searches.Given as goal

-- the searches so far were mended, and nothing else was left on the way
abbrev pub invariant-loop-search : goal.invariant-loop-search
invariant-loop-search g l = record {
  reached : (tidy : Bool) (X : Searching) → HasMendable g.K.NodeReader.holds g.K.NodeReader.last g.K.Keeper.rests l.fn.store (g.W.Outside.view l.fn.w) tidy X → (g.K.NodeReader.has_disk ≡ true → (g.W.Outside.view l.w).tells)
      → Reached (λ Y. HasMendable g.K.NodeReader.holds g.K.NodeReader.last g.K.Keeper.rests l.store (g.W.Outside.view l.w) tidy Y
      × RunsTo (g.K.Keeper.applied (g.K.NodeReader.room l.fn.store.store.keeper).pins) (g.W.Outside.view l.w).tells X (medium (g.W.Outside.view l.fn.w)) Y (medium (g.W.Outside.view l.w))) X l.search-index l.mended.stale l.mended.migrated;
  images : (tidy : Bool) (X : Searching) → HasMendable g.K.NodeReader.holds g.K.NodeReader.last g.K.Keeper.rests l.fn.store (g.W.Outside.view l.fn.w) tidy X → (g.K.NodeReader.has_disk ≡ true → (g.W.Outside.view l.w).tells)
      → LeavesMended (g.K.Keeper.stands (g.K.NodeReader.room l.fn.store.store.keeper).found) (g.W.Outside.view l.fn.w) (g.W.Outside.view l.w) X;
  found : (g.K.NodeReader.room l.store.store.keeper).found ≡ (g.K.NodeReader.room l.fn.store.store.keeper).found;
  pins : (g.K.NodeReader.room l.store.store.keeper).pins ≡ (g.K.NodeReader.room l.fn.store.store.keeper).pins;
  told : (g.W.Outside.view l.w).tells → (g.W.Outside.view l.fn.w).tells;
  input : (g.W.Outside.view l.w).tells → (g.W.Outside.view l.w).input ≡ (g.W.Outside.view l.fn.w).input;
  counts : NeverFall (g.W.Outside.view l.fn.w) (g.W.Outside.view l.w);
  few_stale : l.mended.stale ≤ l.search-index;
  few_migrated : l.mended.migrated ≤ l.search-index;
}

-- Searches mended from disk to disk.
use Rattle.std.proofs.Common.{◌≡◌, ◌∙◌, ℕ, List, [], ◌∷◌, ◌++◌, Option, Result, Ok, Err, ap, refl, subst, sym}
use Rattle.pst_base.specs.declared.ids.Nid.{Nid}
use Rattle.pst_outside.specs.World.{Image, World}
use Rattle.node_port.specs.Stops.{Room}
use Rattle.node_port.specs.declared.node.NodeRec.{NodeRec}
use Rattle.mail_searches.specs.Searching.{Searching}
use Rattle.mail_searches.specs.Step.{after}
use Rattle.search_mending.specs.Mending.{Mending, mended_search}
use Rattle.store_session.specs.Disks.{Commits, Medium, SameMedium, medium}
use Rattle.store_session.proofs.Carry.{its_medium}
use Rattle.search_mends.specs.Mends.{CommitsOne, MendRun, MendTurn, MendTurns, MendsEach, MendsOne, MendsTo, disk_mended, tree_mended}
use Rattle.search_mends.specs.Stops.{StopsMending, UnlessFault}
use Rattle.search_mends.specs.declared.all.Mended.{Mended}
use Rattle.search_mends.specs.declared.one.WasMended.{WasMended}
use Rattle.search_mends.specs.declared.stop.MendStop.{MendStop}
use Rattle.search_mends.specs.declared.stop.MendStop.TheVariants as stops

-- a run up to just this disk
pub record RunsTo (applied : List (Nid × Option NodeRec) → ℕ → Image → Image → Type 0) (told : Type 0) (before : Searching) (old : Medium) (now : Searching) (new : Medium) : Type 0 where
  pub turns : List MendTurn
  pub run : MendTurns applied told before old turns
  pub tree : tree_mended before turns ≡ now
  pub disk : disk_mended old turns ≡ new

tree_more : (X : Searching) (turns more : List MendTurn) → tree_mended X (turns ++ more) ≡ tree_mended (tree_mended X turns) more
tree_more X [] more = refl
tree_more X (t ∷ ts) more = tree_more t.tree ts more

disk_more : (d : Medium) (turns more : List MendTurn) → disk_mended d (turns ++ more) ≡ disk_mended (disk_mended d turns) more
disk_more d [] more = refl
disk_more d (t ∷ ts) more = disk_more t.disk ts more

module _ (applied : List (Nid × Option NodeRec) → ℕ → Image → Image → Type 0) where
  pub run_none : (told : Type 0) (X : Searching) (d : Medium) → RunsTo applied told X d X d
  run_none told X d = record { turns = []; run = tt; tree = refl; disk = refl }

  pub turns_still : {told also : Type 0} (X : Searching) (d : Medium) (turns : List MendTurn) → (also → told) → MendTurns applied told X d turns → MendTurns applied also X d turns
  turns_still X d [] tells is = tt
  turns_still X d (t ∷ ts) tells is = (record { mending = is.0.mending; mends = is.0.mends; tree = is.0.tree; disk = λ a. is.0.disk (tells a) }, turns_still t.tree t.disk ts tells is.1)

  turns_more : (told : Type 0) (X : Searching) (d : Medium) (turns : List MendTurn) (turn : MendTurn) → MendTurns applied told X d turns → MendsTo applied told (tree_mended X turns) (disk_mended d turns) turn → MendTurns applied told X d (turns ++ turn ∷ [])
  turns_more told X d [] turn is more = (more, tt)
  turns_more told X d (t ∷ ts) turn is more = (is.0, turns_more told t.tree t.disk ts turn is.1 more)

  -- one search more
  pub run_more : {told also : Type 0} (X Y : Searching) (d mid : Medium) (turn : MendTurn) → (also → told) → RunsTo applied told X d Y mid → MendsTo applied also Y mid turn → RunsTo applied also X d turn.tree turn.disk
  run_more {also = also} X Y d mid turn tells r more = record {
    turns = r.turns ++ turn ∷ [];
    run = turns_more also X d r.turns turn (turns_still X d r.turns tells r.run) (rw (r.tree, r.disk) more);
    tree = tree_more X r.turns (turn ∷ []);
    disk = disk_more d r.turns (turn ∷ []);
  }

  -- a run that stays where it is
  pub run_stays : {told also : Type 0} (X Y : Searching) (d mid new : Medium) → (also → told) → RunsTo applied told X d Y mid → (also → SameMedium mid new) → MendRun applied also X d Y new
  run_stays X Y d mid new tells r same = record {
    turns = r.turns;
    run = turns_still X d r.turns tells r.run;
    tree = r.tree;
    disk = λ t. subst (λ (m : Medium). SameMedium m new) (sym r.disk) (same t);
  }

  pub run_ends : {told : Type 0} (X Y : Searching) (d : Medium) (v : World) → RunsTo applied told X d Y (medium v) → MendRun applied told X d Y (medium v)
  run_ends X Y d v r = run_stays X Y d (medium v) (medium v) (λ t. t) r (λ t. its_medium v)

  same_mending : (X : Searching) (f : ℕ) (m n : Mending) → mended_search X f ≡ Ok m → mended_search X f ≡ Ok n → m ≡ n
  same_mending X f m n e d = cc

  -- a search that was mended is a turn more
  pub one_runs : (has : Searching → Type 0) (room : Room) {told : Type 0} (X Y : Searching) (d : Medium) (f : ℕ) (old new : World) (one : WasMended) → (new.tells → told) → RunsTo applied told X d Y (medium old)
      → CommitsOne applied old new Y f (Ok one) → MendsOne has room Y f (Ok one) → MendsOne (λ Z. has Z × RunsTo applied new.tells X d Z (medium new)) room Y f (Ok one)
  one_runs has room X Y d f old new one tells r commits made =
      let m = made.0 in
      let same : commits.0 ≡ m = same_mending Y f commits.0 m commits.1 made.1 in
      let turn : MendTurn = record { folder = f; tree = after Y m.coming; disk = medium new } in
      let to : MendsTo applied new.tells Y (medium old) turn = record { mending = m; mends = made.1; tree = refl; disk = λ t. subst (λ (x : Mending). Commits applied x.coming (medium old) (medium new)) same (commits.2 t) } in
      (m, made.1, made.2, made.3, (made.4, run_more X Y d (medium old) turn tells r to))

  unless_both : (P Q R : Type 0) (stop : MendStop) → (P → Q → R) → UnlessFault P stop → UnlessFault Q stop → UnlessFault R stop
  unless_both P Q R (stops.Rows n) f p q = f p q
  unless_both P Q R (stops.Full free need) f p q = f p q
  unless_both P Q R stops.Ids f p q = f p q
  unless_both P Q R stops.Fault f p q = tt
  unless_both P Q R (stops.Changed ib stored computed) f p q = f p q
  unless_both P Q R stops.Memory f p q = f p q

  -- one that wasn't leaves the run where it is
  pub one_stops : (has : Searching → Type 0) (room : Room) {told : Type 0} (X Y : Searching) (d : Medium) (f : ℕ) (old new : World) (stop : MendStop) → (new.tells → told) → RunsTo applied told X d Y (medium old)
      → CommitsOne applied old new Y f (Err stop) → MendsOne has room Y f (Err stop) → MendsOne (λ Z. has Z × MendRun applied new.tells X d Z (medium new)) room Y f (Err stop)
  one_stops has room X Y d f old new stop tells r commits made =
      (made.0, unless_both (has Y) (new.tells → SameMedium (medium old) (medium new)) (has Y × MendRun applied new.tells X d Y (medium new)) stop (λ h same. (h, run_stays X Y d (medium old) (medium new) tells r same)) made.1 commits)

  -- all were mended
  pub each_ran : (has : Searching → Type 0) {told : Type 0} (X : Searching) (d : Medium) (v : World) (done : Mended) → MendsEach (λ Z. has Z × RunsTo applied told X d Z (medium v)) X done → MendsEach (λ Z. has Z × MendRun applied told X d Z (medium v)) X done
  each_ran has X d v done m = record { so_far = m.so_far; mended = m.mended; has_it = (m.has_it.0, run_ends X m.so_far d v m.has_it.1); stale = m.stale; migrated = m.migrated }

-- What a transaction shows after calls.
use Rattle.std.proofs.Common.{◌≡◌, ◌∙◌, ℕ, List, false, Option, None, Some, is_some, refl, sym, subst, Err}
use Rattle.node_port.specs.Nodes.{Nodes}
use Rattle.node_port.specs.Stops.{KeepsPins, Room, RoomDecides}
use Rattle.pst_base.specs.declared.ids.Nid.{Nid}
use Rattle.node_port.specs.declared.node.NodeRec.{NodeRec}
use Rattle.node_port.specs.declared.keeper.PrepareStop.{PrepareStop}
use Rattle.node_port.specs.declared.keeper.PrepareStop.TheVariants as prepare
use Rattle.staged_nodes.specs.declared.staging.Staging.{Staging}
use Rattle.staged_nodes.specs.Room.{IsLeft}
use Rattle.staged_nodes.specs.Telling.{ShowsDone, ShowsOver}
use Rattle.staged_nodes.specs.declared.staging.StagedReady.{StagedReady}

-- ---- what a transaction shows

-- after its keeper only looked
pub shows_looked : {held : Nodes → Type 0} {told : ℕ → Nodes → Type 0} {counters : List ℕ} {staged : Staging → Type 0} {holds : Nodes → Type 0} (holds' : Nodes → Type 0) {pinned : ℕ → Nodes → Type 0} (pinned' : ℕ → Nodes → Type 0) {last : List ℕ} (last' : List ℕ) {room : Room} (room' : Room) {s : Staging} {M : Nodes}
    → ((N : Nodes) → holds N → holds' N) → KeepsPins holds pinned pinned' → last' ≡ last → room' ≡ room → ShowsOver held told counters staged holds pinned last room s M → ShowsOver held told counters staged holds' pinned' last' room' s M
shows_looked holds' pinned' last' room' {s} stays pins counters space shows = record {
  some = shows.some;
  was = shows.was;
  over = shows.over;
  stays = λ N h. stays N (shows.stays N h);
  keeps = λ p N is. pins shows.some (shows.stays shows.some shows.was) p N (shows.keeps p N is);
  counted = counters ∙ shows.counted;
  left = subst (λ (r : Room). IsLeft r s.left) (sym space) shows.left;
  are = shows.are;
}

-- nothing was made
pub not_done : (made : Option StagedReady) → false ≡ is_some made → made ≡ None
not_done None e = refl
not_done (Some ready) e = absurd (cc)

pub shows_open : {held : Nodes → Type 0} {told : ℕ → Nodes → Type 0} {counters : List ℕ} {staged : Staging → Type 0} {holds : Nodes → Type 0} {pinned : ℕ → Nodes → Type 0} {last : List ℕ} {room : Room} {s : Staging} (made : Option StagedReady) (M : Nodes) → made ≡ None → ShowsDone made (ShowsOver held told counters staged holds pinned last room s) M → ShowsOver held told counters staged holds pinned last room s M
shows_open {held} {told} {counters} {staged} {holds} {pinned} {last} {room} {s} made M e is = subst (λ (d : Option StagedReady). ShowsDone d (ShowsOver held told counters staged holds pinned last room s) M) e is

pub open_shows : {held : Nodes → Type 0} {told : ℕ → Nodes → Type 0} {counters : List ℕ} {staged : Staging → Type 0} {holds : Nodes → Type 0} {pinned : ℕ → Nodes → Type 0} {last : List ℕ} {room : Room} {s : Staging} (made : Option StagedReady) (M : Nodes) → made ≡ None → ShowsOver held told counters staged holds pinned last room s M → ShowsDone made (ShowsOver held told counters staged holds pinned last room s) M
open_shows {held} {told} {counters} {staged} {holds} {pinned} {last} {room} {s} made M e is = subst (λ (d : Option StagedReady). ShowsDone d (ShowsOver held told counters staged holds pinned last room s) M) (sym e) is

-- why a plan is refused
pub decides_alike : (R S : Type 0) (has : Room) (room : ℕ) (xs ys : List (Nid × Option NodeRec)) (stop : PrepareStop) → xs ≡ ys → RoomDecides {R = R} has room xs (Err stop) → RoomDecides {R = S} has room ys (Err stop)
decides_alike R S has room xs ys prepare.Fault e h = tt
decides_alike R S has room xs ys (prepare.Changed ib stored computed) e h = tt
decides_alike R S has room xs ys prepare.Memory e h = tt
decides_alike R S has room xs ys prepare.IdsSpent e h = h
decides_alike R S has room xs ys (prepare.Full free need) e h = subst (λ (cs : List (Nid × Option NodeRec)). RoomDecides {R = S} has room cs (Err (prepare.Full free need))) e h

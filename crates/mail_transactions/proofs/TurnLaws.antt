-- What lines on transactions and lines within one come to.
use Rattle.std.proofs.Common.{◌≡◌, ◌∙◌, ◌⊎◌, inl, inr, ℕ, ◌≤◌, Bool, true, false, List, [], Option, None, Some, Result, Ok, Err, refl, sym, ap, subst, arith}
use Rattle.pst_base.specs.declared.ids.Nid.{Nid}
use Rattle.pst_outside.specs.World.{Image, World}
use Rattle.pst_outside.specs.Calls.{Untouched}
use Rattle.pst_outside.proofs.Moments.{weaker}
use Rattle.command_text.specs.Replies.{text}
use Rattle.command_text.specs.declared.reply.CommandRefusal.TheVariants.{Line}
use Rattle.command_text.specs.declared.reply.LastLine.TheVariants as last_line
use Rattle.line_server.specs.Spoken.{spoken_text}
use Rattle.line_server.specs.declared.spoken.Spoken.{Spoken}
use Rattle.line_server.specs.declared.spoken.Spoken.TheVariants as spoken_as
use Rattle.mail_tree.specs.Folders.{replied}
use Rattle.node_port.specs.Nodes.{Nodes}
use Rattle.node_port.specs.Pins.{Pins}
use Rattle.node_port.specs.Stops.{KeepStops, Room, need}
use Rattle.node_port.specs.declared.keeper.KeepStop.{KeepStop}
use Rattle.node_port.specs.declared.keeper.KeepStop.TheVariants as keep
use Rattle.node_port.specs.declared.node.NodeRec.{NodeRec}
use Rattle.session_lines.specs.Texts.{transaction_text}
use Rattle.session_lines.specs.declared.line.SessionLine.{SessionLine}
use Rattle.session_lines.specs.declared.line.TransactionLine.{TransactionLine}
use Rattle.session_lines.specs.declared.line.TransactionLine.TheVariants.{Begin, Commit, Rollback, Session}
use Rattle.session_lines.specs.declared.line.TransactionReply.TheVariants.{Done}
use Rattle.staged_store.specs.Saying.{LacksOn, SaysOn, Underway}
use Rattle.staged_store.specs.Standing.{HasOver, HasRoom, IsUnderway, Responds}
use Rattle.staged_store.specs.Telling.{Keeps}
use Rattle.staged_store.specs.declared.underway.StagedStore.{StagedStore}
use Rattle.staged_store.specs.staged_nodes.Staged.{Staged, listed, none_staged}
use Rattle.staged_store.specs.pinned_session.Run.{SaysTo as SaysOutside}
use Rattle.staged_store.specs.pinned_session.Sitting.{Sitting, pins_of}
use Rattle.staged_store.specs.pinned_session.declared.pins.PinnedStore.{PinnedStore}
use Rattle.staged_store.specs.pinned_session.store_session.Carrying.{CarriesOut, Leaves, SaysRefusal}
use Rattle.staged_store.specs.pinned_session.store_session.Disks.{Becomes, Effects, Medium, SameMedium, medium}
use Rattle.staged_store.specs.pinned_session.store_session.Run.{refused}
use Rattle.staged_store.specs.pinned_session.store_session.declared.carrying.StoreStop.{StoreStop}
use Rattle.staged_store.specs.pinned_session.store_session.declared.carrying.StoreStop.TheVariants.{Disk, Changed}
use Rattle.staged_store.proofs.pinned_session_laws.LineLaws.{carries_map}
use Rattle.staged_store.proofs.pinned_session_laws.MakeLaws.{sitting_same}
use Rattle.staged_store.proofs.pinned_session_laws.PinLaws.{has_mapped}
use Rattle.staged_store.proofs.store_session_laws.Carry.{memory_text, quiet_leaves, same_medium}
use Rattle.mail_transactions.specs.Committing.{CommitsAs, HasRoomFor}
use Rattle.mail_transactions.specs.Opening.{inside, outside, read_as}
use Rattle.mail_transactions.specs.Run.{Carries, CommitsStaged, SaysTo}
use Rattle.mail_transactions.specs.Stands.{IsWithin, Stands, StandsIn, StandsCommitted}
use Rattle.mail_transactions.specs.State.{State, Within, taken_back, underway}
use Rattle.mail_transactions.specs.declared.store.OpenTransaction.{OpenTransaction}
use Rattle.mail_transactions.proofs.Keeps.{here_in, settled_in}
use Rattle.mail_transactions.proofs.SayLaws.{says_counted}
use Rattle.mail_transactions.proofs.StandLaws.{counted_before, leaves_trees, sits_made, with_keeper, within_goes_on}

-- ---- turns that change nothing

module _ (effects : Pins → Effects) (room : Room) (S : State) (v w : World) (has : State → Type 0) (stands : Image → State → Type 0) (h : has S) (same : w.tells → SameMedium (medium v) (medium w)) (leaves : Leaves stands v w S S) where
  -- the line is none
  pub none_said : (asked : TransactionLine) → ((said : List ℕ) → said ≡ refused Line → Carries effects room S (medium v) w.tells (Ok asked) said S (medium w)) → (spoken : Spoken) → SaysRefusal Line spoken → CarriesOut has stands (SaysTo effects room S (medium v) asked) v w S (Ok spoken)
  none_said asked none spoken (inl says) = (S, inl (none (spoken_text spoken) says), h, leaves)
  none_said asked none spoken (inr says) = (S, inr (says ∙ memory_text, (refl, same)), h, leaves)

  -- there was no memory
  pub lacks_said : (asked : TransactionLine) → CarriesOut has stands (SaysTo effects room S (medium v) asked) v w S (Ok spoken_as.NoMemory)
  lacks_said asked = (S, inr (memory_text, (refl, same)), h, leaves)

  -- a reading stopped
  pub read_said : (asked : TransactionLine) (disk : Bool) (before after : ℕ) (held : Nodes → Type 0) (N : Nodes) → held N → (stop : KeepStop) → KeepStops disk before after held stop → CarriesOut has stands (SaysTo effects room S (medium v) asked) v w S (read_as stop)
  read_said asked disk before after held N is keep.Fault why = (S, text (replied last_line.NoMemory), inr (refl, (refl, λ none. absurd none)), leaves)
  read_said asked disk before after held N is (keep.Changed ib stored computed) why = why N is
  read_said asked disk before after held N is keep.Memory why = lacks_said asked

-- the disk failed
pub failed_said : (effects : Pins → Effects) (room : Room) (S : State) (v w : World) (has : State → Type 0) (stands : Image → State → Type 0) (asked : TransactionLine) → Leaves stands v w S S → CarriesOut has stands (SaysTo effects room S (medium v) asked) v w S (Err Disk)
failed_said effects room S v w has stands asked leaves = (S, text (replied last_line.NoMemory), inr (refl, (refl, λ none. absurd none)), leaves)

-- ---- what a state has

-- a session outside of a transaction is in a state outside, and one within in a state within
module _ {K W : Type 0} (view : W → World) (holds : K → World → Nodes → Type 0) (last : K → List ℕ) (pinned : K → World → ℕ → Nodes → Type 0) (room : K → Room) (rests : Image → Type 0) (p : PinnedStore K) (v : W) (found : List ℕ) (tidy : Bool) (P : State → Type 0) where
  pub in_none : (i : Option Within) (S : Sitting) → StandsIn view holds last pinned room rests p None v found tidy i S → (StandsIn view holds last pinned room rests p None v found tidy None S → P (outside S)) → P (record { sitting = S; within = i })
  in_none None S h so = so h
  in_none (Some i) S h so = absurd h

  pub in_some : (t : OpenTransaction) (i : Option Within) (S : Sitting) → StandsIn view holds last pinned room rests p (Some t) v found tidy i S → ((w : Within) → IsWithin view holds last pinned room rests p t v found tidy w S → P (inside S w)) → P (record { sitting = S; within = i })
  in_some t None S h so = absurd h
  in_some t (Some i) S h so = so i h

-- ---- a line outside of a transaction

module _ (effects : Pins → Effects) (room : Room) (v w : World) (S : Sitting) (has : Sitting → Type 0) (has' : State → Type 0) (stands : Image → Sitting → Type 0) (stands' : Image → State → Type 0) (on : (Z : Sitting) → has Z → has' (outside Z))
    (also : (c : Image) (Z : Sitting) → stands c Z → stands' c (outside Z)) (asked : SessionLine) where
  outside_says : (told : Type 0) (said : List ℕ) (Z : Sitting) (m : Medium) → SaysOutside effects room S (medium v) asked told said Z m → SaysTo effects room (outside S) (medium v) (Session asked) told said (outside Z) m
  outside_says told said Z m (inl is) = inl (Z, is, refl)
  outside_says told said Z m (inr is) = inr (is.0, (ap (λ (X : Sitting). outside X) (is.1).0, (is.1).1))

  leaves_outside : (Z : Sitting) → Leaves stands v w S Z → Leaves stands' v w (outside S) (outside Z)
  leaves_outside Z leaves = weaker (λ c. (c.said ≡ v.here.said) × (stands' c (outside S) ⊎ stands' c (outside Z))) leaves (λ c told is. (is.0, one c is.1))
    where
      one : (c : Image) → stands c S ⊎ stands c Z → stands' c (outside S) ⊎ stands' c (outside Z)
      one c (inl is) = inl (also c S is)
      one c (inr is) = inr (also c Z is)

  pub outside_carries : (r : Result Spoken StoreStop) → CarriesOut has stands (SaysOutside effects room S (medium v) asked) v w S r → CarriesOut has' stands' (SaysTo effects room (outside S) (medium v) (Session asked)) v w (outside S) r
  outside_carries (Ok spoken) is = (outside is.0, outside_says w.tells (spoken_text spoken) is.0 (medium w) is.1, on is.0 is.2, leaves_outside is.0 is.3)
  outside_carries (Err Disk) is = (outside is.0, is.1, outside_says ⊥ is.1 is.0 (medium w) is.2, leaves_outside is.0 is.3)
  outside_carries (Err (Changed ib stored computed)) is = is

-- ---- a line within one

-- the store and the transaction behind an answer
abbrev pub store_of : {K : Type 0} → PinnedStore K → StagedStore K → PinnedStore K
store_of p u = record { store = u.store; given = p.given; pins = p.pins; views = u.views }

abbrev pub open_of : {K : Type 0} → OpenTransaction → StagedStore K → OpenTransaction
open_of t u = record { staging = u.staging; known = t.known; searches = t.searches; views = t.views }

abbrev pub under_of : {K : Type 0} → PinnedStore K → OpenTransaction → StagedStore K
under_of p t = record { store = p.store; staging = t.staging; views = p.views }

-- the state behind it
abbrev pub within_of : Within → Underway → Within
within_of i U = record i { nodes = U.nodes }

abbrev pub sitting_of : Sitting → Underway → Sitting
sitting_of S U = record S { now = U.now; views = U.views }

module _ {K W : Type 0} (view : W → World) (holds : K → World → Nodes → Type 0) (last : K → List ℕ) (pinned : K → World → ℕ → Nodes → Type 0) (room : K → Room) (rests : Image → Type 0) where
  -- what is underway in a transaction
  pub is_underway : (p : PinnedStore K) (t : OpenTransaction) (v : W) (found : List ℕ) (tidy : Bool) (i : Within) (S : Sitting) (h : IsWithin view holds last pinned room rests p t v found tidy i S) → IsUnderway h.base (room p.store.store.keeper) (under_of p t) tidy (underway S i)
  is_underway p t v found tidy i S h = record { has = h.now; shows = h.shows }

  module _ (p : PinnedStore K) (t : OpenTransaction) (u : StagedStore K) (v w : W) (found : List ℕ) (tidy : Bool) (i : Within) (S : Sitting) (h : IsWithin view holds last pinned room rests p t v found tidy i S)
      (keeps : Keeps (holds p.store.store.keeper (view v)) (holds u.store.store.keeper (view w)) (pinned p.store.store.keeper (view v)) (pinned u.store.store.keeper (view w)) (last p.store.store.keeper) (last u.store.store.keeper) (room p.store.store.keeper) (room u.store.store.keeper))
      (same : Untouched (view v) (view w)) where
    within_next : (asked : SessionLine) (said : List ℕ) (U : Underway) → SaysOn (room p.store.store.keeper) (underway S i) asked said U ⊎ LacksOn (room p.store.store.keeper) (underway S i) said U → IsUnderway h.base (room p.store.store.keeper) u tidy U
        → IsWithin view holds last pinned room rests (store_of p u) (open_of t u) w found tidy (within_of i U) (sitting_of S U)
    within_next asked said U says is = record {
      base = h.base;
      held = keeps.stays h.base h.held;
      before = sitting_same i.before h.before (λ store. has_mapped {holds = λ N. N ≡ h.base} tidy i.before.now (λ N e. e) keeps.counted same store) (ap (λ (r : Room). r.found) keeps.room) keeps.keeps (ap (λ (r : Room). r.pins) keeps.room);
      now = subst (λ r. HasOver h.base r u.staging u.store.store.known u.store.searches tidy U.nodes U.now) (sym keeps.room) is.has;
      shows = is.shows;
      rest = ap (λ (X : Sitting). record X { now = U.now; views = U.views }) h.rest;
      counted = says_counted (room p.store.store.keeper) (underway S i) i.before.now.tree.last h.counted asked said U says;
    }

    pub responds_within : (asked : SessionLine) (r : Result Spoken StoreStop) → Responds (room p.store.store.keeper) (underway S i) asked (IsUnderway h.base (room p.store.store.keeper) u tidy) r
        → Responds (room p.store.store.keeper) (underway S i) asked (λ U. IsWithin view holds last pinned room rests (store_of p u) (open_of t u) w found tidy (within_of i U) (sitting_of S U)) r
    responds_within asked (Ok spoken) is = (is.0, is.1, within_next asked (spoken_text spoken) is.0 is.1 is.2)
    responds_within asked (Err Disk) is = is
    responds_within asked (Err (Changed ib stored computed)) is = is

-- what was answered within is carried out
module _ (effects : Pins → Effects) (room : Room) (v w : World) (i : Within) (S : Sitting) (has : Underway → Type 0) (has' : State → Type 0) (stands : Image → State → Type 0) (on : (U : Underway) → has U → has' (inside (sitting_of S U) (within_of i U)))
    (asked : SessionLine) (same : w.tells → SameMedium (medium v) (medium w)) (leaves : (U : Underway) → Leaves stands v w (inside S i) (inside (sitting_of S U) (within_of i U))) where
  pub inside_carries : (r : Result Spoken StoreStop) → Responds room (underway S i) asked has r → CarriesOut has' stands (SaysTo effects room (inside S i) (medium v) (Session asked)) v w (inside S i) r
  inside_carries (Ok spoken) is = (inside (sitting_of S is.0) (within_of i is.0), says is.0 is.1, on is.0 is.2, leaves is.0)
    where
      says : (U : Underway) → SaysOn room (underway S i) asked (spoken_text spoken) U ⊎ LacksOn room (underway S i) (spoken_text spoken) U → SaysTo effects room (inside S i) (medium v) (Session asked) w.tells (spoken_text spoken) (inside (sitting_of S U) (within_of i U)) (medium w)
      says U (inl said) = inl (U, said, refl, same)
      says U (inr said) = inr (said.0, (ap (λ (V : Underway). inside (sitting_of S V) (within_of i V)) said.1, same))
  inside_carries (Err Disk) is = (inside S i, text (replied last_line.NoMemory), inr (refl, (refl, λ none. absurd none)), leaves (underway S i))
  inside_carries (Err (Changed ib stored computed)) is = absurd is

-- ---- changes committed

-- room for what is put is room for its changes
pub room_for : (room : Room) (F : Staged) (asked : ℕ) → HasRoom room F → asked ≡ 0 → HasRoomFor room asked (listed F)
room_for room F asked has none some = (has.numbers some, enough)
  where
    enough : need room.pages asked (listed F) ≤ room.free
    enough = let cells = has.cells some in omega (arith, cells, none)

-- what a transaction that was committed comes to
module _ (effects : Pins → Effects) (room : Room) (v w : World) (i : Within) (S : Sitting) (has : State → Type 0) (stands : Image → State → Type 0) where
  pub commit_said : (spoken : Spoken) → spoken_text spoken ≡ transaction_text Done → has (outside S) → (w.tells → CommitsStaged (effects (pins_of S)) i.nodes (medium v) (medium w)) → Leaves stands v w (inside S i) (outside S)
      → CarriesOut has stands (SaysTo effects room (inside S i) (medium v) Commit) v w (inside S i) (Ok spoken)
  commit_said spoken says h commits leaves = (outside S, inl (says, refl, commits), h, leaves)

  -- or dropped
  pub rollback_said : (spoken : Spoken) → spoken_text spoken ≡ transaction_text Done → has (outside (taken_back S i)) → (w.tells → SameMedium (medium v) (medium w)) → Leaves stands v w (inside S i) (outside (taken_back S i))
      → CarriesOut has stands (SaysTo effects room (inside S i) (medium v) Rollback) v w (inside S i) (Ok spoken)
  rollback_said spoken says h same leaves = (outside (taken_back S i), inl (says, refl, same), h, leaves)

-- or opened
pub begin_said : (effects : Pins → Effects) (room : Room) (v w : World) (S : Sitting) (has : State → Type 0) (stands : Image → State → Type 0) (spoken : Spoken) → spoken_text spoken ≡ transaction_text Done → has (inside S (record { before = S; nodes = none_staged }))
    → (w.tells → SameMedium (medium v) (medium w)) → Leaves stands v w (outside S) (inside S (record { before = S; nodes = none_staged })) → CarriesOut has stands (SaysTo effects room (outside S) (medium v) Begin) v w (outside S) (Ok spoken)
begin_said effects room v w S has stands spoken says h same leaves = (inside S (record { before = S; nodes = none_staged }), inl (says, refl, same), h, leaves)

-- what was written for a transaction
pub committed_staged : (effects : Pins → Effects) (room : Room) (S : Sitting) (F : Staged) (old new : Medium) → room.pins ≡ pins_of S → ((listed F ≡ [] → ⊥) → Becomes ((effects room.pins).applied (listed F)) old new) → (listed F ≡ [] → SameMedium old new) → CommitsStaged (effects (pins_of S)) F old new
committed_staged effects room S F old new pins written unwritten = record { written = λ some. subst (λ (q : Pins). Becomes ((effects q).applied (listed F)) old new) pins (written some); unwritten = unwritten }

-- ---- a transaction is committed

module _ {K W : Type 0} (view : W → World) (holds : K → World → Nodes → Type 0) (last : K → List ℕ) (pinned : K → World → ℕ → Nodes → Type 0) (room : K → Room) (disk : Bool) (stands : List ℕ → Image → Nodes → List ℕ → Type 0) (rests : Image → Type 0) (effects : Pins → Effects)
    (held_stands : (k : K) (w : W) (N : Nodes) → holds k (view w) N → stands (room k).found (view w).here N (last k)) (found : List ℕ) (tidy : Bool) where
  -- nothing was written on the way to a state
  pub still_leaves : (p : PinnedStore K) (o : Option OpenTransaction) (v w : W) (i : Option Within) (S : Sitting) (Z : State) → StandsIn view holds last pinned room rests p o v found tidy i S → Untouched (view v) (view w)
      → Leaves (StandsCommitted stands found tidy) (view v) (view w) (record { sitting = S; within = i }) Z
  still_leaves p o v w i S Z h same =
      quiet_leaves (StandsCommitted stands found tidy) (record { sitting = S; within = i }) Z (settled_in view holds last pinned room disk stands rests effects p o v found tidy i S h) same (here_in view holds last pinned room disk stands rests effects held_stands p o v found tidy i S h)

  module _ (p : PinnedStore K) (t : OpenTransaction) (k : K) (v w : W) (i : Within) (S : Sitting) (h : IsWithin view holds last pinned room rests p t v found tidy i S) where
    abbrev Ends : List (Nid × Option NodeRec) → List ℕ → Result Bool StoreStop → Type 0
    Ends cs counters r = CommitsAs (stands (room p.store.store.keeper).found) (effects (room p.store.store.keeper).pins).applied (holds k (view w)) (pinned p.store.store.keeper (view v)) (pinned k (view w)) (last p.store.store.keeper) (last k) (room p.store.store.keeper) (room k) rests (view v) (view w) h.base cs counters r

    -- the changes are those of the transaction
    pub ends_of : (cs : List (Nid × Option NodeRec)) (counters : List ℕ) (asked : ℕ) (r : Result Bool StoreStop) → cs ≡ listed i.nodes → counters ≡ t.staging.counts.last → asked ≡ 0
        → ((cs ≡ [] → counters ≡ last p.store.store.keeper) → HasRoomFor (room p.store.store.keeper) asked cs → Ends cs counters r) → Ends (listed i.nodes) t.staging.counts.last r
    ends_of cs counters asked r are counted none commits =
        subst (λ l. Ends (listed i.nodes) l r) counted
        (subst (λ l. Ends l counters r) are
        (commits (λ empty. counted ∙ counted_before view holds last pinned room rests p t v found tidy i S h (sym are ∙ empty))
        (subst (λ l. HasRoomFor (room p.store.store.keeper) asked l) (sym are) (room_for (room p.store.store.keeper) i.nodes asked h.now.enough none))))

    abbrev Carried : PinnedStore K → Option OpenTransaction → Result Spoken StoreStop → Type 0
    Carried q o r = CarriesOut (Stands view holds last pinned room rests (record { pinned = q; «open» = o }) w found tidy) (StandsCommitted stands found tidy) (SaysTo effects (room p.store.store.keeper) (inside S i) (medium (view v)) Commit) (view v) (view w) (inside S i) r

    pub commit_done : Ends (listed i.nodes) t.staging.counts.last (Ok true) → (spoken : Spoken) → spoken_text spoken ≡ transaction_text Done → Carried (with_keeper p k) None (Ok spoken)
    commit_done made spoken says = (
      outside S,
      inl (says, refl, λ told. committed_staged effects (room p.store.store.keeper) S i.nodes (medium (view v)) (medium (view w)) (h.before.pins ∙ sym (ap pins_of h.rest)) (λ some. made.written told some) (λ none. made.unwritten told none)),
      sits_made view holds last pinned room rests stands (effects (room p.store.store.keeper).pins).applied p t k v w found tidy i S h made,
      leaves_trees view holds last pinned room rests stands (effects (room p.store.store.keeper).pins).applied p t v w found tidy i S h made.leaves,
    )

    pub commit_lacks : Ends (listed i.nodes) t.staging.counts.last (Ok false) → Carried (with_keeper p k) (Some t) (Ok spoken_as.NoMemory)
    commit_lacks left =
        lacks_said effects (room p.store.store.keeper) (inside S i) (view v) (view w) (Stands view holds last pinned room rests (record { pinned = with_keeper p k; «open» = Some t }) w found tidy) (StandsCommitted stands found tidy)
        (within_goes_on view holds last pinned room rests p t k v w found tidy i S h left.held left.keeps left.counted left.room left.same) (λ told. same_medium (view v) (view w) (left.same.stays.here told) left.same.stays.written)
        (still_leaves p (Some t) v w (Some i) S (inside S i) h left.same) Commit

    pub commit_stops : (q : PinnedStore K) (o : Option OpenTransaction) (stop : StoreStop) → Ends (listed i.nodes) t.staging.counts.last (Err stop) → Carried q o (Err stop)
    commit_stops q o Disk leaves = (
      outside S,
      transaction_text Done,
      inl (refl, refl, λ none. absurd none),
      leaves_trees view holds last pinned room rests stands (effects (room p.store.store.keeper).pins).applied p t v w found tidy i S h leaves,
    )
    commit_stops q o (Changed ib stored computed) never = never

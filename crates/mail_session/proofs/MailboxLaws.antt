-- What the session in memory comes to: over a new store, at each line, and in each of its states.
use Rattle.std.proofs.Common.{◌≡◌, ◌∙◌, ◌≤◌, ◌*◌, ◌^◌, ℕ, Bool, true, false, List, [], Option, None, Some, Result, Ok, Err, refl, sym, subst, arith}
use Rattle.std.proofs.lemmas.Bool.{false≢true}
use Rattle.command_text.specs.declared.reply.CommandRefusal.{CommandRefusal}
use Rattle.command_text.specs.declared.reply.CommandRefusal.TheVariants.{Full, Ids}
use Rattle.line_server.specs.History.{Answers as AnswersPiece}
use Rattle.line_server.specs.Lines.{Piece, further, line, too_long}
use Rattle.line_server.specs.Spoken.{spoken_text}
use Rattle.line_server.specs.declared.spoken.Spoken.{Spoken}
use Rattle.mail_searches.specs.Searching.{Searching, StartsSearching}
use Rattle.mail_searches.specs.declared.known.KnownSearches.{KnownSearches}
use Rattle.mail_tree.specs.Changing.{Changed as Changes}
use Rattle.mail_tree.specs.Start.{IsStart, start_last, start_places}
use Rattle.mail_tree.specs.Tree.{StandsAt, Tree, object_at}
use Rattle.mail_tree.specs.declared.known.Known.{Known}
use Rattle.node_port.specs.Nodes.{changed, no_nodes, node_at}
use Rattle.node_port.specs.Slots.{Keeps}
use Rattle.node_port.specs.Stops.{Room, SameSpace, ample}
use Rattle.node_port.specs.declared.node.NodeRec.{NodeRec}
use Rattle.pst_base.specs.declared.ids.Nid.{Nid}
use Rattle.pst_outside.specs.Sure.{nothing}
use Rattle.search_laws.proofs.Setting.{starts_in_order}
use Rattle.tree_look.specs.mail_draft.declared.stop.Stop.TheVariants.{Refused}
use Rattle.file_filling.proofs.mail_store_laws.FlagLaws.{nothing_known}
use Rattle.file_filling.proofs.mail_transactions_laws.Keeps.{some_measured, some_order}
use Rattle.file_filling.proofs.mail_transactions_laws.LineLaws.{answers_on}
use Rattle.file_filling.proofs.mail_transactions_laws.Sessions.{limit_text}
use Rattle.file_filling.specs.mail_store.Planning.{IsHindered}
use Rattle.file_filling.specs.mail_transactions.Run.{Answers}
use Rattle.file_filling.specs.mail_transactions.Stands.{Stands, StandsCommitted, StandsIn, StandsSome}
use Rattle.file_filling.specs.mail_transactions.State.{State, Within, pins_in}
use Rattle.file_filling.specs.mail_transactions.declared.store.OpenTransaction.{OpenTransaction}
use Rattle.file_filling.specs.mail_transactions.declared.store.SessionStore.{SessionStore}
use Rattle.file_filling.specs.pinned_session.Sitting.{Sitting}
use Rattle.file_filling.specs.pinned_session.declared.pins.PinnedStore.{PinnedStore}
use Rattle.file_filling.specs.staged_nodes.Sizes.{MOST_STAGED}
use Rattle.file_filling.specs.staged_nodes.Staged.{staged_size}
use Rattle.file_filling.specs.store_session.Carrying.{CarriesOut, Has, IsCaused}
use Rattle.file_filling.specs.store_session.Disks.{medium}
use Rattle.file_filling.specs.store_session.declared.carrying.StoreStop.{StoreStop}
use Rattle.file_filling.specs.store_session.declared.carrying.StoreStop.TheVariants.{Disk, Changed}
use Rattle.mail_session.specs.declared.mailbox.Mailbox.{Mailbox}
use Rattle.mail_session.specs.declared.memory.MemoryKeeper.{MemoryKeeper}
use Rattle.mail_session.specs.declared.nowhere.Nowhere.{Nowhere}
use Rattle.mail_session.specs.Boxes.{AnswersFrom, IsSound, NAME, room_left}
use Rattle.mail_session.specs.Mailboxes.{BoxAnswers, Sits, nowhere_view}
use Rattle.mail_session.specs.Memory.{memory_effects, memory_holds, memory_last, memory_pinned, memory_rests, memory_room, memory_stands}

-- ---- a new store

-- the nodes of a new store have its tree
pub new_has : (k : MemoryKeeper) (known : Known) (searches : KnownSearches) (w : Nowhere) (nodes : List (Nid × Option NodeRec)) (T : Tree) → IsStart NAME T → ((q : ℕ) → StandsAt q (node_at (changed no_nodes nodes) q) (object_at T q) (node_at T.others q))
    → Keeps k.nodes.nodes (changed no_nodes nodes) → k.nodes.counts.last ≡ start_last → known.places ≡ start_places → known.flags ≡ [] → searches.own ≡ [] → searches.searches ≡ []
    → (X : Searching) × StartsSearching NAME X × Has (memory_holds k (nowhere_view w)) (memory_last k) known searches memory_rests (nowhere_view w) true X
new_has k known searches w nodes T start at keeps counts places flags own listed =
    let X : Searching = record { tree = T; own = []; searches = [] } in
    let starts : StartsSearching NAME X = record { tree = start; none_own = refl; none = refl } in (
      X,
      starts,
      record {
        stores = record {
          tree = record {
            shown = record { nodes = changed no_nodes nodes; held = keeps; at = at; counters = start.counters ∙ sym counts };
            knows = record { places = start.places ∙ sym places; flags = nothing_known (object_at T) known.flags flags };
          };
          searches = record { own = sym own; searches = sym listed };
        };
        order = starts_in_order NAME X starts;
        settled = λ c left. absurd left;
        at_rest = λ told. tt;
      },
    )

-- ---- its states

-- what a transaction puts is little
abbrev IsFew : Option Within → Type 0
IsFew None = Unit {0}
IsFew (Some w) = staged_size w.nodes ≤ MOST_STAGED

few_in : (p : PinnedStore MemoryKeeper) (o : Option OpenTransaction) (v : Nowhere) (w : Option Within) (S : Sitting) → StandsIn nowhere_view memory_holds memory_last memory_pinned memory_room memory_rests p o v [] true w S → IsFew w
few_in p None v None S h = tt
few_in p (Some t) v (Some w) S h = subst (λ (n : ℕ). n ≤ MOST_STAGED) h.now.staged.size h.now.staged.few
few_in p None v (Some w) S h = absurd h
few_in p (Some t) v None S h = absurd h

few_some : (o : Option (SessionStore MemoryKeeper)) (v : Nowhere) (S : State) → StandsSome nowhere_view memory_holds memory_last memory_pinned memory_room memory_rests o v [] true S → IsFew S.within
few_some None v S h = absurd h
few_some (Some s) v S h = few_in s.pinned s.open v S.within S.sitting h

-- so there is room
room_beside_few : (w : Option Within) (room : Room) → IsFew w → SameSpace ample room → ((room_left w room).spent ≡ false) × ((room_left w room).free ≡ 2 ^ 64) × ((room_left w room).pages ≤ 48 * MOST_STAGED)
room_beside_few None room few same = (same.spent, same.free, (let none = same.pages in omega (arith, none)))
room_beside_few (Some w) room few same = (same.spent, same.free, (let none = same.pages in omega (arith, none, few)))

hinders_none : (room : Room) (D : Changes) → room.spent ≡ false → room.free ≡ 2 ^ 64 → room.pages ≤ 48 * MOST_STAGED → (refusal : CommandRefusal) → IsHindered room D (Refused refusal) → ⊥
hinders_none room D unspent free pages (Full left cells) is =
    let few = is.few in
    let bound = is.needed in
    let there = is.free_is in
    absurd (omega (arith, few, bound, there, free, pages))
hinders_none room D unspent free pages Ids is = false≢true (sym unspent ∙ is.1)
hinders_none room D unspent free pages other is = is

pub sits_sound : (box : Mailbox) (S : State) → Sits box S → IsSound S
sits_sound box S h = record {
  order = some_order nowhere_view memory_holds memory_last memory_pinned memory_room false memory_stands memory_rests memory_effects [] true box.session box.nowhere S h;
  free = λ room same D refusal is. let left = room_beside_few S.within room (few_some box.session box.nowhere S h) same in hinders_none (room_left S.within room) D left.0 left.1 left.2 refusal is;
}

-- ---- what is answered

-- the room of a keeper with these pins
same_space : (k : MemoryKeeper) → SameSpace ample (memory_room k)
same_space k = record { free = refl; pages = refl; spent = refl; found = refl }

-- its session stands in a state
abbrev stands_in : SessionStore MemoryKeeper → Nowhere → List ℕ → Bool → State → Type 0
stands_in s n found tidy S = Stands nowhere_view memory_holds memory_last memory_pinned memory_room memory_rests s n found tidy S

-- what a session says of a line that it answers, or at which it stops
abbrev pub Carried : SessionStore MemoryKeeper → Nowhere → SessionStore MemoryKeeper → Nowhere → List ℕ → Result Spoken StoreStop → Type 0
Carried s n t m bytes r = (found : List ℕ) (tidy : Bool) (S : State) → stands_in s n found tidy S → (false ≡ true → (nowhere_view m).tells)
    → CarriesOut (stands_in t m found tidy) (StandsCommitted memory_stands found tidy) (λ told. Answers memory_effects (memory_room s.pinned.store.store.keeper) S (medium (nowhere_view n)) told (line bytes)) (nowhere_view n) (nowhere_view m) S r

abbrev sits_in : Option (SessionStore MemoryKeeper) → Nowhere → State → Type 0
sits_in o n S = StandsSome nowhere_view memory_holds memory_last memory_pinned memory_room memory_rests o n [] true S

pub line_answered : (o : Option (SessionStore MemoryKeeper)) (s t : SessionStore MemoryKeeper) (n m : Nowhere) (bytes : List ℕ) (spoken : Spoken) → o ≡ Some s → Carried s n t m bytes (Ok spoken) → (S : State) → sits_in o n S → (Z : State) × AnswersFrom S (line bytes) (spoken_text spoken) Z × stands_in t m [] true Z
line_answered o s t n m bytes spoken is carries S sits =
    let h = subst (λ (p : Option (SessionStore MemoryKeeper)). sits_in p n S) is sits in
    let done = carries [] true S h (λ no. absurd (false≢true no)) in
    let room = memory_room s.pinned.store.store.keeper in
    let measured = some_measured nowhere_view memory_holds memory_last memory_pinned memory_room false memory_stands memory_rests memory_effects (λ k w N held. (same_space k, refl)) [] true (Some s) n S h in
    (done.0, (room, measured, answers_on memory_effects room S (λ none. absurd none) (λ none. absurd none) (λ none. absurd none) (line bytes) (spoken_text spoken) done.0 done.1), done.2)

-- it stops at none
pub line_stopped : (o : Option (SessionStore MemoryKeeper)) (s t : SessionStore MemoryKeeper) (n m : Nowhere) (bytes : List ℕ) (stop : StoreStop) → o ≡ Some s → Carried s n t m bytes (Err stop) → IsCaused false (nowhere_view n) (nowhere_view m) stop → (S : State) → sits_in o n S → ⊥
line_stopped o s t n m bytes Disk is carries cause S sits = false≢true cause.1
line_stopped o s t n m bytes (Changed ib stored computed) is carries cause S sits = carries [] true S (subst (λ (p : Option (SessionStore MemoryKeeper)). sits_in p n S) is sits) (λ no. absurd (false≢true no))

-- what is no line is answered without it
abbrev own_room : State → Room
own_room S = record ample { pins = pins_in S }

own_measured : (S : State) → (memory_effects (pins_in S)).measures nothing (own_room S)
own_measured S = (record { free = refl; pages = refl; spent = refl; found = refl }, refl)

-- a piece was answered over the mailbox
pub box_answered : {W : Type 0} (piece : Piece) (said : List ℕ) (a b : Mailbox) (v w : W) → AnswersPiece BoxAnswers piece a v said b w → (S : State) → Sits a S → (Z : State) × AnswersFrom S piece said Z × Sits b Z
box_answered (line bytes) said a b v w is S sits = is.0 S sits
box_answered too_long said a b v w is S sits = (S, (own_room S, own_measured S, (is.0 ∙ limit_text, (refl, λ none. absurd none))), subst (λ (m : Mailbox). Sits m S) (sym is.1) sits)
box_answered further said a b v w is S sits = (S, (own_room S, own_measured S, (is.0, (refl, λ none. absurd none))), subst (λ (m : Mailbox). Sits m S) (sym is.1) sits)

-- and nothing was asked of the world
pub same_world : {W : Type 0} (piece : Piece) (said : List ℕ) (a b : Mailbox) (v w : W) → AnswersPiece BoxAnswers piece a v said b w → w ≡ v
same_world (line bytes) said a b v w is = is.1
same_world too_long said a b v w is = is.2
same_world further said a b v w is = is.2

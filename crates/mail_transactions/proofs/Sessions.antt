-- Turns of a session, one after another.
use Rattle.std.proofs.Common.{◌≡◌, ◌∙◌, ◌⊎◌, inl, inr, ℕ, Bool, true, List, [], ◌∷◌, ◌++◌, take, refl, sym, ap, subst, arith, append_assoc}
use Rattle.std.proofs.lemmas.List.{append-nil}
use Rattle.pst_outside.specs.World.{Image, SameDisk, World}
use Rattle.pst_outside.specs.Calls.{LeavesOnly, NeverFall, Settled, StaysButSaid}
use Rattle.pst_outside.proofs.Moments.{at_end, continues, goes_on, tells_now, weaker}
use Rattle.command_text.specs.Replies.{last_text, last_words, text}
use Rattle.command_text.specs.Refusals.{refusal_words}
use Rattle.command_text.specs.Limits.{limit_word}
use Rattle.command_text.specs.declared.reply.CommandRefusal.TheVariants.{Limit}
use Rattle.command_text.specs.declared.reply.Limit.TheVariants as limits
use Rattle.line_server.specs.History.{Answering, Answers as AnswersPiece, Stopping, Turn, Turns}
use Rattle.line_server.specs.Lines.{Piece, line, too_long, further}
use Rattle.line_server.specs.Spoken.{too_long_text}
use Rattle.line_server.specs.Worlds.{Listens}
use Rattle.line_server.proofs.Hearing.{falls_along}
use Rattle.node_port.specs.Stops.{Room}
use Rattle.node_port.specs.Pins.{Pins}
use Rattle.staged_store.specs.pinned_session.store_session.Carrying.{Leaves}
use Rattle.staged_store.specs.pinned_session.store_session.Disks.{Effects, Medium, SameMedium, medium}
use Rattle.staged_store.specs.pinned_session.store_session.Run.{refused}
use Rattle.staged_store.specs.pinned_session.store_session.Turns.{IsReached, SaysTurns, StandThrough, StoreTurn, disk_after, replies_of, texts, tree_after}
use Rattle.staged_store.specs.pinned_session.store_session.declared.carrying.StoreStop.{StoreStop}
use Rattle.staged_store.proofs.store_session_laws.Carry.{same_as, same_medium, standing}
use Rattle.mail_transactions.specs.Keeping.{Keeping}
use Rattle.mail_transactions.specs.Run.{Answers, Run}
use Rattle.mail_transactions.specs.State.{AfterEach, State, pins_in}
use Rattle.mail_transactions.proofs.LineLaws.{answers_on}
use Rattle.staged_store.proofs.store_session_laws.Reached.{reached_before, reached_then, said_behind, said_front, said_none, turn_leaves}

pub limit_text : too_long_text ≡ refused (Limit limits.Line)
unfolding text last_text last_words refusal_words limit_word
limit_text = refl

-- more input was taken
listens_on : {old mid new : World} {P : Image → Type 0} → LeavesOnly old mid P → Listens mid new → LeavesOnly old new P
listens_on {old} {mid} {new} {P} run listens =
    goes_on run listens.time (λ told. subst P (sym (listens.stays.here told)) (run.here (listens.stays.told told))) (λ c left. at_end run c (listens.crash c left))

heard_settled : {v w : World} → Settled v → Listens v w → Settled w
heard_settled {v} {w} settled listens c left = settled c (listens.crash c left) ∙ sym (listens.stays.here (tells_now w c left))

-- the same the other way round
still : {c d : Image} → SameDisk c d → SameDisk d c
still same = record { main = sym same.main; side = sym same.side; copy = sym same.copy }

-- a world that tells told before
turn_told : {S W : Type 0} (view : W → World) (answers : Answering S W) (whole : Type 0) (piece : Piece) (reply : List ℕ) (a b : S) (v w : W) → Turn view answers whole piece reply a v b w → (view w).tells → (view v).tells
turn_told view answers whole piece reply a b v w turn told = turn.hears.stays.told (turn.quiet.told (turn.says.stays.told told))

pub turns_told : {S W : Type 0} (view : W → World) (answers : Answering S W) (whole : Type 0) (pieces : List Piece) (replies : List (List ℕ)) (a b : S) (v w : W) → Turns view answers whole pieces replies a v b w → (view w).tells → (view v).tells
turns_told view answers whole [] [] a b v w turns told = turns.1.stays.told told
turns_told view answers whole (p ∷ ps) (r ∷ rs) a b v w turns told = turn_told view answers _ p r a turns.0 v turns.1 turns.2 (turns_told view answers whole ps rs turns.0 b turns.1 w turns.3 told)
turns_told view answers whole [] (r ∷ rs) a b v w turns told = absurd turns
turns_told view answers whole (p ∷ ps) [] a b v w turns told = absurd turns

-- no count falls
pub turns_counts : {S W : Type 0} (view : W → World) (answers : Answering S W) (whole : Type 0) (pieces : List Piece) (replies : List (List ℕ)) (a b : S) (v w : W) → Turns view answers whole pieces replies a v b w → NeverFall (view v) (view w)
turns_counts view answers whole [] [] a b v w turns = turns.1.counts
turns_counts view answers whole (p ∷ ps) (r ∷ rs) a b v w turns =
    let turn = turns.2 in
    falls_along turn.hears.counts (falls_along turn.quiet.counts (falls_along turn.says.counts (turns_counts view answers whole ps rs turns.0 b turns.1 w turns.3)))
turns_counts view answers whole [] (r ∷ rs) a b v w turns = absurd turns
turns_counts view answers whole (p ∷ ps) [] a b v w turns = absurd turns

-- the disk stays when something is said
said_medium : {v w : World} → StaysButSaid v w → w.tells → SameMedium (medium v) (medium w)
said_medium {v} {w} stays told = record { disk = stays.here told; written = omega (arith, stays.written) }

-- the disk stays when input is taken
heard_medium : {v w : World} → Listens v w → w.tells → medium w ≡ medium v
heard_medium {v} {w} listens told = λ i. record { image = listens.stays.here told i; written = listens.stays.written i }

-- What turns over a state with a tree come to, where `told` says that the disks are told.
pub record Ran {S W : Type 0} (view : W → World) (has : S → W → State → Type 0) (stands : Image → State → Type 0) (ordered : State → Type 0) (effects : Pins → Effects) (room : S → Room) (told whole : Type 0) (pieces : List Piece) (replies : List (List ℕ)) (v : W) (b : S) (w : W) (X : State) : Type 0 where
  pub turns : List (StoreTurn State)
  pub run : Run effects told X (medium (view v)) pieces turns
  pub in_order : AfterEach ordered turns
  pub stand : StandThrough stands X (medium (view v)) turns
  pub disk_is : (view w).tells → SameDisk (disk_after (medium (view v)) turns).image (view w).here
  pub written : (view w).written ≡ (disk_after (medium (view v)) turns).written
  pub measured : (effects (pins_in (tree_after X turns))).measures (disk_after (medium (view v)) turns).image (room b)
  pub replies_are : replies_of turns ≡ replies
  pub holds : has b w (tree_after X turns)
  pub images : LeavesOnly (view v) (view w) (IsReached stands (view v).here.said X turns)
  pub front : (view w).tells → SaysTurns (view v).here.said turns (view w).here.said
  pub said : whole → (view w).tells → (view w).here.said ≡ (view v).here.said ++ texts turns

-- What one turn comes to.
pub record Takes {S W : Type 0} (view : W → World) (has : S → W → State → Type 0) (stands : Image → State → Type 0) (effects : Pins → Effects) (room : S → Room) (told whole : Type 0) (piece : Piece) (reply : List ℕ) (a : S) (v : W) (b : S) (w : W) (X : State) : Type 0 where
  pub turn : StoreTurn State
  pub reply_is : turn.said ≡ reply
  pub disk_is : turn.disk ≡ medium (view w)
  pub answer : Answers effects (room a) X (medium (view v)) told piece turn.said turn.tree turn.disk
  pub holds : has b w turn.tree
  pub images : LeavesOnly (view v) (view w) (IsReached stands (view v).here.said X (turn ∷ []))
  pub front : (view w).tells → (k : ℕ) × ((view w).here.said ≡ (view v).here.said ++ take k reply)
  pub said : whole → (view w).tells → (view w).here.said ≡ (view v).here.said ++ reply

module _ {S W : Type 0} (view : W → World) (disk : Bool) (has : S → W → State → Type 0) (stands : Image → State → Type 0) (ordered : State → Type 0) (rests : Image → Type 0) (effects : Pins → Effects) (room : S → Room) (answers : Answering S W) (stops : Stopping S W StoreStop)
    (keeps : Keeping view disk has stands ordered rests effects room answers stops) where
  pub heard_has : (a : S) (v w : W) (X : State) → has a v X → Listens (view v) (view w) → (disk ≡ true → (view w).tells) → has a w X
  heard_has a v w X h listens tells = keeps.has_on a v w X h (heard_settled (keeps.settled a v X h) listens) (λ told. (listens.stays.told told, same_as (listens.stays.here told))) tells

  -- taking input, and then what leaves one tree or another
  pub heard_leaves : (a : S) (v m w : W) (X Y : State) → has a v X → Listens (view v) (view m) → ((view w).tells → (view m).tells) → Leaves stands (view m) (view w) X Y → Leaves stands (view v) (view w) X Y
  heard_leaves a v m w X Y h listens tells leaves =
      let P : Image → Type 0 = λ c. (c.said ≡ (view v).here.said) × (stands c X ⊎ stands c Y) in
      let before = standing stands (view v) X (keeps.settled a v X h) (keeps.here a v X h) in
      continues (listens_on (weaker P before (λ c told k. (k.0, inl (elim k.1 [ inl is ↦ is | inr is ↦ is ])))) listens) leaves
      (λ c told k. (k.0 ∙ ap (λ (i : Image). i.said) (listens.stays.here (tells told)), k.1))

  answer_piece : (piece : Piece) (said : List ℕ) (a b : S) (v w : W) (X : State) → AnswersPiece answers piece a v said b w → has a v X → (disk ≡ true → (view w).tells)
      → (Y : State) × Answers effects (room a) X (medium (view v)) (view w).tells piece said Y (medium (view w)) × has b w Y × Leaves stands (view v) (view w) X Y
  answer_piece (line bytes) said a b v w X is h tells = keeps.answered a b v w bytes said X is h tells
  answer_piece too_long said a b v w X is h tells = (
    X,
    (is.0 ∙ limit_text, (refl, λ t. same_medium (view v) (view w) (ap (λ x. (view x).here) is.2) (ap (λ x. (view x).written) is.2))),
    subst (λ x. has x w X) (sym is.1) (subst (λ x. has a x X) (sym is.2) h),
    subst (λ x. Leaves stands (view v) (view x) X X) (sym is.2) (standing stands (view v) X (keeps.settled a v X h) (keeps.here a v X h)),
  )
  answer_piece further said a b v w X is h tells = (
    X,
    (is.0, (refl, λ t. same_medium (view v) (view w) (ap (λ x. (view x).here) is.2) (ap (λ x. (view x).written) is.2))),
    subst (λ x. has x w X) (sym is.1) (subst (λ x. has a x X) (sym is.2) h),
    subst (λ x. Leaves stands (view v) (view x) X X) (sym is.2) (standing stands (view v) X (keeps.settled a v X h) (keeps.here a v X h)),
  )

  -- one turn
  takes : (told whole : Type 0) (piece : Piece) (reply : List ℕ) (a b : S) (v w : W) (X : State) → (told → (view w).tells) → has a v X → Turn view answers whole piece reply a v b w → (disk ≡ true → (view w).tells)
      → Takes view has stands effects room told whole piece reply a v b w X
  takes told whole piece reply a b v w X also h turn tells =
      let told_answered : (view w).tells → (view turn.answered).tells = turn.says.stays.told in
      let told_heard : (view turn.answered).tells → (view turn.heard).tells = turn.quiet.told in
      let held : has a turn.heard X = heard_has a v turn.heard X h turn.hears (λ d. told_heard (told_answered (tells d))) in
      let done = answer_piece piece reply a b turn.heard turn.answered X turn.answer held (λ d. told_answered (tells d)) in
      let leaves : Leaves stands (view v) (view turn.answered) X done.0 = heard_leaves a v turn.heard turn.answered X done.0 h turn.hears told_heard done.3 in
      let settled : Settled (view turn.answered) = keeps.settled b turn.answered done.0 done.2 in
      let made : StoreTurn State = record { said = reply; tree = done.0; disk = medium (view w) } in
      record {
        turn = made;
        reply_is = refl;
        disk_is = refl;
        answer = answers_on effects (room a) X (λ t. told_answered (also t)) (λ t. heard_medium turn.hears (told_heard (told_answered (also t)))) (λ t. said_medium turn.says.stays (also t)) piece reply done.0 done.1;
        holds = keeps.has_on b turn.answered w done.0 done.2 (turn.says.settled settled) (λ t. (told_answered t, turn.says.stays.here t)) tells;
        images = turn_leaves stands X made leaves turn.says.any_moment settled (keeps.here b turn.answered done.0 done.2) (λ c d same is. keeps.stands_on c d done.0 same is) told_answered (λ t. still (turn.says.stays.here t));
        front = λ t. let k = turn.says.front t in (k.0, k.2 ∙ ap (λ s. s ++ take k.0 reply) (leaves.here (told_answered t)).0);
        said = λ is t. turn.all_said is t ∙ ap (λ s. s ++ reply) (leaves.here (told_answered t)).0;
      }

  -- one after another
  pub turns_run : (told whole : Type 0) (pieces : List Piece) (replies : List (List ℕ)) (a b : S) (v w : W) (X : State) → (told → (view w).tells) → has a v X → Turns view answers whole pieces replies a v b w → (disk ≡ true → (view w).tells)
      → Ran view has stands ordered effects room told whole pieces replies v b w X
  turns_run told whole [] [] a b v w X also h turns tells =
      let held : has b w X = subst (λ x. has x w X) (sym turns.0) (heard_has a v w X h turns.1 tells) in
      let same : (view w).tells → (view w).here.said ≡ (view v).here.said ++ [] = λ t. ap (λ (i : Image). i.said) (turns.1.stays.here t) ∙ sym (append-nil (view v).here.said) in
      let before = standing stands (view v) X (keeps.settled a v X h) (keeps.here a v X h) in
      record {
        turns = [];
        run = tt;
        in_order = tt;
        stand = keeps.here a v X h;
        disk_is = λ t. same_as (turns.1.stays.here t);
        written = turns.1.stays.written;
        measured = subst (λ x. (effects (pins_in X)).measures (view v).here (room x)) (sym turns.0) (keeps.measured a v X h);
        replies_are = refl;
        holds = held;
        images = listens_on (weaker (IsReached stands (view v).here.said X []) before (λ c t k. reached_before stands (view v).here.said X [] c k.0 (elim k.1 [ inl is ↦ is | inr is ↦ is ]))) turns.1;
        front = λ t. said_none (view v).here.said (view w).here.said (ap (λ (i : Image). i.said) (turns.1.stays.here t));
        said = λ is t. same t;
      }
  turns_run told whole (piece ∷ []) (reply ∷ []) a b v w X also h turns tells =
      let rest = turns.3 in
      let back : (view w).tells → (view turns.1).tells = rest.1.stays.told in
      let one = takes told _ piece reply a turns.0 v turns.1 X (λ t. back (also t)) h turns.2 (λ d. back (tells d)) in
      record {
        turns = one.turn ∷ [];
        run = ((room a, keeps.measured a v X h, one.answer), tt);
        in_order = (keeps.order turns.0 turns.1 one.turn.tree one.holds, tt);
        stand = (keeps.here a v X h, subst (λ (m : Medium). stands m.image one.turn.tree) (sym one.disk_is) (keeps.here turns.0 turns.1 one.turn.tree one.holds));
        disk_is = λ t. same_as (rest.1.stays.here t ∙ sym (ap (λ (m : Medium). m.image) one.disk_is));
        written = rest.1.stays.written ∙ sym (ap (λ (m : Medium). m.written) one.disk_is);
        measured = subst (λ x. (effects (pins_in one.turn.tree)).measures one.turn.disk.image (room x)) (sym rest.0) (subst (λ (m : Medium). (effects (pins_in one.turn.tree)).measures m.image (room turns.0)) (sym one.disk_is) (keeps.measured turns.0 turns.1 one.turn.tree one.holds));
        replies_are = ap (λ l. l ∷ []) one.reply_is;
        holds = subst (λ x. has x w one.turn.tree) (sym rest.0) (heard_has turns.0 turns.1 w one.turn.tree one.holds rest.1 tells);
        images = listens_on one.images rest.1;
        front = λ t.
            let k = one.front (back t) in
            said_front (view v).here.said (view w).here.said one.turn k.0 (ap (λ (i : Image). i.said) (rest.1.stays.here t) ∙ k.1 ∙ ap (λ x. (view v).here.said ++ take k.0 x) (sym one.reply_is));
        said = λ all t. ap (λ (i : Image). i.said) (rest.1.stays.here t) ∙ one.said (λ e. all) (back t) ∙ ap (λ x. (view v).here.said ++ x) (sym (append-nil one.turn.said ∙ one.reply_is));
      }
  turns_run told whole (piece ∷ q ∷ ps) (reply ∷ r ∷ rs) a b v w X also h turns tells =
      let back : (view w).tells → (view turns.1).tells = turns_told view answers whole (q ∷ ps) (r ∷ rs) turns.0 b turns.1 w turns.3 in
      let one = takes told _ piece reply a turns.0 v turns.1 X (λ t. back (also t)) h turns.2 (λ d. back (tells d)) in
      let Y : State = one.turn.tree in
      let more = turns_run told whole (q ∷ ps) (r ∷ rs) turns.0 b turns.1 w Y also one.holds turns.3 tells in
      let first : List ℕ = (view v).here.said in
      let before : (view w).tells → (view turns.1).here.said ≡ first ++ one.turn.said = λ t. one.said (λ e. absurd (cc)) (back t) ∙ ap (λ l. first ++ l) (sym one.reply_is) in
      record {
        turns = one.turn ∷ more.turns;
        run = ((room a, keeps.measured a v X h, one.answer), subst (λ (m : Medium). Run effects told Y m (q ∷ ps) more.turns) (sym one.disk_is) more.run);
        in_order = (keeps.order turns.0 turns.1 one.turn.tree one.holds, more.in_order);
        stand = (keeps.here a v X h, subst (λ (m : Medium). StandThrough stands Y m more.turns) (sym one.disk_is) more.stand);
        disk_is = subst (λ (m : Medium). (view w).tells → SameDisk (disk_after m more.turns).image (view w).here) (sym one.disk_is) more.disk_is;
        written = subst (λ (m : Medium). (view w).written ≡ (disk_after m more.turns).written) (sym one.disk_is) more.written;
        measured = subst (λ (m : Medium). (effects (pins_in (tree_after Y more.turns))).measures (disk_after m more.turns).image (room b)) (sym one.disk_is) more.measured;
        replies_are = λ i. one.reply_is i ∷ more.replies_are i;
        holds = more.holds;
        images = reached_then stands first X (one.turn ∷ []) more.turns one.images (λ t. before t ∙ ap (λ l. first ++ l) (sym (append-nil one.turn.said))) more.images;
        front = λ t. said_behind first (view turns.1).here.said (view w).here.said one.turn more.turns (before t) (more.front t);
        said = λ all t. more.said all t ∙ ap (λ x. x ++ texts more.turns) (before t) ∙ append_assoc first one.turn.said (texts more.turns);
      }
  turns_run told whole [] (r ∷ rs) a b v w X also h turns tells = absurd turns
  turns_run told whole (p ∷ ps) [] a b v w X also h turns tells = absurd turns
  turns_run told whole (p ∷ []) (reply ∷ r ∷ rs) a b v w X also h turns tells = absurd turns.3
  turns_run told whole (p ∷ q ∷ ps) (reply ∷ []) a b v w X also h turns tells = absurd turns.3

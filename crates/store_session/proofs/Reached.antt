-- What a stop within turns leaves.
use Rattle.std.proofs.Common.{◌≡◌, ◌∙◌, ◌⊎◌, inl, inr, ℕ, ◌<◌, List, [], ◌∷◌, ◌++◌, take, refl, sym, ap, subst, arith, append_assoc}
use Rattle.std.proofs.lemmas.List.{append-nil, take_at}
use Rattle.pst_outside.specs.World.{Image, SameDisk, World}
use Rattle.pst_outside.specs.Calls.{LeavesOnly, SaysSome, Settled}
use Rattle.pst_outside.proofs.Moments.{continues, same_disk, says_settled, weaker}
use Rattle.store_session.specs.Carrying.{Leaves}
use Rattle.store_session.specs.Turns.{IsReached, SaysTurns, StoreTurn, texts, tree_after}
use Rattle.store_session.proofs.Carry.{same_as}

pub texts_more : {T : Type 0} → (turns more : List (StoreTurn T)) → texts (turns ++ more) ≡ texts turns ++ texts more
texts_more [] more = refl
texts_more (t ∷ ts) more = ap (λ l. t.said ++ l) (texts_more ts more) ∙ sym (append_assoc t.said (texts ts) (texts more))

pub after_more : {T : Type 0} → (start : T) (turns more : List (StoreTurn T)) → tree_after start (turns ++ more) ≡ tree_after (tree_after start turns) more
after_more start [] more = refl
after_more start (t ∷ ts) more = after_more t.tree ts more

-- ---- what was said of turns

pub said_none : {T : Type 0} → (first now : List ℕ) → now ≡ first → SaysTurns {X = T} first [] now
said_none first now is = record { done = []; hand = []; one = omega arith; are = refl; count = 0; said = is ∙ sym (append-nil first) }

pub said_all : {T : Type 0} → (first now : List ℕ) (turns : List (StoreTurn T)) → now ≡ first ++ texts turns → SaysTurns first turns now
said_all first now turns is = record { done = turns; hand = []; one = omega arith; are = sym (append-nil turns); count = 0; said = is ∙ ap (λ l. first ++ l) (sym (append-nil (texts turns))) }

pub said_front : {T : Type 0} → (first now : List ℕ) (turn : StoreTurn T) (k : ℕ) → now ≡ first ++ take k turn.said → SaysTurns first (turn ∷ []) now
said_front first now turn k is = record { done = []; hand = turn ∷ []; one = omega arith; are = refl; count = k; said = is ∙ ap (λ l. first ++ take k l) (sym (append-nil turn.said)) }

-- behind a turn whose reply was said
pub said_behind : {T : Type 0} → (first mid now : List ℕ) (turn : StoreTurn T) (turns : List (StoreTurn T)) → mid ≡ first ++ turn.said → SaysTurns mid turns now → SaysTurns first (turn ∷ turns) now
said_behind first mid now turn turns e is =
    let front : List ℕ = take is.count (texts is.hand) in
    record {
      done = turn ∷ is.done;
      hand = is.hand;
      one = is.one;
      are = ap (λ l. turn ∷ l) is.are;
      count = is.count;
      said = is.said ∙ ap (λ s. s ++ (texts is.done ++ front)) e ∙ append_assoc first turn.said (texts is.done ++ front) ∙ ap (λ l. first ++ l) (sym (append_assoc turn.said (texts is.done) front));
    }

-- ---- what was reached

-- what was reached stays reached when more turns come
pub reached_more : {T : Type 0} → (stands : Image → T → Type 0) (first : List ℕ) (start : T) (turns more : List (StoreTurn T)) (c : Image) → IsReached stands first start turns c → IsReached stands first start (turns ++ more) c
reached_more stands first start turns more c is = record {
  done = is.done;
  hand = is.hand;
  left = is.left ++ more;
  one = is.one;
  are = ap (λ l. l ++ more) is.are ∙ append_assoc is.done (is.hand ++ is.left) more ∙ ap (λ l. is.done ++ l) (append_assoc is.hand is.left more);
  tree = is.tree;
  count = is.count;
  said = is.said;
  disk = is.disk;
}

-- what is reached behind turns whose replies were said
pub reached_behind : {T : Type 0} → (stands : Image → T → Type 0) (first said : List ℕ) (start : T) (turns more : List (StoreTurn T)) (c : Image) → said ≡ first ++ texts turns → IsReached stands said (tree_after start turns) more c
    → IsReached stands first start (turns ++ more) c
reached_behind stands first said start turns more c e is =
    let front : List ℕ = take is.count (texts is.hand) in
    record {
      done = turns ++ is.done;
      hand = is.hand;
      left = is.left;
      one = is.one;
      are = ap (λ l. turns ++ l) is.are ∙ sym (append_assoc turns is.done (is.hand ++ is.left));
      tree = subst (stands c) (sym (ap (tree_after start) (append_assoc turns is.done is.hand) ∙ after_more start turns (is.done ++ is.hand))) is.tree;
      count = is.count;
      said = is.said ∙ ap (λ s. s ++ (texts is.done ++ front)) e ∙ append_assoc first (texts turns) (texts is.done ++ front)
          ∙ ap (λ l. first ++ l) (sym (append_assoc (texts turns) (texts is.done) front) ∙ ap (λ l. l ++ front) (sym (texts_more turns is.done)));
      disk = is.disk;
    }

-- before a turn that nothing was said of
pub reached_before : {T : Type 0} → (stands : Image → T → Type 0) (first : List ℕ) (start : T) (turns : List (StoreTurn T)) (c : Image) → c.said ≡ first → stands c start → IsReached stands first start turns c
reached_before stands first start turns c said is = record {
  done = [];
  hand = [];
  left = turns;
  one = omega arith;
  are = refl;
  tree = is;
  count = 0;
  said = said ∙ sym (append-nil first);
  disk = λ begun. same_as refl;
}

-- behind its commit
reached_hand : {T : Type 0} → (stands : Image → T → Type 0) (first : List ℕ) (start : T) (turn : StoreTurn T) (c : Image) (n : ℕ) → c.said ≡ first ++ take n turn.said → stands c turn.tree → (0 < n → SameDisk turn.disk.image c) → IsReached stands first start (turn ∷ []) c
reached_hand stands first start turn c n said after same = record {
  done = [];
  hand = turn ∷ [];
  left = [];
  one = omega arith;
  are = refl;
  tree = after;
  count = n;
  said = said ∙ ap (λ l. first ++ take n l) (sym (append-nil turn.said));
  disk = same;
}

-- within a turn, of whose reply nothing was said yet
reached_commit : {T : Type 0} → (stands : Image → T → Type 0) (first : List ℕ) (start : T) (turn : StoreTurn T) (c : Image) → c.said ≡ first → stands c start ⊎ stands c turn.tree → IsReached stands first start (turn ∷ []) c
reached_commit stands first start turn c said (inl before) = reached_before stands first start (turn ∷ []) c said before
reached_commit stands first start turn c said (inr after) =
    reached_hand stands first start turn c 0 (said ∙ sym (append-nil first) ∙ ap (λ l. first ++ l) (sym (take_at [] turn.said 0 refl))) after (λ begun. absurd (none begun))
  where
    none : 0 < 0 → ⊥
    none h = omega (arith, h)

-- one turn's images, from its commit and the saying of its reply
pub turn_leaves : {T : Type 0} → (stands : Image → T → Type 0) (X : T) (turn : StoreTurn T) {old mid new : World} → Leaves stands old mid X turn.tree → LeavesOnly mid new (SaysSome mid turn.said) → Settled mid → stands mid.here turn.tree
    → ((c d : Image) → SameDisk c d → stands c turn.tree → stands d turn.tree) → (new.tells → mid.tells) → (new.tells → SameDisk turn.disk.image mid.here) → LeavesOnly old new (IsReached stands old.here.said X (turn ∷ []))
turn_leaves stands X turn {old} {mid} {new} leaves saying settled is on tells left =
    continues (weaker (IsReached stands old.here.said X (turn ∷ [])) leaves (λ c told k. reached_commit stands old.here.said X turn c k.0 k.1)) saying
    (λ c told some.
    let same : SameDisk mid.here c = says_settled settled some in
    reached_hand stands old.here.said X turn c some.so_far (some.said ∙ ap (λ s. s ++ take some.so_far turn.said) (leaves.here (tells told)).0) (on mid.here c same is) (λ begun. same_disk (left told) same))

-- the same where nothing is said
pub commit_leaves : {T : Type 0} → (stands : Image → T → Type 0) (X : T) (turn : StoreTurn T) {old new : World} → Leaves stands old new X turn.tree → LeavesOnly old new (IsReached stands old.here.said X (turn ∷ []))
commit_leaves stands X turn {old} leaves = weaker (IsReached stands old.here.said X (turn ∷ [])) leaves (λ c told k. reached_commit stands old.here.said X turn c k.0 k.1)

-- images behind those of all turns that went before
pub reached_then : {T : Type 0} → (stands : Image → T → Type 0) (first : List ℕ) (start : T) (turns more : List (StoreTurn T)) {old mid new : World} → LeavesOnly old mid (IsReached stands first start turns)
    → (new.tells → mid.here.said ≡ first ++ texts turns) → LeavesOnly mid new (IsReached stands mid.here.said (tree_after start turns) more) → LeavesOnly old new (IsReached stands first start (turns ++ more))
reached_then stands first start turns more {old} {mid} {new} run said step =
    continues (weaker (IsReached stands first start (turns ++ more)) run (λ c told is. reached_more stands first start turns more c is)) step
    (λ c told is. reached_behind stands first mid.here.said start turns more c (said told) is)

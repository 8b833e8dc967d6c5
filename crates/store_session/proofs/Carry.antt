-- What carrying out a command comes to.
use Rattle.std.proofs.Common.{◌≡◌, ◌⊎◌, inl, inr, ◌∙◌, ℕ, ◌+◌, ◌≤◌, Bool, false, List, Option, None, Some, Result, Ok, Err, refl, sym, subst, ap, arith}
use Rattle.std.specs.FinMap as map
use Rattle.pst_outside.specs.World.{Image, SameDisk, World}
use Rattle.pst_outside.specs.Calls.{LeavesOnly, Rose, Settled, Untouched}
use Rattle.pst_outside.proofs.Moments.{continues, quiet, started, stays_settled, weaker}
use Rattle.command_text.specs.declared.command.Command.{Command}
use Rattle.command_text.specs.declared.command.Command.TheVariants.{Save}
use Rattle.command_text.specs.declared.reply.CommandRefusal.{CommandRefusal}
use Rattle.command_text.specs.declared.reply.LastLine.TheVariants as last
use Rattle.command_text.specs.declared.reply.Reply.{Reply}
use Rattle.command_text.specs.Replies.{last_text, last_words, text}
use Rattle.line_server.specs.declared.spoken.Spoken.{Spoken}
use Rattle.line_server.specs.Spoken.{no_memory_text, spoken_text}
use Rattle.node_port.specs.Nodes.{Nodes}
use Rattle.node_port.specs.declared.node.NodeRec.{NodeRec}
use Rattle.pst_base.specs.declared.ids.Nid.{Nid}
use Rattle.node_port.specs.Stops.{Room}
use Rattle.search_store.specs.mail_draft.Answers.{Looks}
use Rattle.search_store.specs.mail_draft.declared.stop.Stop.{Stop}
use Rattle.search_store.specs.mail_draft.declared.stop.Stop.TheVariants as stops
use Rattle.search_store.specs.mail_store.Planning.{Alters, Carries, ChangesNodes, SameKnown, StandsFor, cost_of}
use Rattle.search_store.specs.mail_store.Space.{HasRoom}
use Rattle.search_store.proofs.mail_store_laws.StoreLaws.{shown_stands, stores_still}
use Rattle.mail_tree.specs.Changing.{Answer}
use Rattle.mail_tree.specs.Folders.{replied}
use Rattle.mail_tree.specs.Tree.{Tree}
use Rattle.mail_tree.specs.Whole.{Fine}
use Rattle.mail_tree.specs.declared.known.Known.{Known}
use Rattle.mail_searches.specs.Criteria.{Coming}
use Rattle.mail_searches.specs.Searching.{Searching}
use Rattle.mail_searches.specs.Step.{after, outcome, stepped}
use Rattle.mail_searches.specs.declared.known.KnownSearches.{KnownSearches}
use Rattle.search_store.specs.search_folders.Comings.{KnowsSearches}
use Rattle.search_laws.specs.search_lists.Order.{InOrder}
use Rattle.search_laws.proofs.Joining.{stays_in_order}
use Rattle.search_store.specs.Planning.{PlansComing}
use Rattle.store_session.specs.Carrying.{CarriesOut, ComesTo, Has, Leaves, StandsOrdered}
use Rattle.store_session.specs.Disks.{Becomes, Commits, Effects, Medium, Moves, SameMedium, is_save, medium}
use Rattle.store_session.specs.Run.{CommandAnswers, Suffices, refused}
use Rattle.store_session.specs.declared.carrying.StoreStop.{StoreStop}
use Rattle.store_session.specs.declared.carrying.StoreStop.TheVariants.{Disk, Changed}
use Rattle.store_session.proofs.SaveLaws.{saved_after, saved_outcome}

-- an image has its own disk
pub same_as : {c d : Image} → d ≡ c → SameDisk c d
same_as e = record { main = ap (λ (i : Image). i.main) e; side = ap (λ (i : Image). i.side) e; copy = ap (λ (i : Image). i.copy) e }

-- what only looks leaves the disk as it is
pub same_medium : (v w : World) → w.here ≡ v.here → w.written ≡ v.written → SameMedium (medium v) (medium w)
same_medium v w same written = record { disk = same_as same; written = omega (arith, written) }

-- a disk is its own
pub its_medium : (v : World) → SameMedium (medium v) (medium v)
its_medium v = same_medium v v refl refl

-- the text of want of memory
pub memory_text : no_memory_text ≡ text (replied last.NoMemory)
unfolding text last_text last_words
memory_text = refl

-- a call that only looks leaves what a store has
pub stays_has : {holds holds' : Nodes → Type 0} {last last' : List ℕ} {room room' : Room} {v w : World} (rests : Image → Type 0) (known known' : Known) (of_searches of_searches' : KnownSearches) (tidy : Bool) (X : Searching)
    → Looks holds holds' last last' room room' v w → SameKnown known known' × (of_searches' ≡ of_searches)
    → Has holds last known of_searches rests v tidy X → Has holds' last' known' of_searches' rests w tidy X
stays_has rests known known' of_searches of_searches' tidy X looks same h = record {
  stores = record {
    tree = stores_still known known' X.tree looks same.0 h.stores.tree;
    searches = subst (KnowsSearches X) (sym same.1) h.stores.searches;
  };
  order = h.order;
  settled = stays_settled h.settled looks.world;
  at_rest = λ told. subst rests (sym (looks.world.stays.here told)) (h.at_rest (looks.world.stays.told told));
}

-- the disk stands for the tree of a store
pub stands_here : {holds : Nodes → Type 0} {last : List ℕ} {known : Known} {of_searches : KnownSearches} {rests : Image → Type 0} {v : World} (stands : Image → Nodes → List ℕ → Type 0) (tidy : Bool) (X : Searching)
    → ((N : Nodes) → holds N → stands v.here N last) → Has holds last known of_searches rests v tidy X → StandsOrdered tidy stands v.here X
stands_here {last = last} {v = v} stands tidy X held h = let s = h.stores.tree.shown in (shown_stands (stands v.here) last X.tree s (held s.nodes s.held), h.order)

-- nor does it leave another image
pub quiet_leaves : {T : Type 0} (stands : Image → T → Type 0) {v w : World} (X Y : T) → Settled v → Untouched v w → stands v.here X → Leaves stands v w X Y
quiet_leaves stands {v} {w} X Y settled same is = quiet (λ c. (c.said ≡ v.here.said) × (stands c X ⊎ stands c Y)) settled same (λ told. (refl, inl is))

-- and nothing at all where nothing is done
pub standing : {T : Type 0} (stands : Image → T → Type 0) (v : World) (X : T) → Settled v → stands v.here X → Leaves stands v v X X
standing stands v X settled is =
    let P : Image → Type 0 = λ c. (c.said ≡ v.here.said) × (stands c X ⊎ stands c X) in
    started v P (λ told. (refl, inl is)) (λ c left. subst P (sym (settled c left)) (refl, inl is))

-- an answer of a command on a tree in order is one
not_formless : (tidy : Bool) (X : Searching) (c : Command) → InOrder tidy X → outcome X c ≡ Err None → ⊥
not_formless tidy X c order e = subst (λ x. Fine x (λ o. InOrder tidy (after X o))) e (stays_in_order tidy X c order)

module _ (effects : Effects) (X : Searching) (c : Command) where
  -- what a command other than `save` does to the disk: a refused one nothing
  moves_refused : (r : CommandRefusal) (here new : Medium) → is_save c ≡ false → outcome X c ≡ Err (Some r) → SameMedium here new → Moves effects (is_save c) (outcome X c) here new
  moves_refused r here new other e same = rw (other, e) same

  moves_made : (o : Coming) (here new : Medium) → is_save c ≡ false → outcome X c ≡ Ok o → Commits effects.applied o here new → Moves effects (is_save c) (outcome X c) here new
  moves_made o here new other e commits = rw (other, e) commits

-- the disk behind a plan and its commit
pub commit_makes : {R : Type 0} (fits : R → List ℕ → List (Nid × Option NodeRec) → Type 0) (applied : List (Nid × Option NodeRec) → ℕ → Image → Image → Type 0) (cost : R → ℕ) (T : Tree) (o : Coming) (change : Option R) (here mid new : World)
    → mid.here ≡ here.here → mid.written ≡ here.written → new.written ≤ mid.written + cost_of cost change → Carries fits T o.outcome change → ChangesNodes o.outcome.changed change → Alters fits applied cost change mid.here new.here
    → Commits applied o (medium here) (medium new)
commit_makes fits applied cost T o None here mid new same written few carries none alters = record {
  written = λ writes. absurd (writes none);
  unwritten = λ is. record { disk = same_as (alters ∙ same); written = omega (arith, few, written) };
}
commit_makes fits applied cost T o (Some ready) here mid new same written few carries writes alters = record {
  written = λ is. record {
    nodes = carries.0;
    are = carries.3;
    disk = record { image = new.here; bytes = cost ready; made = subst (λ i. applied carries.0 (cost ready) i new.here) same (alters o.outcome.last carries.0 carries.1); same = same_as refl; few = omega (arith, few, written) };
  };
  unwritten = λ none. absurd (writes none);
}

module _ (room : Room) (tidy : Bool) (X : Searching) (c : Command) (order : InOrder tidy X) where
  -- a refused command comes to nothing
  never : (o : Coming) (r : CommandRefusal) → outcome X c ≡ Ok o → outcome X c ≡ Err (Some r) → ⊥
  never o r done refused_is = cc

  stop_refused : {P : Type 0} (plans : Coming → P → Type 0) (effects : Effects) (told : Type 0) (here new : Medium) (same : told → SameMedium here new) (refusal : CommandRefusal) (t : List ℕ) (x : Answer Coming) → outcome X c ≡ x → is_save c ≡ false
      → PlansComing {P = P} room plans x (Err (stops.Refused refusal)) → t ≡ refused refusal → CommandAnswers effects room X here told c t X new
  stop_refused plans effects told here new same refusal t (Ok o) e other is said = inl (inr ((o, e, (refusal, is, said), refl), same))
  stop_refused plans effects told here new same refusal t (Err (Some r)) e other is said =
      inl (inl ((replied (last.Refused r), ap (stepped X) e, said ∙ ap refused is), (λ o done. absurd (never o r done e)), λ tells. moves_refused effects X c r here new other e (same tells)))
  stop_refused plans effects told here new same refusal t (Err None) e other is said = absurd (not_formless tidy X c order e)

  stop_changed : {P : Type 0} (plans : Coming → P → Type 0) (ib stored computed : ℕ) (x : Answer Coming) → outcome X c ≡ x → PlansComing {P = P} room plans x (Err (stops.Changed ib stored computed)) → ⊥
  stop_changed plans ib stored computed (Ok o) e is = is
  stop_changed plans ib stored computed (Err (Some r)) e is = is
  stop_changed plans ib stored computed (Err None) e is = not_formless tidy X c order e

  -- a plan that stopped
  pub stop_carries : {P : Type 0} (plans : Coming → P → Type 0) (effects : Effects) (has : Searching → Type 0) (stands : Image → Searching → Type 0) (v w : World) (same : w.tells → SameMedium (medium v) (medium w)) (other : is_save c ≡ false) (stop : Stop) (result : Result Spoken StoreStop)
      → ComesTo stop result → PlansComing {P = P} room plans (outcome X c) (Err stop) → has X → Leaves stands v w X X → CarriesOut has stands (λ told. CommandAnswers effects room X (medium v) told c) v w X result
  stop_carries plans effects has stands v w same other stop (Ok spoken) (inl is) answers h leaves =
      (X, stop_refused plans effects w.tells (medium v) (medium w) same is.0 (spoken_text spoken) (outcome X c) refl other (subst (λ s. PlansComing room plans (outcome X c) (Err s)) is.1 answers) is.2, h, leaves)
  stop_carries plans effects has stands v w same other stop (Ok spoken) (inr said) answers h leaves = (X, inr (said ∙ memory_text, (refl, same)), h, leaves)
  stop_carries plans effects has stands v w same other stop (Err Disk) is answers h leaves = (X, text (replied last.NoMemory), inr (refl, (refl, λ none. absurd none)), leaves)
  stop_carries plans effects has stands v w same other stop (Err (Changed ib stored computed)) is answers h leaves =
      stop_changed plans ib stored computed (outcome X c) refl (subst (λ s. PlansComing room plans (outcome X c) (Err s)) is answers)

  -- a plan that was made
  made : {P : Type 0} (plans : Coming → P → Type 0) (p : P) (x : Answer Coming) → outcome X c ≡ x → PlansComing room plans x (Ok p) → (o : Coming) × (outcome X c ≡ Ok o) × plans o p × HasRoom room o.outcome.changed
  made plans p (Ok o) e is = (o, e, is.0, is.1)
  made plans p (Err (Some r)) e is = absurd is
  made plans p (Err None) e is = absurd (not_formless tidy X c order e)

  pub plan_made : {P : Type 0} (plans : Coming → P → Type 0) (p : P) → PlansComing room plans (outcome X c) (Ok p) → (o : Coming) × (outcome X c ≡ Ok o) × plans o p × HasRoom room o.outcome.changed
  plan_made plans p is = made plans p (outcome X c) refl is

  same_outcome : (o p : Coming) → outcome X c ≡ Ok o → outcome X c ≡ Ok p → o ≡ p
  same_outcome o p e f = cc

  pub made_answers : (effects : Effects) (told : Type 0) (here new : Medium) (o : Coming) (reply : Reply) (t : List ℕ) → outcome X c ≡ Ok o → is_save c ≡ false → HasRoom room o.outcome.changed → reply ≡ o.outcome.reply → t ≡ text reply
      → (told → Commits effects.applied o here new) → CommandAnswers effects room X here told c t (after X o) new
  made_answers effects told here new o reply t e other has is said commits =
      inl (inl ((o.outcome.reply, ap (stepped X) e, said ∙ ap text is), (λ p f. subst (λ (x : Coming). HasRoom room x.outcome.changed) (same_outcome o p e f) has), λ tells. moves_made effects X c o here new other e (commits tells)))

  pub made_order : (o : Coming) → outcome X c ≡ Ok o → InOrder tidy (after X o)
  made_order o e = subst (λ x. Fine x (λ p. InOrder tidy (after X p))) e (stays_in_order tidy X c order)

-- the trees for which a disk stands are in order where both are
ordered : (tidy : Bool) (stands : Image → Nodes → List ℕ → Type 0) (X Y : Searching) (c : Image) → InOrder tidy X → InOrder tidy Y → StandsFor (stands c) X.tree ⊎ StandsFor (stands c) Y.tree → StandsOrdered tidy stands c X ⊎ StandsOrdered tidy stands c Y
ordered tidy stands X Y c x y (inl is) = inl (is, x)
ordered tidy stands X Y c x y (inr is) = inr (is, y)

-- a plan and then its commit
pub plan_commits : (tidy : Bool) (stands : Image → Nodes → List ℕ → Type 0) {old mid new : World} (X Y : Searching) → Settled old → Untouched old mid → StandsOrdered tidy stands old.here X → InOrder tidy Y → (new.tells → mid.tells)
    → LeavesOnly mid new (λ c. (c.said ≡ mid.here.said) × (StandsFor (stands c) X.tree ⊎ StandsFor (stands c) Y.tree)) → Leaves (StandsOrdered tidy stands) old new X Y
plan_commits tidy stands X Y settled same is order tells commit =
    continues (quiet_leaves (StandsOrdered tidy stands) X Y settled same is) commit (λ c told k. (k.0 ∙ ap (λ (i : Image). i.said) (same.stays.here (tells told)), ordered tidy stands X Y c is.1 order k.1))

-- what leaves the tree leaves it in order
pub save_leaves : (tidy : Bool) (stands : Image → Nodes → List ℕ → Type 0) {old new : World} (X : Searching) → InOrder tidy X → LeavesOnly old new (λ c. (c.said ≡ old.here.said) × StandsFor (stands c) X.tree) → Leaves (StandsOrdered tidy stands) old new X X
save_leaves tidy stands {old} {new} X order leaves =
    weaker (λ c. (c.said ≡ old.here.said) × (StandsOrdered tidy stands c X ⊎ StandsOrdered tidy stands c X)) leaves (λ c told is. (is.0, inl (is.1, order)))

pub rose_later : (a b c : ℕ) → a ≤ b → Rose b c → Rose a c
rose_later a b c le rose = omega (arith, le, rose)

-- a command that writes nothing needs no room
quiet_suffices : (room : Room) (X : Searching) (o : Coming) → outcome X Save ≡ Ok o → o.outcome.changed.objects ≡ map.empty → Suffices room X Save
quiet_suffices room X o e none p f writes =
    let same : o ≡ p = cc in
    absurd (writes (sym (ap (λ (x : Coming). x.outcome.changed.objects) same) ∙ none))

-- `save` changes no tree
pub saves : (effects : Effects) (told : Type 0) (here new : Medium) (room : Room) (X : Searching) (reply : Reply) (t : List ℕ) → reply ≡ replied last.Done → t ≡ text reply → (told → Becomes effects.saved here new) → CommandAnswers effects room X here told Save t X new
saves effects told here new room X reply t is said made =
    let e = saved_outcome X in
    inl (inl ((replied last.Done, ap (stepped X) e ∙ ap (λ Y. Some (Y, replied last.Done)) (saved_after X), said ∙ ap text is), quiet_suffices room X _ e refl, made))

-- One command, planned and committed.
use Rattle.std.proofs.Common.{◌≡◌, ◌⊎◌, inl, inr, ◌∙◌, ℕ, ◌≤◌, arith, Bool, List, [], ◌∷◌, Option, None, Some, Result, Ok, Err, refl, sym, subst, ap}
use Rattle.pst_outside.specs.World.{Image, World}
use Rattle.pst_outside.specs.Calls.{LeavesOnly, Rose, Settled, Untouched}
use Rattle.pst_outside.proofs.Moments.{quiet, weaker}
use Rattle.command_text.specs.declared.command.Command.{Command}
use Rattle.line_server.specs.Worlds.{Quiet}
use Rattle.line_server.proofs.Hearing.{falls_along}
use Rattle.node_port.specs.Nodes.{Nodes}
use Rattle.node_port.specs.Pins.{Pins}
use Rattle.node_port.specs.Stops.{Room}
use Rattle.mail_reading.specs.mail_draft.Answers.{IsCaused}
use Rattle.mail_reading.specs.mail_draft.declared.stop.Stop.{Stop}
use Rattle.mail_reading.specs.mail_draft.declared.stop.Stop.TheVariants as stops
use Rattle.mail_tree.specs.Changing.{Answer}
use Rattle.mail_tree.specs.declared.known.Known.{Known}
use Rattle.mail_tree.specs.Whole.{Fine}
use Rattle.mail_searches.specs.Criteria.{Coming}
use Rattle.mail_searches.specs.Searching.{Searching}
use Rattle.mail_searches.specs.Step.{after, outcome}
use Rattle.mail_searches.specs.declared.known.KnownSearches.{KnownSearches}
use Rattle.search_lists.specs.Order.{InOrder}
use Rattle.store_session.proofs.search_laws.Joining.{stays_in_order}
use Rattle.store_session.specs.search_store.Planning.{PlansComing}
use Rattle.store_session.specs.Carrying.{Has, Leaves, StandsOrdered}
use Rattle.store_session.proofs.Carry.{stands_here}
use Rattle.store_session.specs.Disks.{Effects, SameMedium, medium}
use Rattle.store_filling.specs.Doing.{CommandEnds, TurnsSo}
use Rattle.store_filling.specs.Filling.{FillTurn, IsFilled}
use Rattle.store_filling.proofs.Turns.{filled_none, filled_one}

-- an answer of a command on a tree in order is one
pub not_formless : (tidy : Bool) (X : Searching) (c : Command) → InOrder tidy X → outcome X c ≡ Err None → ⊥
not_formless tidy X c order e = subst (λ x. Fine x (λ o. InOrder tidy (after X o))) e (stays_in_order tidy X c order)

module _ {R : Type 0} (effects : Effects) (has : Searching → Type 0) (is : R → FillTurn → Type 0) (tidy : Bool) (X : Searching) (c : Command) (order : InOrder tidy X) (old new : World) (room : Room) (measured : effects.measures old.here room) where
  -- a plan that stopped
  stopped : {P : Type 0} (plans : Coming → P → Type 0) (x : Answer Coming) → outcome X c ≡ x → (stop : Stop) → PlansComing {P = P} room plans x (Err stop) → has X → (new.tells → SameMedium (medium old) (medium new)) → TurnsSo effects has is c X old new (Err stop) []
  stopped plans (Ok o) e (stops.Refused r) p h same = ((refl, h, same), inr (room, measured, (o, e, p)))
  stopped plans (Err (Some q)) e (stops.Refused r) p h same = ((refl, h, same), inl (e ∙ ap (λ y. Err (Some y)) (sym p)))
  stopped plans (Err None) e (stops.Refused r) p h same = absurd (not_formless tidy X c order e)
  stopped plans x e stops.Fault p h same = inl refl
  stopped plans (Ok o) e (stops.Changed ib stored computed) p h same = p
  stopped plans (Err (Some q)) e (stops.Changed ib stored computed) p h same = p
  stopped plans (Err None) e (stops.Changed ib stored computed) p h same = not_formless tidy X c order e
  stopped plans x e stops.Memory p h same = (refl, h, same)

  pub plan_stopped : {P : Type 0} (stands : Image → Searching → Type 0) (plans : Coming → P → Type 0) (stop : Stop) → PlansComing {P = P} room plans (outcome X c) (Err stop) → has X → (new.tells → SameMedium (medium old) (medium new))
      → LeavesOnly old new (IsFilled stands old.here.said X []) → CommandEnds effects stands has is c X old new (Err stop)
  plan_stopped stands plans stop p h same images = record { turns = []; so = stopped plans (outcome X c) refl stop p h same; images = images }

-- a call that only looks leaves no other image
pub looks_leave : (stands : Image → Searching → Type 0) {v w : World} (X : Searching) → Settled v → Untouched v w → stands v.here X → LeavesOnly v w (IsFilled stands v.here.said X [])
looks_leave stands {v} {w} X settled same is = quiet (IsFilled stands v.here.said X []) settled same (λ told. filled_none stands v.here.said X [] v.here refl is)

-- what leaves the tree before or after a turn leaves it so
pub turn_leaves : (stands : Image → Searching → Type 0) {old new : World} (X : Searching) (turn : FillTurn) → Leaves stands old new X turn.tree → LeavesOnly old new (IsFilled stands old.here.said X (turn ∷ []))
turn_leaves stands {old} {new} X turn leaves = weaker (IsFilled stands old.here.said X (turn ∷ [])) leaves (λ c told is. here c is.0 is.1)
  where
    here : (c : Image) → c.said ≡ old.here.said → stands c X ⊎ stands c turn.tree → IsFilled stands old.here.said X (turn ∷ []) c
    here c said (inl is) = filled_none stands old.here.said X (turn ∷ []) c said is
    here c said (inr is) = filled_one stands old.here.said X turn c said is

-- the same over the pins and the first header that a keeper had
pub ends_over : {R : Type 0} (effects : Pins → Effects) (stands : List ℕ → Image → Searching → Type 0) (has : Searching → Type 0) (is : R → FillTurn → Type 0) (c : Command) (X : Searching) (old new : World) (result : Result R Stop) {p q : Pins} {f g : List ℕ} → p ≡ q → f ≡ g
    → CommandEnds (effects p) (stands f) has is c X old new result → CommandEnds (effects q) (stands g) has is c X old new result
ends_over effects stands has is c X old new result {p} {q} {f} {g} e d ends =
    subst (λ (x : Pins). CommandEnds (effects x) (stands g) has is c X old new result) e (subst (λ (x : List ℕ). CommandEnds (effects p) (stands x) has is c X old new result) d ends)

-- ---- calls, one after another

pub quiet_along : {a b c : World} → Quiet a b → Quiet b c → Quiet a c
quiet_along p q = record { counts = falls_along p.counts q.counts; told = λ t. p.told (q.told t); input = λ t. q.input t ∙ p.input (q.told t) }

-- a call that only looks is quiet
pub quiet_looks : {a b : World} → Untouched a b → Quiet a b
quiet_looks same = record { counts = same.counts; told = same.stays.told; input = same.stays.input }

pub caused_later : (disk : Bool) (a b n : ℕ) (stop : Stop) → a ≤ b → IsCaused disk b n stop → IsCaused disk a n stop
caused_later disk a b n (stops.Refused refusal) le c = tt
caused_later disk a b n stops.Fault le c = (rose c.0, c.1)
  where
    rose : Rose b n → Rose a n
    rose r = omega (arith, le, r)
caused_later disk a b n (stops.Changed ib stored computed) le c = tt
caused_later disk a b n stops.Memory le c = tt

-- what a store has is seen of its disk
pub seen_so : {holds : Nodes → Type 0} {last : List ℕ} {known : Known} {of_searches : KnownSearches} {rests : Image → Type 0} {v : World} (stands : Image → Nodes → List ℕ → Type 0) (tidy : Bool)
    → ((N : Nodes) → holds N → stands v.here N last) → (Y : Searching) → Has holds last known of_searches rests v tidy Y → StandsOrdered tidy stands v.here Y × Settled v × (v.tells → rests v.here)
seen_so stands tidy held Y h = (stands_here stands tidy Y held h, h.settled, h.at_rest)

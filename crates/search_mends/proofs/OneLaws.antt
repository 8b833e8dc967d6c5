-- One search, mended over a keeper.
use Rattle.std.proofs.Common.{◌≡◌, ◌⊎◌, inl, inr, ◌∙◌, ℕ, Bool, List, Ok, ap, arith, refl, subst, sym}
use Rattle.pst_outside.specs.World.{Image, World}
use Rattle.pst_outside.specs.Calls.{LeavesOnly, NeverFall, Settled, Untouched}
use Rattle.pst_outside.proofs.Moments.{continues, quiet, stays_settled}
use Rattle.node_port.specs.Nodes.{Nodes}
use Rattle.node_port.specs.Stops.{Room}
use Rattle.store_session.specs.mail_draft.Answers.{Looks}
use Rattle.store_session.specs.mail_store.Planning.{SameKnown, StandsFor}
use Rattle.store_session.proofs.mail_store_laws.StoreLaws.{shown_stands, stores_still}
use Rattle.mail_searches.specs.Searching.{Searching}
use Rattle.mail_searches.specs.Step.{after}
use Rattle.store_session.specs.search_folders.Comings.{KnowsSearches}
use Rattle.search_mending.specs.Mending.{Mending, mended_search}
use Rattle.search_mends.specs.Mends.{HasMendable, IsBeside, LeavesOne}
use Rattle.store_session.specs.search_store.declared.store.SearchStore.{SearchStore}

-- no count of faults falls from one call to the next
pub falls_along : {a b c : World} → NeverFall a b → NeverFall b c → NeverFall a c
falls_along first then = record {
  in_faults = omega (arith, first.in_faults, then.in_faults);
  out_faults = omega (arith, first.out_faults, then.out_faults);
  disk_faults = omega (arith, first.disk_faults, then.disk_faults);
}

-- a call that only looks leaves what a store has
pub stays_has : {K : Type 0} (holds : K → World → Nodes → Type 0) (last : K → List ℕ) (rests : Image → Type 0) (old new : SearchStore K) {room room' : Room} {v w : World} (tidy : Bool) (X : Searching)
    → Looks (holds old.store.keeper v) (holds new.store.keeper w) (last old.store.keeper) (last new.store.keeper) room room' v w → SameKnown old.store.known new.store.known × (new.searches ≡ old.searches)
    → HasMendable holds last rests old v tidy X → HasMendable holds last rests new w tidy X
stays_has holds last rests old new tidy X looks same h = record {
  stores = record {
    tree = stores_still old.store.known new.store.known X.tree looks same.0 h.stores.tree;
    searches = subst (KnowsSearches X) (sym same.1) h.stores.searches;
  };
  order = h.order;
  settled = stays_settled h.settled looks.world;
  at_rest = λ told. subst rests (sym (looks.world.stays.here told)) (h.at_rest (looks.world.stays.told told));
}

-- the disk stands for the tree of a store
pub stands_here : {K : Type 0} (holds : K → World → Nodes → Type 0) (last : K → List ℕ) (rests : Image → Type 0) (store : SearchStore K) (v : World) (stands : Image → Nodes → List ℕ → Type 0) (tidy : Bool) (X : Searching)
    → ((N : Nodes) → holds store.store.keeper v N → stands v.here N (last store.store.keeper)) → HasMendable holds last rests store v tidy X → StandsFor (stands v.here) X.tree
stands_here holds last rests store v stands tidy X held h = let s = h.stores.tree.shown in shown_stands (stands v.here) (last store.store.keeper) X.tree s (held s.nodes s.held)

-- a plan leaves no other image
pub plan_leaves : (stands : Image → Nodes → List ℕ → Type 0) {v w : World} (X : Searching) (f : ℕ) → Settled v → Untouched v w → StandsFor (stands v.here) X.tree → LeavesOne stands v w X f
plan_leaves stands {v} {w} X f settled same is = quiet (λ c. (c.said ≡ v.here.said) × IsBeside (λ Y. StandsFor (stands c) Y.tree) X f) settled same (λ told. (refl, inl is))

-- and then its commit that of the tree before or after
pub commit_leaves : (stands : Image → Nodes → List ℕ → Type 0) {old mid new : World} (X : Searching) (f : ℕ) (m : Mending) → mended_search X f ≡ Ok m → Settled old → Untouched old mid → StandsFor (stands old.here) X.tree
    → (new.tells → mid.tells) → LeavesOnly mid new (λ c. (c.said ≡ mid.here.said) × (StandsFor (stands c) X.tree ⊎ StandsFor (stands c) (after X m.coming).tree)) → LeavesOne stands old new X f
commit_leaves stands {old} {mid} {new} X f m e settled same is tells commit =
    continues (plan_leaves stands X f settled same is) commit (λ c told k. (k.0 ∙ ap (λ (i : Image). i.said) (same.stays.here (tells told)), beside c k.1))
  where
    beside : (c : Image) → StandsFor (stands c) X.tree ⊎ StandsFor (stands c) (after X m.coming).tree → IsBeside (λ Y. StandsFor (stands c) Y.tree) X f
    beside c (inl is) = inl is
    beside c (inr is) = inr (m, e, is)

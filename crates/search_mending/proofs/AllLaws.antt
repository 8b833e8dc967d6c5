-- Mending several searches leaves the tree in order, and mending all leaves each running search fresh.
use Rattle.std.proofs.Common.{◌≡◌, ◌∙◌, ℕ, suc, ◌<◌, ◌≤◌, ◌==◌, ◌&&◌, ◌||◌, Bool, true, false, not, List, [], ◌∷◌, ◌++◌, filter, map, take, zero, Option, None, Some, IsSome, is_some, Ok, Err, ap, arith, refl, subst, sym, inl, inr}
use Rattle.std.specs.Prelude.{nat_le}
use Rattle.std.proofs.lemmas.Bool.{and_from, and_parts, cases_Bool, eq-eqb, eqb-true, false≢true, leb-true, le-leb, ne_eqb}
use Rattle.mapi_values.specs.Keyed.{keys_ascend}
use Rattle.search_obj.specs.Scope.{is_among}
use Rattle.mail_tree.specs.declared.places.FolderPlace.{FolderPlace}
use Rattle.mail_tree.specs.Changing.{Answer, ◌>>=◌, nothing}
use Rattle.mail_tree.specs.Places.{find_place, place_id}
use Rattle.mail_tree.specs.Whole.{Fine}
use Rattle.mail_tree.proofs.FineLaws.{fine_then, fine_weaker}
use Rattle.restr_eval.specs.Eval.{holds_of}
use Rattle.mail_searches.specs.Searches.{IsFresh, Search, find_search, runs, search_id}
use Rattle.mail_searches.specs.Searching.{Each, Searching, is_own}
use Rattle.mail_searches.specs.Step.{after}
use Rattle.search_lists.proofs.ListLaws.{one-list}
use Rattle.search_lists.specs.Laws.{ShowsList}
use Rattle.search_lists.specs.Order.{InOrder}
use Rattle.search_lists.proofs.SettleLaws.{each-two}
use Rattle.search_laws.proofs.SettingLists.{each-found}
use Rattle.search_mending.proofs.MendLaws.{mends_in_order}
use Rattle.search_mending.proofs.StayLaws.{fresh_right, right_fresh}
use Rattle.search_mending.specs.Laws.{IsMendable, IsMended, Mends, MendsAll, MendsThese, ShowsMendable, TellsStale}
use Rattle.search_mending.specs.Mended.{mended_all}
use Rattle.search_mending.specs.Mending.{Mending, is_stale, lists_right, lists_wrong, mended_search}

abbrev pub ascend : ℕ → List ℕ → Bool
ascend low ids = keys_ascend (λ i. i) low ids

-- ---- ids that ascend

-- none is below them all
pub none_below : (low k : ℕ) (ids : List ℕ) → ascend low ids ≡ true → k < low → is_among ids k ≡ false
none_below low k [] a less = refl
none_below low k (i ∷ is) a less =
    let p = and_parts (nat_le low i) (ascend (suc i) is) a in let least : low ≤ i = leb-true low i p.0 in
    rw (ne_eqb i k (λ e. omega arith), none_below (suc i) k is p.1 (omega arith)) refl

first-in : (i : ℕ) (is : List ℕ) → is_among (i ∷ is) i ≡ true
first-in i is = rw (eq-eqb i i refl) refl

later-in : (i k : ℕ) (is : List ℕ) → is_among is k ≡ true → is_among (i ∷ is) k ≡ true
later-in i k is e = by-first (i == k) (is_among is k) e
  where
    by-first : (b c : Bool) → c ≡ true → (b || c) ≡ true
    by-first true c e = refl
    by-first false c e = e

weaker-low : (low high : ℕ) (ids : List ℕ) → low ≤ high → ascend high ids ≡ true → ascend low ids ≡ true
weaker-low low high [] le a = refl
weaker-low low high (i ∷ is) le a =
    let p = and_parts (nat_le high i) (ascend (suc i) is) a in let least : high ≤ i = leb-true high i p.0 in
    and_from (nat_le low i) (ascend (suc i) is) (le-leb low i (omega arith)) p.1

-- a front of them
pub front_ascends : (low n : ℕ) (ids : List ℕ) → ascend low ids ≡ true → ascend low (take n ids) ≡ true
front_ascends low zero ids a = refl
front_ascends low (suc n) [] a = refl
front_ascends low (suc n) (i ∷ is) a =
    let p = and_parts (nat_le low i) (ascend (suc i) is) a in and_from (nat_le low i) (ascend (suc i) (take n is)) p.0 (front_ascends (suc i) n is p.1)

pub front_among : (k n : ℕ) (ids : List ℕ) → is_among (take n ids) k ≡ true → is_among ids k ≡ true
front_among k zero ids e = cc
front_among k (suc n) [] e = cc
front_among k (suc n) (i ∷ is) e = elim (cases_Bool (i == k)) [ inl t ↦ rw t refl | inr f ↦ rw f (front_among k n is (rw f at e)) ]

-- those that pass a test
filter-ascends : (p : ℕ → Bool) (low : ℕ) (ids : List ℕ) → ascend low ids ≡ true → ascend low (filter p ids) ≡ true
filter-ascends p low [] a = refl
filter-ascends p low (i ∷ is) a =
    let q = and_parts (nat_le low i) (ascend (suc i) is) a in let least : low ≤ i = leb-true low i q.0 in
    elim (cases_Bool (p i)) [
      | inl t ↦ rw t (and_from (nat_le low i) (ascend (suc i) (filter p is)) q.0 (filter-ascends p (suc i) is q.1))
      | inr f ↦ rw f (weaker-low low (suc i) (filter p is) (omega arith) (filter-ascends p (suc i) is q.1))
    ]

filter-among : (p : ℕ → Bool) (k : ℕ) (ids : List ℕ) → is_among (filter p ids) k ≡ (is_among ids k && p k)
filter-among p k [] = refl
filter-among p k (i ∷ is) = elim (cases_Bool (i == k)) [
  | inl t ↦ let same : i ≡ k = eqb-true i k t in elim (cases_Bool (p i)) [
    | inl b ↦ rw (b, t) (sym b ∙ ap p same)
    | inr b ↦ rw (b, t) (filter-among p k is ∙ never (is_among is k) (p k) (sym (ap p same) ∙ b))
  ]
  | inr f ↦ elim (cases_Bool (p i)) [ inl b ↦ rw (b, f) (filter-among p k is) | inr b ↦ rw (b, f) (filter-among p k is) ]
]
  where
    never : (a b : Bool) → b ≡ false → (a && b) ≡ b
    never true b e = refl
    never false b e = sym e

-- ---- the own search folders are those among all folders that are own

places-ascend : (low : ℕ) (ps : List FolderPlace) → keys_ascend place_id low ps ≡ true → ascend low (map place_id ps) ≡ true
places-ascend low [] a = refl
places-ascend low (p ∷ ps) a = let q = and_parts (nat_le low (place_id p)) (keys_ascend place_id (suc (place_id p)) ps) a in and_from (nat_le low (place_id p)) (ascend (suc (place_id p)) (map place_id ps)) q.0 (places-ascend (suc (place_id p)) ps q.1)

place-among : (k : ℕ) (ps : List FolderPlace) → is_among (map place_id ps) k ≡ is_some (find_place k ps)
place-among k [] = refl
place-among k (p ∷ ps) = elim (cases_Bool (place_id p == k)) [ inl t ↦ rw t refl | inr f ↦ rw f (place-among k ps) ]

pub own_filtered : (tidy : Bool) (X : Searching) → IsMendable tidy X → filter (is_own X.own) (map place_id X.tree.places) ≡ X.own
own_filtered tidy X order = one-list 0 (filter (is_own X.own) (map place_id X.tree.places)) X.own
    (filter-ascends (is_own X.own) 0 (map place_id X.tree.places) (places-ascend 0 X.tree.places order.whole.objects.ascend)) order.searches.own_ascend
    (λ k. filter-among (is_own X.own) k (map place_id X.tree.places) ∙ ap (λ b. b && is_own X.own k) (place-among k X.tree.places) ∙ by-own k (is_own X.own k) refl)
  where
    some-true : {A : Type 0} (o : Option A) → IsSome o → is_some o ≡ true
    some-true None h = h
    some-true (Some x) h = refl

    by-own : (k : ℕ) (b : Bool) → is_own X.own k ≡ b → (is_some (find_place k X.tree.places) && b) ≡ b
    by-own k true e = ap (λ x. x && true) (some-true (find_place k X.tree.places) (order.searches.placed k e))
    by-own k false e = never (is_some (find_place k X.tree.places))
      where
        never : (a : Bool) → (a && false) ≡ false
        never true = refl
        never false = refl

-- ---- several searches

-- mended in their order, which ascends
pub these_in_order : (tidy : Bool) (low : ℕ) (X : Searching) (fs : List ℕ) → IsMendable tidy X → ascend low fs ≡ true → ((f : ℕ) → is_among fs f ≡ true → is_own X.own f ≡ true) → Fine (mended_all X fs) (MendsThese tidy X (is_among fs))
these_in_order tidy low X [] order a own = record {
  order = order;
  own = refl;
  searches = refl;
  here = λ f e. cc;
  others = λ g is none. record { stale = refl; first = refl };
}
these_in_order tidy low X (f ∷ fs) order a own =
    let p = and_parts (nat_le low f) (ascend (suc f) fs) a in
    let alone : is_among fs f ≡ false = none_below (suc f) f fs p.1 (omega arith) in
    fine_then (Mends tidy X f) (MendsThese tidy X (is_among (f ∷ fs))) (mended_search X f) (λ m. mended_all (after X m.coming) fs) (mends_in_order tidy X f order (own f (first-in f fs))) (λ m one.
    fine_weaker (MendsThese tidy (after X m.coming) (is_among fs)) (MendsThese tidy X (is_among (f ∷ fs))) (mended_all (after X m.coming) fs)
    (these_in_order tidy (suc f) (after X m.coming) fs one.order p.1 (λ g e. subst (λ os. is_own os g ≡ true) (sym one.own) (own g (later-in f g fs e))))
    (λ Z all. record {
      order = all.order;
      own = all.own ∙ one.own;
      searches = all.searches ∙ one.searches;
      here = λ g e. elim (cases_Bool (f == g)) [
        | inl t ↦
            let still = all.others f (subst (λ os. is_own os f ≡ true) (sym one.own) (own f (first-in f fs))) alone in
            subst (IsMended Z) (eqb-true f g t) (record { fresh = still.stale ∙ one.here.fresh; second = still.first ∙ one.here.second })
        | inr n ↦ all.here g (rw n at e)
      ];
      others = λ g is none. elim (cases_Bool (f == g)) [
        | inl t ↦ absurd (false≢true (sym (rw t at none)))
        | inr n ↦
            let other : g ≡ f → ⊥ = λ e. false≢true (sym n ∙ eq-eqb f g (sym e)) in
            let first = one.others g is other in
            let rest = all.others g (subst (λ os. is_own os g ≡ true) (sym one.own) is) (rw n at none) in
            record { stale = rest.stale ∙ first.stale; first = rest.first ∙ first.first }
      ];
    }))

-- a front of the own search folders
pub front_in_order : (tidy : Bool) (X : Searching) (n : ℕ) → IsMendable tidy X → Fine (mended_all X (take n X.own)) (MendsThese tidy X (is_among (take n X.own)))
front_in_order tidy X n order = these_in_order tidy 0 X (take n X.own) order (front_ascends 0 n X.own order.searches.own_ascend) (λ f e. front_among f n X.own e)

-- one more at the end
pub one_more : (X Y : Searching) (fs : List ℕ) (f : ℕ) → mended_all X fs ≡ Ok Y → mended_all X (fs ++ f ∷ []) ≡ (mended_search Y f >>= λ m. Ok (after Y m.coming))
one_more X Y [] f e = ap (λ Z. mended_search Z f >>= λ m. Ok (after Z m.coming)) (same X Y e)
  where
    same : (X Y : Searching) → mended_all X [] ≡ Ok Y → X ≡ Y
    same X Y e = cc
one_more X Y (g ∷ gs) f e = next (mended_search X g) (λ m rest. one_more (after X m.coming) Y gs f rest) e
  where
    next : (a : Answer Mending) → ((m : Mending) → mended_all (after X m.coming) gs ≡ Ok Y → mended_all (after X m.coming) (gs ++ f ∷ []) ≡ (mended_search Y f >>= λ m. Ok (after Y m.coming))) → (a >>= λ m. mended_all (after X m.coming) gs) ≡ Ok Y
        → (a >>= λ m. mended_all (after X m.coming) (gs ++ f ∷ [])) ≡ (mended_search Y f >>= λ m. Ok (after Y m.coming))
    next (Ok m) step e = step m e
    next (Err r) step e = cc

-- ---- stale and fresh

pub tells_stale : TellsStale
tells_stale X f s e =
    let is : is_stale X f ≡ lists_wrong X.tree s = ap (holds_of (lists_wrong X.tree)) e in
    record {
      runs_stale = λ stale. (and_parts (runs s) (not (lists_right X.tree s)) (sym is ∙ stale)).0;
      stale = λ stale fresh. false≢true (sym (ap not (fresh_right X.tree s fresh)) ∙ (and_parts (runs s) (not (lists_right X.tree s)) (sym is ∙ stale)).1);
      fresh = λ not_stale run. right_fresh X.tree s (right (lists_right X.tree s) (ap (λ b. b && not (lists_right X.tree s)) (sym run) ∙ sym is ∙ not_stale));
    }
  where
    right : (b : Bool) → (true && not b) ≡ false → b ≡ true
    right true e = refl
    right false e = cc

-- ---- all searches

each-so : {E : Type 0} (P Q : E → Type 0) (xs : List E) → Each P xs → ((x : E) → P x → Q x) → Each Q xs
each-so P Q [] each so = tt
each-so P Q (x ∷ xs) each so = (so x each.0, each-so P Q xs each.1 so)

-- where all were mended all is in order
pub all_order : (tidy : Bool) (X Y : Searching) → MendsThese tidy X (is_among X.own) Y → InOrder tidy Y
all_order tidy X Y all =
    let order = all.order in
    let mended : (s : Search) → find_search (search_id s) Y.searches ≡ Some s → IsMended Y (search_id s) = λ s found. all.here (search_id s) (subst (λ os. is_own os (search_id s) ≡ true) all.own (order.searches.among (search_id s) s found)) in
    record {
      whole = order.whole;
      found = order.found;
      mirrors = order.mirrors;
      counts = order.counts;
      attachments = order.attachments;
      lists = λ t. each-two (λ s. find_search (search_id s) Y.searches ≡ Some s) (ShowsMendable Y) (λ s. runs s ≡ true → ShowsList Y.tree nothing s.nid) Y.searches (each-found search_id 0 Y.searches order.searches.ascend) (order.lists t)
          (λ s found shows run. record { mirrors = shows.mirrors run; counts = shows.counts run (mended s found).fresh });
      searches = order.searches;
      fresh = each-so (λ s. find_search (search_id s) Y.searches ≡ Some s) (λ s. runs s ≡ true → IsFresh Y.tree s) Y.searches (each-found search_id 0 Y.searches order.searches.ascend)
          (λ s found run. (tells_stale Y (search_id s) s found).fresh (mended s found).fresh run);
      marked = order.marked;
    }

pub mends_all : MendsAll
mends_all tidy X order = fine_weaker (MendsThese tidy X (is_among X.own)) (InOrder tidy) (mended_all X X.own)
    (these_in_order tidy 0 X X.own order order.searches.own_ascend (λ f e. e)) (λ Y all. all_order tidy X Y all)
